use Rattle.std.proofs.Common.{◌≡◌, true, arith}
use Rattle.tensor_terms.specs.Movement.{fit_within}
use Rattle.tensor_terms.proofs.Legality.{are_legal-slice}
use Rattle.tensor_terms.proofs.dims.movement_dims.slice_dims.Goals as goal

pub returns : goal.returns
returns c =
    let fits : fit_within c.args.dims.now c.args.offsets.now c.args.extents.now ≡ true = grind arith in
    let legal = are_legal-slice c.args.dims.now c.args.offsets.now c.args.extents.now c.as_slice.ensures.legal (omega arith) (omega arith) fits in
    grind (arith, legal, fits)

use Rattle.std.proofs.Common.{◌<◌, ◌+◌, get_or, refl, arith}
use Rattle.tensor_terms.proofs.Pads.{are_legal-padded}
use Rattle.tensor_terms.proofs.dims.padding_dims.padded_dims.Goals as goal

pub returns-in_default : goal.returns-in_default
returns-in_default c =
    let past : c.args.bounds.elements < (get_or c.args.pairs.now c.loop-axis.axis (0, 0)).0 + get_or c.args.sizes.now c.loop-axis.axis 0
    + (get_or c.args.pairs.now c.loop-axis.axis (0, 0)).1 = omega (arith, c.in_default.ensures.none refl, c.requires.bounds.elements) in
    let illegal = are_legal-padded c.args.bounds c.args.pairs.now c.args.sizes.now c.loop-axis.axis c.requires.same (omega arith) past in
    rw illegal refl

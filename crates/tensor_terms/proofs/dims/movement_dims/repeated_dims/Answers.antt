use Rattle.std.proofs.Common.{◌<◌, ◌*◌, get_or, refl, arith}
use Rattle.tensor_terms.proofs.Legality.{are_legal-repeated}
use Rattle.tensor_terms.proofs.dims.movement_dims.repeated_dims.Goals as goal

pub returns-in_default : goal.returns-in_default
returns-in_default c =
    let past : c.args.bounds.elements < get_or c.args.sizes.now c.loop-axis.axis 0 * get_or c.args.counts.now c.loop-axis.axis 0 =
    grind (arith, c.requires.bounds.elements) in
    let illegal = are_legal-repeated c.args.bounds c.args.sizes.now c.args.counts.now c.loop-axis.axis c.requires.same (omega arith) past in
    rw illegal refl

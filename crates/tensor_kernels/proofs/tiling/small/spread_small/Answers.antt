use Rattle.std.proofs.Common.{to_z, of_z, ap, ◌∙◌}
use Rattle.std.specs.Int.{w32, w64}
use Rattle.std.proofs.lemmas.Int.{to_z-of_z}
use Rattle.tensor_values.specs.Values.{value_in}
use Rattle.tensor_dots.proofs.SimdLanes.{wide, lanes-bits, value_in-lanes, value_in-spread}
use Rattle.tensor_kernels.proofs.tiling.small.spread_small.Goals as goal

pub returns-clause-lanes : goal.returns-clause-lanes
returns-clause-lanes c = lanes-bits _ c.even_values.ensures.lanes

pub returns-clause-each : goal.returns-clause-each
returns-clause-each c r h =
    let x = c.even_values in
    let value = value_in c.args.b.now c.args.i in
    let small = c.requires.small c.args.i c.requires.inside in
    value_in-lanes x.result x.ensures.lanes r h ∙ x.ensures.each r h ∙ value_in-spread _ r h
    ∙ ap (λ v. to_z w32 (of_z w32 v)) (to_z-of_z w64 value (wide value small))
    ∙ to_z-of_z w32 value small

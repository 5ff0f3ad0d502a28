use Rattle.std.proofs.Common.{◌∙◌}
use Rattle.std.proofs.lemmas.List.{length-map}
use Rattle.tensor_values.specs.Values.{value_in}
use Rattle.tensor_dots.proofs.SimdLanes.{wrapped_fits}
use Rattle.tensor_dots.proofs.HalfLanes.{length-masked, at-masked, low-product}
use Rattle.tensor_dots.proofs.lanes.halves.add_low.Goals as goal

pub returns-clause-each : goal.returns-clause-each
returns-clause-each c r h =
    at-masked _ _ _ 4294967295 c.args.sums c.args.x c.args.y r c.requires.sums c.requires.x c.requires.y h
    ∙ low-product (value_in c.args.sums r) (value_in c.args.x r) (value_in c.args.y r) (c.requires.sums.1 r h)

pub returns-clause-lanes : goal.returns-clause-lanes
returns-clause-lanes c = (
  simp length-map (length-masked _ _ _ 4294967295 c.args.sums c.args.x c.args.y c.requires.sums c.requires.x c.requires.y),
  λ r h. wrapped_fits _ _ (returns-clause-each c r h),
)

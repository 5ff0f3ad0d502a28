use Rattle.std.proofs.Common.{◌∙◌}
use Rattle.std.proofs.lemmas.List.{length-map}
use Rattle.tensor_values.specs.Values.{value_in}
use Rattle.tensor_dots.proofs.SimdLanes.{wrapped_fits}
use Rattle.tensor_dots.proofs.HalfLanes.{length-bits, length-both}
use Rattle.tensor_kernels.proofs.PairLanes.{at-two, bits-difference}
use Rattle.tensor_kernels.proofs.tiling.pairs.differences_of.Goals as goal

pub returns-clause-each : goal.returns-clause-each
returns-clause-each c r h =
    at-two _ c.args.x c.args.y r c.requires.x c.requires.y h
    ∙ bits-difference (value_in c.args.x r) (value_in c.args.y r) (c.requires.x.1 r h) (c.requires.y.1 r h)

pub returns-clause-lanes : goal.returns-clause-lanes
returns-clause-lanes c = (
  simp length-map (length-both _ _ _ 4 (length-bits c.args.x c.requires.x) (length-bits c.args.y c.requires.y)),
  λ r h. wrapped_fits _ _ (returns-clause-each c r h),
)

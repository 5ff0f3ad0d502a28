use Rattle.std.proofs.Common.{◌*◌, FitsSigned, refl, sym, subst, arith}
use Rattle.std.specs.Int.{w64}
use Rattle.tensor_dots.proofs.SimdLanes.{wide}
use Rattle.tensor_kernels.proofs.WordPairs.{even-value}
use Rattle.tensor_kernels.proofs.tiling.small.even_values.Goals as goal

pub returns-clause-each : goal.returns-clause-each
returns-clause-each c r h = even-value c.args.values r c.requires.len c.requires.small h

pub returns-clause-lanes : goal.returns-clause-lanes
returns-clause-lanes c = (
  refl,
  λ r h. subst (FitsSigned w64) (sym (returns-clause-each c r h))
      (wide _ (c.requires.small (2 * r) (omega (arith, c.requires.len)))),
)

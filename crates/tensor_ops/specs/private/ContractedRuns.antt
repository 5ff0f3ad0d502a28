-- Runs of a contraction's values.
use Rattle.std.specs.Prelude.{ℕ, ℤ}
use Rattle.tensor_kernels.specs.Contracting.{contraction_value}
use Rattle.tensor_loops.specs.Folds.{run_folded}
use Rattle.tensor_ops.specs.private.Runs.{value_in_run}
use Rattle.tensor_values.specs.declared.reducer.Reducer.{Reducer}
use Rattle.tensor_ops.specs.declared.part_evaluator.contracted_runs.ContractedRuns.{ContractedRuns}

-- value q of run x
abbrev pub contracted_value : ContractedRuns → ℕ → ℕ → ℤ
contracted_value r x q = value_in_run (contraction_value r.contraction) r.length x q

-- the values of run x, combined from the unit
abbrev pub contracted_combined : Reducer → ContractedRuns → ℕ → ℤ
contracted_combined reducer r x = run_folded reducer (contraction_value r.contraction) r.length x

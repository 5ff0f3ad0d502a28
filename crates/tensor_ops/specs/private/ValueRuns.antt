-- Runs of a lowered expression's values.
use Rattle.std.specs.Prelude.{ℕ, ℤ}
use Rattle.tensor_loops.specs.Folds.{run_folded}
use Rattle.tensor_ops.specs.private.Meaning.{meaning}
use Rattle.tensor_ops.specs.private.Runs.{value_in_run}
use Rattle.tensor_values.specs.declared.reducer.Reducer.{Reducer}
use Rattle.tensor_ops.specs.declared.part_evaluator.value_runs.ValueRuns.{ValueRuns}

-- value q of run x
abbrev pub run_value : ValueRuns → ℕ → ℕ → ℤ
run_value r x q = value_in_run (meaning r.lowered) r.length x q

-- the values of run x, combined from the unit
abbrev pub run_combined : Reducer → ValueRuns → ℕ → ℤ
run_combined reducer r x = run_folded reducer (meaning r.lowered) r.length x

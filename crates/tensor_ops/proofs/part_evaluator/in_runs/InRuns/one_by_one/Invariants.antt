-- What the places before gave.
use Rattle.std.proofs.Common.{◌≡◌, ◌-◌, map}
use Rattle.std.specs.List.{range_with_len}
use Rattle.tensor_ops.specs.private.InRuns.{run_whole}
use Rattle.tensor_ops.proofs.part_evaluator.in_runs.InRuns.one_by_one.Given as goal

abbrev pub invariant-loop-place : goal.invariant-loop-place
invariant-loop-place g l =
    l.values.items ≡ map (run_whole l.self) (range_with_len l.first (l.place - l.first))

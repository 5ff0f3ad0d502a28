-- The values so far.
use Rattle.std.proofs.Common.{◌-◌, ◌≤◌}
use Rattle.tensor_values.specs.Interleaving.{firsts_before, seconds_before, AreInterleaved, run_between}
use Rattle.tensor_loops.proofs.gather.interleaved.interleaved_run.Given as goal

abbrev pub invariant-loop-place : goal.invariant-loop-place
invariant-loop-place l = record {
  above : l.from ≤ l.place;
  below : l.place ≤ l.to;
  items : AreInterleaved l.turns.first l.turns.second (run_between l.from l.place)
      (run_between (firsts_before l.turns.first l.turns.second l.from) (firsts_before l.turns.first l.turns.second l.to))
      (run_between (seconds_before l.turns.first l.turns.second l.from) (seconds_before l.turns.first l.turns.second l.to))
      l.firsts l.seconds l.values.items;
}

abbrev pub decreases-loop-place : goal.decreases-loop-place
decreases-loop-place l = l.to - l.place

-- The words that are left ask of the command so far for what all words ask for.
use Rattle.std.proofs.Common.{◌≡◌, ◌≤◌, ◌-◌, length, map, drop, string_bytes}
use Rattle.tensor_runner.specs.Options.{command_after, command_in}
use Rattle.tensor_runner.proofs.options.command_of.Given as goal

abbrev pub invariant-loop-at : goal.invariant-loop-at
invariant-loop-at l = record {
  within : l.at ≤ length l.words;
  follows : command_in (map string_bytes l.words) ≡ command_after l.command (map string_bytes (drop l.at l.words));
}

abbrev pub decreases-loop-at : goal.decreases-loop-at
decreases-loop-at l = length l.words - l.at

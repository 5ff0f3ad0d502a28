-- The steps passed don't read the tensor.
use Rattle.std.proofs.Common.{◌≡◌, drop}
use Rattle.tensor_reduce.specs.private.Readers.{are_reading}
use Rattle.tensor_reduce.proofs.schedule.readers.are_reading.Given as goal

abbrev pub invariant-loop-step : goal.invariant-loop-step
invariant-loop-step l =
    are_reading l.number (drop l.step-index l.steps) ≡ are_reading l.number l.initial.steps

-- The numbers of the faults, and the names of the faults of limits.
pub use Rattle.message_server.specs.Ending.{stream_fault_number}
use Rattle.std.specs.Prelude.{ℕ, List, codes}
use Rattle.tensor_runner.specs.declared.limits.LimitFault.{LimitFault}
use Rattle.tensor_runner.specs.declared.limits.LimitFault.TheVariants.{TooManyWorkers}
use Rattle.tensor_runner.specs.declared.limits.LimitFault.TheVariants.{TooManySteps}
use Rattle.tensor_runner.specs.declared.limits.LimitFault.TheVariants.{TooManySeconds}
use Rattle.tensor_runner.specs.declared.status.RunFault.{RunFault}
use Rattle.tensor_runner.specs.declared.status.RunFault.TheVariants as run

-- the number of a fault of `eval`; `NoMemory` as a fault of a text has it too
abbrev pub run_fault_number : RunFault → ℕ
run_fault_number run.NoMemory = 15

-- the number of a limit's fault; the numbers up to 17 are faults of requests and streams, and 18 is
-- retired and must not be used again
abbrev pub limit_number : LimitFault → ℕ
limit_number TooManyWorkers = 19
limit_number TooManySteps = 20
limit_number TooManySeconds = 21

-- the name of a limit's fault
abbrev pub limit_name : LimitFault → List ℕ
limit_name TooManyWorkers = codes "TooManyWorkers"
limit_name TooManySteps = codes "TooManySteps"
limit_name TooManySeconds = codes "TooManySeconds"

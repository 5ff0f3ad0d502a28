use denote.Param.Send.{sendable}
use Rattle.tensor_ops.proofs.Shared.{parts-sync}
use Rattle.tensor_reduce.proofs.running.sharded.found_of.Goals as goal

-- Threads may share the kernel.
pub items-requires-sync-K : goal.items-requires-sync-K
items-requires-sync-K g c κs within = search (parts-sync, sendable) depth 30

use Rattle.std.proofs.Common.{rules}
use Rattle.pool_barrier.proofs.Keeps.{notify_keeps}
use Rattle.pool_barrier.proofs.barrier.Barrier.notify.Goals as goal

pub fetch_sub-found-requires : goal.fetch_sub-found-requires
fetch_sub-found-requires g c =
    let gives = c.args.share.now.gives in
    let none_held = c.args.share.now.none_held in
    (search rules, search rules, notify_keeps _ _ _ _ _ _ _ gives none_held c.requires.left)

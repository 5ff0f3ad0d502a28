use Rattle.std.proofs.Common.{rules}
use Rattle.pool_barrier.proofs.Keeps.{split_keeps}
use Rattle.pool_barrier.proofs.barrier.Barrier.split_by.Goals as goal

pub split_seat-seat-requires : goal.split_seat-seat-requires
split_seat-seat-requires g c =
    let gives = c.args.share.now.gives in (
      search rules,
      search rules,
      split_keeps _ _ c.args.k _ _ _ _ _ c.requires.amount gives c.requires.room,
    )

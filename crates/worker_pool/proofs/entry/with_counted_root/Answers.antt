use Rattle.std.proofs.Common.{◌∙◌, ap, sym}
use Rattle.worker_pool.proofs.entry.with_counted_root.Goals as goal

pub with_root_over-requires-clause-then : goal.with_root_over-requires-clause-then
with_root_over-requires-clause-then g c κs within = λ queue scheduled at.
    c.requires.then scheduled at.has
    (ap (λ home. home.1) at.ready.row ∙ (queue.one_count ∙ sym at.ready.waker.ours))

use Rattle.std.proofs.Common.{rules, refl, ◌∙◌}
use Rattle.worker_pool.proofs.standing.standing_pool.StandingPool.schedule.Goals as goal

pub returns : goal.returns
returns g c =
    let old = c.requires in
    let kept = c.schedule.ensures.kept in
    record {
      standing = record {
        of_pool = old.of_pool;
        opener = search rules;
        open_yet = kept.stored ∙ old.open_yet;
        not_cancelled = kept.cancelled ∙ old.not_cancelled;
        ours = old.ours;
        home = old.home;
        started = kept.started ∙ old.started;
        every_worker = old.every_worker;
        room = old.room;
        none_gathered = old.none_gathered;
        gathered_room = old.gathered_room;
      };
      same = record { owned = refl; started = kept.started };
      more = c.schedule.ensures.more;
    }

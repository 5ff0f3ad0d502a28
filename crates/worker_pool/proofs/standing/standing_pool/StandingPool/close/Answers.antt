use Rattle.std.proofs.Common.{◌∙◌, ◌+◌, [], All, ap, sym, subst}
use Rattle.worker_pool.specs.Accounts.{Account}
use Rattle.worker_pool.specs.Closings.{all_outs}
use Rattle.worker_pool.specs.Gathered.{HasRoom}
use Rattle.worker_pool.specs.Laws.{law_of}
use Rattle.worker_pool.specs.Standing.{roots_in}
use Rattle.worker_pool.specs.Works.{IsPool, IsAtWork}
use Rattle.worker_pool.proofs.standing.standing_pool.StandingPool.close.Goals as goal

pub close-requires-clause-pool : goal.close-requires-clause-pool
close-requires-clause-pool g c =
    subst (λ shared. IsPool g.Q.Queue shared.place.pool) (sym c.take_back-pool.ensures)
    c.requires.of_pool

pub close-requires-clause-ready : goal.close-requires-clause-ready
close-requires-clause-ready g c =
    subst (λ shared. g.Q.Queue.is_ready shared.place.pool.queue c.end.new.opener.seats.seat)
    (c.deref.ensures ∙ sym c.take_back-pool.ensures) c.end.ensures.ready

pub close-requires-clause-at_work : goal.close-requires-clause-at_work
close-requires-clause-at_work g c =
    subst (λ shared. All (λ home.
    IsAtWork g.Q.Queue g.J.Job shared.place.pool shared.place.ctx home.state)
    c.join_all-homes.result.items) (sym c.take_back-pool.ensures)
    (c.join_all-homes.ensures.home c.args.self.shared.value.place c.requires.ours c.requires.home)

pub close-requires-clause-took_none : goal.close-requires-clause-took_none
close-requires-clause-took_none g c = λ on.
    ap g.Q.Queue.takes_of c.end.ensures.row ∙ c.requires.opener.jobs.took_none on

pub close-requires-clause-room : goal.close-requires-clause-room
close-requires-clause-room g c =
    subst (λ shared. HasRoom (g.Q.Queue.worker_count shared.place.pool.queue + 1)
    c.args.self.gathered) (sym c.take_back-pool.ensures) c.requires.gathered_room

pub returns-clause-account : goal.returns-clause-account
returns-clause-account g c =
    let ends = c.end.ensures in
    let start : Account g.Q.Queue.keeps_accounts (law_of g.J.Job c.take_back-pool.result.place.ctx)
    (roots_in c.args.self) (g.Q.Queue.puts_of (g.Q.Queue.row_of c.end.new.opener.seats.seat))
    (g.L.Lists.items_of c.end.new.opener.outs) [] c.end.new.opener.refused =
    rw (c.take_back-pool.ensures, ends.row, ends.outs, ends.refused) c.requires.opener.jobs.account in
    subst (λ shared. Account g.Q.Queue.keeps_accounts (law_of g.J.Job shared.place.ctx)
    (roots_in c.args.self) [] (all_outs c.close.result.outs) c.close.result.left.items
    c.close.result.refused) c.take_back-pool.ensures
    (c.close.ensures.account (roots_in c.args.self) start)

pub returns-clause-none_left : goal.returns-clause-none_left
returns-clause-none_left g c =
    c.close.ensures.none_left (c.end.ensures.cancelled ∙ c.requires.not_cancelled)

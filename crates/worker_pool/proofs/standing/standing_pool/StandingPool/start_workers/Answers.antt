use Rattle.std.proofs.Common.{◌≡◌, ◌∙◌, ◌+◌, ℕ, All, refl, ap, sym, subst, arith, length}
use Rattle.worker_pool.specs.Gathered.{HasRoom}
use Rattle.worker_pool.specs.Works.{IsPool, IsAtWork}
use Rattle.worker_pool.proofs.Tallies.{account-none}
use Rattle.worker_pool.proofs.standing.standing_pool.StandingPool.start_workers.Goals as goal

pub start_each-threads-requires-clause-at_work : goal.start_each-threads-requires-clause-at_work
start_each-threads-requires-clause-at_work g c κs within =
    let is = ap (λ shared. shared.place) c.in-Ok.ensures.ok ∙ c.new.ensures in
    subst (λ owned. All (IsAtWork g.Q.Queue g.J.Job owned.pool owned.ctx)
    c.args.opened.states.items) (sym is) (c.requires.opened.at_work c.args.ctx)

pub returns-clause-queue : goal.returns-clause-queue
returns-clause-queue g c =
    ap (λ owned. owned.pool.queue) (ap (λ shared. shared.place) c.in-Ok.ensures.ok ∙ c.new.ensures)

pub returns-clause-standing : goal.returns-clause-standing
returns-clause-standing g c =
    let at = g.Q.Queue in
    let is = ap (λ shared. shared.place) c.in-Ok.ensures.ok ∙ c.new.ensures in
    let opened = c.requires.opened in
    let fresh = opened.opener in
    let unused = fresh.unused in
    let seat = c.args.opened.opener.seats.seat in
    let made = c.start_each-threads.ensures in
    let workers : at.worker_count c.in-Ok.shared.value.place.pool.queue
    ≡ at.worker_count c.args.opened.pool.queue = ap (λ owned. at.worker_count owned.pool.queue) is in
    record {
      of_pool = subst (λ owned. IsPool at owned.pool) (sym is) fresh.of_pool;
      opener = record {
        ready = subst (λ owned. at.is_ready owned.pool.queue seat) (sym is) fresh.ready;
        jobs = record {
          took_none = unused.took_none;
          account = rw unused.none_refused (account-none _ _ _ _ _ (λ on. unused.no_roots)
              unused.put_none unused.no_outs);
        };
      };
      open_yet = fresh.stored_none;
      not_cancelled = refl;
      ours = made.ours;
      home = made.home;
      started = c.len.ensures;
      every_worker = omega (
        arith,
        made.all,
        opened.many,
        workers,
        ap length opened.none_ended,
        ap length c.in_ok-threads.ensures.empty,
        c.in_ok-threads.threads.ok.0,
        c.args.opened.ended.ok.0,
      );
      room = omega (arith, made.capacity, opened.room_for_ended, opened.many, workers);
      none_gathered = opened.none_gathered;
      gathered_room = subst (λ (n : ℕ). HasRoom (n + 1) c.args.opened.gathered)
          (sym (workers ∙ opened.workers)) opened.room_to_gather;
    }

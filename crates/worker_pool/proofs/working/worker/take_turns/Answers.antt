use Rattle.std.proofs.Common.{rules, refl, ap, ◌∙◌}
use Rattle.worker_pool.proofs.Tallies.{account-more, account-same}
use Rattle.worker_pool.proofs.working.worker.take_turns.Goals as goal

pub loop-init : goal.loop-init
loop-init g c =
    let at_work = c.requires in
    record {
      can = tt;
      finite = tt;
      ready = at_work.ready;
      owner = at_work.owner;
      stored_none = at_work.stored_none;
      account = at_work.account;
    }

pub loop-preserved-in-Found : goal.loop-preserved-in-Found
loop-preserved-in-Found g c =
    let ran = c.begin-more.ensures in
    let found = c.in-Found.ensures in
    record {
      can = tt;
      finite = tt;
      ready = ran.ready.0;
      owner = ran.ready.1;
      stored_none = ap (λ kept. kept.1) ran.kept ∙ found.stored_none;
      account = account-more _ _ c.in-Found.job _ _ _ _ _ _ _ _ _ _ _ _ c.loop.invariant.account
          refl found.puts (λ on. ran.takes on ∙ found.takes on) ran.ran (search rules);
    }

pub returns-in-Last-clause-at_work : goal.returns-in-Last-clause-at_work
returns-in-Last-clause-at_work g c =
    let last = c.in-Last.ensures in
    record {
      of_pool = c.requires.of_pool;
      ready = last.ready;
      owner = rw last.number c.loop.invariant.owner;
      stored_none = last.stored_none;
      home = c.requires.home;
      account = account-same _ _ _ _ _ _ _ _ _ c.loop.invariant.account last.takes last.puts;
    }

pub returns-in-Last-clause-ended : goal.returns-in-Last-clause-ended
returns-in-Last-clause-ended g c = record { number = refl; may_end = c.in-Last.ensures.last }

pub loop-preserved : goal.loop-preserved
loop-preserved g c =
    let again = c.in-Again.ensures in
    record {
      can = tt;
      finite = tt;
      ready = again.ready;
      owner = rw again.number c.loop.invariant.owner;
      stored_none = again.stored_none;
      account = account-same _ _ _ _ _ _ _ _ _ c.loop.invariant.account again.takes again.puts;
    }

use Rattle.std.proofs.Common.{◌≡◌, ◌∙◌, ap, arith, sym}
use Rattle.std.proofs.lemmas.Bool.{true≢false}
use Rattle.worker_pool.specs.Starts.{was_asked}
use Rattle.worker_pool.proofs.Growing.{All-last, All-snoc}
use Rattle.worker_pool.proofs.Starting.{asks-all, asks-no_more, comes-snoc, home-at_work}
use Rattle.worker_pool.proofs.opening.start.+run_first.Goals as goal

pub returns-then-len-starts-clause-home : goal.returns-then-len-starts-clause-home
returns-then-len-starts-clause-home g t c =
    let work = g.S.Workplace in
    let same : c.not_asked.result.state ≡ c.in-Some.last =
    ap (λ home. home.state) c.not_asked.ensures in
    let last = All-last (work.is_at_work c.args.workplace.now) _ _ _ c.in-Some.ensures.items
    c.requires.at_work in
    comes-snoc work.is_at_work work.has_ended c.args.workplace.now _ _ _ _ _ _
    c.in-Some.ensures.items c.push_reserved.ensures.items c.run_first-ended.ensures.home
    (record {
      at_work = rw same last;
      ended = λ asked. absurd (true≢false (sym asked ∙ ap (λ home. was_asked home.start)
          c.not_asked.ensures));
      kept = λ _. same;
    })

pub returns-then-len-starts-clause-at_work : goal.returns-then-len-starts-clause-at_work
returns-then-len-starts-clause-at_work g t c =
    let work = g.S.Workplace in
    let same : c.not_asked.result.state ≡ c.in-Some.last =
    ap (λ home. home.state) c.not_asked.ensures in
    let last = All-last (work.is_at_work c.args.workplace.now) _ _ _ c.in-Some.ensures.items
    c.requires.at_work in
    All-snoc (λ home. work.is_at_work c.args.workplace.now home.state) _ _ _
    c.push_reserved.ensures.items c.run_first-ended.ensures.at_work (rw same last)

pub returns-then-len-starts-clause-asked : goal.returns-then-len-starts-clause-asked
returns-then-len-starts-clause-asked g t c =
    let more = c.if-len-starts.true in
    let all = c.run_first-ended.ensures.all in
    let one_less = c.in-Some.ensures.len in
    let len = c.len.ensures in
    let long = c.run_first-ended.result.0.ok.0 in
    asks-no_more _ _ _ c.push_reserved.ensures.items c.args.starts (omega arith)
    (ap (λ home. was_asked home.start) c.not_asked.ensures) c.run_first-ended.ensures.asked

pub returns-clause-at_work : goal.returns-clause-at_work
returns-clause-at_work g t c =
    home-at_work g.S.Workplace.is_at_work g.S.Workplace.has_ended c.args.workplace.now _ _
    c.scoped.ensures.1.home

pub returns-clause-asked : goal.returns-clause-asked
returns-clause-asked g t c =
    let few = c.if-len-starts.false in
    let all = c.scoped.ensures.1.all in
    let len = c.len.ensures in
    let long = c.scoped.result.0.ok.0 in
    asks-all c.args.starts _ (omega arith) c.scoped.ensures.1.asked

use Rattle.std.proofs.Common.{rules, refl, ◌++◌, ◌∙◌, ap, arith, sym}
use Rattle.std.proofs.lemmas.List.Elements.{All-weaker}
use Rattle.std.specs.List.{flat_map}
use Rattle.worker_pool.specs.Laws.{law_of}
use Rattle.worker_pool.specs.Works.{IsAtWork}
use Rattle.worker_pool.proofs.Closings.{account-closed, flat_map-snoc, handed-back}
use Rattle.worker_pool.proofs.Growing.{All-snoc, length-snoc}
use Rattle.worker_pool.proofs.closing.close.close.Goals as goal

pub gather-rows-requires-clause-ready : goal.gather-rows-requires-clause-ready
gather-rows-requires-clause-ready g c =
    All-weaker (λ home. IsAtWork g.Q.Queue g.J.Job c.args.pool c.args.ctx.now home.state) _
    (λ home is. is.ready) _ c.requires.at_work

pub end-left-requires-clause-rows : goal.end-left-requires-clause-rows
end-left-requires-clause-rows g c =
    let home = c.gather-rows.ensures.home c.args.pool c.args.ctx.now c.requires.at_work in
    All-snoc (g.Q.Queue.is_row c.args.pool.queue) _ _ _ c.push_reserved.ensures.items home.ours
    c.parts-row.ensures.row

pub end-left-requires-clause-wakers : goal.end-left-requires-clause-wakers
end-left-requires-clause-wakers g c =
    let home = c.gather-rows.ensures.home c.args.pool c.args.ctx.now c.requires.at_work in
    All-snoc (g.Q.Queue.is_waker c.args.pool.queue) _ _ _ c.push_reserved-2.ensures.items home.idle
    c.parts-row.ensures.waker

pub end-left-requires-clause-all_rows : goal.end-left-requires-clause-all_rows
end-left-requires-clause-all_rows g c =
    let many = c.gather-rows.ensures.many in
    let every_worker = c.requires.every_worker in
    let long = length-snoc _ _ _ c.push_reserved.ensures.items in
    omega arith

pub end-left-requires-clause-all_wakers : goal.end-left-requires-clause-all_wakers
end-left-requires-clause-all_wakers g c =
    let home = c.gather-rows.ensures.home c.args.pool c.args.ctx.now c.requires.at_work in
    let wakers_many = home.wakers_many in
    let many = c.gather-rows.ensures.many in
    let every_worker = c.requires.every_worker in
    let long = length-snoc _ _ _ c.push_reserved-2.ensures.items in
    omega arith

pub returns-clause-lists : goal.returns-clause-lists
returns-clause-lists g c =
    let home = c.gather-rows.ensures.home c.args.pool c.args.ctx.now c.requires.at_work in
    let lists_many = home.lists_many in
    let many = c.gather-rows.ensures.many in
    let every_worker = c.requires.every_worker in
    let long = c.gather-rows.result.lists.ok.0 in
    let more = c.push_reserved-3.ensures.len in
    omega arith

pub returns-clause-account : goal.returns-clause-account
returns-clause-account g c = λ roots start.
    let home = c.gather-rows.ensures.home c.args.pool c.args.ctx.now c.requires.at_work in
    let lists = c.gather-rows.result.lists.items in
    let same = c.parts-row.ensures.same in
    account-closed g.Q.Queue.keeps_accounts
    (law_of g.J.Job c.args.ctx.now) g.Q.Queue.puts_of g.Q.Queue.takes_of
    roots c.end-left.result.items c.gather-rows.result.rows.items c.parts-row.result.0
    c.push_reserved.new.self.items _ _ _ _ _ _ _ _ home.account
    (c.settle-refused.ensures.settled.account roots _ (rw (sym same) at start))
    (λ on. ap g.Q.Queue.takes_of same ∙ c.requires.took_none on)
    c.push_reserved.ensures.items c.end-left.ensures.account
    (flat_map-snoc (λ list. list.items) _ _ _ c.push_reserved-3.ensures.items
    ∙ ap (λ outs. flat_map (λ list. list.items) lists ++ outs) c.into_vec.ensures)
    refl (search rules)

pub returns-clause-handed_back : goal.returns-clause-handed_back
returns-clause-handed_back g c = λ cancelled.
    let home = c.gather-rows.ensures.home c.args.pool c.args.ctx.now c.requires.at_work in
    let lists = c.gather-rows.result.lists.items in
    let same_outs = c.settle-refused.ensures.same_outs cancelled in
    let same = c.parts-row.ensures.same in
    rw (sym same)
    (handed-back g.Q.Queue.keeps_accounts (law_of g.J.Job c.args.ctx.now) g.Q.Queue.puts_of
    g.Q.Queue.takes_of c.end-left.result.items c.gather-rows.result.rows.items
    c.parts-row.result.0 c.push_reserved.new.self.items _ _ _ _ _ _ _ _ home.account
    (λ on. ap g.Q.Queue.takes_of same ∙ c.requires.took_none on)
    c.push_reserved.ensures.items c.end-left.ensures.account
    (c.settle-refused.ensures.kept cancelled)
    (flat_map-snoc (λ list. list.items) _ _ _ c.push_reserved-3.ensures.items
    ∙ ap (λ outs. flat_map (λ list. list.items) lists ++ outs) (c.into_vec.ensures ∙ same_outs))
    (c.settle-refused.ensures.same cancelled) (search rules))

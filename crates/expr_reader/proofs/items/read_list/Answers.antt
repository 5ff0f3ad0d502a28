use Rattle.std.proofs.Common.{◌≡◌, ℕ, ◌+◌, ◌<◌, length, get_or, length-append, Some, ap, sym, ◌∙◌}
use Rattle.std.proofs.Common.{inr, option_and_then}
use Rattle.std.proofs.lemmas.Result.{err_from_is_err_and}
use Rattle.serde_json.specs.View.{view, items_view}
use Rattle.expr_reader.specs.Fields.{each_of}
use Rattle.expr_reader.proofs.Lists.{after-nothing, after-next, after-end, after-none}
use Rattle.expr_reader.proofs.Lists.{list_in-items, whole-fault}
use Rattle.expr_reader.proofs.items.read_list.Goals as goal

pub loop-item-preserved : goal.loop-item-preserved
loop-item-preserved g c =
    let i : ℕ = c.loop-item.item-index in
    let values = c.deref-item-items.result.now in
    let inv = c.loop-item.invariant in
    let within : i < length values = c.loop-item-test.true in
    let read : g.T.Item.item_in (view (get_or values i c.item-item.result)) ≡ Some c.in_ok-item.item =
    ap (λ v. g.T.Item.item_in (view v)) (sym c.item-item.is) ∙ c.in_ok-item.ensures in (
      rw c.push_reserved.ensures.items (simp length-append (ap (λ n. n + 1) inv.0)),
      c.push_reserved.ensures.capacity ∙ inv.1,
      after-next g.T.Item.item_in c.loop-item.items.items c.push_reserved.new.self.items values i c.item-item.result c.in_ok-item.item
          (each_of g.T.Item.item_in (items_view values)) within read c.push_reserved.ensures.items inv.2,
    )

pub returns-in_err-list : goal.returns-in_err-list
returns-in_err-list g c =
    let p = err_from_is_err_and c.from_residual.result c.from_residual.ensures.1 in
    let none = rw c.in_err-list.ensures.ok_part at c.as_array.ensures in
    let same = rw c.in_err-list.ensures.ok_part at c.in_err-list.ensures.value in
    rw (p.1, p.2) (inr ((cc), ap (option_and_then (each_of g.T.Item.item_in)) (sym none)))

pub loop-item-init : goal.loop-item-init
loop-item-init g c =
    let made = c.in-Ok.ensures in (
      ap length made.items,
      made.exact ∙ c.len.ensures ∙ sym c.deref-item-items.ensures.len,
      rw made.items (after-nothing _),
    )

pub returns-in_err-item : goal.returns-in_err-item
returns-in_err-item g c =
    let f = g.T.Item.item_in in
    let values = c.deref-item-items.result.now in
    let p = err_from_is_err_and c.from_residual-in_err-item.result
    c.from_residual-in_err-item.ensures.1 in
    let found = rw c.in_ok-list.ensures.ok_part at c.as_array.ensures in
    rw (p.1, p.2)
    (whole-fault c.in_err-item.ensures (λ none.
    list_in-items f (view c.args.value.now) c.in_ok-list.list.now.items found
    ∙ ap (λ vs. each_of f (items_view vs)) (sym c.deref-item-items.ensures.value)
    ∙ after-none f c.loop-item.items.items values c.loop-item.item-index _ c.loop-item.invariant.2
    c.item-item.result c.loop-item-test.true
    (ap (λ v. f (view v)) (sym c.item-item.is) ∙ none)))

pub returns : goal.returns
returns g c =
    let f = g.T.Item.item_in in
    let found = rw c.in_ok-list.ensures.ok_part at c.as_array.ensures in
    list_in-items f (view c.args.value.now) c.in_ok-list.list.now.items found
    ∙ ap (λ vs. each_of f (items_view vs)) (sym c.deref-item-items.ensures.value)
    ∙ after-end f c.loop-item.items.items c.deref-item-items.result.now c.loop-item.item-index _
    c.loop-item.invariant.2 c.loop-item-test.false

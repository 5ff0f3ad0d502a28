-- What is asked of composed operands, and what is made of them.
use Rattle.std.proofs.Common.{◌≡◌, ℕ, ◌+◌, ◌<◌, ◌≤◌, ◌∙◌, List, ap, sym, subst, arith}
use Rattle.std.proofs.lemmas.Result.{IfOk-weaker}
use Rattle.tensor_shape.specs.Legal.{most_elements}
use Rattle.tensor_views.specs.Composing.{IsComposition}
use Rattle.tensor_ops.specs.private.Meaning.{meaning, count_of, depth_of}
use Rattle.tensor_ops.specs.private.Sinking.{Follows, meaning_along}
use Rattle.tensor_values.specs.Interleaving.{interleaved, HaveTurns}
use Rattle.tensor_views.specs.View.{view_size, reached}
use Rattle.tensor_values.proofs.InTurns.{turns-some}
use Rattle.tensor_ops.proofs.Sunk.{composition-takes, some-below, follows-interleaved, follows-along}
use Rattle.tensor_ops.proofs.Sunk.{CanSink, CanCompose, compose-beside, settle-walked, compose-both}
use Rattle.tensor_ops.proofs.Sunk.{follows-same, follows-composed}
use Rattle.tensor_ops.proofs.Sunk.{each-follows, both-follow, all-follow, first-few, second-few}
use Rattle.tensor_views.specs.declared.axis.Axis.{Axis}
use Rattle.tensor_ops.proofs.lowered.Lowered.+sunk.Goals as goal

-- two views as one, of which the second is lent
composition-lent : (composition from start begun : ℕ) (both along axes lent : List Axis) → begun ≡ start → lent ≡ axes
    → IsComposition composition both from along begun lent → IsComposition composition both from along start axes
composition-lent composition from start begun both along axes lent begins same is =
    subst (λ s. IsComposition composition both from along s axes) begins (subst (λ l. IsComposition composition both from along begun l) same is)

-- composed: what is asked of each operand
pub composed-composed-requires : goal.composed-composed-requires
composed-composed-requires t c =
    let start = c.args.view.start in
    let axes = c.args.view.axes.now in
    let can : CanCompose c.args.self start axes =
    (c.requires.sound, (c.requires.few, (c.requires.some, (c.requires.short, c.requires.inside)))) in
    let same : c.into_inner.result ≡ c.in-Unary.operand.value = c.into_inner.ensures in (
      omega (arith, c.decreases, ap depth_of c.in-Unary.is, ap depth_of same),
      subst (λ z. CanCompose z start axes) (sym same) (rw c.in-Unary.is at can),
    )

pub composed-composed-requires-in-Binary : goal.composed-composed-requires-in-Binary
composed-composed-requires-in-Binary t c =
    let start = c.args.view.start in
    let axes = c.args.view.axes.now in
    let whole : CanCompose c.args.self start axes =
    (c.requires.sound, (c.requires.few, (c.requires.some, (c.requires.short, c.requires.inside)))) in
    let can = rw c.in-Binary.is at whole in
    let same : c.into_inner-in-Binary.result ≡ c.in-Binary.first.value = c.into_inner-in-Binary.ensures in (
      omega (arith, c.decreases, ap depth_of c.in-Binary.is, ap depth_of same),
      subst (λ z. CanCompose z start axes) (sym same) (can.0.0, can.1),
    )

pub composed-composed-requires-in-Binary-2 : goal.composed-composed-requires-in-Binary-2
composed-composed-requires-in-Binary-2 t c =
    let start = c.args.view.start in
    let axes = c.args.view.axes.now in
    let a = c.in-Binary.first.value in
    let b = c.in-Binary.second.value in
    let whole : CanCompose c.args.self start axes =
    (c.requires.sound, (c.requires.few, (c.requires.some, (c.requires.short, c.requires.inside)))) in
    let can = rw c.in-Binary.is at whole in
    let same : c.into_inner-in-Binary-2.result ≡ b = c.into_inner-in-Binary-2.ensures in (
      omega (arith, c.decreases, ap depth_of c.in-Binary.is, ap depth_of same),
      subst (λ z. CanCompose z start axes) (sym same) (compose-beside a b start axes can.0.1.1 can.0.1.0 (can.0.0, can.1)),
    )

pub composed-composed-requires-in-Select : goal.composed-composed-requires-in-Select
composed-composed-requires-in-Select t c =
    let start = c.args.view.start in
    let axes = c.args.view.axes.now in
    let whole : CanCompose c.args.self start axes =
    (c.requires.sound, (c.requires.few, (c.requires.some, (c.requires.short, c.requires.inside)))) in
    let can = rw c.in-Select.is at whole in
    let same : c.into_inner-in-Select.result ≡ c.in-Select.first.value = c.into_inner-in-Select.ensures in (
      omega (arith, c.decreases, ap depth_of c.in-Select.is, ap depth_of same),
      subst (λ z. CanCompose z start axes) (sym same) (can.0.0, can.1),
    )

pub composed-composed-requires-in-Select-2 : goal.composed-composed-requires-in-Select-2
composed-composed-requires-in-Select-2 t c =
    let start = c.args.view.start in
    let axes = c.args.view.axes.now in
    let a = c.in-Select.first.value in
    let b = c.in-Select.second.value in
    let whole : CanCompose c.args.self start axes =
    (c.requires.sound, (c.requires.few, (c.requires.some, (c.requires.short, c.requires.inside)))) in
    let can = rw c.in-Select.is at whole in
    let same : c.into_inner-in-Select-2.result ≡ b = c.into_inner-in-Select-2.ensures in (
      omega (arith, c.decreases, ap depth_of c.in-Select.is, ap depth_of same),
      subst (λ z. CanCompose z start axes) (sym same) (compose-beside a b start axes can.0.1.0.1 can.0.1.0.0 (can.0.0, can.1)),
    )

pub composed-composed-requires-in-Select-3 : goal.composed-composed-requires-in-Select-3
composed-composed-requires-in-Select-3 t c =
    let start = c.args.view.start in
    let axes = c.args.view.axes.now in
    let a = c.in-Select.first.value in
    let d = c.in-Select.third.value in
    let whole : CanCompose c.args.self start axes =
    (c.requires.sound, (c.requires.few, (c.requires.some, (c.requires.short, c.requires.inside)))) in
    let can = rw c.in-Select.is at whole in
    let same : c.into_inner-in-Select-3.result ≡ d = c.into_inner-in-Select-3.ensures in (
      omega (arith, c.decreases, ap depth_of c.in-Select.is, ap depth_of same),
      subst (λ z. CanCompose z start axes) (sym same) (compose-beside a d start axes can.0.1.1.1 can.0.1.1.0 (can.0.0, can.1)),
    )

-- and that what is made of the composed operands follows the whole
pub composed-chained-requires : goal.composed-chained-requires
composed-chained-requires t c =
    let x = c.in_ok-first-in-Binary.ensures in
    let y = c.in_ok-second-in-Binary.ensures in
    record { sound = x.sound; other = y.sound; same = y.count ∙ sym x.count }

pub composed-all-requires : goal.composed-all-requires
composed-all-requires t c =
    let x = c.in_ok-first-in-Select.ensures in
    let y = c.in_ok-second-in-Select.ensures in
    let z = c.in_ok-third-in-Select.ensures in
    record {
      first = x.sound;
      second = y.sound;
      third = z.sound;
      same_second = y.count ∙ sym x.count;
      same_third = z.count ∙ sym x.count;
    }

pub composed-returns-in_ok-operand-in-Unary : goal.composed-returns-in_ok-operand-in-Unary
composed-returns-in_ok-operand-in-Unary t c =
    let start = c.args.view.start in
    let axes = c.args.view.axes.now in
    let a = c.in-Unary.operand.value in
    let x = c.in_ok-operand-in-Unary.operand in
    rw c.in-Unary.is
    (each-follows c.each.result c.in-Unary.operation x (view_size axes) (meaning_along a start axes)
    (subst (λ z. Follows x (view_size axes) (meaning_along z start axes)) c.into_inner.ensures c.in_ok-operand-in-Unary.ensures) c.each.ensures)

pub composed-returns-in_ok-second-in-Binary : goal.composed-returns-in_ok-second-in-Binary
composed-returns-in_ok-second-in-Binary t c =
    let start = c.args.view.start in
    let axes = c.args.view.axes.now in
    let a = c.in-Binary.first.value in
    let b = c.in-Binary.second.value in
    let x = c.in_ok-first-in-Binary.first in
    let y = c.in_ok-second-in-Binary.second in
    rw c.in-Binary.is
    (both-follow c.chained.result c.in-Binary.link.operation c.in-Binary.link.swapped x y (view_size axes) (meaning_along a start axes) (meaning_along b start axes)
    (subst (λ z. Follows x (view_size axes) (meaning_along z start axes)) c.into_inner-in-Binary.ensures c.in_ok-first-in-Binary.ensures)
    (subst (λ z. Follows y (view_size axes) (meaning_along z start axes)) c.into_inner-in-Binary-2.ensures c.in_ok-second-in-Binary.ensures)
    c.chained.ensures)

pub composed-returns-in_ok-third-in-Select : goal.composed-returns-in_ok-third-in-Select
composed-returns-in_ok-third-in-Select t c =
    let start = c.args.view.start in
    let axes = c.args.view.axes.now in
    let a = c.in-Select.first.value in
    let b = c.in-Select.second.value in
    let d = c.in-Select.third.value in
    let x = c.in_ok-first-in-Select.first in
    let y = c.in_ok-second-in-Select.second in
    let z = c.in_ok-third-in-Select.third in
    rw c.in-Select.is
    (all-follow c.all.result c.in-Select.order x y z (view_size axes) (meaning_along a start axes) (meaning_along b start axes) (meaning_along d start axes)
    (subst (λ w. Follows x (view_size axes) (meaning_along w start axes)) c.into_inner-in-Select.ensures c.in_ok-first-in-Select.ensures)
    (subst (λ w. Follows y (view_size axes) (meaning_along w start axes)) c.into_inner-in-Select-2.ensures c.in_ok-second-in-Select.ensures)
    (subst (λ w. Follows z (view_size axes) (meaning_along w start axes)) c.into_inner-in-Select-3.ensures c.in_ok-third-in-Select.ensures)
    c.all.ensures)

-- composed over a view
pub composed-then-requires : goal.composed-then-requires
composed-then-requires t c =
    let start = c.args.view.start in
    let axes = c.args.view.axes.now in
    let below = c.in-View.below in
    let sound = rw c.in-View.is at c.requires.sound in
    let inside = rw c.in-View.is at c.requires.inside in
    let few = rw c.in-View.is at c.requires.few in
    let takes = composition-takes c.in-View.operand.value below.start start below.axes.items axes c.as_ref.result.axes.now
    c.as_ref.ensures.axes sound.1.0 few sound.1.1 c.requires.some inside in
    record {
      some = takes.0;
      few = takes.1.0;
      first = takes.1.1.0;
      second = rw c.as_ref.ensures.start takes.1.1.1;
    }

pub composed-composed-requires-in-Some : goal.composed-composed-requires-in-Some
composed-composed-requires-in-Some t c =
    let start = c.args.view.start in
    let axes = c.args.view.axes.now in
    let below = c.in-View.below in
    let composition = c.in-Some.composition in
    let sound = rw c.in-View.is at c.requires.sound in
    let inside = rw c.in-View.is at c.requires.inside in
    let same : c.into_inner-in-Some.result ≡ c.in-View.operand.value = c.into_inner-in-Some.ensures in
    let some = rw c.in-Some.is at c.in_ok-composition-in-View.ensures in
    let is = composition-lent composition.start start below.start c.as_ref.result.start composition.axes.items axes below.axes.items
    c.as_ref.result.axes.now c.as_ref.ensures.start c.as_ref.ensures.axes some in (
      omega (arith, c.decreases, ap depth_of c.in-View.is, ap depth_of same),
      rw (c.as_ref-in-Some.ensures.start, c.as_ref-in-Some.ensures.axes)
          (subst (λ z. CanCompose z composition.start composition.axes.items) (sym same)
          (compose-both c.in-View.operand.value below.start start composition.start below.axes.items axes composition.axes.items
          sound.0 sound.1.0 sound.1.1 c.requires.some c.requires.short inside is)),
    )

pub composed-returns-in-Some : goal.composed-returns-in-Some
composed-returns-in-Some t c =
    let start = c.args.view.start in
    let axes = c.args.view.axes.now in
    let below = c.in-View.below in
    let composition = c.in-Some.composition in
    let lent = c.as_ref-in-Some.result in
    let a = c.in-View.operand.value in
    let some = rw c.in-Some.is at c.in_ok-composition-in-View.ensures in
    let is = composition-lent composition.start start below.start c.as_ref.result.start composition.axes.items axes below.axes.items
    c.as_ref.result.axes.now c.as_ref.ensures.start c.as_ref.ensures.axes some in
    rw c.in-View.is
    (IfOk-weaker c.composed-in-Some.result
    (λ r. Follows r (view_size lent.axes.now) (meaning_along c.into_inner-in-Some.result lent.start lent.axes.now))
    (λ r. Follows r (view_size axes) (λ p. meaning a (reached below.start below.axes.items (reached start axes p))))
    (λ r follows. follows-composed r a below.start start composition.start below.axes.items axes composition.axes.items is
    (subst (λ z. Follows r (view_size composition.axes.items) (meaning_along z composition.start composition.axes.items)) c.into_inner-in-Some.ensures
    (subst (λ s. Follows r (view_size composition.axes.items) (meaning_along c.into_inner-in-Some.result s composition.axes.items)) c.as_ref-in-Some.ensures.start
    (subst (λ l. Follows r (view_size l) (meaning_along c.into_inner-in-Some.result lent.start l)) c.as_ref-in-Some.ensures.axes follows))))
    c.composed-in-Some.ensures)

pub composed-sunk-requires : goal.composed-sunk-requires
composed-sunk-requires t c =
    let sound = rw c.in-View.is at c.requires.sound in
    let inside = rw c.in-View.is at c.requires.inside in
    let same : c.into_inner-in-View.result ≡ c.in-View.operand.value = c.into_inner-in-View.ensures in (
      omega (arith, c.decreases, ap depth_of c.in-View.is, ap depth_of same),
      subst CanSink (sym same)
          (settle-walked c.in-View.operand.value c.in-View.below.start c.args.view.start c.in-View.below.axes.items c.args.view.axes.now
          sound.0 sound.1.0 sound.1.1 c.requires.some inside),
    )

pub composed-view_over-requires : goal.composed-view_over-requires
composed-view_over-requires t c =
    let x = c.in_ok-operand-in-View.ensures in
    let sound = rw c.in-View.is at c.requires.sound in
    let count = x.count ∙ ap count_of c.into_inner-in-View.ensures in
    record {
      sound = x.sound;
      few = subst (λ n. n ≤ most_elements) (sym count) sound.1.0;
      inside = λ p below. subst (λ n. reached c.in-View.below.start c.in-View.below.axes.items p < n) (sym count) (sound.1.1 p below);
    }

pub composed-view_along-requires : goal.composed-view_along-requires
composed-view_along-requires t c =
    let inner = c.in_ok-inner-in-View.ensures in
    let few = rw c.in-View.is at c.requires.few in
    let inside = rw c.in-View.is at c.requires.inside in
    record {
      sound = inner.sound;
      few = subst (λ n. n ≤ most_elements) (sym inner.count) few;
      inside = λ p below. subst (λ n. reached c.args.view.start c.args.view.axes.now p < n) (sym inner.count) (inside p below);
    }

pub composed-returns-in_ok-inner-in-View : goal.composed-returns-in_ok-inner-in-View
composed-returns-in_ok-inner-in-View t c =
    let start = c.args.view.start in
    let axes = c.args.view.axes.now in
    let from = c.in-View.below.start in
    let along = c.in-View.below.axes.items in
    let a = c.in-View.operand.value in
    let x = c.in_ok-operand-in-View.operand in
    let w = c.in_ok-inner-in-View.inner in
    let sound = rw c.in-View.is at c.requires.sound in
    let inside = rw c.in-View.is at c.requires.inside in
    let whole = follows-along w x (count_of a) (meaning a) from along c.in_ok-inner-in-View.ensures
    (follows-same x c.into_inner-in-View.result a c.into_inner-in-View.ensures c.in_ok-operand-in-View.ensures) sound.1.1 in
    rw c.in-View.is
    (IfOk-weaker c.view_along.result
    (λ r. Follows r (view_size axes) (meaning_along w start axes))
    (λ r. Follows r (view_size axes) (λ p. meaning a (reached from along (reached start axes p))))
    (λ r follows. follows-along r w (view_size along) (meaning_along a from along) start axes follows whole inside)
    c.view_along.ensures)

-- composed over an interleaving
pub composed-sunk-requires-in-Interleaved : goal.composed-sunk-requires-in-Interleaved
composed-sunk-requires-in-Interleaved t c =
    let turns = c.in-Interleaved.turns in
    let a = c.in-Interleaved.first.value in
    let b = c.in-Interleaved.second.value in
    let sound = rw c.in-Interleaved.is at c.requires.sound in
    let inside = rw c.in-Interleaved.is at c.requires.inside in
    let few = rw c.in-Interleaved.is at c.requires.few in
    let parts = turns-some turns.first turns.second (count_of a) (count_of b) sound.1.1 (some-below (inside 0 c.requires.some)) in
    let same : c.into_inner-in-Interleaved.result ≡ a = c.into_inner-in-Interleaved.ensures in (
      omega (arith, c.decreases, ap depth_of c.in-Interleaved.is, ap depth_of same),
      subst CanSink (sym same) (sound.0, (parts.0, first-few (count_of a) (count_of b) most_elements few)),
    )

pub composed-sunk-requires-in-Interleaved-2 : goal.composed-sunk-requires-in-Interleaved-2
composed-sunk-requires-in-Interleaved-2 t c =
    let turns = c.in-Interleaved.turns in
    let a = c.in-Interleaved.first.value in
    let b = c.in-Interleaved.second.value in
    let sound = rw c.in-Interleaved.is at c.requires.sound in
    let inside = rw c.in-Interleaved.is at c.requires.inside in
    let few = rw c.in-Interleaved.is at c.requires.few in
    let parts = turns-some turns.first turns.second (count_of a) (count_of b) sound.1.1 (some-below (inside 0 c.requires.some)) in
    let same : c.into_inner-in-Interleaved-2.result ≡ b = c.into_inner-in-Interleaved-2.ensures in (
      omega (arith, c.decreases, ap depth_of c.in-Interleaved.is, ap depth_of same),
      subst CanSink (sym same) (sound.1.0, (parts.1, second-few (count_of a) (count_of b) most_elements few)),
    )

pub composed-in_turns-requires : goal.composed-in_turns-requires
composed-in_turns-requires t c =
    let turns = c.in-Interleaved.turns in
    let x = c.in_ok-first-in-Interleaved.ensures in
    let y = c.in_ok-second-in-Interleaved.ensures in
    let sound = rw c.in-Interleaved.is at c.requires.sound in
    record {
      first = x.sound;
      second = y.sound;
      turns = subst (λ n. HaveTurns turns.first turns.second n (count_of c.in_ok-second-in-Interleaved.second))
          (sym (x.count ∙ ap count_of c.into_inner-in-Interleaved.ensures))
          (subst (λ n. HaveTurns turns.first turns.second (count_of c.in-Interleaved.first.value) n)
          (sym (y.count ∙ ap count_of c.into_inner-in-Interleaved-2.ensures)) sound.1.1);
    }

pub composed-view_along-requires-in-Interleaved : goal.composed-view_along-requires-in-Interleaved
composed-view_along-requires-in-Interleaved t c =
    let a = c.in-Interleaved.first.value in
    let b = c.in-Interleaved.second.value in
    let interleaving = c.in_ok-interleaving-in-Interleaved.ensures in
    let few = rw c.in-Interleaved.is at c.requires.few in
    let inside = rw c.in-Interleaved.is at c.requires.inside in
    let count : count_of c.in_ok-interleaving-in-Interleaved.interleaving ≡ count_of a + count_of b =
    interleaving.count ∙ ap (λ n. n + count_of c.in_ok-second-in-Interleaved.second)
    (c.in_ok-first-in-Interleaved.ensures.count ∙ ap count_of c.into_inner-in-Interleaved.ensures)
    ∙ ap (λ n. count_of a + n) (c.in_ok-second-in-Interleaved.ensures.count ∙ ap count_of c.into_inner-in-Interleaved-2.ensures) in
    record {
      sound = interleaving.sound;
      few = subst (λ n. n ≤ most_elements) (sym count) few;
      inside = λ p below. subst (λ n. reached c.args.view.start c.args.view.axes.now p < n) (sym count) (inside p below);
    }

pub composed-returns-in_ok-interleaving-in-Interleaved : goal.composed-returns-in_ok-interleaving-in-Interleaved
composed-returns-in_ok-interleaving-in-Interleaved t c =
    let turns = c.in-Interleaved.turns in
    let a = c.in-Interleaved.first.value in
    let b = c.in-Interleaved.second.value in
    let start = c.args.view.start in
    let axes = c.args.view.axes.now in
    let w = c.in_ok-interleaving-in-Interleaved.interleaving in
    let sound = rw c.in-Interleaved.is at c.requires.sound in
    let inside = rw c.in-Interleaved.is at c.requires.inside in
    let interleaving = follows-interleaved turns.first turns.second a b c.into_inner-in-Interleaved.result c.into_inner-in-Interleaved-2.result
    c.in_ok-first-in-Interleaved.first c.in_ok-second-in-Interleaved.second w sound.1.1
    c.into_inner-in-Interleaved.ensures c.into_inner-in-Interleaved-2.ensures
    c.in_ok-first-in-Interleaved.ensures c.in_ok-second-in-Interleaved.ensures c.in_ok-interleaving-in-Interleaved.ensures in
    rw c.in-Interleaved.is
    (IfOk-weaker c.view_along-in-Interleaved.result
    (λ r. Follows r (view_size axes) (meaning_along w start axes))
    (λ r. Follows r (view_size axes) (λ p. interleaved turns.first turns.second (meaning a) (meaning b) (reached start axes p)))
    (λ r follows.
    follows-along r w (count_of a + count_of b) (interleaved turns.first turns.second (meaning a) (meaning b)) start axes follows interleaving inside)
    c.view_along-in-Interleaved.ensures)

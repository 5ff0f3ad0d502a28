mod Composed
use Rattle.std.proofs.Common.{◌≡◌, ◌+◌, ◌∙◌, IfOk, ap, sym, subst, arith}
use Rattle.std.proofs.lemmas.Result.{IfOk-weaker}
use Rattle.tensor_shape.specs.Legal.{most_elements}
use Rattle.tensor_ops.specs.private.Meaning.{meaning, count_of, depth_of}
use Rattle.tensor_ops.specs.private.Sinking.{Follows, meaning_along}
use Rattle.tensor_values.specs.Interleaving.{interleaved, HaveTurns}
use Rattle.tensor_views.specs.View.{view_size}
use Rattle.tensor_values.proofs.InTurns.{turns-some}
use Rattle.tensor_ops.proofs.Sunk.{follows-interleaved}
use Rattle.tensor_ops.proofs.Sunk.{CanSink, CanCompose, settle-beside}
use Rattle.tensor_ops.proofs.Sunk.{follows-same, follows-beside}
use Rattle.tensor_ops.proofs.Sunk.{each-follows, both-follow, all-follow, first-few, second-few}
use Rattle.tensor_ops.proofs.lowered.Lowered.+sunk.Answers.Composed as composed
use Rattle.tensor_ops.proofs.lowered.Lowered.+sunk.Goals as goal

-- sunk: what is asked of each operand
pub sunk-sunk-requires : goal.sunk-sunk-requires
sunk-sunk-requires t c =
    let same : c.into_inner.result ≡ c.in-Unary.operand.value = c.into_inner.ensures in (
      omega (arith, c.decreases, ap depth_of c.in-Unary.is, ap depth_of same),
      subst CanSink (sym same)
          (rw c.in-Unary.is at c.requires.sound, (rw c.in-Unary.is at c.requires.some, rw c.in-Unary.is at c.requires.few)),
    )

pub sunk-sunk-requires-in-Binary : goal.sunk-sunk-requires-in-Binary
sunk-sunk-requires-in-Binary t c =
    let sound = rw c.in-Binary.is at c.requires.sound in
    let some = rw c.in-Binary.is at c.requires.some in
    let few = rw c.in-Binary.is at c.requires.few in
    let same : c.into_inner-in-Binary.result ≡ c.in-Binary.first.value = c.into_inner-in-Binary.ensures in (
      omega (arith, c.decreases, ap depth_of c.in-Binary.is, ap depth_of same),
      subst CanSink (sym same) (sound.0, (some, few)),
    )

pub sunk-sunk-requires-in-Binary-2 : goal.sunk-sunk-requires-in-Binary-2
sunk-sunk-requires-in-Binary-2 t c =
    let sound = rw c.in-Binary.is at c.requires.sound in
    let some = rw c.in-Binary.is at c.requires.some in
    let few = rw c.in-Binary.is at c.requires.few in
    let same : c.into_inner-in-Binary-2.result ≡ c.in-Binary.second.value = c.into_inner-in-Binary-2.ensures in (
      omega (arith, c.decreases, ap depth_of c.in-Binary.is, ap depth_of same),
      subst CanSink (sym same)
          (settle-beside c.in-Binary.first.value c.in-Binary.second.value sound.1.1 sound.1.0 (sound.0, (some, few))),
    )

pub sunk-sunk-requires-in-Select : goal.sunk-sunk-requires-in-Select
sunk-sunk-requires-in-Select t c =
    let sound = rw c.in-Select.is at c.requires.sound in
    let some = rw c.in-Select.is at c.requires.some in
    let few = rw c.in-Select.is at c.requires.few in
    let same : c.into_inner-in-Select.result ≡ c.in-Select.first.value = c.into_inner-in-Select.ensures in (
      omega (arith, c.decreases, ap depth_of c.in-Select.is, ap depth_of same),
      subst CanSink (sym same) (sound.0, (some, few)),
    )

pub sunk-sunk-requires-in-Select-2 : goal.sunk-sunk-requires-in-Select-2
sunk-sunk-requires-in-Select-2 t c =
    let sound = rw c.in-Select.is at c.requires.sound in
    let some = rw c.in-Select.is at c.requires.some in
    let few = rw c.in-Select.is at c.requires.few in
    let same : c.into_inner-in-Select-2.result ≡ c.in-Select.second.value = c.into_inner-in-Select-2.ensures in (
      omega (arith, c.decreases, ap depth_of c.in-Select.is, ap depth_of same),
      subst CanSink (sym same)
          (settle-beside c.in-Select.first.value c.in-Select.second.value sound.1.0.1 sound.1.0.0 (sound.0, (some, few))),
    )

pub sunk-sunk-requires-in-Select-3 : goal.sunk-sunk-requires-in-Select-3
sunk-sunk-requires-in-Select-3 t c =
    let sound = rw c.in-Select.is at c.requires.sound in
    let some = rw c.in-Select.is at c.requires.some in
    let few = rw c.in-Select.is at c.requires.few in
    let same : c.into_inner-in-Select-3.result ≡ c.in-Select.third.value = c.into_inner-in-Select-3.ensures in (
      omega (arith, c.decreases, ap depth_of c.in-Select.is, ap depth_of same),
      subst CanSink (sym same)
          (settle-beside c.in-Select.first.value c.in-Select.third.value sound.1.1.1 sound.1.1.0 (sound.0, (some, few))),
    )

pub sunk-composed-requires : goal.sunk-composed-requires
sunk-composed-requires t c =
    let sound = rw c.in-View.is at c.requires.sound in
    let some = rw c.in-View.is at c.requires.some in
    let few = rw c.in-View.is at c.requires.few in
    let same : c.into_inner-in-View.result ≡ c.in-View.operand.value = c.into_inner-in-View.ensures in (
      omega (arith, c.decreases, ap depth_of c.in-View.is, ap depth_of same),
      rw (c.as_ref.ensures.start, c.as_ref.ensures.axes)
          (subst (λ z. CanCompose z c.in-View.view.start c.in-View.view.axes.items) (sym same)
          (sound.0, (sound.1.0, (some, (few, sound.1.1))))),
    )

pub sunk-sunk-requires-in-Interleaved : goal.sunk-sunk-requires-in-Interleaved
sunk-sunk-requires-in-Interleaved t c =
    let turns = c.in-Interleaved.turns in
    let a = c.in-Interleaved.first.value in
    let b = c.in-Interleaved.second.value in
    let sound = rw c.in-Interleaved.is at c.requires.sound in
    let some = rw c.in-Interleaved.is at c.requires.some in
    let few = rw c.in-Interleaved.is at c.requires.few in
    let parts = turns-some turns.first turns.second (count_of a) (count_of b) sound.1.1 some in
    let same : c.into_inner-in-Interleaved.result ≡ a = c.into_inner-in-Interleaved.ensures in (
      omega (arith, c.decreases, ap depth_of c.in-Interleaved.is, ap depth_of same),
      subst CanSink (sym same) (sound.0, (parts.0, first-few (count_of a) (count_of b) most_elements few)),
    )

pub sunk-sunk-requires-in-Interleaved-2 : goal.sunk-sunk-requires-in-Interleaved-2
sunk-sunk-requires-in-Interleaved-2 t c =
    let turns = c.in-Interleaved.turns in
    let a = c.in-Interleaved.first.value in
    let b = c.in-Interleaved.second.value in
    let sound = rw c.in-Interleaved.is at c.requires.sound in
    let some = rw c.in-Interleaved.is at c.requires.some in
    let few = rw c.in-Interleaved.is at c.requires.few in
    let parts = turns-some turns.first turns.second (count_of a) (count_of b) sound.1.1 some in
    let same : c.into_inner-in-Interleaved-2.result ≡ b = c.into_inner-in-Interleaved-2.ensures in (
      omega (arith, c.decreases, ap depth_of c.in-Interleaved.is, ap depth_of same),
      subst CanSink (sym same) (sound.1.0, (parts.1, second-few (count_of a) (count_of b) most_elements few)),
    )

-- and that what is made of the sunk operands follows the whole
pub sunk-chained-requires : goal.sunk-chained-requires
sunk-chained-requires t c =
    let x = c.in_ok-first-in-Binary.ensures in
    let y = c.in_ok-second-in-Binary.ensures in
    let sound = rw c.in-Binary.is at c.requires.sound in
    record {
      sound = x.sound;
      other = y.sound;
      same = y.count ∙ ap count_of c.into_inner-in-Binary-2.ensures ∙ sound.1.1
          ∙ sym (x.count ∙ ap count_of c.into_inner-in-Binary.ensures);
    }

pub sunk-all-requires : goal.sunk-all-requires
sunk-all-requires t c =
    let x = c.in_ok-first-in-Select.ensures in
    let y = c.in_ok-second-in-Select.ensures in
    let z = c.in_ok-third-in-Select.ensures in
    let sound = rw c.in-Select.is at c.requires.sound in
    let whole = sym (x.count ∙ ap count_of c.into_inner-in-Select.ensures) in
    record {
      first = x.sound;
      second = y.sound;
      third = z.sound;
      same_second = y.count ∙ ap count_of c.into_inner-in-Select-2.ensures ∙ sound.1.0.1 ∙ whole;
      same_third = z.count ∙ ap count_of c.into_inner-in-Select-3.ensures ∙ sound.1.1.1 ∙ whole;
    }

pub sunk-returns-in_ok-operand-in-Unary : goal.sunk-returns-in_ok-operand-in-Unary
sunk-returns-in_ok-operand-in-Unary t c =
    let a = c.in-Unary.operand.value in
    let x = c.in_ok-operand-in-Unary.operand in
    rw c.in-Unary.is
    (each-follows c.each.result c.in-Unary.operation x (count_of a) (meaning a)
    (follows-same x c.into_inner.result a c.into_inner.ensures c.in_ok-operand-in-Unary.ensures) c.each.ensures)

pub sunk-returns-in_ok-second-in-Binary : goal.sunk-returns-in_ok-second-in-Binary
sunk-returns-in_ok-second-in-Binary t c =
    let a = c.in-Binary.first.value in
    let b = c.in-Binary.second.value in
    let x = c.in_ok-first-in-Binary.first in
    let y = c.in_ok-second-in-Binary.second in
    let sound = rw c.in-Binary.is at c.requires.sound in
    rw c.in-Binary.is
    (both-follow c.chained.result c.in-Binary.link.operation c.in-Binary.link.swapped x y (count_of a) (meaning a) (meaning b)
    (follows-same x c.into_inner-in-Binary.result a c.into_inner-in-Binary.ensures c.in_ok-first-in-Binary.ensures)
    (follows-beside y (count_of b) (count_of a) (meaning b) sound.1.1
    (follows-same y c.into_inner-in-Binary-2.result b c.into_inner-in-Binary-2.ensures c.in_ok-second-in-Binary.ensures))
    c.chained.ensures)

pub sunk-returns-in_ok-third-in-Select : goal.sunk-returns-in_ok-third-in-Select
sunk-returns-in_ok-third-in-Select t c =
    let a = c.in-Select.first.value in
    let b = c.in-Select.second.value in
    let d = c.in-Select.third.value in
    let x = c.in_ok-first-in-Select.first in
    let y = c.in_ok-second-in-Select.second in
    let z = c.in_ok-third-in-Select.third in
    let sound = rw c.in-Select.is at c.requires.sound in
    rw c.in-Select.is
    (all-follow c.all.result c.in-Select.order x y z (count_of a) (meaning a) (meaning b) (meaning d)
    (follows-same x c.into_inner-in-Select.result a c.into_inner-in-Select.ensures c.in_ok-first-in-Select.ensures)
    (follows-beside y (count_of b) (count_of a) (meaning b) sound.1.0.1
    (follows-same y c.into_inner-in-Select-2.result b c.into_inner-in-Select-2.ensures c.in_ok-second-in-Select.ensures))
    (follows-beside z (count_of d) (count_of a) (meaning d) sound.1.1.1
    (follows-same z c.into_inner-in-Select-3.result d c.into_inner-in-Select-3.ensures c.in_ok-third-in-Select.ensures))
    c.all.ensures)

pub sunk-returns-in-View : goal.sunk-returns-in-View
sunk-returns-in-View t c =
    let axes = c.in-View.view.axes.items in
    let view = c.as_ref.result in
    rw c.in-View.is
    (subst (λ z. IfOk c.composed.result (λ r. Follows r (view_size axes) (meaning_along z c.in-View.view.start axes)))
    c.into_inner-in-View.ensures
    (subst (λ s. IfOk c.composed.result (λ r. Follows r (view_size axes) (meaning_along c.into_inner-in-View.result s axes)))
    c.as_ref.ensures.start
    (subst (λ l. IfOk c.composed.result (λ r. Follows r (view_size l) (meaning_along c.into_inner-in-View.result view.start l)))
    c.as_ref.ensures.axes c.composed.ensures)))

pub sunk-in_turns-requires : goal.sunk-in_turns-requires
sunk-in_turns-requires t c =
    let turns = c.in-Interleaved.turns in
    let x = c.in_ok-first-in-Interleaved.ensures in
    let y = c.in_ok-second-in-Interleaved.ensures in
    let sound = rw c.in-Interleaved.is at c.requires.sound in
    record {
      first = x.sound;
      second = y.sound;
      turns = subst (λ n. HaveTurns turns.first turns.second n (count_of c.in_ok-second-in-Interleaved.second))
          (sym (x.count ∙ ap count_of c.into_inner-in-Interleaved.ensures))
          (subst (λ n. HaveTurns turns.first turns.second (count_of c.in-Interleaved.first.value) n)
          (sym (y.count ∙ ap count_of c.into_inner-in-Interleaved-2.ensures)) sound.1.1);
    }

pub sunk-returns-in_ok-second-in-Interleaved : goal.sunk-returns-in_ok-second-in-Interleaved
sunk-returns-in_ok-second-in-Interleaved t c =
    let turns = c.in-Interleaved.turns in
    let a = c.in-Interleaved.first.value in
    let b = c.in-Interleaved.second.value in
    let x = c.in_ok-first-in-Interleaved.first in
    let y = c.in_ok-second-in-Interleaved.second in
    let sound = rw c.in-Interleaved.is at c.requires.sound in
    rw c.in-Interleaved.is
    (IfOk-weaker c.in_turns.result
    (λ r. Follows r (count_of x + count_of y) (interleaved turns.first turns.second (meaning x) (meaning y)))
    (λ r. Follows r (count_of a + count_of b) (interleaved turns.first turns.second (meaning a) (meaning b)))
    (λ r follows.
    follows-interleaved turns.first turns.second a b c.into_inner-in-Interleaved.result c.into_inner-in-Interleaved-2.result x y r sound.1.1
    c.into_inner-in-Interleaved.ensures c.into_inner-in-Interleaved-2.ensures
    c.in_ok-first-in-Interleaved.ensures c.in_ok-second-in-Interleaved.ensures follows)
    c.in_turns.ensures)

-- composed: in a file of its own
pub composed-composed-requires : goal.composed-composed-requires
composed-composed-requires = composed.composed-composed-requires

pub composed-composed-requires-in-Binary : goal.composed-composed-requires-in-Binary
composed-composed-requires-in-Binary = composed.composed-composed-requires-in-Binary

pub composed-composed-requires-in-Binary-2 : goal.composed-composed-requires-in-Binary-2
composed-composed-requires-in-Binary-2 = composed.composed-composed-requires-in-Binary-2

pub composed-composed-requires-in-Select : goal.composed-composed-requires-in-Select
composed-composed-requires-in-Select = composed.composed-composed-requires-in-Select

pub composed-composed-requires-in-Select-2 : goal.composed-composed-requires-in-Select-2
composed-composed-requires-in-Select-2 = composed.composed-composed-requires-in-Select-2

pub composed-composed-requires-in-Select-3 : goal.composed-composed-requires-in-Select-3
composed-composed-requires-in-Select-3 = composed.composed-composed-requires-in-Select-3

pub composed-chained-requires : goal.composed-chained-requires
composed-chained-requires = composed.composed-chained-requires

pub composed-all-requires : goal.composed-all-requires
composed-all-requires = composed.composed-all-requires

pub composed-returns-in_ok-operand-in-Unary : goal.composed-returns-in_ok-operand-in-Unary
composed-returns-in_ok-operand-in-Unary = composed.composed-returns-in_ok-operand-in-Unary

pub composed-returns-in_ok-second-in-Binary : goal.composed-returns-in_ok-second-in-Binary
composed-returns-in_ok-second-in-Binary = composed.composed-returns-in_ok-second-in-Binary

pub composed-returns-in_ok-third-in-Select : goal.composed-returns-in_ok-third-in-Select
composed-returns-in_ok-third-in-Select = composed.composed-returns-in_ok-third-in-Select

pub composed-then-requires : goal.composed-then-requires
composed-then-requires = composed.composed-then-requires

pub composed-composed-requires-in-Some : goal.composed-composed-requires-in-Some
composed-composed-requires-in-Some = composed.composed-composed-requires-in-Some

pub composed-returns-in-Some : goal.composed-returns-in-Some
composed-returns-in-Some = composed.composed-returns-in-Some

pub composed-sunk-requires : goal.composed-sunk-requires
composed-sunk-requires = composed.composed-sunk-requires

pub composed-view_over-requires : goal.composed-view_over-requires
composed-view_over-requires = composed.composed-view_over-requires

pub composed-view_along-requires : goal.composed-view_along-requires
composed-view_along-requires = composed.composed-view_along-requires

pub composed-returns-in_ok-inner-in-View : goal.composed-returns-in_ok-inner-in-View
composed-returns-in_ok-inner-in-View = composed.composed-returns-in_ok-inner-in-View

pub composed-sunk-requires-in-Interleaved : goal.composed-sunk-requires-in-Interleaved
composed-sunk-requires-in-Interleaved = composed.composed-sunk-requires-in-Interleaved

pub composed-sunk-requires-in-Interleaved-2 : goal.composed-sunk-requires-in-Interleaved-2
composed-sunk-requires-in-Interleaved-2 = composed.composed-sunk-requires-in-Interleaved-2

pub composed-in_turns-requires : goal.composed-in_turns-requires
composed-in_turns-requires = composed.composed-in_turns-requires

pub composed-view_along-requires-in-Interleaved : goal.composed-view_along-requires-in-Interleaved
composed-view_along-requires-in-Interleaved = composed.composed-view_along-requires-in-Interleaved

pub composed-returns-in_ok-interleaving-in-Interleaved : goal.composed-returns-in_ok-interleaving-in-Interleaved
composed-returns-in_ok-interleaving-in-Interleaved = composed.composed-returns-in_ok-interleaving-in-Interleaved

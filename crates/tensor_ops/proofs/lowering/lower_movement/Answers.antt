use Rattle.std.proofs.Common.{◌≡◌, ◌<◌, pos, length, vec_len, refl, ap, subst, sym, ◌∙◌, arith}
use Rattle.tensor_shape.specs.Index.{size_of}
use Rattle.tensor_views.specs.Axes.{HasRank, axes_from}
use Rattle.tensor_views.specs.Moved.{IsMovedView}
use Rattle.tensor_terms.specs.Movement.{moved}
use Rattle.tensor_ops.specs.private.Lowering.{IsView, meaning_at}
use Rattle.tensor_terms.specs.Tree.{movement_at}
use Rattle.tensor_ops.specs.declared.lowered.Lowered.TheVariants.{Filled, View}
use Rattle.tensor_views.proofs.Moves.{has_rank-moved, index-moved}
use Rattle.tensor_ops.proofs.Lowerings.{gives-none, gives-index, gives-other, gives-reshape, gives-view, moved_start-few, some-of, view-whole}
use Rattle.tensor_ops.proofs.lowering.lower_movement.Goals as goal

pub returns-then-count-eq0 : goal.returns-then-count-eq0
returns-then-count-eq0 c = record {
  dims = sym c.moved_dims.ensures ∙ c.unwrap-dims.ensures;
  lowered = gives-none (Filled (pos 0) 0) c.unwrap-dims.result
      (λ index. meaning_at c.args.operand.lowered c.args.operand.dims (moved (movement_at c.args.movement) c.args.operand.dims index))
      tt refl (sym c.size-count.ensures.value ∙ c.if-count-eq0.true);
}

pub returns-in-Reshape : goal.returns-in-Reshape
returns-in-Reshape c = record {
  dims = sym c.moved_dims.ensures ∙ c.unwrap-dims.ensures;
  lowered = rw c.in-Reshape.is
      (gives-reshape c.in-Reshape.field-0.now c.args.operand.dims c.unwrap-dims.result c.args.operand.lowered
      c.requires.sound c.requires.count (rw c.in-Reshape.is at (sym c.moved_dims.ensures ∙ c.unwrap-dims.ensures)));
}

pub stored-requires : goal.stored-requires
stored-requires c = record { sound = c.requires.sound; count = c.requires.count }

pub moved-requires : goal.moved-requires
moved-requires c =
    let m = movement_at c.args.movement in
    let ds = c.args.operand.dims in
    let rs = c.unwrap-dims.result in
    let inner = c.in_ok-inner.inner in
    let whole = c.in_ok-whole.ensures in
    let is_rs = sym c.moved_dims.ensures ∙ c.unwrap-dims.ensures in
    let view = view-whole inner ds c.in_ok-inner.ensures.sound c.in_ok-inner.ensures.count whole.few in
    let some : 0 < size_of rs = some-of c.size-count.ensures.value c.if-count-eq0.false in
    let short = rw whole.axes at whole.short in
    let seen = c.in_ok-whole.whole.axes in
    let long : length (axes_from 1 ds) ≡ vec_len seen = omega (arith, ap length whole.axes, seen.ok.0) in
    rw (whole.start, whole.axes) (record {
      rank = subst (HasRank m) long (has_rank-moved (axes_from 1 ds) ds rs view.along m is_rs);
      fits = moved_start-few m inner inner 0 (axes_from 1 ds) ds rs view is_rs some;
      short = short;
    })

pub returns : goal.returns
returns c =
    let m = movement_at c.args.movement in
    let ds = c.args.operand.dims in
    let rs = c.unwrap-dims.result in
    let inner = c.in_ok-inner.inner in
    let boxed = c.in_ok-lowered.lowered in
    let view = c.in_ok-view.view in
    let of_dims = c.in_ok-whole.ensures in
    let is_rs = sym c.moved_dims.ensures ∙ c.unwrap-dims.ensures in
    let is : IsView boxed.value 0 (axes_from 1 ds) inner ds =
    rw c.in_ok-lowered.ensures.ok
    (view-whole inner ds c.in_ok-inner.ensures.sound c.in_ok-inner.ensures.count of_dims.few) in
    let whole = View view boxed in
    let moved_view : IsMovedView m ds rs 0 (axes_from 1 ds) view.start view.axes.items =
    rw (of_dims.start, of_dims.axes) at c.in_ok-view.ensures ds rs is.along is_rs in
    let seen = gives-view m boxed.value inner whole 0 view.start (axes_from 1 ds) view.axes.items ds rs is is_rs
    moved_view (λ p. refl) refl (λ sound few reaches. (sound, (few, reaches))) in
    record {
      dims = is_rs;
      lowered = gives-other whole rs (λ index. meaning_at inner ds (moved m ds index))
          (λ index. meaning_at c.args.operand.lowered ds (moved m ds index)) seen
          (λ index is_index. gives-index inner ds (meaning_at c.args.operand.lowered ds) (moved m ds index) c.in_ok-inner.ensures
          (index-moved (axes_from 1 ds) ds rs is.along m index is_rs is_index));
    }

use Rattle.std.proofs.Common.{◌≡◌, ℕ, List, length, IsOk, refl, ap, sym, subst, ◌∙◌}
use Rattle.std.specs.List.{range_with_len}
use Rattle.tensor_shape.specs.Legal.{widest}
use Rattle.tensor_terms.specs.Movement.{moved, moved_dims}
use Rattle.tensor_ops.specs.private.Lowering.{meaning_at}
use Rattle.tensor_terms.specs.Term.{shuffle}
use Rattle.tensor_terms.proofs.Dropped.{axes_first}
use Rattle.tensor_ops.proofs.PartValues.{in-order, dims-in-order}
use Rattle.tensor_ops.proofs.Lowerings.{gives-itself, gives-other}
use Rattle.tensor_terms.proofs.TwoParts.{shuffle-first}
use Rattle.tensor_ops.proofs.part_evaluator.value_runs.with_axes_first.Goals as goal

pub returns-then-come_first-clause-dims : goal.returns-then-come_first-clause-dims
returns-then-come_first-clause-dims c =
    let axes : List ℕ = c.args.axes.now in
    dims-in-order axes c.args.operand.dims c.requires.axes
    (subst (λ n. axes_first axes n ≡ range_with_len 0 n) c.rank.ensures.value
    (c.come_first.ensures.0 c.if-come_first.true))

pub returns-then-come_first-clause-lowered : goal.returns-then-come_first-clause-lowered
returns-then-come_first-clause-lowered c =
    let axes : List ℕ = c.args.axes.now in
    let ds : List ℕ = c.args.operand.dims in
    let lowered = c.args.operand.lowered in
    let first : axes_first axes (length ds) ≡ range_with_len 0 (length ds) =
    subst (λ n. axes_first axes n ≡ range_with_len 0 n) c.rank.ensures.value
    (c.come_first.ensures.0 c.if-come_first.true) in
    gives-other lowered ds (meaning_at lowered ds)
    (λ index. meaning_at lowered ds (moved (shuffle (axes_first axes (length ds))) ds index))
    (gives-itself lowered ds c.requires.sound c.requires.count)
    (λ index within.
    ap (meaning_at lowered ds) (sym (in-order axes ds c.requires.axes first index within)))

pub lower_movement-requires-clause-dims : goal.lower_movement-requires-clause-dims
lower_movement-requires-clause-dims c =
    let axes : List ℕ = c.args.axes.now in
    let ds : List ℕ = c.args.operand.dims in
    let all : c.as_slice.result.now ≡ axes_first axes (length ds) =
    c.as_slice.ensures.value ∙ c.axes_first-order.ensures
    ∙ ap (λ n. axes_first axes n) c.rank-2.ensures.value in
    subst (λ l. IsOk (moved_dims widest (shuffle l) ds)) (sym all)
    (subst (λ r. IsOk r) (sym (shuffle-first axes ds c.requires.axes)) refl)

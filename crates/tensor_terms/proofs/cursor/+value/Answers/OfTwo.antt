-- What is asked of the operands of contractions, convolutions, concatenations and pads, and what comes of
-- them.
use Rattle.std.proofs.Common.{true, false, List, ℕ, ℤ, ◌+◌, take, ◌∷◌, ◌++◌}
use Rattle.std.proofs.Common.{◌≡◌, ◌<◌, ◌+ℤ◌, ap}
use Rattle.std.proofs.Common.{sym, ◌∙◌, rules, arith}
use Rattle.std.proofs.lemmas.Int.{to_z-of_z}
use Rattle.std.specs.Int.{w64}
use Rattle.std.specs.Prelude.{FitsSigned}
use mir.Val.{SFits, to_z}
use Rattle.tensor_shape.specs.Legal.{widest}
use Rattle.tensor_shape.specs.Index.{size_of, place, index_of}
use Rattle.tensor_terms.specs.Concatenation.{concatenated_dims}
use Rattle.tensor_terms.specs.Padding.{padded_dims, is_inside, moved_back}
use Rattle.tensor_values.specs.Interleaving.{is_of_first}
use Rattle.tensor_shape.specs.Wrap.{wrap}
use Rattle.tensor_terms.specs.Result.{dims_of, shape_of}
use Rattle.tensor_terms.specs.Term.{Term}
use Rattle.tensor_terms.specs.Tree.{term_of}
use Rattle.tensor_terms.specs.Value.{value_of_place}
use Rattle.tensor_terms.proofs.ConvolvedTerms.{convolved-known, WindowOver, window_index-outer, window_index-init}
use Rattle.tensor_terms.proofs.ConvolvedTerms.{window_index-next, window_index-last}
use Rattle.tensor_values.proofs.InTurns.{interleaved-first, interleaved-second}
use Rattle.tensor_terms.proofs.InterleavedTerms.{concat-dims, places-concat, value_of_place-concat, value_of_place-pad}
use Rattle.tensor_terms.proofs.Shapes.{with_two-known}
use Rattle.tensor_terms.proofs.Terms.{summed-inside, summed-init, summed-next, summed-last}
use Rattle.tensor_terms.proofs.cursor.+value.Goals as goal

pub contracted_at-nonzero_rem-place : goal.contracted_at-nonzero_rem-place
contracted_at-nonzero_rem-place t c =
    (summed-inside _ _ _ _ c.requires.dims _ _ _ c.of-pairing.ensures c.loop-inner-test.true
    c.requires.below).some

pub contracted_at-nonzero_div-place : goal.contracted_at-nonzero_div-place
contracted_at-nonzero_div-place t c =
    (summed-inside _ _ _ _ c.requires.dims _ _ _ c.of-pairing.ensures c.loop-inner-test.true
    c.requires.below).some

pub contracted_at-merged_place-left-requires : goal.contracted_at-merged_place-left-requires
contracted_at-merged_place-left-requires t c =
    let inside = summed-inside _ _ _ _ c.requires.dims _ _ _ c.of-pairing.ensures
    c.loop-inner-test.true c.requires.below in
    rw c.as_slice-firsts.ensures.value
    (record { axes = inside.axes_left; inner = inside.inner_left; outer = inside.outer_left })

pub contracted_at-merged_place-right-requires : goal.contracted_at-merged_place-right-requires
contracted_at-merged_place-right-requires t c =
    let inside = summed-inside _ _ _ _ c.requires.dims _ _ _ c.of-pairing.ensures
    c.loop-inner-test.true c.requires.below in
    rw c.as_slice-seconds.ensures.value
    (record { axes = inside.axes_right; inner = inside.inner_right; outer = inside.outer_right })

pub contracted_at-loop-inner-init : goal.contracted_at-loop-inner-init
contracted_at-loop-inner-init t c =
    summed-init _ _ _ _ c.requires.dims _ c.args.place c.of-pairing.ensures

pub contracted_at-loop-inner-preserved : goal.contracted_at-loop-inner-preserved
contracted_at-loop-inner-preserved t c =
    let fits_x : SFits w64 c.value_at-x.result = search rules in
    let fits_y : SFits w64 c.value_at-y.result = search rules in
    let fits_product : SFits w64 c.combined.result = search rules in
    let fits : SFits w64 c.combined-value.result = search rules in
    summed-next _ _ _ _ c.requires.dims _ _ _ _ _ _ _ _ _ c.of-pairing.ensures
    c.loop-inner-test.true c.requires.below
    (rw c.as_slice-firsts.ensures.value at c.merged_place-left.ensures.value)
    (rw c.as_slice-seconds.ensures.value at c.merged_place-right.ensures.value)
    (to_z-of_z w64 c.value_at-x.result fits_x ∙ c.value_at-x.ensures)
    (to_z-of_z w64 c.value_at-y.result fits_y ∙ c.value_at-y.ensures)
    (to_z-of_z w64 c.combined-value.result fits ∙ c.combined-value.ensures
    ∙ ap (λ z. wrap (to_z w64 c.loop-inner.value-bits +ℤ z))
    (to_z-of_z w64 c.combined.result fits_product ∙ c.combined.ensures))
    c.loop-inner.invariant

pub contracted_at-returns : goal.contracted_at-returns
contracted_at-returns t c =
    let fits : FitsSigned w64 (to_z w64 c.loop-inner.value-bits) = search rules in
    summed-last c.args.inputs.now.tensors c.args.pairs.now (term_of c.args.a.now) (term_of c.args.b.now)
    (to_z w64 c.loop-inner.value-bits)
    c.loop-inner.inner _ c.args.place fits (omega arith) c.loop-inner.invariant

pub convolved_at-unwrap-window_index-requires : goal.convolved_at-unwrap-window_index-requires
convolved_at-unwrap-window_index-requires t c =
    let known = convolved-known c.args.inputs.now.tensors c.args.axes.now (term_of c.args.a.now)
    (term_of c.args.b.now) c.requires.dims in
    let found = rw (c.known_dims-dims.ensures, c.known_dims-kernel.ensures, known.dims)
    at c.convolved_dims.ensures in
    (cc)

pub convolved_at-window_place-read-requires-clause-outer :
    goal.convolved_at-window_place-read-requires-clause-outer
convolved_at-window_place-read-requires-clause-outer t c =
    let over : WindowOver c.args.inputs.now.tensors c.args.axes.now (term_of c.args.a.now)
    (term_of c.args.b.now) c.known_dims-dims.result c.known_dims-kernel.result c.unwrap-window_index.result
    c.size-inner-end.result =
    record {
      operand = c.known_dims-dims.ensures;
      kernel = c.known_dims-kernel.ensures;
      dims = sym c.convolved_dims.ensures ∙ c.unwrap-window_index.ensures;
      whole = c.size-inner-end.ensures.value;
    } in
    window_index-outer _ _ _ _ c.requires.dims _ _ _ _ c.args.place over c.requires.below

pub convolved_at-loop-inner-init : goal.convolved_at-loop-inner-init
convolved_at-loop-inner-init t c =
    let over : WindowOver c.args.inputs.now.tensors c.args.axes.now (term_of c.args.a.now)
    (term_of c.args.b.now) c.known_dims-dims.result c.known_dims-kernel.result c.unwrap-window_index.result
    c.size-inner-end.result =
    record {
      operand = c.known_dims-dims.ensures;
      kernel = c.known_dims-kernel.ensures;
      dims = sym c.convolved_dims.ensures ∙ c.unwrap-window_index.ensures;
      whole = c.size-inner-end.ensures.value;
    } in
    window_index-init _ _ _ _ _ _ _ _ c.args.place over

pub convolved_at-loop-inner-preserved : goal.convolved_at-loop-inner-preserved
convolved_at-loop-inner-preserved t c =
    let fits_x : SFits w64 c.value_at-x.result = search rules in
    let fits_y : SFits w64 c.value_at-y.result = search rules in
    let fits_product : SFits w64 c.combined.result = search rules in
    let fits : SFits w64 c.combined-value.result = search rules in
    let over : WindowOver c.args.inputs.now.tensors c.args.axes.now (term_of c.args.a.now)
    (term_of c.args.b.now) c.known_dims-dims.result c.known_dims-kernel.result c.unwrap-window_index.result
    c.size-inner-end.result =
    record {
      operand = c.known_dims-dims.ensures;
      kernel = c.known_dims-kernel.ensures;
      dims = sym c.convolved_dims.ensures ∙ c.unwrap-window_index.ensures;
      whole = c.size-inner-end.ensures.value;
    } in
    window_index-next _ _ _ _ c.requires.dims _ _ _ _ _ _ _ _ _ _ _ over c.loop-inner-test.true
    c.requires.below c.window_place-read.ensures.value
    (to_z-of_z w64 c.value_at-x.result fits_x ∙ c.value_at-x.ensures)
    (to_z-of_z w64 c.value_at-y.result fits_y ∙ c.value_at-y.ensures)
    (to_z-of_z w64 c.combined-value.result fits ∙ c.combined-value.ensures
    ∙ ap (λ z. wrap (to_z w64 c.loop-inner.value-bits +ℤ z))
    (to_z-of_z w64 c.combined.result fits_product ∙ c.combined.ensures))
    c.loop-inner.invariant

pub convolved_at-returns : goal.convolved_at-returns
convolved_at-returns t c =
    let fits : FitsSigned w64 (to_z w64 c.loop-inner.value-bits) = search rules in
    window_index-last c.args.inputs.now.tensors c.args.axes.now (term_of c.args.a.now)
    (term_of c.args.b.now) (to_z w64 c.loop-inner.value-bits) c.loop-inner.inner _ c.args.place
    fits (omega arith) c.loop-inner.invariant

pub concatenated_at-turns_along-turns-requires-clause-dims : goal.concatenated_at-turns_along-turns-requires-clause-dims
concatenated_at-turns_along-turns-requires-clause-dims t c =
    rw (c.known_dims.ensures, c.known_dims-2.ensures)
    (concat-dims c.args.inputs.now.tensors c.args.axis (term_of c.args.a.now) (term_of c.args.b.now) c.requires.dims).0

pub concatenated_at-value_at-requires : goal.concatenated_at-value_at-requires
concatenated_at-value_at-requires t c =
    let inputs = c.args.inputs.now.tensors in
    let a : Term = term_of c.args.a.now in
    let b : Term = term_of c.args.b.now in
    let turns = c.turns_along-turns.result in
    let first : turns.first ≡ size_of (take (c.args.axis + 1) (shape_of a inputs)) =
    c.turns_along-turns.ensures.first ∙ ap (λ l. size_of (take (c.args.axis + 1) l)) c.known_dims.ensures in
    let second : turns.second ≡ size_of (take (c.args.axis + 1) (shape_of b inputs)) =
    c.turns_along-turns.ensures.second ∙ ap (λ l. size_of (take (c.args.axis + 1) l)) c.known_dims-2.ensures in
    let places = places-concat inputs c.args.axis a b c.requires.dims turns.first turns.second c.args.place first second c.requires.below in
    let known = with_two-known (concatenated_dims widest c.args.axis) (dims_of widest a inputs) (dims_of widest b inputs) c.requires.dims in (
      omega (arith, c.decreases),
      (c.requires.inputs_a, (known.0, rw c.firsts_before.ensures (places.0 (sym c.is_of_first.ensures ∙ c.if-is_of_first.true)))),
    )

pub concatenated_at-value_at-requires-else-is_of_first : goal.concatenated_at-value_at-requires-else-is_of_first
concatenated_at-value_at-requires-else-is_of_first t c =
    let inputs = c.args.inputs.now.tensors in
    let a : Term = term_of c.args.a.now in
    let b : Term = term_of c.args.b.now in
    let turns = c.turns_along-turns.result in
    let first : turns.first ≡ size_of (take (c.args.axis + 1) (shape_of a inputs)) =
    c.turns_along-turns.ensures.first ∙ ap (λ l. size_of (take (c.args.axis + 1) l)) c.known_dims.ensures in
    let second : turns.second ≡ size_of (take (c.args.axis + 1) (shape_of b inputs)) =
    c.turns_along-turns.ensures.second ∙ ap (λ l. size_of (take (c.args.axis + 1) l)) c.known_dims-2.ensures in
    let places = places-concat inputs c.args.axis a b c.requires.dims turns.first turns.second c.args.place first second c.requires.below in
    let known = with_two-known (concatenated_dims widest c.args.axis) (dims_of widest a inputs) (dims_of widest b inputs) c.requires.dims in (
      omega (arith, c.decreases),
      (c.requires.inputs_b, (known.1, rw c.seconds_before.ensures (places.1 (sym c.is_of_first.ensures ∙ c.if-is_of_first.false)))),
    )

pub concatenated_at-returns-then-is_of_first : goal.concatenated_at-returns-then-is_of_first
concatenated_at-returns-then-is_of_first t c =
    let inputs = c.args.inputs.now.tensors in
    let a : Term = term_of c.args.a.now in
    let b : Term = term_of c.args.b.now in
    let turns = c.turns_along-turns.result in
    let first : turns.first ≡ size_of (take (c.args.axis + 1) (shape_of a inputs)) =
    c.turns_along-turns.ensures.first ∙ ap (λ l. size_of (take (c.args.axis + 1) l)) c.known_dims.ensures in
    let second : turns.second ≡ size_of (take (c.args.axis + 1) (shape_of b inputs)) =
    c.turns_along-turns.ensures.second ∙ ap (λ l. size_of (take (c.args.axis + 1) l)) c.known_dims-2.ensures in
    let is_first : is_of_first turns.first turns.second c.args.place ≡ true = sym c.is_of_first.ensures ∙ c.if-is_of_first.true in
    let fits : SFits w64 c.value_at.result = search rules in
    to_z-of_z w64 c.value_at.result fits ∙ c.value_at.ensures ∙ ap (value_of_place a inputs) c.firsts_before.ensures
    ∙ interleaved-first turns.first turns.second (value_of_place a inputs) (value_of_place b inputs) c.args.place is_first
    ∙ sym (value_of_place-concat inputs c.args.axis a b c.requires.dims turns.first turns.second c.args.place first second c.requires.below)

pub concatenated_at-returns-else-is_of_first : goal.concatenated_at-returns-else-is_of_first
concatenated_at-returns-else-is_of_first t c =
    let inputs = c.args.inputs.now.tensors in
    let a : Term = term_of c.args.a.now in
    let b : Term = term_of c.args.b.now in
    let turns = c.turns_along-turns.result in
    let first : turns.first ≡ size_of (take (c.args.axis + 1) (shape_of a inputs)) =
    c.turns_along-turns.ensures.first ∙ ap (λ l. size_of (take (c.args.axis + 1) l)) c.known_dims.ensures in
    let second : turns.second ≡ size_of (take (c.args.axis + 1) (shape_of b inputs)) =
    c.turns_along-turns.ensures.second ∙ ap (λ l. size_of (take (c.args.axis + 1) l)) c.known_dims-2.ensures in
    let is_second : is_of_first turns.first turns.second c.args.place ≡ false = sym c.is_of_first.ensures ∙ c.if-is_of_first.false in
    let fits : SFits w64 c.value_at-else-is_of_first.result = search rules in
    to_z-of_z w64 c.value_at-else-is_of_first.result fits ∙ c.value_at-else-is_of_first.ensures ∙ ap (value_of_place b inputs) c.seconds_before.ensures
    ∙ interleaved-second turns.first turns.second (value_of_place a inputs) (value_of_place b inputs) c.args.place is_second
    ∙ sym (value_of_place-concat inputs c.args.axis a b c.requires.dims turns.first turns.second c.args.place first second c.requires.below)

pub padded_at-returns-in-Some : goal.padded_at-returns-in-Some
padded_at-returns-in-Some t c =
    let inputs = c.args.inputs.now.tensors in
    let a : Term = term_of c.args.a.now in
    let ds : List ℕ = shape_of a inputs in
    let ps = c.args.pairs.now in
    let same = c.known_dims.ensures in
    let inside : is_inside ps ds (index_of (padded_dims ps ds) c.args.place) ≡ true =
    ap (λ l. is_inside ps l (index_of (padded_dims ps l) c.args.place)) (sym same) ∙ c.in-Some.ensures.inside in
    let read : c.in-Some.read ≡ place ds (moved_back ps (index_of (padded_dims ps ds) c.args.place)) =
    c.in-Some.ensures.value ∙ ap (λ l. place l (moved_back ps (index_of (padded_dims ps l) c.args.place))) same in
    let fits : SFits w64 c.value_at.result = search rules in
    to_z-of_z w64 c.value_at.result fits ∙ c.value_at.ensures
    ∙ sym (value_of_place-pad inputs ps a c.requires.dims c.args.place c.requires.below c.in-Some.read inside read)

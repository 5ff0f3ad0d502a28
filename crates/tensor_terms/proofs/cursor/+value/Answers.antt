mod Along
mod OfTwo
use Rattle.std.proofs.Common.{true, ◌+◌, ◌∷◌, ◌++◌}
use Rattle.std.proofs.Common.{◌≡◌, ◌<◌, pos, get_or, length, ◌+ℤ◌, IsOk, ap, subst}
use Rattle.std.proofs.Common.{sym, ◌∙◌, rules, arith}
use Rattle.std.proofs.lemmas.Int.{to_z-of_z}
use Rattle.std.proofs.lemmas.Bool.{and_parts}
use Rattle.std.specs.Int.{w64}
use mir.Val.{SFits, to_z}
use Rattle.tensor_shape.specs.Legal.{widest}
use Rattle.tensor_shape.specs.Index.{size_of, place}
use Rattle.tensor_terms.specs.Result.{dims_of, shape_of}
use Rattle.tensor_terms.specs.Term.{Term, unary, binary, Movement, movement, pad, concat}
use Rattle.tensor_terms.specs.Term.{along, contract, convolve, reduce, taking, has_inputs, nodes_of}
use Rattle.tensor_terms.specs.Tree.{term_of, movement_at, unary_at, binary_at}
use Rattle.tensor_terms.specs.Value.{value_of_place}
use Rattle.tensor_terms.specs.Merged.{other_dims}
use Rattle.tensor_terms.proofs.Dropped.{other_dims-among}
use Rattle.tensor_terms.proofs.OtherAxes.{are_axes-among}
use Rattle.tensor_terms.proofs.Shapes.{place_read, value_of_place-input, value_of_place-movement}
use Rattle.tensor_terms.proofs.Terms.{reduced-known, ReducedOver, reduced-init, reduced-next}
use Rattle.tensor_terms.proofs.Terms.{reduced-last}
use Rattle.tensor_terms.proofs.cursor.+value.Answers.Along as lined
use Rattle.tensor_terms.proofs.cursor.+value.Answers.OfTwo as of_two
use Rattle.tensor_terms.proofs.cursor.+value.Goals as goal

pub value_at-reduced_at-requires : goal.value_at-reduced_at-requires
value_at-reduced_at-requires t c =
    let arm = c.in-Unary-Reduce-default in
    let node : unary (reduce arm.reducer arm.axes.now) (term_of arm.a.now) ≡ term_of c.args.expr.now
    =
    ap (λ o. unary (unary_at o) (term_of arm.a.now)) (sym arm.field-0-is) ∙ arm.ensures in (
      omega (arith, c.decreases, ap nodes_of node),
      (
        rw (← node) at c.requires.inputs,
        (rw (← node) at c.requires.dims, rw (← node) at c.requires.below),
      ),
    )

pub value_at-padded_at-requires : goal.value_at-padded_at-requires
value_at-padded_at-requires t c =
    let arm = c.in-Unary-Pad-default in
    let node : unary (pad arm.pairs.now) (term_of arm.a.now) ≡ term_of c.args.expr.now =
    ap (λ o. unary (unary_at o) (term_of arm.a.now)) (sym arm.field-0-is) ∙ arm.ensures in (
      omega (arith, c.decreases, ap nodes_of node),
      (
        rw (← node) at c.requires.inputs,
        (rw (← node) at c.requires.dims, rw (← node) at c.requires.below),
      ),
    )

pub value_at-concatenated_at-requires : goal.value_at-concatenated_at-requires
value_at-concatenated_at-requires t c =
    let arm = c.in-Binary-Concat-default-default in
    let node : binary (concat arm.axis) (term_of arm.a.now) (term_of arm.b.now)
    ≡ term_of c.args.expr.now =
    ap (λ o. binary (binary_at o) (term_of arm.a.now) (term_of arm.b.now)) (sym arm.field-0-is)
    ∙ arm.ensures in
    let inputs = and_parts (has_inputs (term_of arm.a.now) (length c.args.inputs.now.tensors)) _
    (rw (← node) at c.requires.inputs) in (
      omega (arith, c.decreases, ap nodes_of node),
      (
        inputs.0,
        (inputs.1, (rw (← node) at c.requires.dims, rw (← node) at c.requires.below)),
      ),
    )

pub value_at-contracted_at-requires : goal.value_at-contracted_at-requires
value_at-contracted_at-requires t c =
    let arm = c.in-Binary-Contract-default-default in
    let node : binary (contract arm.pairs.now) (term_of arm.a.now) (term_of arm.b.now)
    ≡ term_of c.args.expr.now =
    ap (λ o. binary (binary_at o) (term_of arm.a.now) (term_of arm.b.now)) (sym arm.field-0-is)
    ∙ arm.ensures in
    let inputs = and_parts (has_inputs (term_of arm.a.now) (length c.args.inputs.now.tensors)) _
    (rw (← node) at c.requires.inputs) in (
      omega (arith, c.decreases, ap nodes_of node),
      (
        inputs.0,
        (inputs.1, (rw (← node) at c.requires.dims, rw (← node) at c.requires.below)),
      ),
    )

pub value_at-convolved_at-requires : goal.value_at-convolved_at-requires
value_at-convolved_at-requires t c =
    let arm = c.in-Binary-Convolve-default-default in
    let node : binary (convolve arm.axes.now) (term_of arm.a.now) (term_of arm.b.now)
    ≡ term_of c.args.expr.now =
    ap (λ o. binary (binary_at o) (term_of arm.a.now) (term_of arm.b.now)) (sym arm.field-0-is)
    ∙ arm.ensures in
    let inputs = and_parts (has_inputs (term_of arm.a.now) (length c.args.inputs.now.tensors)) _
    (rw (← node) at c.requires.inputs) in (
      omega (arith, c.decreases, ap nodes_of node),
      (
        inputs.0,
        (inputs.1, (rw (← node) at c.requires.dims, rw (← node) at c.requires.below)),
      ),
    )

pub value_at-returns-in-Unary-Reduce-default : goal.value_at-returns-in-Unary-Reduce-default
value_at-returns-in-Unary-Reduce-default t c =
    let arm = c.in-Unary-Reduce-default in
    let node : unary (reduce arm.reducer arm.axes.now) (term_of arm.a.now) ≡ term_of c.args.expr.now
    =
    ap (λ o. unary (unary_at o) (term_of arm.a.now)) (sym arm.field-0-is) ∙ arm.ensures in
    let fits : SFits w64 c.reduced_at.result = search rules in
    rw (← node) (to_z-of_z w64 c.reduced_at.result fits ∙ c.reduced_at.ensures)

pub value_at-returns-in-Input : goal.value_at-returns-in-Input
value_at-returns-in-Input t c =
    let below = rw (← c.in-Input.ensures) at c.requires.below in
    let v = value_of_place-input c.args.inputs.now.tensors c.in-Input.number c.args.place below in
    let fits : SFits w64 (get_or c.values.result.now c.args.place (pos 0)) = search rules in
    rw (← c.in-Input.ensures, v)
    (to_z-of_z w64 (get_or c.values.result.now c.args.place (pos 0)) fits
    ∙ ap (λ xs. get_or xs c.args.place (pos 0)) (c.values.ensures.value
    ∙ ap (λ x. x.values) c.get.ensures))

pub value_at-returns-in-Unary-Move-default : goal.value_at-returns-in-Unary-Move-default
value_at-returns-in-Unary-Move-default t c =
    let m : Movement = movement_at c.in-Unary-Move-default.movement in
    let a : Term = term_of c.in-Unary-Move-default.a.now in
    let node : unary (movement m) a ≡ term_of c.args.expr.now =
    ap (λ o. unary (unary_at o) a) (sym c.in-Unary-Move-default.field-0-is)
    ∙ c.in-Unary-Move-default.ensures in
    let has_dims : IsOk (dims_of widest (unary (movement m) a) c.args.inputs.now.tensors) =
    subst (λ e. IsOk (dims_of widest e c.args.inputs.now.tensors)) (sym node) c.requires.dims in
    let below : c.args.place < size_of (shape_of (unary (movement m) a) c.args.inputs.now.tensors) =
    subst (λ e. c.args.place < size_of (shape_of e c.args.inputs.now.tensors))
    (sym node) c.requires.below in
    let v = value_of_place-movement c.args.inputs.now.tensors m a c.args.place has_dims below in
    let fits : SFits w64 c.value_at-in-Unary-Move-default.result = search rules in
    rw (← node)
    (to_z-of_z w64 c.value_at-in-Unary-Move-default.result fits
    ∙ c.value_at-in-Unary-Move-default.ensures
    ∙ ap (value_of_place a c.args.inputs.now.tensors)
    (c.moved_place-read.ensures.value
    ∙ ap (λ ds. place_read m ds c.args.place) c.known_dims.ensures)
    ∙ sym v)

pub value_at-returns-in-Binary-Contract-default-default :
    goal.value_at-returns-in-Binary-Contract-default-default
value_at-returns-in-Binary-Contract-default-default t c =
    let arm = c.in-Binary-Contract-default-default in
    let node : binary (contract arm.pairs.now) (term_of arm.a.now) (term_of arm.b.now)
    ≡ term_of c.args.expr.now =
    ap (λ o. binary (binary_at o) (term_of arm.a.now) (term_of arm.b.now)) (sym arm.field-0-is)
    ∙ arm.ensures in
    let fits : SFits w64 c.contracted_at.result = search rules in
    rw (← node) (to_z-of_z w64 c.contracted_at.result fits ∙ c.contracted_at.ensures)

pub value_at-returns-in-Binary-Convolve-default-default :
    goal.value_at-returns-in-Binary-Convolve-default-default
value_at-returns-in-Binary-Convolve-default-default t c =
    let arm = c.in-Binary-Convolve-default-default in
    let node : binary (convolve arm.axes.now) (term_of arm.a.now) (term_of arm.b.now)
    ≡ term_of c.args.expr.now =
    ap (λ o. binary (binary_at o) (term_of arm.a.now) (term_of arm.b.now)) (sym arm.field-0-is)
    ∙ arm.ensures in
    let fits : SFits w64 c.convolved_at.result = search rules in
    rw (← node) (to_z-of_z w64 c.convolved_at.result fits ∙ c.convolved_at.ensures)

pub value_at-returns-in-Binary-Concat-default-default :
    goal.value_at-returns-in-Binary-Concat-default-default
value_at-returns-in-Binary-Concat-default-default t c =
    let arm = c.in-Binary-Concat-default-default in
    let node : binary (concat arm.axis) (term_of arm.a.now) (term_of arm.b.now)
    ≡ term_of c.args.expr.now =
    ap (λ o. binary (binary_at o) (term_of arm.a.now) (term_of arm.b.now)) (sym arm.field-0-is)
    ∙ arm.ensures in
    let fits : SFits w64 c.concatenated_at.result = search rules in
    rw (← node) (to_z-of_z w64 c.concatenated_at.result fits ∙ c.concatenated_at.ensures)

pub value_at-returns-in-Unary-Pad-default : goal.value_at-returns-in-Unary-Pad-default
value_at-returns-in-Unary-Pad-default t c =
    let arm = c.in-Unary-Pad-default in
    let node : unary (pad arm.pairs.now) (term_of arm.a.now) ≡ term_of c.args.expr.now =
    ap (λ o. unary (unary_at o) (term_of arm.a.now)) (sym arm.field-0-is) ∙ arm.ensures in
    let fits : SFits w64 c.padded_at.result = search rules in
    rw (← node) (to_z-of_z w64 c.padded_at.result fits ∙ c.padded_at.ensures)

pub value_at-along_at-requires : goal.value_at-along_at-requires
value_at-along_at-requires t c =
    let arm = c.in-Unary-Along-default in
    let node : unary (along arm.operation arm.axis) (term_of arm.a.now) ≡ term_of c.args.expr.now =
    ap (λ o. unary (unary_at o) (term_of arm.a.now)) (sym arm.field-0-is) ∙ arm.ensures in (
      omega (arith, c.decreases, ap nodes_of node),
      (
        rw (← node) at c.requires.inputs,
        (rw (← node) at c.requires.dims, rw (← node) at c.requires.below),
      ),
    )

pub value_at-taken_at-requires : goal.value_at-taken_at-requires
value_at-taken_at-requires t c =
    let arm = c.in-Binary-Take-default-default in
    let node : binary (taking arm.axis) (term_of arm.a.now) (term_of arm.b.now)
    ≡ term_of c.args.expr.now =
    ap (λ o. binary (binary_at o) (term_of arm.a.now) (term_of arm.b.now)) (sym arm.field-0-is)
    ∙ arm.ensures in
    let inputs = and_parts (has_inputs (term_of arm.a.now) (length c.args.inputs.now.tensors)) _
    (rw (← node) at c.requires.inputs) in (
      omega (arith, c.decreases, ap nodes_of node),
      (
        inputs.0,
        (inputs.1, (rw (← node) at c.requires.dims, rw (← node) at c.requires.below)),
      ),
    )

pub value_at-returns-in-Unary-Along-default : goal.value_at-returns-in-Unary-Along-default
value_at-returns-in-Unary-Along-default t c =
    let arm = c.in-Unary-Along-default in
    let node : unary (along arm.operation arm.axis) (term_of arm.a.now) ≡ term_of c.args.expr.now =
    ap (λ o. unary (unary_at o) (term_of arm.a.now)) (sym arm.field-0-is) ∙ arm.ensures in
    let fits : SFits w64 c.along_at.result = search rules in
    rw (← node) (to_z-of_z w64 c.along_at.result fits ∙ c.along_at.ensures)

pub value_at-returns-in-Binary-Take-default-default :
    goal.value_at-returns-in-Binary-Take-default-default
value_at-returns-in-Binary-Take-default-default t c =
    let arm = c.in-Binary-Take-default-default in
    let node : binary (taking arm.axis) (term_of arm.a.now) (term_of arm.b.now)
    ≡ term_of c.args.expr.now =
    ap (λ o. binary (binary_at o) (term_of arm.a.now) (term_of arm.b.now)) (sym arm.field-0-is)
    ∙ arm.ensures in
    let fits : SFits w64 c.taken_at.result = search rules in
    rw (← node) (to_z-of_z w64 c.taken_at.result fits ∙ c.taken_at.ensures)

pub reduced_at-dims_at-requires : goal.reduced_at-dims_at-requires
reduced_at-dims_at-requires t c =
    rw (c.as_slice.ensures.value, c.all_among-dropped.ensures, c.rank.ensures.value)
    (are_axes-among c.args.axes.now (length c.known_dims-dims.result))

pub reduced_at-merged_place-read-requires-clause-axes :
    goal.reduced_at-merged_place-read-requires-clause-axes
reduced_at-merged_place-read-requires-clause-axes t c =
    rw (c.as_slice-in-loop-inner.ensures.value, c.all_among-dropped.ensures, c.rank.ensures.value)
    (are_axes-among c.args.axes.now (length c.known_dims-dims.result))

pub reduced_at-merged_place-read-requires-clause-outer :
    goal.reduced_at-merged_place-read-requires-clause-outer
reduced_at-merged_place-read-requires-clause-outer t c =
    let known = reduced-known c.args.inputs.now.tensors c.args.reducer c.args.axes.now
    (term_of c.args.a.now) c.requires.dims in
    rw (c.as_slice-in-loop-inner.ensures.value, c.all_among-dropped.ensures, c.rank.ensures.value)
    (omega (
      arith,
      ap size_of (other_dims-among c.known_dims-dims.result c.args.axes.now),
      ap (λ ds. size_of (other_dims c.args.axes.now ds)) c.known_dims-dims.ensures,
      ap size_of known.shape,
      c.requires.below,
    ))

pub reduced_at-loop-inner-init : goal.reduced_at-loop-inner-init
reduced_at-loop-inner-init t c =
    let fits : SFits w64 c.unit-value.result = search rules in
    let over : ReducedOver c.args.inputs.now.tensors c.args.reducer c.args.axes.now (term_of c.args.a.now)
    c.known_dims-dims.result c.all_among-dropped.result.items c.size-count.result = search rules in
    reduced-init _ _ _ _ c.requires.dims _ _ _ _ c.args.place over
    (to_z-of_z w64 c.unit-value.result fits ∙ c.unit-value.ensures)

pub reduced_at-loop-inner-preserved : goal.reduced_at-loop-inner-preserved
reduced_at-loop-inner-preserved t c =
    let fits : SFits w64 c.combine-value.result = search rules in
    let fits_read : SFits w64 c.value_at.result = search rules in
    let over : ReducedOver c.args.inputs.now.tensors c.args.reducer c.args.axes.now (term_of c.args.a.now)
    c.known_dims-dims.result c.all_among-dropped.result.items c.size-count.result = search rules in
    reduced-next _ _ _ _ c.requires.dims _ _ _ _ _ _ _ _ _ over
    c.loop-inner-test.true c.requires.below
    (rw c.as_slice-in-loop-inner.ensures.value at c.merged_place-read.ensures.value)
    (to_z-of_z w64 c.value_at.result fits_read ∙ c.value_at.ensures)
    (to_z-of_z w64 c.combine-value.result fits ∙ c.combine-value.ensures)
    c.loop-inner.invariant

pub reduced_at-returns : goal.reduced_at-returns
reduced_at-returns t c =
    reduced-last c.args.inputs.now.tensors c.args.reducer c.args.axes.now (term_of c.args.a.now)
    (to_z w64 c.loop-inner.value-bits)
    c.loop-inner.inner c.size-count.result c.args.place (omega arith) c.loop-inner.invariant

pub contracted_at-nonzero_rem-place : goal.contracted_at-nonzero_rem-place
contracted_at-nonzero_rem-place t c = of_two.contracted_at-nonzero_rem-place t c

pub contracted_at-nonzero_div-place : goal.contracted_at-nonzero_div-place
contracted_at-nonzero_div-place t c = of_two.contracted_at-nonzero_div-place t c

pub contracted_at-merged_place-left-requires : goal.contracted_at-merged_place-left-requires
contracted_at-merged_place-left-requires t c = of_two.contracted_at-merged_place-left-requires t c

pub contracted_at-merged_place-right-requires : goal.contracted_at-merged_place-right-requires
contracted_at-merged_place-right-requires t c = of_two.contracted_at-merged_place-right-requires t c

pub contracted_at-loop-inner-init : goal.contracted_at-loop-inner-init
contracted_at-loop-inner-init t c = of_two.contracted_at-loop-inner-init t c

pub contracted_at-loop-inner-preserved : goal.contracted_at-loop-inner-preserved
contracted_at-loop-inner-preserved t c = of_two.contracted_at-loop-inner-preserved t c

pub contracted_at-returns : goal.contracted_at-returns
contracted_at-returns t c = of_two.contracted_at-returns t c

pub convolved_at-unwrap-window_index-requires : goal.convolved_at-unwrap-window_index-requires
convolved_at-unwrap-window_index-requires t c = of_two.convolved_at-unwrap-window_index-requires t c

pub convolved_at-window_place-read-requires-clause-outer : goal.convolved_at-window_place-read-requires-clause-outer
convolved_at-window_place-read-requires-clause-outer t c = of_two.convolved_at-window_place-read-requires-clause-outer t c

pub convolved_at-loop-inner-init : goal.convolved_at-loop-inner-init
convolved_at-loop-inner-init t c = of_two.convolved_at-loop-inner-init t c

pub convolved_at-loop-inner-preserved : goal.convolved_at-loop-inner-preserved
convolved_at-loop-inner-preserved t c = of_two.convolved_at-loop-inner-preserved t c

pub convolved_at-returns : goal.convolved_at-returns
convolved_at-returns t c = of_two.convolved_at-returns t c

pub concatenated_at-turns_along-turns-requires-clause-dims : goal.concatenated_at-turns_along-turns-requires-clause-dims
concatenated_at-turns_along-turns-requires-clause-dims t c = of_two.concatenated_at-turns_along-turns-requires-clause-dims t c

pub concatenated_at-value_at-requires : goal.concatenated_at-value_at-requires
concatenated_at-value_at-requires t c = of_two.concatenated_at-value_at-requires t c

pub concatenated_at-value_at-requires-else-is_of_first : goal.concatenated_at-value_at-requires-else-is_of_first
concatenated_at-value_at-requires-else-is_of_first t c = of_two.concatenated_at-value_at-requires-else-is_of_first t c

pub concatenated_at-returns-then-is_of_first : goal.concatenated_at-returns-then-is_of_first
concatenated_at-returns-then-is_of_first t c = of_two.concatenated_at-returns-then-is_of_first t c

pub concatenated_at-returns-else-is_of_first : goal.concatenated_at-returns-else-is_of_first
concatenated_at-returns-else-is_of_first t c = of_two.concatenated_at-returns-else-is_of_first t c

pub padded_at-returns-in-Some : goal.padded_at-returns-in-Some
padded_at-returns-in-Some t c = of_two.padded_at-returns-in-Some t c

pub along_at-values_up_to-count-requires : goal.along_at-values_up_to-count-requires
along_at-values_up_to-count-requires t c = lined.along_at-values_up_to-count-requires t c

pub along_at-place-requires-clause-below : goal.along_at-place-requires-clause-below
along_at-place-requires-clause-below t c = lined.along_at-place-requires-clause-below t c

pub along_at-place-requires-clause-few : goal.along_at-place-requires-clause-few
along_at-place-requires-clause-few t c = lined.along_at-place-requires-clause-few t c

pub along_at-value_at-value-requires : goal.along_at-value_at-value-requires
along_at-value_at-value-requires t c = lined.along_at-value_at-value-requires t c

pub along_at-after-progress-requires : goal.along_at-after-progress-requires
along_at-after-progress-requires t c = lined.along_at-after-progress-requires t c

pub along_at-loop-k-preserved : goal.along_at-loop-k-preserved
along_at-loop-k-preserved t c = lined.along_at-loop-k-preserved t c

pub along_at-outcome-requires : goal.along_at-outcome-requires
along_at-outcome-requires t c = lined.along_at-outcome-requires t c

pub along_at-returns : goal.along_at-returns
along_at-returns t c = lined.along_at-returns t c

pub taken_at-number-requires : goal.taken_at-number-requires
taken_at-number-requires t c = lined.taken_at-number-requires t c

pub taken_at-place-requires-clause-below : goal.taken_at-place-requires-clause-below
taken_at-place-requires-clause-below t c = lined.taken_at-place-requires-clause-below t c

pub taken_at-place-requires-clause-few : goal.taken_at-place-requires-clause-few
taken_at-place-requires-clause-few t c = lined.taken_at-place-requires-clause-few t c

pub taken_at-value_at-requires : goal.taken_at-value_at-requires
taken_at-value_at-requires t c = lined.taken_at-value_at-requires t c

pub taken_at-returns-in-Some : goal.taken_at-returns-in-Some
taken_at-returns-in-Some t c = lined.taken_at-returns-in-Some t c

pub taken_at-returns-in-None : goal.taken_at-returns-in-None
taken_at-returns-in-None t c = lined.taken_at-returns-in-None t c

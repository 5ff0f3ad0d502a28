-- What goes along an axis: where its loop stands, what is read, and what comes of it.
use Rattle.std.proofs.Common.{true, false, ℕ, ℤ, ◌+◌, [], ◌∷◌, ◌++◌}
use Rattle.std.proofs.Common.{◌≡◌, ◌<◌, length, ◌+ℤ◌, refl, ap, subst}
use Rattle.std.proofs.Common.{sym, ◌∙◌, rules, arith}
use Rattle.std.proofs.lemmas.Int.{to_z-of_z}
use Rattle.std.specs.Int.{w64}
use mir.Val.{SFits, to_z, of_z}
use Rattle.tensor_scans.specs.Lines.{outcome, width_of}
use Rattle.tensor_scans.specs.Places.{line_place, line_values, number_at}
use Rattle.tensor_scans.specs.Progress.{IsProgress}
use Rattle.tensor_shape.specs.Legal.{widest}
use Rattle.tensor_shape.specs.Index.{size_of, place}
use Rattle.tensor_terms.specs.Along.{along_dims, taken_dims}
use Rattle.tensor_terms.specs.AxisLines.{AreLinesAlong}
use Rattle.tensor_terms.specs.Result.{dims_of, shape_of}
use Rattle.tensor_terms.specs.Term.{Term}
use Rattle.tensor_terms.specs.Term.{along}
use Rattle.tensor_terms.specs.Tree.{term_of}
use Rattle.tensor_terms.specs.Value.{value_of_place}
use Rattle.tensor_terms.proofs.AlongTerms.{along-is, along-values, value_of_place-along, along_at-numbers}
use Rattle.tensor_terms.proofs.AlongTerms.{first_numbers, first_numbers-next, length-first_numbers}
use Rattle.tensor_terms.proofs.AlongTerms.{taken-is, taken-values, taken-found, taken-missed}
use Rattle.tensor_terms.proofs.AxisLines.{values-whole}
use Rattle.tensor_terms.proofs.Shapes.{with_one-known, with_two-known}
use Rattle.tensor_terms.proofs.cursor.+value.Goals as goal

pub along_at-values_up_to-count-requires : goal.along_at-values_up_to-count-requires
along_at-values_up_to-count-requires t c =
    let inputs = c.args.inputs.now.tensors in
    let a : Term = term_of c.args.a.now in
    let lines = c.lines_along-lines.result in
    let are : AreLinesAlong c.args.along.1 (shape_of a inputs) lines =
    subst (λ ds. AreLinesAlong c.args.along.1 ds lines) c.known_dims.ensures c.lines_along-lines.ensures.along in
    omega (arith, c.requires.below, along-values inputs c.args.along.0 c.args.along.1 a c.requires.dims lines are)

pub along_at-place-requires-clause-below : goal.along_at-place-requires-clause-below
along_at-place-requires-clause-below t c =
    let inputs = c.args.inputs.now.tensors in
    let a : Term = term_of c.args.a.now in
    let lines = c.lines_along-lines.result in
    let are : AreLinesAlong c.args.along.1 (shape_of a inputs) lines =
    subst (λ ds. AreLinesAlong c.args.along.1 ds lines) c.known_dims.ensures c.lines_along-lines.ensures.along in
    subst (λ w. c.args.place < line_values lines w) (sym c.width-width.ensures)
    (omega (arith, c.requires.below, along-values inputs c.args.along.0 c.args.along.1 a c.requires.dims lines are))

pub along_at-place-requires-clause-few : goal.along_at-place-requires-clause-few
along_at-place-requires-clause-few t c = omega (arith, c.lines_along-lines.ensures.few)

pub along_at-value_at-value-requires : goal.along_at-value_at-value-requires
along_at-value_at-value-requires t c =
    let inputs = c.args.inputs.now.tensors in
    let a : Term = term_of c.args.a.now in
    let lines = c.lines_along-lines.result in
    let are : AreLinesAlong c.args.along.1 (shape_of a inputs) lines =
    subst (λ ds. AreLinesAlong c.args.along.1 ds lines) c.known_dims.ensures c.lines_along-lines.ensures.along in
    let known = with_one-known (along_dims c.args.along.0 c.args.along.1) (dims_of widest a inputs) c.requires.dims in
    let inside = (along-is inputs c.args.along.0 c.args.along.1 a c.requires.dims).inside in (
      omega (arith, c.decreases),
      (
        c.requires.inputs,
        (known.0, omega (arith, c.place.ensures.below, values-whole c.args.along.1 (shape_of a inputs) lines inside are)),
      ),
    )

pub along_at-after-progress-requires : goal.along_at-after-progress-requires
along_at-after-progress-requires t c =
    omega (
      arith,
      c.loop-k.invariant.count,
      length-first_numbers c.lines_along-lines.result c.width-width.result
          (value_of_place (term_of c.args.a.now) c.args.inputs.now.tensors) c.args.place c.loop-k.k,
      c.loop-k-test.true,
      c.values_up_to-count.ensures.few,
      c.lines_along-lines.ensures.short,
    )

pub along_at-loop-k-preserved : goal.along_at-loop-k-preserved
along_at-loop-k-preserved t c =
    let f : ℕ → ℤ = value_of_place (term_of c.args.a.now) c.args.inputs.now.tensors in
    let lines = c.lines_along-lines.result in
    let w : ℕ = c.width-width.result in
    let k : ℕ = c.loop-k.k in
    let fits : SFits w64 c.value_at-value.result = search rules in
    let is : to_z w64 (of_z w64 c.value_at-value.result) ≡ f (line_place lines w c.args.place k) =
    to_z-of_z w64 c.value_at-value.result fits ∙ c.value_at-value.ensures ∙ ap f c.place.ensures.place in
    subst (λ l. IsProgress c.args.along.0 l c.after-progress.result)
    (ap (λ v. first_numbers lines w f c.args.place k ++ v ∷ []) is ∙ sym (first_numbers-next lines w f c.args.place k))
    (c.after-progress.ensures (first_numbers lines w f c.args.place k) c.loop-k.invariant)

pub along_at-outcome-requires : goal.along_at-outcome-requires
along_at-outcome-requires t c =
    omega (
      arith,
      c.loop-k.invariant.count,
      length-first_numbers c.lines_along-lines.result c.width-width.result
          (value_of_place (term_of c.args.a.now) c.args.inputs.now.tensors) c.args.place c.loop-k.k,
      c.loop-k.auto.k-end,
      c.values_up_to-count.ensures.few,
      c.lines_along-lines.ensures.short,
    )

pub along_at-returns : goal.along_at-returns
along_at-returns t c =
    let inputs = c.args.inputs.now.tensors in
    let a : Term = term_of c.args.a.now in
    let o = c.args.along.0 in
    let f : ℕ → ℤ = value_of_place a inputs in
    let lines = c.lines_along-lines.result in
    let p : ℕ = c.args.place in
    let k : ℕ = c.loop-k.k in
    let count : ℕ = c.values_up_to-count.result in
    let are : AreLinesAlong c.args.along.1 (shape_of a inputs) lines =
    subst (λ ds. AreLinesAlong c.args.along.1 ds lines) c.known_dims.ensures c.lines_along-lines.ensures.along in
    let all : k ≡ count = omega (arith, c.loop-k-test.false, c.loop-k.auto.k-end) in
    let fits : SFits w64 c.outcome.result = search rules in
    to_z-of_z w64 c.outcome.result fits
    ∙ c.outcome.ensures (first_numbers lines c.width-width.result f p k) c.loop-k.invariant
    ∙ ap (λ w. outcome o (first_numbers lines w f p k)) c.width-width.ensures
    ∙ ap (λ n. outcome o (first_numbers lines (width_of o lines.length) f p n)) all
    ∙ sym (along_at-numbers o lines f p count c.values_up_to-count.ensures.count c.values_up_to-count.ensures.few)
    ∙ sym (value_of_place-along inputs o c.args.along.1 a c.requires.dims lines are p c.requires.below)

pub taken_at-number-requires : goal.taken_at-number-requires
taken_at-number-requires t c =
    let inputs = c.args.inputs.now.tensors in
    let a : Term = term_of c.args.operands.0.now in
    let b : Term = term_of c.args.operands.1.now in
    let lines = c.lines_along-lines.result in
    let are : AreLinesAlong c.args.axis (shape_of a inputs) lines =
    subst (λ ds. AreLinesAlong c.args.axis ds lines) c.known_dims.ensures c.lines_along-lines.ensures.along in
    let width : c.size-width.result ≡ size_of (shape_of b inputs) = c.size-width.ensures.value ∙ ap size_of c.known_dims-2.ensures in
    record {
      below = subst (λ w. c.args.place < line_values lines w) (sym width)
          (omega (arith, c.requires.below, taken-values inputs c.args.axis a b c.requires.dims lines are));
    }

pub taken_at-place-requires-clause-below : goal.taken_at-place-requires-clause-below
taken_at-place-requires-clause-below t c =
    let inputs = c.args.inputs.now.tensors in
    let a : Term = term_of c.args.operands.0.now in
    let b : Term = term_of c.args.operands.1.now in
    let lines = c.lines_along-lines.result in
    let are : AreLinesAlong c.args.axis (shape_of a inputs) lines =
    subst (λ ds. AreLinesAlong c.args.axis ds lines) c.known_dims.ensures c.lines_along-lines.ensures.along in
    let width : c.size-width.result ≡ size_of (shape_of b inputs) = c.size-width.ensures.value ∙ ap size_of c.known_dims-2.ensures in
    subst (λ w. c.args.place < line_values lines w) (sym width)
    (omega (arith, c.requires.below, taken-values inputs c.args.axis a b c.requires.dims lines are))

pub taken_at-place-requires-clause-few : goal.taken_at-place-requires-clause-few
taken_at-place-requires-clause-few t c = omega (arith, c.lines_along-lines.ensures.few)

pub taken_at-value_at-requires : goal.taken_at-value_at-requires
taken_at-value_at-requires t c =
    let inputs = c.args.inputs.now.tensors in
    let a : Term = term_of c.args.operands.0.now in
    let b : Term = term_of c.args.operands.1.now in
    let lines = c.lines_along-lines.result in
    let are : AreLinesAlong c.args.axis (shape_of a inputs) lines =
    subst (λ ds. AreLinesAlong c.args.axis ds lines) c.known_dims.ensures c.lines_along-lines.ensures.along in
    let known = with_two-known (taken_dims widest c.args.axis) (dims_of widest a inputs) (dims_of widest b inputs) c.requires.dims in
    let inside = (taken-is inputs c.args.axis a b c.requires.dims).inside in (
      omega (arith, c.decreases),
      (
        c.requires.inputs_a,
        (known.0, omega (arith, c.place.ensures.below, values-whole c.args.axis (shape_of a inputs) lines inside are)),
      ),
    )

pub taken_at-returns-in-Some : goal.taken_at-returns-in-Some
taken_at-returns-in-Some t c =
    let inputs = c.args.inputs.now.tensors in
    let a : Term = term_of c.args.operands.0.now in
    let b : Term = term_of c.args.operands.1.now in
    let lines = c.lines_along-lines.result in
    let are : AreLinesAlong c.args.axis (shape_of a inputs) lines =
    subst (λ ds. AreLinesAlong c.args.axis ds lines) c.known_dims.ensures c.lines_along-lines.ensures.along in
    let width : c.size-width.result ≡ size_of (shape_of b inputs) = c.size-width.ensures.value ∙ ap size_of c.known_dims-2.ensures in
    let fits : SFits w64 c.value_at.result = search rules in
    let number_fits : SFits w64 c.value_at-number.result = search rules in
    let is : to_z w64 (of_z w64 c.value_at-number.result) ≡ value_of_place b inputs (number_at lines c.size-width.result c.args.place) =
    to_z-of_z w64 c.value_at-number.result number_fits ∙ c.value_at-number.ensures ∙ ap (value_of_place b inputs) c.number.ensures.number in
    taken-found inputs c.args.axis a b c.requires.dims lines are c.args.place c.requires.below c.size-width.result width
    _ is c.in-Some.k _ c.in-Some.ensures.below c.in-Some.ensures.some
    (to_z-of_z w64 c.value_at.result fits ∙ c.value_at.ensures ∙ ap (value_of_place a inputs) c.place.ensures.place)

pub taken_at-returns-in-None : goal.taken_at-returns-in-None
taken_at-returns-in-None t c =
    let inputs = c.args.inputs.now.tensors in
    let a : Term = term_of c.args.operands.0.now in
    let b : Term = term_of c.args.operands.1.now in
    let lines = c.lines_along-lines.result in
    let are : AreLinesAlong c.args.axis (shape_of a inputs) lines =
    subst (λ ds. AreLinesAlong c.args.axis ds lines) c.known_dims.ensures c.lines_along-lines.ensures.along in
    let width : c.size-width.result ≡ size_of (shape_of b inputs) = c.size-width.ensures.value ∙ ap size_of c.known_dims-2.ensures in
    let number_fits : SFits w64 c.value_at-number.result = search rules in
    let is : to_z w64 (of_z w64 c.value_at-number.result) ≡ value_of_place b inputs (number_at lines c.size-width.result c.args.place) =
    to_z-of_z w64 c.value_at-number.result number_fits ∙ c.value_at-number.ensures ∙ ap (value_of_place b inputs) c.number.ensures.number in
    taken-missed inputs c.args.axis a b c.requires.dims lines are c.args.place c.requires.below c.size-width.result width
    _ is (c.in-None.ensures.none refl)

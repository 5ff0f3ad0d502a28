use Rattle.std.proofs.Common.{◌≡◌, ◌<◌, ◌+◌, ◌^◌, ℕ, List, [], ◌∷◌, ◌++◌, length, true, Ok, inl, inr, refl, ap, sym, subst, ◌∙◌, arith}
use Rattle.std.proofs.lemmas.List.{length-append}
use Rattle.std.proofs.lemmas.Result.{err_from_is_err_and}
use Rattle.tensor_shape.specs.declared.bounds.Bounds.{Bounds}
use Rattle.tensor_terms.specs.Sequence.{worked_out}
use Rattle.tensor_terms.specs.Tree.{term_of}
use Rattle.expr_reader.specs.Arrays.{arrays_under}
use Rattle.expr_reader.specs.Bindings.{have_inputs}
use Rattle.prepared_expressions.specs.Prepared.{Prepared, terms_of, dims_of_all, dealt}
use Rattle.prepared_expressions.specs.Ready.{HaveDims}
use Rattle.prepared_expressions.specs.Recorded.{recorded_all}
use Rattle.prepared_expressions.specs.private.Dealing.{Dealing}
use Rattle.prepared_expressions.proofs.Dealing.{Begins-record, begins, begun, told-ok, told-err, dealt-other, dealt-back, all_from-back, all_legal-within}
use Rattle.prepared_expressions.proofs.Dealing.{found-written, length-arrays_under, dims_of_all-dealt, same_prepared}
use Rattle.prepared_expressions.proofs.TermLists.{same-terms}
use Rattle.prepared_expressions.proofs.prepared.read_over.Goals as goal

pub returns-then-count-arrays-clause-refused : goal.returns-then-count-arrays-clause-refused
returns-then-count-arrays-clause-refused c = λ q ok is.
    let arrays = arrays_under c.args.arrays.now in
    let s = c.in-Some.start in
    let b = begun q ok arrays c.args.numbers.now s.rest.now s.bounds s.inputs s.bindings c.in-Some.ensures.bounds c.in-Some.ensures.found is in
    inr (inl (dealt-other q.dims arrays (λ same. c.if-count-arrays.true (omega (arith, b.count, same, length-arrays_under c.args.arrays.now)))))

pub returns-in_err-dealt-clause-refused : goal.returns-in_err-dealt-clause-refused
returns-in_err-dealt-clause-refused c =
    let p = err_from_is_err_and c.from_residual.result c.from_residual.ensures.1 in
    let arrays = arrays_under c.args.arrays.now in
    let s = c.in-Some.start in
    let count : s.inputs ≡ length arrays = omega (arith, c.if-count-arrays.false, length-arrays_under c.args.arrays.now) in
    rw (p.1, p.2) (λ q ok is.
    let b = begun q ok arrays c.args.numbers.now s.rest.now s.bounds s.inputs s.bindings c.in-Some.ensures.bounds c.in-Some.ensures.found is in
    elim c.in_err-dealt.ensures.tensors [
      | inl memory ↦ inl memory
      | inr told ↦ inr (inl (told-err (recorded_all (terms_of q) []) (dealt q.dims arrays) c.in_err-dealt.field-0.0 (sym (b.dealing count) ∙ told)))
    ])

pub returns-in_err-ready-clause-refused : goal.returns-in_err-ready-clause-refused
returns-in_err-ready-clause-refused c =
    let p = err_from_is_err_and c.from_residual-in_err-ready.result c.from_residual-in_err-ready.ensures.1 in
    let arrays = arrays_under c.args.arrays.now in
    let s = c.in-Some.start in
    let us = c.with_bounds-inputs.result in
    let all = all_from-back s.bounds arrays s.rest.now (record { tensors = c.in_ok-dealt.dealt.tensors.items; rest = c.in_ok-dealt.dealt.rest.now }) c.in_ok-dealt.ensures.tensors in
    let count : s.inputs ≡ length arrays = omega (arith, c.if-count-arrays.false, length-arrays_under c.args.arrays.now) in
    rw (p.1, p.2) (λ q ok is.
    let b = begun q ok arrays c.args.numbers.now s.rest.now s.bounds s.inputs s.bindings c.in-Some.ensures.bounds c.in-Some.ensures.found is in
    let d = told-ok (recorded_all (terms_of q) []) (dealt q.dims arrays) (record { tensors = c.in_ok-dealt.dealt.tensors.items; rest = c.in_ok-dealt.dealt.rest.now })
    (sym (b.dealing count) ∙ c.in_ok-dealt.ensures.tensors) in
    let given : dealt q.dims arrays ≡ Ok us.tensors = d.0 ∙ ap Ok (sym c.with_bounds-inputs.ensures.tensors) in
    let many : length q.dims ≡ length us.tensors = omega (arith, b.count, count, ap length c.with_bounds-inputs.ensures.tensors, all.many) in
    elim (c.in_err-ready.ensures.refused (terms_of q) (record {
      many = omega (arith, b.bindings, length-append q.bindings (q.term ∷ []));
      here = d.1;
      has = subst (λ n. have_inputs (terms_of q) n ≡ true) many ok.inputs;
      writable = ok.writable;
    })) [
      | inl memory ↦ inl memory
      | inr none ↦ inr (inr (
        none.0,
        record {
          inputs = us.tensors;
          given = given;
          none = λ have. none.1 (subst (λ w. HaveDims w (terms_of q) us.tensors) (sym (c.with_bounds-inputs.ensures.limit ∙ b.bounds)) have);
        },
      ))
    ])

pub with_bounds-inputs-requires-clause-few : goal.with_bounds-inputs-requires-clause-few
with_bounds-inputs-requires-clause-few c =
    let arrays = arrays_under c.args.arrays.now in
    let s = c.in-Some.start in
    let ts = c.in_ok-dealt.dealt.tensors.items in
    let all = all_from-back s.bounds arrays s.rest.now (record { tensors = ts; rest = c.in_ok-dealt.dealt.rest.now }) c.in_ok-dealt.ensures.tensors in
    omega (arith, c.in_ok-dealt.dealt.tensors.ok.0, all.many, length-arrays_under c.args.arrays.now, c.if-count-arrays.false, c.in-Some.ensures.few)

pub with_bounds-inputs-requires-clause-bounds : goal.with_bounds-inputs-requires-clause-bounds
with_bounds-inputs-requires-clause-bounds c =
    let arrays = arrays_under c.args.arrays.now in
    let s = c.in-Some.start in
    let ts = c.in_ok-dealt.dealt.tensors.items in
    let all = all_from-back s.bounds arrays s.rest.now (record { tensors = ts; rest = c.in_ok-dealt.dealt.rest.now }) c.in_ok-dealt.ensures.tensors in
    all_legal-within s.bounds ts all.legal

pub read_bound-requires : goal.read_bound-requires
read_bound-requires c =
    let arrays = arrays_under c.args.arrays.now in
    let s = c.in-Some.start in
    let ts = c.in_ok-dealt.dealt.tensors.items in
    let all = all_from-back s.bounds arrays s.rest.now (record { tensors = ts; rest = c.in_ok-dealt.dealt.rest.now }) c.in_ok-dealt.ensures.tensors in
    omega (
      arith,
      ap length c.with_bounds-inputs.ensures.tensors,
      all.many,
      length-arrays_under c.args.arrays.now,
      c.if-count-arrays.false,
      c.in-Some.ensures.few,
    )

pub returns-clause-found : goal.returns-clause-found
returns-clause-found c =
    let arrays = arrays_under c.args.arrays.now in
    let s = c.in-Some.start in
    let ts = c.in_ok-dealt.dealt.tensors.items in
    let d : Dealing = record { tensors = ts; rest = c.in_ok-dealt.dealt.rest.now } in
    let all = all_from-back s.bounds arrays s.rest.now d c.in_ok-dealt.ensures.tensors in
    let count : s.inputs ≡ length ts = omega (arith, c.if-count-arrays.false, length-arrays_under c.args.arrays.now, all.many) in
    let ready = c.in_ok-ready.ready in
    let r = c.in_ok-ready.ensures.found in
    let source : Prepared = record { bounds = s.bounds; dims = dims_of_all ts; bindings = r.bindings; term = term_of ready.expr } in
    let inputs : length c.with_bounds-inputs.result.tensors ≡ length ts = ap length c.with_bounds-inputs.ensures.tensors in
    record {
      source = source;
      inputs = ts;
      written = found-written c.args.numbers.now s.rest.now d.rest s.bounds s.inputs s.bindings ts r.bindings (r.bindings ++ term_of ready.expr ∷ [])
          c.in-Some.ensures.found all.numbers r.here count (sym r.many);
      only = λ q ok is.
          let b = begun q ok arrays c.args.numbers.now s.rest.now s.bounds s.inputs s.bindings c.in-Some.ensures.bounds c.in-Some.ensures.found is in
          let e = told-ok (recorded_all (terms_of q) []) (dealt q.dims arrays) d
          (sym (b.dealing (omega (arith, count, all.many))) ∙ c.in_ok-dealt.ensures.tensors) in
          let all = r.only (terms_of q) (record {
            many = omega (arith, b.bindings, length-append q.bindings (q.term ∷ []));
            here = e.1;
            has = subst (λ n. have_inputs (terms_of q) n ≡ true) (omega (arith, b.count, count, inputs)) ok.inputs;
            writable = ok.writable;
          }) in
          let same = same-terms q.bindings r.bindings q.term (term_of ready.expr) (sym b.bindings ∙ sym r.many) all in
          same_prepared q source (sym b.bounds) (sym (dims_of_all-dealt q.dims arrays ts e.0)) same.0 same.1;
      given = dealt-back s.bounds arrays s.rest.now d c.in_ok-dealt.ensures.tensors;
      tensors = r.tensors ∙ ap (worked_out r.bindings) c.with_bounds-inputs.ensures.tensors;
      term = refl;
    }

pub returns-in_default-clause-refused : goal.returns-in_default-clause-refused
returns-in_default-clause-refused c = λ q ok is. absurd (c.in_default.ensures.none (Begins-record q ok c.args.numbers.now is))

pub returns-then-count-arrays-clause-no_start : goal.returns-then-count-arrays-clause-no_start
returns-then-count-arrays-clause-no_start c = λ none.
    let s = c.in-Some.start in
    absurd (none (begins c.args.numbers.now s.rest.now s.bounds s.inputs s.bindings
    c.in-Some.ensures.bounds c.in-Some.ensures.few c.in-Some.ensures.found))

pub returns-in_err-dealt-clause-no_start : goal.returns-in_err-dealt-clause-no_start
returns-in_err-dealt-clause-no_start c = λ none.
    let s = c.in-Some.start in
    absurd (none (begins c.args.numbers.now s.rest.now s.bounds s.inputs s.bindings
    c.in-Some.ensures.bounds c.in-Some.ensures.few c.in-Some.ensures.found))

pub returns-in_err-ready-clause-no_start : goal.returns-in_err-ready-clause-no_start
returns-in_err-ready-clause-no_start c = λ none.
    let s = c.in-Some.start in
    absurd (none (begins c.args.numbers.now s.rest.now s.bounds s.inputs s.bindings
    c.in-Some.ensures.bounds c.in-Some.ensures.few c.in-Some.ensures.found))

pub returns-clause-no_start : goal.returns-clause-no_start
returns-clause-no_start c = λ none.
    let s = c.in-Some.start in
    absurd (none (begins c.args.numbers.now s.rest.now s.bounds s.inputs s.bindings
    c.in-Some.ensures.bounds c.in-Some.ensures.few c.in-Some.ensures.found))

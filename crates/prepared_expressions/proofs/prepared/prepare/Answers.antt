use Rattle.std.proofs.Common.{◌≡◌, ◌++◌, ◌∷◌, [], length, true, ap, sym, subst, ◌∙◌, arith}
use Rattle.std.proofs.lemmas.List.{append-nil, length-map}
use Rattle.std.proofs.lemmas.Result.{err_from_is_err_and}
use Rattle.std.specs.List.{All}
use Rattle.tensor_shape.specs.declared.bounds.Bounds.{Bounds}
use Rattle.tensor_terms.specs.Tree.{term_of}
use Rattle.expr_reader.specs.Bindings.{term_under, terms_under, have_inputs}
use Rattle.expr_reader.proofs.Bindings.{some-nodes, length-nodes}
use Rattle.prepared_expressions.specs.Prepared.{recorded_dims, dims_of_all, all_legal, form_of, IsRecordable, IsWritable}
use Rattle.prepared_expressions.specs.Prepared.{prepared_outline, terms_of}
use Rattle.prepared_expressions.specs.Recorded.{recorded, recorded_all}
use Rattle.prepared_expressions.proofs.Dealing.{length-dims_of_all}
use Rattle.prepared_expressions.proofs.TermLists.{recorded_all-append, have_inputs-bound, writable-push, writable-first, writable-last}
use Rattle.prepared_expressions.proofs.prepared.prepare.Goals as goal

pub returns-clause-numbers : goal.returns-clause-numbers
returns-clause-numbers c =
    let o = c.args.outline.now in
    let ds = dims_of_all o.inputs.tensors in
    let bs = o.bindings.items in
    let ts = terms_under bs in
    let t = term_of o.expr in
    let b : Bounds = o.inputs.bounds in
    let bounds : c.bounds-bounds.result ≡ b = c.bounds-bounds.ensures.value in
    let form : c.in-Some.form ≡ form_of b.elements = c.in-Some.ensures.form ∙ ap (λ x. form_of x.elements) bounds in
    let count : c.from-inputs.result ≡ length ds = c.from-inputs.ensures ∙ c.len.ensures ∙ sym (length-dims_of_all o.inputs.tensors) in
    let many : c.len-bindings.result ≡ length ts = omega (arith, c.len-bindings.ensures, o.bindings.ok.0, length-map bs term_under) in
    let head : c.in_ok-numbers.numbers.items ≡ form_of b.elements ∷ b.rank ∷ length ds ∷ length ts ∷ [] =
    c.in_ok-numbers.ensures.items ∙ ap (λ f. f ∷ c.bounds-bounds.result.rank ∷ c.from-inputs.result ∷ c.len-bindings.result ∷ []) form
    ∙ ap (λ x. form_of b.elements ∷ x.rank ∷ c.from-inputs.result ∷ c.len-bindings.result ∷ []) bounds
    ∙ ap (λ n. form_of b.elements ∷ b.rank ∷ n ∷ c.len-bindings.result ∷ []) count
    ∙ ap (λ n. form_of b.elements ∷ b.rank ∷ length ds ∷ n ∷ []) many in
    let bound : recorded_all (terms_under c.deref.result.now) (recorded t []) ≡ recorded_all (terms_of (prepared_outline o)) [] =
    ap (λ l. recorded_all (terms_under l) (recorded t [])) c.deref.ensures.value ∙ sym (recorded_all-append ts (t ∷ []) []) in
    sym (append-nil c.write_tree.new.numbers.items)
    ∙ c.in_ok-write_tree.ensures.numbers [] ∙ c.in_ok-write_bindings.ensures.numbers (recorded t [])
    ∙ c.in_ok-write_dims.ensures.numbers (recorded_all (terms_under c.deref.result.now) (recorded t []))
    ∙ ap (λ l. l ++ recorded_dims ds (recorded_all (terms_under c.deref.result.now) (recorded t []))) head
    ∙ ap (λ rest. form_of b.elements ∷ b.rank ∷ length ds ∷ length ts ∷ recorded_dims ds rest) bound

pub returns-clause-prepared : goal.returns-clause-prepared
returns-clause-prepared c =
    let o = c.args.outline.now in
    let xs = o.inputs.tensors in
    let bs = o.bindings.items in
    let t = term_of o.expr in
    let long : length (dims_of_all xs) ≡ length xs = length-dims_of_all xs in
    let first : All IsWritable (terms_under bs) =
    subst (λ l. All IsWritable (terms_under l)) c.deref.ensures.value c.in_ok-write_bindings.ensures.writable in
    record {
      bounds = rw c.bounds-bounds.ensures.value at c.in-Some.ensures.bounds;
      few = omega (arith, long, length-map bs term_under, length-nodes bs, some-nodes t, o.few);
      legal = rw c.bounds-bounds.ensures.value at c.in_ok-write_dims.ensures.legal;
      inputs = subst (λ n. have_inputs (terms_of (prepared_outline o)) n ≡ true) (sym long)
          (have_inputs-bound bs t (length xs) o.have_inputs o.has_inputs);
      writable = writable-push (terms_under bs) t first
          (record { ranges = c.in_ok-write_tree.ensures.ranges; height = c.in_ok-write_tree.ensures.height });
    }

pub returns-in_default-clause-refused : goal.returns-in_default-clause-refused
returns-in_default-clause-refused c = λ ok.
    absurd (c.in_default.ensures.none (subst IsRecordable (sym c.bounds-bounds.ensures.value) ok.bounds))

pub returns-in_err-write_dims-clause-refused : goal.returns-in_err-write_dims-clause-refused
returns-in_err-write_dims-clause-refused c = λ ok.
    let ds = dims_of_all c.args.outline.now.inputs.tensors in
    let p = err_from_is_err_and c.from_residual-in_err-write_dims.result c.from_residual-in_err-write_dims.ensures.1 in
    let legal = subst (λ b. all_legal b ds ≡ true) (sym c.bounds-bounds.ensures.value) ok.legal in
    rw (p.1, p.2) (c.in_err-write_dims.ensures.refused legal)

pub returns-in_err-write_bindings-clause-refused : goal.returns-in_err-write_bindings-clause-refused
returns-in_err-write_bindings-clause-refused c = λ ok.
    let o = c.args.outline.now in
    let p = err_from_is_err_and c.from_residual-in_err-write_bindings.result c.from_residual-in_err-write_bindings.ensures.1 in
    let first = writable-first (terms_under o.bindings.items) (term_of o.expr ∷ []) ok.writable in
    rw (p.1, p.2)
    (c.in_err-write_bindings.ensures.refused (subst (λ l. All IsWritable (terms_under l)) (sym c.deref.ensures.value) first))

pub returns-in_err-write_tree-clause-refused : goal.returns-in_err-write_tree-clause-refused
returns-in_err-write_tree-clause-refused c = λ ok.
    let o = c.args.outline.now in
    let p = err_from_is_err_and c.from_residual-in_err-write_tree.result c.from_residual-in_err-write_tree.ensures.1 in
    let last = writable-last (terms_under o.bindings.items) (term_of o.expr) ok.writable in
    rw (p.1, p.2) (c.in_err-write_tree.ensures.refused last.height)

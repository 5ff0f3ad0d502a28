use Rattle.std.proofs.Common.{◌≡◌, ◌<◌, ◌≤◌, ◌++◌, ◌∷◌, ◌+◌, ℕ, List, [], length, true, Some, ap, sym, subst, ◌∙◌, arith, inl, inr, refl}
use Rattle.std.proofs.lemmas.List.{length-append}
use Rattle.std.proofs.lemmas.Result.{err_from_is_err_and}
use Rattle.tensor_ops.specs.Contents.{Contents}
use Rattle.tensor_ops.specs.Value.{tensor_of}
use Rattle.tensor_terms.specs.Term.{has_inputs}
use Rattle.tensor_terms.specs.Tree.{term_of}
use Rattle.tensor_terms.specs.declared.expr.Expr.{Expr}
use Rattle.prepared_expressions.specs.Recorded.{recorded, recorded_all}
use Rattle.prepared_expressions.specs.private.Made.{of_none}
use Rattle.prepared_expressions.proofs.Made.{of_none-back}
use Rattle.prepared_expressions.proofs.TermLists.{recorded_all-append, IsReadTo-start, IsReadTo-next, lacks-dims, none-after}
use Rattle.prepared_expressions.proofs.Trees.{only-memory}
use Rattle.prepared_expressions.proofs.prepared.read_bound.Goals as goal

pub loop-before-init : goal.loop-before-init
loop-before-init c =
    let same = c.widened-tensors.ensures.tensors in
    record {
      bounds = c.widened-tensors.ensures.limit;
      count = omega (arith, ap length same);
      read = IsReadTo-start c.args.inputs.bounds c.args.inputs.tensors c.args.numbers.now c.args.count c.widened-tensors.result.tensors same;
    }

pub returns-in_err-read-clause-refused : goal.returns-in_err-read-clause-refused
returns-in_err-read-clause-refused c =
    let p = err_from_is_err_and c.from_residual.result c.from_residual.ensures.1 in
    rw (p.1, p.2) (λ ts are.
    let l = c.loop-before.invariant.read.leaves ts are in
    let can = l.writable 0 l.term (omega arith) in
    inl (c.in_err-read.ensures.whole l.term (recorded_all l.others []) l.numbers (ap (has_inputs l.term) c.len.ensures ∙ l.has) can.ranges can.height))

pub returns-in_default-clause-refused : goal.returns-in_default-clause-refused
returns-in_default-clause-refused c = λ ts are.
    let l = c.loop-before.invariant.read.leaves ts are in
    let can = l.writable 0 l.term (omega arith) in
    let told = c.in_ok-read.ensures.whole l.term (recorded_all l.others []) l.numbers (ap (has_inputs l.term) c.len.ensures ∙ l.has) can.ranges can.height in
    inr (
      refl,
      λ have. lacks-dims c.args.inputs.bounds _ _ l.term c.loop-before.tensors.tensors _ c.bounds-limit.ensures.limit
          c.loop-before.invariant.bounds told.0 (sym c.in_default.ensures.dims) (l.dims have).0,
    )

pub loop-before-preserved : goal.loop-before-preserved
loop-before-preserved c =
    let xs = c.loop-before.tensors.tensors in
    let t = term_of c.in_ok-read.read.expr in
    let made : Contents = tensor_of t xs in
    let inv = c.loop-before.invariant in
    let pushed : c.push.new.self.tensors ≡ xs ++ made ∷ [] = c.in_ok-push.ensures.ok ∙ ap (λ x. xs ++ x ∷ []) c.in_ok-tensor.ensures.tensor in
    record {
      bounds = c.in_ok-push.ensures.limit ∙ inv.bounds;
      count = omega (arith, ap length pushed, length-append xs (made ∷ []), inv.count);
      read = IsReadTo-next c.args.inputs.bounds c.args.inputs.tensors c.args.numbers.now c.args.count c.loop-before._before _ xs inv.read
          c.loop-before-test.true t c.in_ok-read.read.rest.now c.push.new.self.tensors c.in_ok-read.ensures.found pushed
          (λ u rest is has can. c.in_ok-read.ensures.whole u rest is (ap (has_inputs u) c.len.ensures ∙ has) can.ranges can.height);
    }

-- the expression that was read is over the tensors
over-tensors : (x y : Expr) (rest : List ℕ) (n m : ℕ) → of_none x rest ≡ Some y → m ≡ n → has_inputs (term_of x) m ≡ true
    → has_inputs (term_of y) n ≡ true
over-tensors x y rest n m is same has =
    ap (λ e. has_inputs (term_of e) n) (sym (of_none-back x y rest is).0) ∙ ap (has_inputs (term_of x)) (sym same) ∙ has

pub dims-requires-2 : goal.dims-requires-2
dims-requires-2 c =
    over-tensors c.in_ok-last.last.expr c.in_ok-expr.expr c.in_ok-last.last.rest.now (length c.loop-before.tensors.tensors) c.len-2.result
    c.in_ok-expr.ensures c.len-2.ensures c.in_ok-last.ensures.inputs

pub invariant_of-result-clause-has_inputs : goal.invariant_of-result-clause-has_inputs
invariant_of-result-clause-has_inputs c =
    over-tensors c.in_ok-last.last.expr c.in_ok-expr.expr c.in_ok-last.last.rest.now (length c.loop-before.tensors.tensors) c.len-2.result
    c.in_ok-expr.ensures c.len-2.ensures c.in_ok-last.ensures.inputs

pub returns-in_err-last-clause-refused : goal.returns-in_err-last-clause-refused
returns-in_err-last-clause-refused c =
    let p = err_from_is_err_and c.from_residual-in_err-last.result c.from_residual-in_err-last.ensures.1 in
    rw (p.1, p.2) (λ ts are.
    let l = c.loop-before.invariant.read.leaves ts are in
    let can = l.writable 0 l.term (omega arith) in
    inl (c.in_err-last.ensures.whole l.term (recorded_all l.others []) l.numbers (ap (has_inputs l.term) c.len-2.ensures ∙ l.has) can.ranges can.height))

pub returns-in_err-expr-clause-refused : goal.returns-in_err-expr-clause-refused
returns-in_err-expr-clause-refused c =
    let p = err_from_is_err_and c.from_residual-in_err-expr.result c.from_residual-in_err-expr.ensures.1 in
    rw (p.1, p.2) (λ ts are.
    let to = c.loop-before.invariant.read in
    let l = to.leaves ts are in
    let can = l.writable 0 l.term (omega arith) in
    let last = c.in_ok-last.last in
    let told = c.in_ok-last.ensures.whole l.term (recorded_all l.others []) l.numbers (ap (has_inputs l.term) c.len-2.ensures ∙ l.has) can.ranges can.height in
    let none = none-after to.done ts l.others l.term l.all (omega (arith, are.many, to.many, c.loop-before.auto._before-end, c.loop-before-test.false)) in
    let rest : last.rest.now ≡ [] = told.1 ∙ ap (λ us. recorded_all us []) none in
    inl (only-memory c.in_err-expr.field-0.0 (of_none last.expr last.rest.now) last.expr (ap (of_none last.expr) rest) c.in_err-expr.ensures))

pub returns-in_default-dims-clause-refused : goal.returns-in_default-dims-clause-refused
returns-in_default-dims-clause-refused c = λ ts are.
    let l = c.loop-before.invariant.read.leaves ts are in
    let can = l.writable 0 l.term (omega arith) in
    let last = c.in_ok-last.last in
    let told = c.in_ok-last.ensures.whole l.term (recorded_all l.others []) l.numbers (ap (has_inputs l.term) c.len-2.ensures ∙ l.has) can.ranges can.height in
    let e = of_none-back last.expr c.in_ok-expr.expr last.rest.now c.in_ok-expr.ensures in
    inr (
      refl,
      λ have. lacks-dims c.args.inputs.bounds _ _ l.term c.loop-before.tensors.tensors _ c.bounds-limit.ensures.limit
          c.loop-before.invariant.bounds (ap term_of (sym e.0) ∙ told.0) (sym c.in_default-dims.ensures.dims) (l.dims have).0,
    )

pub returns-clause-found : goal.returns-clause-found
returns-clause-found c =
    let to = c.loop-before.invariant.read in
    let last = c.in_ok-last.last in
    let e = of_none-back last.expr c.in_ok-expr.expr last.rest.now c.in_ok-expr.ensures in
    let t = term_of c.in_ok-expr.expr in
    let all : length to.done ≡ c.args.count = omega (arith, to.many, c.loop-before.auto._before-end, c.loop-before-test.false) in
    record {
      bindings = to.done;
      many = all;
      here = to.here ∙ ap (recorded_all to.done) (c.in_ok-last.ensures.found ∙ ap (λ x. recorded (term_of x) last.rest.now) e.0 ∙ ap (recorded t) e.1)
          ∙ sym (recorded_all-append to.done (t ∷ []) []);
      only = λ ts are.
          let l = to.leaves ts are in
          let can = l.writable 0 l.term (omega arith) in
          let told = c.in_ok-last.ensures.whole l.term (recorded_all l.others []) l.numbers (ap (has_inputs l.term) c.len-2.ensures ∙ l.has) can.ranges can.height in
          l.all ∙ ap (λ us. to.done ++ l.term ∷ us) (none-after to.done ts l.others l.term l.all (omega (arith, are.many, all)))
          ∙ ap (λ u. to.done ++ u ∷ []) (sym told.0 ∙ ap term_of e.0);
      tensors = to.made;
    }

use Rattle.std.proofs.Common.{◌≡◌, ◌<◌, ◌≤◌, ◌++◌, ◌∷◌, ◌+◌, ℕ, List, [], length, drop, get_or, Ok, IsOk, is_ok, ap, sym, subst, ◌∙◌, arith, refl}
use Rattle.std.proofs.lemmas.List.{length-append, drop_all, drop_more}
use Rattle.tensor_ops.specs.Bounds.{Bounds}
use Rattle.tensor_ops.specs.Contents.{Contents}
use Rattle.tensor_ops.specs.Legal.{widest, IsPossible}
use Rattle.tensor_ops.specs.Result.{dims_of}
use Rattle.tensor_ops.specs.Sequence.{worked_out}
use Rattle.tensor_ops.specs.Term.{has_inputs}
use Rattle.tensor_ops.specs.Tree.{term_of}
use Rattle.tensor_ops.specs.Value.{tensor_of}
use Rattle.tensor_ops.proofs.Widening.{dims_of-wider}
use Rattle.expr_reader.specs.Asked.{asked_under}
use Rattle.expr_reader.specs.Bindings.{AreBound, term_under, terms_under}
use Rattle.expr_reader.specs.Request.{tensors_of}
use Rattle.expr_reader.specs.declared.binding.Binding.{Binding}
use Rattle.expr_reader.specs.declared.request.Request.{Request}
use Rattle.expr_reader.proofs.Bindings.{AreBound-request, length-nodes, some-nodes}
use Rattle.prepared_expressions.proofs.ready.Ready.of_request.Goals as goal

-- the first of the bindings that are left
left-more : (bs : List Binding) (k : ℕ) (b : Binding) (items : List Binding) → items ≡ bs → k < length items → b ≡ get_or items k b
    → drop k bs ≡ b ∷ drop (k + 1) bs
left-more bs k b items same more is =
    let here : b ≡ get_or bs k b = is ∙ ap (λ l. get_or l k b) same in
    drop_more bs k b (subst (λ l. k < length l) same more) ∙ ap (λ x. x ∷ drop (k + 1) bs) (sym here)

pub loop-binding-init : goal.loop-binding-init
loop-binding-init c =
    let r = c.args.request in
    let same = c.widened-tensors.ensures.tensors in
    record {
      bounds = c.widened-tensors.ensures.limit;
      bound = subst (AreBound r.inputs.bounds r.bindings.items) (sym same) (AreBound-request r);
      count = ap (λ ts. length ts + length r.bindings.items) same;
      tensors = ap (worked_out (terms_under r.bindings.items)) same;
    }

pub eval_plain-requires-clause-inputs : goal.eval_plain-requires-clause-inputs
eval_plain-requires-clause-inputs c =
    let r = c.args.request in
    let xs = c.loop-binding.tensors.tensors in
    let is = left-more r.bindings.items c.loop-binding.binding-index c.binding-item.result c.deref-binding-items.result.now
    c.deref-binding-items.ensures.value c.loop-binding-test.true c.binding-item.is in
    let bound = subst (λ l. AreBound r.inputs.bounds l xs) is c.loop-binding.invariant.bound in
    bound.0.inputs

pub eval_plain-requires-clause-dims : goal.eval_plain-requires-clause-dims
eval_plain-requires-clause-dims c =
    let r = c.args.request in
    let b = c.binding-item.result in
    let xs = c.loop-binding.tensors.tensors in
    let is = left-more r.bindings.items c.loop-binding.binding-index b c.deref-binding-items.result.now
    c.deref-binding-items.ensures.value c.loop-binding-test.true c.binding-item.is in
    let bound = subst (λ l. AreBound r.inputs.bounds l xs) is c.loop-binding.invariant.bound in
    let has : IsOk (dims_of r.inputs.bounds (term_under b) xs) = ap is_ok bound.0.dims in
    ap (λ w. is_ok (dims_of w (term_under b) xs)) c.loop-binding.invariant.bounds
    ∙ ap is_ok ((dims_of-wider r.inputs.bounds c.bounds-limit.ensures.limit (term_under b) xs).same has) ∙ has

pub push-requires-clause-few : goal.push-requires-clause-few
push-requires-clause-few c =
    let r = c.args.request in
    let is = left-more r.bindings.items c.loop-binding.binding-index c.binding-item.result c.deref-binding-items.result.now
    c.deref-binding-items.ensures.value c.loop-binding-test.true c.binding-item.is in
    omega (arith, ap length is, c.loop-binding.invariant.count, length-nodes r.bindings.items, some-nodes (term_of r.expr), r.few)

pub loop-binding-preserved : goal.loop-binding-preserved
loop-binding-preserved c =
    let r = c.args.request in
    let i = c.loop-binding.binding-index in
    let b = c.binding-item.result in
    let xs = c.loop-binding.tensors.tensors in
    let made : Contents = tensor_of (term_under b) xs in
    let inv = c.loop-binding.invariant in
    let is = left-more r.bindings.items i b c.deref-binding-items.result.now
    c.deref-binding-items.ensures.value c.loop-binding-test.true c.binding-item.is in
    let bound = subst (λ l. AreBound r.inputs.bounds l xs) is inv.bound in
    let pushed : c.push.new.self.tensors ≡ xs ++ made ∷ [] = c.in_ok-push.ensures.ok ∙ ap (λ x. xs ++ x ∷ []) c.in_ok-tensor.ensures.tensor in
    record {
      bounds = c.in_ok-push.ensures.limit ∙ inv.bounds;
      bound = subst (AreBound r.inputs.bounds (drop (i + 1) r.bindings.items)) (sym pushed) bound.1;
      count = omega (arith, ap length pushed, length-append xs (made ∷ []), ap length is, inv.count);
      tensors = ap (worked_out (terms_under (drop (i + 1) r.bindings.items))) pushed ∙ ap (λ l. worked_out (terms_under l) xs) (sym is) ∙ inv.tensors;
    }

-- where none is left all tensors are there
module _ (r : Request) (items : List Binding) (k : ℕ) (xs : List Contents) (same : items ≡ r.bindings.items) (past : length items ≤ k) where
  none-left : drop k r.bindings.items ≡ []
  none-left = drop_all k r.bindings.items (subst (λ l. length l ≤ k) same past)

  all-there : worked_out (terms_under (drop k r.bindings.items)) xs ≡ tensors_of (asked_under r) → xs ≡ tensors_of (asked_under r)
  all-there is = ap (λ l. worked_out (terms_under l) xs) (sym none-left) ∙ is

pub invariant_of-result-clause-has_inputs : goal.invariant_of-result-clause-has_inputs
invariant_of-result-clause-has_inputs c =
    let r = c.args.request in
    let xs = c.loop-binding.tensors.tensors in
    let none = none-left r c.deref-binding-items.result.now c.loop-binding.binding-index xs c.deref-binding-items.ensures.value c.loop-binding-test.false in
    let long : length xs ≡ length r.inputs.tensors + length r.bindings.items = omega (arith, ap length none, c.loop-binding.invariant.count) in
    ap (has_inputs (term_of r.expr)) long ∙ r.has_inputs

pub invariant_of-result-clause-has_dims : goal.invariant_of-result-clause-has_dims
invariant_of-result-clause-has_dims c =
    let r = c.args.request in
    let xs = c.loop-binding.tensors.tensors in
    let all = all-there r c.deref-binding-items.result.now c.loop-binding.binding-index xs c.deref-binding-items.ensures.value c.loop-binding-test.false
    c.loop-binding.invariant.tensors in
    ap (dims_of widest (term_of r.expr)) all
    ∙ (dims_of-wider r.inputs.bounds c.bounds-limit.ensures.limit (term_of r.expr) (tensors_of (asked_under r))).same (ap is_ok r.has_dims) ∙ r.has_dims

pub returns : goal.returns
returns c =
    let r = c.args.request in
    ap (tensor_of (term_of r.expr)) (all-there r c.deref-binding-items.result.now c.loop-binding.binding-index c.loop-binding.tensors.tensors
    c.deref-binding-items.ensures.value c.loop-binding-test.false c.loop-binding.invariant.tensors)

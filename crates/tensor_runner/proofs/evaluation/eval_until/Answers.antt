use Rattle.std.proofs.Common.{◌≡◌, ◌+◌, ◌<◌, ◌≤◌, List, [], ◌∷◌, ◌++◌, length, drop, get_or, Ok, IsOk, is_ok, IfOk, IfSome}
use Rattle.std.proofs.Common.{ap, sym, subst, ◌∙◌, arith}
use Rattle.std.proofs.lemmas.List.{length-map, drop_all}
use Rattle.expr_reader.specs.Bindings.{terms_under, term_under}
use Rattle.expr_reader.specs.Contents.{Contents}
use Rattle.expr_reader.specs.Legal.{widest}
use Rattle.expr_reader.specs.Result.{dims_of}
use Rattle.expr_reader.specs.Sequence.{worked_out}
use Rattle.expr_reader.specs.Term.{has_inputs}
use Rattle.expr_reader.specs.Tree.{term_of}
use Rattle.expr_reader.specs.Value.{tensor_of}
use Rattle.expr_reader.proofs.Bound.{length-worked_out}
use Rattle.tensor_runner.specs.private.Held.{AreHeldFor}
use Rattle.tensor_runner.proofs.Held.{AreHeldFor-all, AreHeldFor-first, AreHeldFor-next, dims-held, tensor-held, dims-last, tensor-last}
use Rattle.expr_reader.proofs.Bindings.{some-nodes}
use Rattle.tensor_runner.proofs.Left.{dims-wider, AreLeft-start, AreLeft-first, AreLeft-next, AreLeft-end}
use Rattle.tensor_runner.proofs.evaluation.eval_until.Goals as goal

pub loop-done-init : goal.loop-done-init
loop-done-init g c =
    let r = c.args.request.now in
    record {
      all = c.deref-binding-items.ensures.value;
      held = (
        r.inputs.tensors,
        AreLeft-start r,
        AreHeldFor-all r.bindings.items (term_of r.expr) c.widened-tensors.result.tensors r.inputs.tensors
            (c.widened-tensors.ensures.tensors ∙ ap (λ i. i.tensors) c.in_ok-lent.ensures),
      );
      bounds = c.widened-tensors.ensures.limit;
    }

-- a binding has dims over the tensors that are held
pub tensor-requires-in-loop-done-clause-dims : goal.tensor-requires-in-loop-done-clause-dims
tensor-requires-in-loop-done-clause-dims g c κs within =
    let bs = c.args.request.now.bindings.items in
    let k = c.loop-done.done in
    let b = c.binding-item.result in
    let inv = c.loop-done.invariant in
    let more : k < length bs = omega (arith, ap length inv.all) in
    let is : b ≡ get_or bs k b = c.binding-item.is ∙ ap (λ l. get_or l k b) inv.all in
    subst (λ x. IsOk (dims_of x (term_under b) c.loop-done.tensors.tensors)) (sym inv.bounds)
    (dims-held (AreHeldFor-first bs k inv.held.2 more is) (AreLeft-first bs k inv.held.1 more is)
    c.bounds-limit.ensures.limit)

pub push-requires-clause-few : goal.push-requires-clause-few
push-requires-clause-few g c =
    let held = c.loop-done.invariant.held in
    omega (arith, held.1.few, held.2.as_many, some-nodes (term_of c.args.request.now.expr))

pub loop-done-preserved : goal.loop-done-preserved
loop-done-preserved g c =
    let r = c.args.request.now in
    let bs = r.bindings.items in
    let k = c.loop-done.done in
    let b = c.binding-item.result in
    let inv = c.loop-done.invariant in
    let held : List Contents = c.loop-done.tensors.tensors in
    let all = inv.held.0 in
    let made : Contents = tensor_of (term_under b) all in
    let more : k < length bs = omega (arith, ap length inv.all) in
    let is : b ≡ get_or bs k b = c.binding-item.is ∙ ap (λ l. get_or l k b) inv.all in
    let first = AreLeft-first bs k inv.held.1 more is in
    let here = AreHeldFor-first bs k inv.held.2 more is in
    let found = rw c.in-Some.is at c.in_ok-found.ensures.tensor in
    let pushed : c.push.new.self.tensors ≡ held ++ made ∷ [] =
    c.in_ok-push.ensures.ok
    ∙ ap (λ t. held ++ t ∷ []) (found ∙ tensor-held here first c.bounds-limit.ensures.limit) in
    record {
      all = inv.all;
      held = (
        all ++ made ∷ [],
        AreLeft-next first,
        c.free_unread.ensures.held (all ++ made ∷ [])
            (subst (λ ts. AreHeldFor (drop (k + 1) bs) (term_of r.expr) ts (all ++ made ∷ [])) (sym pushed)
            (AreHeldFor-next here made)),
      );
      bounds = c.free_unread.ensures.limit ∙ c.push.ensures.limit ∙ inv.bounds;
    }

-- so has the expression, where none is left
pub tensor-requires-2-clause-inputs : goal.tensor-requires-2-clause-inputs
tensor-requires-2-clause-inputs g c κs within =
    let r = c.args.request.now in
    let bs = r.bindings.items in
    let inv = c.loop-done.invariant in
    let past : length bs ≤ c.loop-done.done = omega (arith, ap length inv.all) in
    let whole = AreLeft-end inv.held.1 (drop_all c.loop-done.done bs past) in
    let long : length c.loop-done.tensors.tensors ≡ length r.inputs.tensors + length bs =
    inv.held.2.as_many ∙ ap length whole ∙ length-worked_out (terms_under bs) r.inputs.tensors
    ∙ ap (λ n. length r.inputs.tensors + n) (length-map bs term_under) in
    ap (has_inputs (term_of r.expr)) long ∙ r.has_inputs

pub tensor-requires-2-clause-dims : goal.tensor-requires-2-clause-dims
tensor-requires-2-clause-dims g c κs within =
    let r = c.args.request.now in
    let bs = r.bindings.items in
    let inv = c.loop-done.invariant in
    let past : length bs ≤ c.loop-done.done = omega (arith, ap length inv.all) in
    let none : drop c.loop-done.done bs ≡ [] = drop_all c.loop-done.done bs past in
    let has : dims_of widest (term_of r.expr) inv.held.0 ≡ Ok r.dims =
    ap (dims_of widest (term_of r.expr)) (AreLeft-end inv.held.1 none)
    ∙ dims-wider r.inputs.bounds (term_of r.expr) (worked_out (terms_under bs) r.inputs.tensors) r.dims
    c.bounds-limit.ensures.limit r.has_dims in
    subst (λ x. IsOk (dims_of x (term_of r.expr) c.loop-done.tensors.tensors)) (sym inv.bounds)
    (ap is_ok (dims-last inv.held.2 none (ap is_ok has) ∙ has))

pub returns-clause-tensor : goal.returns-clause-tensor
returns-clause-tensor g c =
    let r = c.args.request.now in
    let bs = r.bindings.items in
    let inv = c.loop-done.invariant in
    let past : length bs ≤ c.loop-done.done = omega (arith, ap length inv.all) in
    let none : drop c.loop-done.done bs ≡ [] = drop_all c.loop-done.done bs past in
    let whole : inv.held.0 ≡ worked_out (terms_under bs) r.inputs.tensors = AreLeft-end inv.held.1 none in
    let has : dims_of widest (term_of r.expr) inv.held.0 ≡ Ok r.dims =
    ap (dims_of widest (term_of r.expr)) whole
    ∙ dims-wider r.inputs.bounds (term_of r.expr) (worked_out (terms_under bs) r.inputs.tensors) r.dims
    c.bounds-limit.ensures.limit r.has_dims in
    subst (λ x. IfOk c.tensor-2.result (λ found. IfSome found (λ t. t ≡ x)))
    (tensor-last inv.held.2 none (ap is_ok has) ∙ ap (tensor_of (term_of r.expr)) whole)
    c.tensor-2.ensures.tensor

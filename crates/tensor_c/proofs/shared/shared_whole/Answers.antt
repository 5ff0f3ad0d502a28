use Rattle.std.proofs.Common.{◌≡◌, ◌<◌, ◌+◌, [], length, take, get_or, true, false, ap, sym, subst, ◌∙◌, arith, is_ok}
use Rattle.std.specs.Result.{result_unwrap_or}
use Rattle.expr_reader.specs.Asked.{asked_under}
use Rattle.expr_reader.specs.Bindings.{term_under, terms_under, nodes_in}
use Rattle.expr_reader.specs.Index.{size_of}
use Rattle.expr_reader.specs.Legal.{widest}
use Rattle.expr_reader.specs.Request.{tensors_of}
use Rattle.expr_reader.specs.Result.{dims_of}
use Rattle.expr_reader.specs.Term.{has_inputs, nodes_of}
use Rattle.expr_reader.proofs.Bindings.{AreBound-request, terms_under-take}
use Rattle.tensor_c.specs.Shared.{size_in, shared_whole}
use Rattle.tensor_c.proofs.Bound.{nodes-binding, has_inputs-binding, dims-over_all, nodes_in-push, shared_whole-push}
use Rattle.tensor_c.proofs.shared.shared_whole.Goals as goal

pub counted-requires-clause-inputs : goal.counted-requires-clause-inputs
counted-requires-clause-inputs c =
    let r = c.args.request.now in
    let bs = r.bindings.items in
    let i = c.loop-binding.binding-index in
    let b = c.binding-item.result in
    let more : i < length bs = subst (λ l. i < length l) c.deref-binding-items.ensures.value c.loop-binding-test.true in
    let is : b ≡ get_or bs i b = c.binding-item.is ∙ ap (λ l. get_or l i b) c.deref-binding-items.ensures.value in
    subst (λ x. has_inputs (term_under x) (length r.inputs.tensors + length bs) ≡ true) (sym is)
    (has_inputs-binding r.inputs.bounds bs r.inputs.tensors i b (AreBound-request r) more)

pub counted-requires-clause-few : goal.counted-requires-clause-few
counted-requires-clause-few c =
    let r = c.args.request.now in
    let bs = r.bindings.items in
    let i = c.loop-binding.binding-index in
    let b = c.binding-item.result in
    let more : i < length bs = subst (λ l. i < length l) c.deref-binding-items.ensures.value c.loop-binding-test.true in
    let is : b ≡ get_or bs i b = c.binding-item.is ∙ ap (λ l. get_or l i b) c.deref-binding-items.ensures.value in
    omega (arith, ap (λ x. nodes_of (term_under x)) is, nodes-binding bs i b more, r.few)

pub unreachable-requires : goal.unreachable-requires
unreachable-requires c =
    let r = c.args.request.now in
    let bs = r.bindings.items in
    let i = c.loop-binding.binding-index in
    let b = c.binding-item.result in
    let more : i < length bs = subst (λ l. i < length l) c.deref-binding-items.ensures.value c.loop-binding-test.true in
    let is : b ≡ get_or bs i b = c.binding-item.is ∙ ap (λ l. get_or l i b) c.deref-binding-items.ensures.value in
    let there = dims-over_all r.inputs.bounds c.bounds-limit.ensures.limit bs r.inputs.tensors i b (AreBound-request r) more in
    let none = ap is_ok (sym c.in_default.ensures.dims) in
    let bad : false ≡ true = none ∙ ap (λ x. is_ok (dims_of widest (term_under x) (tensors_of (asked_under r)))) is ∙ there in
    (cc)

pub overflow_add-shared : goal.overflow_add-shared
overflow_add-shared c =
    let r = c.args.request.now in
    let bs = r.bindings.items in
    let i = c.loop-binding.binding-index in
    let b = c.binding-item.result in
    let more : i < length bs = subst (λ l. i < length l) c.deref-binding-items.ensures.value c.loop-binding-test.true in
    let is : b ≡ get_or bs i b = c.binding-item.is ∙ ap (λ l. get_or l i b) c.deref-binding-items.ensures.value in
    omega (arith, ap (λ x. nodes_of (term_under x)) is, nodes-binding bs i b more, r.few, c.size.ensures.small, c.in-Ok.ensures.small)

pub overflow_add-shared-in-loop-binding : goal.overflow_add-shared-in-loop-binding
overflow_add-shared-in-loop-binding c =
    let r = c.args.request.now in
    let bs = r.bindings.items in
    let i = c.loop-binding.binding-index in
    let b = c.binding-item.result in
    let more : i < length bs = subst (λ l. i < length l) c.deref-binding-items.ensures.value c.loop-binding-test.true in
    let is : b ≡ get_or bs i b = c.binding-item.is ∙ ap (λ l. get_or l i b) c.deref-binding-items.ensures.value in
    omega (
      arith,
      ap (λ x. nodes_of (term_under x)) is,
      nodes-binding bs i b more,
      r.few,
      c.size.ensures.small,
      c.in-Ok.ensures.small,
      c.loop-binding.invariant.small,
    )

pub loop-binding-preserved : goal.loop-binding-preserved
loop-binding-preserved c =
    let r = c.args.request.now in
    let bs = r.bindings.items in
    let xs = tensors_of (asked_under r) in
    let i = c.loop-binding.binding-index in
    let b = c.binding-item.result in
    let ts = terms_under (take i bs) in
    let more : i < length bs = subst (λ l. i < length l) c.deref-binding-items.ensures.value c.loop-binding-test.true in
    let is : b ≡ get_or bs i b = c.binding-item.is ∙ ap (λ l. get_or l i b) c.deref-binding-items.ensures.value in
    let terms = terms_under-take bs i b more is in
    let size : c.size.result ≡ size_in xs (term_under b) =
    c.size.ensures.value ∙ sym (ap (λ d. size_of (result_unwrap_or d [])) c.in-Ok.ensures.dims) in
    record {
      value = omega (
        arith,
        ap (shared_whole xs) terms,
        shared_whole-push xs ts (term_under b),
        size,
        c.in-Ok.ensures.shared,
        c.loop-binding.invariant.value,
      );
      small = omega (
        arith,
        ap nodes_in terms,
        nodes_in-push ts (term_under b),
        c.size.ensures.small,
        c.in-Ok.ensures.small,
        c.loop-binding.invariant.small,
      );
    }

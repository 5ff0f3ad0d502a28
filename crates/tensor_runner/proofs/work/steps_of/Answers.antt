use Rattle.std.proofs.Common.{◌≡◌, ◌+◌, ◌<◌, ◌≤◌, [], ◌∷◌, ◌++◌, length, map, take, get_or, Ok, ap, sym, ◌∙◌, arith}
use Rattle.std.proofs.lemmas.List.{append-nil, take_all}
use Rattle.expr_reader.specs.Bindings.{terms_under, term_under}
use Rattle.expr_reader.specs.Legal.{widest}
use Rattle.expr_reader.specs.Result.{dims_of}
use Rattle.expr_reader.specs.Sequence.{worked_out}
use Rattle.expr_reader.specs.Tree.{term_of}
use Rattle.expr_reader.specs.Value.{tensor_of}
use Rattle.tensor_runner.specs.private.Known.{dims_of_all, dims_known, tensors_known}
use Rattle.tensor_runner.specs.Work.{steps_over, steps_of_all}
use Rattle.tensor_runner.proofs.DimsAlone.{dims-without_values}
use Rattle.tensor_runner.proofs.Left.{AreLeft-start, dims-here, dims-wider, AreCounted-next, all-end, dims-end, steps-end}
use Rattle.tensor_runner.proofs.Left.{IsOk-known, steps_over-known}
use Rattle.tensor_runner.proofs.work.steps_of.Goals as goal

pub loop-done-init : goal.loop-done-init
loop-done-init c =
    let r = c.args.request.now in
    record {
      all = c.deref-binding-items.ensures.value;
      counted = (
        r.inputs.tensors,
        record {
          left = AreLeft-start r;
          dims = sym (append-nil (dims_of_all r.inputs.tensors));
          counts = omega arith;
          small = omega arith;
        },
      );
    }

-- a binding has dims over what is known
pub steps_over-steps-requires-clause-dims : goal.steps_over-steps-requires-clause-dims
steps_over-steps-requires-clause-dims c =
    let r = c.args.request.now in
    let bs = r.bindings.items in
    let k = c.loop-done.done in
    let b = c.binding-item.result in
    let inv = c.loop-done.invariant in
    let more : k < length bs = omega (arith, ap length inv.all) in
    let is : b ≡ get_or bs k b = c.binding-item.is ∙ ap (λ l. get_or l k b) inv.all in
    IsOk-known (tensors_known c.of.result) inv.counted.0
    (dims-without_values (dims_known c.of.result) ∙ c.of.ensures) inv.counted.1.dims (term_under b)
    b.dims
    (dims-here inv.counted.1 more is c.bounds-limit.ensures.limit)

pub loop-done-preserved : goal.loop-done-preserved
loop-done-preserved c =
    let r = c.args.request.now in
    let bs = r.bindings.items in
    let k = c.loop-done.done in
    let b = c.binding-item.result in
    let inv = c.loop-done.invariant in
    let all = inv.counted.0 in
    let more : k < length bs = omega (arith, ap length inv.all) in
    let is : b ≡ get_or bs k b = c.binding-item.is ∙ ap (λ l. get_or l k b) inv.all in
    let counts : c.steps_over-steps.result ≡ steps_over all (term_under b) =
    c.steps_over-steps.ensures.value
    ∙ steps_over-known (tensors_known c.of.result) all
    (dims-without_values (dims_known c.of.result) ∙ c.of.ensures) inv.counted.1.dims (term_under b) in
    record {
      all = inv.all;
      counted = (
        all ++ tensor_of (term_under b) all ∷ [],
        AreCounted-next inv.counted.1 more is c.steps_over-steps.result c.bounds-limit.ensures.limit
            counts c.steps_over-steps.ensures.small,
      );
    }

-- so has the expression behind all
pub steps_over-requires-clause-dims : goal.steps_over-requires-clause-dims
steps_over-requires-clause-dims c =
    let r = c.args.request.now in
    let bs = r.bindings.items in
    let k = c.loop-done.done in
    let inv = c.loop-done.invariant in
    let all = inv.counted.0 in
    let past : length bs ≤ k = omega (arith, ap length inv.all) in
    let full : take c.len.result bs ≡ bs = take_all c.len.result bs (omega (arith, c.len.ensures)) in
    let has : dims_of widest (term_of r.expr) all ≡ Ok r.dims =
    ap (dims_of widest (term_of r.expr)) (all-end inv.counted.1 past)
    ∙ dims-wider r.inputs.bounds (term_of r.expr) (worked_out (terms_under bs) r.inputs.tensors) r.dims
    c.bounds-limit.ensures.limit r.has_dims in
    IsOk-known (tensors_known c.of-2.result) all
    (dims-without_values (dims_known c.of-2.result) ∙ c.of-2.ensures
    ∙ ap (λ l. dims_of_all r.inputs.tensors ++ map (λ x. x.dims) l) full)
    (dims-end inv.counted.1 past)
    (term_of r.expr) r.dims has

pub returns : goal.returns
returns c =
    let r = c.args.request.now in
    let bs = r.bindings.items in
    let k = c.loop-done.done in
    let inv = c.loop-done.invariant in
    let all = inv.counted.0 in
    let past : length bs ≤ k = omega (arith, ap length inv.all) in
    let full : take c.len.result bs ≡ bs = take_all c.len.result bs (omega (arith, c.len.ensures)) in
    let last : c.steps_over.result ≡ steps_over (worked_out (terms_under bs) r.inputs.tensors) (term_of r.expr) =
    c.steps_over.ensures.value
    ∙ steps_over-known (tensors_known c.of-2.result) all
    (dims-without_values (dims_known c.of-2.result) ∙ c.of-2.ensures
    ∙ ap (λ l. dims_of_all r.inputs.tensors ++ map (λ x. x.dims) l) full)
    (dims-end inv.counted.1 past)
    (term_of r.expr)
    ∙ ap (λ l. steps_over l (term_of r.expr)) (all-end inv.counted.1 past) in
    let first : c.loop-done.steps ≡ steps_of_all (terms_under bs) r.inputs.tensors =
    steps-end inv.counted.1 past in
    ap (λ n. n + c.steps_over.result) first
    ∙ ap (λ n. steps_of_all (terms_under bs) r.inputs.tensors + n) last

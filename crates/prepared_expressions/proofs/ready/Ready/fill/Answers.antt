use Rattle.std.proofs.Common.{◌≡◌, ◌<◌, ◌-◌, ◌++◌, min, [], length, drop, ap, sym, ◌∙◌, arith, rules}
use Rattle.std.specs.Result.{result_unwrap_or}
use Rattle.std.proofs.lemmas.List.{length-take-le}
use Rattle.tensor_ops.specs.Index.{size_of}
use Rattle.tensor_ops.specs.Result.{shape_of}
use Rattle.tensor_ops.specs.Tree.{term_of}
use Rattle.tensor_ops.specs.Value.{values_from}
use Rattle.prepared_expressions.specs.declared.ready.Ready.{Ready}
use Rattle.prepared_expressions.proofs.ready.Ready.fill.Goals as goal

-- the dims are those of the tensor
size-ready : (r : Ready) → size_of r.dims ≡ size_of (shape_of (term_of r.expr) r.tensors.tensors)
size-ready r = ap (λ d. size_of (result_unwrap_or d [])) (sym r.has_dims)

pub fill_all-requires-clause-within : goal.fill_all-requires-clause-within
fill_all-requires-clause-within c =
    let n = c.count_from-count.result in
    let some : 0 < n = omega (arith, c.if-count-eq0.false) in
    omega (
      arith,
      length-take-le n c.args.out.now c.count_from-count.ensures.room,
      c.count_from-count.ensures.inside some,
      c.size.ensures.value ∙ size-ready c.args.self.now,
    )

pub returns-then-count-eq0-clause-part : goal.returns-then-count-eq0-clause-part
returns-then-count-eq0-clause-part c =
    record {
      many = sym c.if-count-eq0.true ∙ c.count_from-count.ensures.count
          ∙ ap (λ s. min (s - c.args.first) (length c.args.out.now)) (c.size.ensures.value ∙ size-ready c.args.self.now);
      values = search rules;
    }

pub returns-clause-part : goal.returns-clause-part
returns-clause-part c =
    let r = c.args.self.now in
    let t = term_of r.expr in
    let inputs = r.tensors.tensors in
    let first = c.args.first in
    let out = c.args.out.now in
    let n = c.count_from-count.result in
    let written : c.fill_all.new.out ≡ values_from t inputs first n =
    c.in_ok-fill_all.ensures.values
    ∙ ap (λ k. values_from t inputs first k)
    (length-take-le n out c.count_from-count.ensures.room) in
    record {
      many = c.count_from-count.ensures.count ∙ ap (λ s. min (s - first) (length out)) (c.size.ensures.value ∙ size-ready r);
      values = ap (λ l. l ++ drop n out) written;
    }

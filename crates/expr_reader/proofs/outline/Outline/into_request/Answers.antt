use Rattle.std.proofs.Common.{◌≡◌, ◌+◌, length, true, Ok, ap, sym, subst, arith}
use Rattle.tensor_ops.specs.Result.{dims_of}
use Rattle.tensor_ops.specs.Term.{has_inputs}
use Rattle.tensor_ops.specs.Tree.{term_of}
use Rattle.expr_reader.proofs.outline.Outline.into_request.Goals as goal

pub invariant_of-result-clause-have_inputs : goal.invariant_of-result-clause-have_inputs
invariant_of-result-clause-have_inputs c = rw c.in-Ok.ensures c.args.self.have_inputs

pub invariant_of-result-clause-have_dims : goal.invariant_of-result-clause-have_dims
invariant_of-result-clause-have_dims c = rw c.in-Ok.ensures c.args.self.have_dims

pub invariant_of-result-clause-has_inputs : goal.invariant_of-result-clause-has_inputs
invariant_of-result-clause-has_inputs c = rw c.in-Ok.ensures c.args.self.has_inputs

pub invariant_of-result-clause-has_dims : goal.invariant_of-result-clause-has_dims
invariant_of-result-clause-has_dims c = rw c.in-Ok.ensures c.args.self.has_dims

pub invariant_of-result-clause-few : goal.invariant_of-result-clause-few
invariant_of-result-clause-few c = rw c.in-Ok.ensures c.args.self.few

-- an expression without bindings is over the inputs alone
pub returns-clause-unbound : goal.returns-clause-unbound
returns-clause-unbound c = λ none.
    let o = c.args.self in
    let same = c.in-Ok.ensures in
    let count : length o.inputs.tensors + length o.bindings.items ≡ length c.in-Ok.inputs.tensors =
    omega (arith, ap length none, ap (λ i. length i.tensors) same) in
    let dims = rw none at o.has_dims in
    record {
      bindings = none;
      has_inputs = subst (λ n. has_inputs (term_of o.expr) n ≡ true) count o.has_inputs;
      has_dims = subst (λ i. dims_of i.bounds (term_of o.expr) i.tensors ≡ Ok o.dims) (sym same) dims;
    }

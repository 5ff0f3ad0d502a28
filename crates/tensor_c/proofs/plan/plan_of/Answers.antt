use Rattle.std.proofs.Common.{◌≡◌, ◌++◌, ◌∷◌, [], Ok, ap, sym, ◌∙◌, subst, is_ok}
use Rattle.expr_reader.specs.Bindings.{terms_under}
use Rattle.expr_reader.specs.Outline.{outlined}
use Rattle.expr_reader.specs.Tree.{term_of}
use Rattle.expr_reader.proofs.Bindings.{AreBound-all}
use Rattle.prepared_expressions.specs.Prepared.{prepared_of, dims_of_all}
use Rattle.prepared_expressions.proofs.Dealing.{dims_of_all-dealt}
use Rattle.tensor_c.specs.Plan.{IsPlan}
use Rattle.tensor_c.proofs.Bound.{HaveDims-bound}
use Rattle.tensor_c.proofs.Dims.{HaveDims-same}
use Rattle.tensor_c.proofs.Plans.{HaveSameDims-all}
use Rattle.tensor_c.proofs.plan.plan_of.Goals as goal

pub returns-in-Ok-clause-ready : goal.returns-in-Ok-clause-ready
returns-in-Ok-clause-ready c = λ a is.
    let o = c.in_ok-outline.outline in
    let bounds = o.inputs.bounds in
    let ts = o.inputs.tensors in
    let bs = o.bindings.items in
    let both : Ok a ≡ Ok (outlined o) = sym is ∙ c.in_ok-outline.ensures.outline in
    let same : outlined o ≡ a = cc in
    subst (λ x. IsPlan (prepared_of x)) same
    (record {
      prepared = c.in-Ok.ensures.prepared;
      have_dims = λ arrays us dealt.
          HaveDims-same bounds (terms_under bs ++ term_of o.expr ∷ []) ts us
          (HaveSameDims-all ts us (sym (dims_of_all-dealt (dims_of_all ts) arrays us dealt)))
          (HaveDims-bound bounds bs (term_of o.expr) ts (AreBound-all bounds bs ts o.have_inputs o.have_dims) (ap is_ok o.has_dims));
    })

use Rattle.std.proofs.Common.{◌≡◌, ◌++◌, ℤ, pos, List, length, drop, inl, ap, sym, ◌∙◌, arith, to_z, w64}
use Rattle.std.proofs.lemmas.Grind.{common_steps}
use Rattle.expr_reader.specs.Index.{size_of}
use Rattle.expr_reader.specs.Result.{shape_of}
use Rattle.expr_reader.specs.Tree.{term_of}
use Rattle.expr_reader.specs.Value.{values_from}
use Rattle.tensor_c.specs.Call.{begun}
use Rattle.tensor_c.specs.Part.{part_of}
use Rattle.tensor_c.proofs.Parts.{length-part, part-many}
use Rattle.tensor_c.proofs.part.put_ready.Goals as goal

pub returns-in-Ok-clause-call : goal.returns-in-Ok-clause-call
returns-in-Ok-clause-call c =
    let t = term_of c.args.ready.now.expr in
    let inputs = c.args.ready.now.tensors.tensors in
    let first = c.args.first in
    let out : List ℤ = c.args.out.now in
    let count = c.in-Ok.count in
    let part = part_of (values_from t inputs 0 (size_of (shape_of t inputs))) first (length out) in
    let long : count ≡ length part = c.in-Ok.ensures.part.many ∙ sym (length-part t inputs first (length out)) in
    let here : part ≡ values_from t inputs first count = part-many t inputs first (length out) count c.in-Ok.ensures.part.many in
    let written : c.fill.new.out ≡ begun part out =
    c.in-Ok.ensures.part.values ∙ ap (λ l. l ++ drop count out) (sym here) ∙ ap (λ m. part ++ drop m out) long in
    let fits : to_z w64 count ≡ pos count = grind (arith, common_steps) in
    inl (rw (fits, written) (ap (λ n. record { result = pos n; out = begun part out }) long))

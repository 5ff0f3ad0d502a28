use Rattle.std.proofs.Common.{◌≡◌, ◌≤ℤ◌, pos, Ok, ap, subst, ◌∙◌, arith, to_z, of_z, w64}
use Rattle.std.proofs.lemmas.Grind.{common_steps}
use Rattle.expr_reader.specs.Request.{Asked}
use Rattle.prepared_expressions.specs.Prepared.{prepared_of}
use Rattle.tensor_c.specs.Answer.{or_fault}
use Rattle.tensor_c.specs.Plan.{asked_over, plan_over, called_for_plan, IsPlan}
use Rattle.tensor_c.proofs.Found.{found-plan, found-ready}
use Rattle.tensor_c.proofs.tensor_prepare.Goals as goal

pub returns-clause-call : goal.returns-clause-call
returns-clause-call c =
    let fits : to_z w64 (of_z w64 c.put_found_plan.result) ≡ c.put_found_plan.result = grind (arith, common_steps) in
    rw fits
    (found-plan c.plan_of.result (λ numbers. numbers.items) (plan_over c.args.header.now c.args.count) c.args.plan.now _ c.plan_of.ensures.numbers c.put_found_plan.ensures)

pub returns-clause-ready : goal.returns-clause-ready
returns-clause-ready c = λ a is some.
    let fits : to_z w64 (of_z w64 c.put_found_plan.result) ≡ c.put_found_plan.result = grind (arith, common_steps) in
    found-ready c.plan_of.result (λ numbers. numbers.items) c.args.plan.now _
    ((a : Asked) → asked_over c.args.header.now c.args.count ≡ Ok a → IsPlan (prepared_of a))
    c.plan_of.ensures.ready c.put_found_plan.ensures (subst (λ z. pos 0 ≤ℤ z) fits some) a is

pub returns-clause-too_long : goal.returns-clause-too_long
returns-clause-too_long c = λ long.
    let fits : to_z w64 (of_z w64 c.put_found_plan.result) ≡ c.put_found_plan.result = grind (arith, common_steps) in
    rw fits (c.put_found_plan.ensures
    ∙ ap (λ r. called_for_plan (or_fault (λ numbers. numbers.items) r) c.args.plan.now) (c.plan_of.ensures.too_long long))

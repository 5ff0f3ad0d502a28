-- A call that writes what was found writes what the answer says, or reports that no memory was found.
use Rattle.std.proofs.Common.{◌≡◌, ◌⊎◌, ◌≤ℤ◌, pos, ℕ, List, Result, Ok, Err, MatchResult, IfOk, ap, sym, subst, ◌∙◌, inl, inr, arith}
use Rattle.expr_reader.specs.declared.fault.Fault.{Fault}
use Rattle.expr_reader.specs.declared.fault.Fault.TheVariants.{TooLong, NotJson, BadField}
use Rattle.expr_reader.specs.declared.fault.Fault.TheVariants.{BadVersion, BadWorkers, BadBlock}
use Rattle.expr_reader.specs.declared.fault.Fault.TheVariants.{BadTensor, UnknownInput, UnknownOp}
use Rattle.expr_reader.specs.declared.fault.Fault.TheVariants.{BadArity, BadArgument, ShapeMismatch}
use Rattle.expr_reader.specs.declared.fault.Fault.TheVariants.{OutOfRange, TooLarge, NoMemory}
use Rattle.tensor_c.specs.Answer.{or_fault}
use Rattle.tensor_c.specs.Call.{CalledForDims, called_for_dims, IsDimsCall, fault_result}
use Rattle.tensor_c.specs.Plan.{CalledForPlan, called_for_plan, IsPlanCall}

pub found-dims : (found answer : Result (List ℕ) Fault) (dims : List ℕ) (call : CalledForDims)
    → MatchResult found (λ sizes. answer ≡ Ok sizes) (λ fault. (fault ≡ NoMemory) ⊎ (answer ≡ Err fault))
    → call ≡ called_for_dims found dims → IsDimsCall answer dims call
found-dims (Ok sizes) answer dims call is made = inl (made ∙ ap (λ r. called_for_dims r dims) (sym is))
found-dims (Err fault) answer dims call is made =
    elim is [
      | inl memory ↦ inr (made ∙ ap (λ f. called_for_dims (Err f) dims) memory)
      | inr other ↦ inl (made ∙ ap (λ r. called_for_dims r dims) (sym other))
    ]

-- the result for a fault is below 0
negative : (fault : Fault) → pos 0 ≤ℤ fault_result fault → ⊥
negative TooLong some = omega (arith, some)
negative NotJson some = omega (arith, some)
negative BadField some = omega (arith, some)
negative BadVersion some = omega (arith, some)
negative BadWorkers some = omega (arith, some)
negative BadBlock some = omega (arith, some)
negative BadTensor some = omega (arith, some)
negative UnknownInput some = omega (arith, some)
negative UnknownOp some = omega (arith, some)
negative BadArity some = omega (arith, some)
negative BadArgument some = omega (arith, some)
negative ShapeMismatch some = omega (arith, some)
negative OutOfRange some = omega (arith, some)
negative TooLarge some = omega (arith, some)
negative NoMemory some = omega (arith, some)

pub found-plan : {A : Type 0} (found : Result A Fault) (items : A → List ℕ) (answer : Result (List ℕ) Fault) (plan : List ℕ) (call : CalledForPlan)
    → MatchResult found (λ x. answer ≡ Ok (items x)) (λ fault. (fault ≡ NoMemory) ⊎ (answer ≡ Err fault))
    → call ≡ called_for_plan (or_fault items found) plan → IsPlanCall answer plan call
found-plan (Ok x) items answer plan call is made = inl (made ∙ ap (λ r. called_for_plan r plan) (sym is))
found-plan (Err fault) items answer plan call is made =
    elim is [
      | inl memory ↦ inr (made ∙ ap (λ f. called_for_plan (Err f) plan) memory)
      | inr other ↦ inl (made ∙ ap (λ r. called_for_plan r plan) (sym other))
    ]

-- what holds if a plan was found holds if the result is a length
pub found-ready : {A : Type 0} (found : Result A Fault) (items : A → List ℕ) (plan : List ℕ) (call : CalledForPlan) (X : Type 0)
    → IfOk found (λ _. X) → call ≡ called_for_plan (or_fault items found) plan → pos 0 ≤ℤ call.result → X
found-ready (Ok x) items plan call X ready made some = ready
found-ready (Err fault) items plan call X ready made some = absurd (negative fault (subst (λ c. pos 0 ≤ℤ c.result) made some))

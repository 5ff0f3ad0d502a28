-- Plans: what a call that prepares a header writes, and what a call that runs a plan returns.
use Rattle.std.specs.Prelude.{◌≡◌, ◌⊎◌, ℕ, ℤ, pos, neg_ℤ, List, length, replicate, nat_le, Result}
use Rattle.std.specs.Prelude.{Ok, Err, if◌then◌else◌}
use Rattle.expr_reader.specs.Contents.{Contents}
use Rattle.expr_reader.specs.Frame.{request_of_frame}
use Rattle.expr_reader.specs.Request.{Asked}
use Rattle.expr_reader.specs.Sequence.{worked_out}
use Rattle.expr_reader.specs.Value.{tensor_of}
use Rattle.expr_reader.specs.declared.fault.Fault.{Fault}
use Rattle.expr_reader.specs.declared.fault.Fault.TheVariants.{BadTensor, NoMemory}
use Rattle.prepared_expressions.specs.Prepared.{Prepared, IsPrepared, terms_of, record_of}
use Rattle.prepared_expressions.specs.Prepared.{prepared_of, dealt}
use Rattle.prepared_expressions.specs.Ready.{HaveDims}
use Rattle.prepared_expressions.specs.declared.refusal.Refusal.{Refusal}
use Rattle.prepared_expressions.specs.declared.refusal.Refusal.TheVariants as refusal
use Rattle.tensor_c.specs.Answer.{or_fault}
use Rattle.tensor_c.specs.Call.{begun, fault_result, no_room}
use Rattle.tensor_c.specs.Part.{CalledForPart}

-- the request of a header with `count` values, all zero
abbrev pub asked_over : List ℕ → ℕ → Result Asked Fault
asked_over header count = request_of_frame header (replicate count (pos 0))

-- the plan of a header with `count` values, or its first fault
abbrev pub plan_over : List ℕ → ℕ → Result (List ℕ) Fault
plan_over header count = or_fault (λ a. record_of (prepared_of a)) (asked_over header count)

-- the result of a call that prepares, and the list after it
pub record CalledForPlan : Type 0 where
  pub result : ℤ
  pub plan : List ℕ

-- the call writes a plan that has room, and returns its length; for a fault it writes nothing
abbrev pub called_for_plan : Result (List ℕ) Fault → List ℕ → CalledForPlan
called_for_plan (Ok numbers) plan =
    if nat_le (length numbers) (length plan)
    then record { result = pos (length numbers); plan = begun numbers plan }
    else record { result = no_room; plan = plan }
called_for_plan (Err f) plan = record { result = fault_result f; plan = plan }

-- the call does what the plan says, or reports `NoMemory` and writes nothing
abbrev pub IsPlanCall : Result (List ℕ) Fault → List ℕ → CalledForPlan → Type 0
IsPlanCall answer plan call =
    (call ≡ called_for_plan answer plan) ⊎ (call ≡ called_for_plan (Err NoMemory) plan)

-- a prepared expression all of whose terms have result dims, over any arrays that fit
pub record IsPlan (p : Prepared) : Type 0 where
  pub prepared : IsPrepared p
  pub have_dims : (arrays : List (List ℤ)) (tensors : List Contents)
      → dealt p.dims arrays ≡ Ok tensors → HaveDims p.bounds (terms_of p) tensors

-- the tensor of a prepared expression over its inputs, or `BadTensor` if the arrays do not fit
abbrev pub tensor_over : Prepared → Result (List Contents) Refusal → Result Contents Fault
tensor_over p (Ok tensors) = Ok (tensor_of p.term (worked_out p.bindings tensors))
tensor_over p (Err f) = Err BadTensor

-- the answer of a plan over arrays
abbrev pub answer_of_plan : Prepared → List (List ℤ) → Result Contents Fault
answer_of_plan p arrays = tensor_over p (dealt p.dims arrays)

-- the result for numbers that are not a plan
abbrev pub no_plan : ℤ
no_plan = neg_ℤ (pos 101)

-- the result for a refusal
abbrev pub refusal_result : Refusal → ℤ
refusal_result refusal.NoMemory = fault_result NoMemory
refusal_result refusal.NoRecord = no_plan
refusal_result refusal.TooLarge = no_plan
refusal_result refusal.OtherArrays = fault_result BadTensor
refusal_result refusal.NoDims = no_plan

-- the call reports a refusal and writes nothing
abbrev pub refused : Refusal → List ℤ → CalledForPart
refused f out = record { result = refusal_result f; out = out }

-- the call reports some refusal and writes nothing
abbrev pub IsRefused : List ℤ → CalledForPart → Type 0
IsRefused out call = (f : Refusal) × (call ≡ refused f out)

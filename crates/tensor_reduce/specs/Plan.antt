-- Plans: steps with their dims, and the tensors that they give one after the other.
use Rattle.std.specs.Prelude.{◌≡◌, ◌-◌, ℕ, List, [], ◌∷◌, ◌++◌, length, map, Ok, IsTrue}
use Rattle.tensor_ops.specs.Legal.{widest}
use Rattle.tensor_ops.specs.Contents.{Contents, input_of}
use Rattle.tensor_ops.specs.Result.{dims_of}
use Rattle.tensor_ops.specs.Shaped.{Shaped}
use Rattle.tensor_ops.specs.Term.{Term, has_inputs}
use Rattle.tensor_ops.specs.Tree.{term_of}
use Rattle.tensor_ops.specs.Value.{tensor_of}
use Rattle.tensor_reduce.specs.Steps.{is_single}
use Rattle.tensor_reduce.specs.declared.plan.Plan.{Plan}
use Rattle.tensor_reduce.specs.declared.step.Step.{Step}

-- the term of a step, over the inputs and the tensors of earlier steps
abbrev pub term_of_step : Step → Term
term_of_step s = term_of s.expr

-- the dims of a step
abbrev pub dims_of_step : Step → List ℕ
dims_of_step s = s.dims

-- the terms of steps
abbrev pub terms_in : List Step → List Term
terms_in steps = map term_of_step steps

-- the dims of steps
abbrev pub dims_in : List Step → List Shaped
dims_in steps = map (λ s. Ok (dims_of_step s)) steps

-- the steps of a plan
abbrev pub steps_in : Plan → List Step
steps_in plan = plan.steps.items

-- the last of tensors, of which there is at least one
abbrev pub last_tensor : List Contents → Contents
last_tensor tensors = input_of tensors (length tensors - 1)

-- a step can be evaluated over tensors: it is single, names tensors that exist, and has its term's
-- dims
pub record IsReady (s : Step) (tensors : List Contents) : Type 0 where
  pub single : IsTrue (is_single (term_of_step s))
  pub inputs : IsTrue (has_inputs (term_of_step s) (length tensors))
  pub dims : dims_of widest (term_of_step s) tensors ≡ Ok (dims_of_step s)

-- each step can be evaluated over tensors and the tensors of the steps before it
abbrev pub AreReady : List Step → List Contents → Type 0
AreReady [] tensors = Unit {0}
AreReady (s ∷ steps) tensors =
    IsReady s tensors × AreReady steps (tensors ++ tensor_of (term_of_step s) tensors ∷ [])

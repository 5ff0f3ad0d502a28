-- What the walk over an expression keeps.
use Rattle.std.specs.Prelude.{◌≡◌, ◌+◌, List, [], ◌∷◌, ◌++◌, length, map, Ok, Bool}
use Rattle.std.specs.Prelude.{if◌then◌else◌}
use Rattle.tensor_ops.specs.Legal.{widest}
use Rattle.tensor_ops.specs.Contents.{Contents}
use Rattle.tensor_ops.specs.Result.{dims_of}
use Rattle.tensor_ops.specs.Term.{Term, input}
use Rattle.tensor_reduce.specs.Plan.{term_of_step, dims_of_step, terms_in, dims_in}
use Rattle.tensor_reduce.specs.Steps.{operand_nodes, step_nodes, cut, steps_of, number_of}
use Rattle.tensor_reduce.specs.declared.step.Step.{Step}

-- the steps of an operand were appended to old, which gave new, and left is the rest of the operand
pub record IsCut (inputs : List Contents) (whole : Bool) (t : Term) (old new : List Step)
    (left : Step) : Type 0 where
  pub terms : terms_in new ≡ terms_in old ++ (cut (length inputs + length old) whole t).steps
  pub nodes : dims_in new ≡ dims_in old ++ map (λ a. dims_of widest a inputs) (operand_nodes whole t)
  pub term : term_of_step left ≡ (cut (length inputs + length old) whole t).left
  pub dims : dims_of widest t inputs ≡ Ok (dims_of_step left)

-- a node was appended to old if it is a step, which gave new, and rest names it
pub record IsSplitOff (inputs : List Contents) (is_step : Bool) (node : Step)
    (old new : List Step) (rest : Step) : Type 0 where
  pub steps : new ≡ (if is_step then old ++ node ∷ [] else old)
  pub term : term_of_step rest
      ≡ (if is_step then input (number_of (length inputs + length old)) else term_of_step node)
  pub dims : dims_of_step rest ≡ dims_of_step node

-- the steps of an expression, each with the dims of its node
pub record AreStepsOf (inputs : List Contents) (t : Term) (steps : List Step) : Type 0 where
  pub terms : terms_in steps ≡ steps_of (length inputs) t
  pub nodes : dims_in steps ≡ map (λ a. dims_of widest a inputs) (step_nodes t)

-- Places in the value of a text, and faults with their places.
use Rattle.std.specs.Prelude.{ℕ, List, [], ◌∷◌, map, reverse, Result, Ok, Err}
use Rattle.std.specs.Result.{result_map_both}
use Rattle.expr_reader.specs.declared.fault.Fault.{Fault}

-- a step down into a value: to the member with a name, or to the element with an index, from 0 up
pub data Step : Type 0 where
  field : List ℕ → Step
  index : ℕ → Step

-- the way down by the indices of elements, given with the innermost first
abbrev pub way_of : List ℕ → List Step
way_of indices = map index (reverse indices)

-- a fault, and its place: the steps down to it from the value that was checked
pub record Located : Type 0 where
  pub fault : Fault
  pub place : List Step

-- a fault of the whole value that was checked
abbrev pub here : Fault → Located
here fault = record { fault = fault; place = [] }

-- a fault one step down from the value that was checked
abbrev pub at : Step → Fault → Located
at step fault = record { fault = fault; place = step ∷ [] }

-- what was found one step down: the place of a fault gets that step as its first
abbrev pub below : {A : Type 0} → Step → Result A Located → Result A Located
below step (Ok x) = Ok x
below step (Err found) = Err (record { fault = found.fault; place = step ∷ found.place })

-- what was found, its fault without the place
abbrev pub unlocated : {A : Type 0} → Result A Located → Result A Fault
unlocated found = result_map_both (λ x. x) (λ it. it.fault) found

-- Reductions and contractions whose operands lie in runs.
use Rattle.std.specs.Prelude.{◌≡◌, ℕ, ℤ, ◌+◌, ◌*◌, ◌*ℤ◌, ◌/◌, ◌%◌, ◌<◌, ◌≤◌, List, length}
use Rattle.std.specs.Coded.{Unit-prop}
use native.Mathlib.Nat.{ℕ_set}
use Rattle.tensor_shape.specs.Index.{size_of, index_of}
use Rattle.tensor_shape.specs.Wrap.{wrap}
use Rattle.tensor_terms.specs.Contents.{Contents}
use Rattle.tensor_loops.specs.Folds.{folded}
use Rattle.tensor_ops.specs.private.ContractedRuns.{contracted_value}
use Rattle.tensor_ops.specs.Parts.{reduced_part, inner_size, part_value}
use Rattle.tensor_kernels.specs.Products.{sum_to}
use Rattle.tensor_values.specs.Combining.{unit}
use Rattle.tensor_terms.specs.Result.{shape_of}
use Rattle.tensor_terms.specs.Term.{Term}
use Rattle.tensor_terms.specs.Merged.{among, dims_at, other_dims}
use Rattle.tensor_ops.specs.private.ValueRuns.{run_value}
use Rattle.tensor_values.specs.declared.reducer.Reducer.{Reducer}
use Rattle.tensor_ops.specs.declared.part_evaluator.in_runs.InRuns.{InRuns}
use Rattle.tensor_ops.specs.declared.part_evaluator.in_runs.InRuns.TheVariants.{Combined}
use Rattle.tensor_ops.specs.declared.part_evaluator.in_runs.InRuns.TheVariants.{Contracted}
use Rattle.tensor_ops.specs.declared.part_evaluator.in_runs.InRuns.TheVariants.{Multiplied}

-- the number of values of a run
abbrev pub run_length : InRuns → ℕ
run_length (Combined r runs) = runs.length
run_length (Contracted r runs) = runs.length
run_length (Multiplied first second) = first.length

-- the number of places of the result
abbrev pub run_places : InRuns → ℕ
run_places (Combined r runs) = runs.count
run_places (Contracted r runs) = runs.count
run_places (Multiplied first second) = second.count * first.count

-- what count values of the runs of place p contribute, from value first on
abbrev pub run_part : InRuns → ℕ → ℕ → ℕ → ℤ
run_part (Combined r runs) p first count =
    folded r (unit r) (λ q. run_value runs p (first + q)) count
run_part (Contracted r runs) p first count =
    folded r (unit r) (λ q. contracted_value runs p (first + q)) count
run_part (Multiplied a b) p first count =
    wrap (sum_to (λ q. run_value a (p % a.count) (first + q)
    *ℤ run_value b (p / a.count) (first + q)) count)

-- the value of place p, with its whole runs
abbrev pub run_whole : InRuns → ℕ → ℤ
run_whole r p = run_part r p 0 (run_length r)

-- the runs that are multiplied have equally many values
abbrev pub HaveOneLength : InRuns → Type 0
HaveOneLength (Combined r runs) = Unit {0}
HaveOneLength (Contracted r runs) = Unit {0}
HaveOneLength (Multiplied first second) = second.length ≡ first.length

-- HaveOneLength is a proposition
pub HaveOneLength-prop : (r : InRuns) → IsProp (HaveOneLength r)
HaveOneLength-prop (Combined r runs) = Unit-prop
HaveOneLength-prop (Contracted r runs) = Unit-prop
HaveOneLength-prop (Multiplied first second) = ℕ_set second.length first.length

-- the parts of r are the parts of a term's values
pub record GivesParts (r : InRuns) (t : Term) (inputs : List Contents) : Type 0 where
  pub lengths : HaveOneLength r
  pub inner : run_length r ≡ inner_size t inputs
  pub places : run_places r ≡ size_of (shape_of t inputs)
  pub parts : (p first count : ℕ) → p < size_of (shape_of t inputs)
      → first + count ≤ inner_size t inputs
      → run_part r p first count ≡ part_value t inputs p first count

-- the parts of runs are the parts of a reduction of a function's values
pub record GivesReduced (runs : InRuns) (r : Reducer) (axes ds : List ℕ)
    (f : List ℕ → ℤ) : Type 0 where
  pub lengths : HaveOneLength runs
  pub inner : run_length runs ≡ size_of (dims_at (among axes (length ds)) ds)
  pub places : run_places runs ≡ size_of (other_dims axes ds)
  pub parts : (p first count : ℕ) → p < size_of (other_dims axes ds)
      → first + count ≤ size_of (dims_at (among axes (length ds)) ds)
      → run_part runs p first count
      ≡ reduced_part r axes ds f (index_of (other_dims axes ds) p) first count

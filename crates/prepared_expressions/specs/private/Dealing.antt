-- The tensors of a record's inputs, in the order in which they are read.
use Rattle.std.specs.Prelude.{◌&&◌, ◌==◌, ℕ, ℤ, List, [], ◌∷◌, ◌++◌, length, take, drop, nat_le}
use Rattle.std.specs.Prelude.{Result, Ok, Err, if◌then◌else◌}
use Rattle.tensor_shape.specs.Index.{size_of}
use Rattle.tensor_shape.specs.Legal.{are_legal}
use Rattle.tensor_shape.specs.declared.bounds.Bounds.{Bounds}
use Rattle.tensor_terms.specs.Contents.{Contents}
use Rattle.prepared_expressions.specs.declared.refusal.Refusal.{Refusal}
use Rattle.prepared_expressions.specs.declared.refusal.Refusal.TheVariants.{NoRecord, OtherArrays}

-- the tensors that were read, and the numbers after their dims
pub record Dealing : Type 0 where
  pub tensors : List Contents
  pub rest : List ℕ

-- one tensor that was read, and the numbers after its dims
pub record One : Type 0 where
  pub tensor : Contents
  pub rest : List ℕ

-- a tensor with these values. Its rank and dims are the first numbers; they are within bounds and
-- have as many places as there are values
abbrev pub one_from : Bounds → List ℤ → List ℕ → Result One Refusal
one_from bounds vs [] = Err NoRecord
one_from bounds vs (n ∷ ns) =
    if nat_le n (length ns) && are_legal bounds (take n ns)
    then (if length vs == size_of (take n ns)
    then Ok (record { tensor = record { dims = take n ns; values = vs }; rest = drop n ns })
    else Err OtherArrays)
    else Err NoRecord

-- the tensors after those that were read before
abbrev pub after : List Contents → Result Dealing Refusal → Result Dealing Refusal
after done (Ok d) = Ok (record { tensors = done ++ d.tensors; rest = d.rest })
after done (Err f) = Err f

-- one tensor that was read, and the tensors after it
abbrev pub next_from : (List ℕ → Result Dealing Refusal) → Result One Refusal
    → Result Dealing Refusal
next_from others (Ok one) = after (one.tensor ∷ []) (others one.rest)
next_from others (Err f) = Err f

-- a tensor for each array, its dims from the numbers
abbrev pub all_from : Bounds → List (List ℤ) → List ℕ → Result Dealing Refusal
all_from bounds [] ns = Ok (record { tensors = []; rest = ns })
all_from bounds (vs ∷ arrays) ns = next_from (all_from bounds arrays) (one_from bounds vs ns)

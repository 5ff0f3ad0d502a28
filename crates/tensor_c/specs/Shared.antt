-- How many values each part of an answer computes as lists before its own values.
use Rattle.std.specs.Prelude.{◌≡◌, ◌⊎◌, ℕ, ℤ, pos, ◌+◌, Bool, true, false, ◌&&◌, ◌||◌}
use Rattle.std.specs.Prelude.{List, [], ◌∷◌}
use Rattle.std.specs.Prelude.{Result, Ok, Err, if◌then◌else◌}
use Rattle.expr_reader.specs.Arrays.{request_of_arrays}
use Rattle.expr_reader.specs.Contents.{Contents}
use Rattle.expr_reader.specs.Facts.{combines, combines_two, is_combining, is_movement, is_reshape}
use Rattle.expr_reader.specs.Index.{size_of}
use Rattle.expr_reader.specs.Request.{Asked, tensors_of}
use Rattle.expr_reader.specs.Result.{shape_of}
use Rattle.expr_reader.specs.Term.{Term, input, unary, binary, ternary}
use Rattle.expr_reader.specs.Term.{Unary}
use Rattle.expr_reader.specs.Term.{Binary, pairwise, concat, contract, convolve, taking}
use Rattle.expr_reader.specs.declared.fault.Fault.{Fault}
use Rattle.expr_reader.specs.declared.fault.Fault.TheVariants.{NoMemory}
use Rattle.tensor_c.specs.Answer.{or_fault}
use Rattle.tensor_c.specs.Call.{fault_result}

-- whether the values of a term are a list in the order of its places: an input, a stored result, or
-- a reshape of one
abbrev pub is_listed : Term → Bool
is_listed (input n) = true
is_listed (unary o a) = combines o || (is_reshape o && is_listed a)
is_listed (binary o a b) = combines_two o
is_listed (ternary o a b c) = false

-- whether the values of a term are in a list, in any order: an input, a stored result, or a
-- movement of one
abbrev pub is_moved_list : Term → Bool
is_moved_list (input n) = true
is_moved_list (unary o a) = combines o || (is_movement o && is_moved_list a)
is_moved_list (binary o a b) = combines_two o
is_moved_list (ternary o a b c) = false

-- how many values are stored of an operand of this size that is read place by place
abbrev pub combined_size : Term → ℕ → ℕ
combined_size t size = if is_combining t then size else 0

-- how many values are stored of an operand of this size that has to be a list; `lies` says that it
-- is in one already
abbrev pub whole_size : Bool → Term → ℕ → ℕ
whole_size lies t size = if lies then combined_size t size else size

-- how many values an operation stores of its operand. A contraction reads a list in any order, the
-- other operations that combine values only in order
abbrev pub operand_size : Unary → Term → ℕ → ℕ
operand_size o a size =
    if combines o then whole_size (is_listed a) a size else combined_size a size

-- how many values an operation on two operands stores of one of them
abbrev pub either_size : Binary → Term → ℕ → ℕ
either_size (pairwise o) a size = combined_size a size
either_size (concat axis) a size = combined_size a size
either_size (contract pairs) a size = whole_size (is_moved_list a) a size
either_size (convolve axes) a size = whole_size (is_listed a) a size
either_size (taking axis) a size = whole_size (is_listed a) a size

module _ (inputs : List Contents) where
  -- how many places a term has
  abbrev pub size_in : Term → ℕ
  size_in t = size_of (shape_of t inputs)

  -- how many values are computed below the last operation of a term
  abbrev pub shared : Term → ℕ
  shared (input n) = 0
  shared (unary o a) = shared a + operand_size o a (size_in a)
  shared (binary o a b) =
      shared a + shared b + (either_size o a (size_in a) + either_size o b (size_in b))
  shared (ternary o a b c) =
      shared a + shared b + shared c
      + (combined_size a (size_in a) + combined_size b (size_in b) + combined_size c (size_in c))

  -- how many values bindings compute: all their values, and the values below the last operation of
  -- each
  abbrev pub shared_whole : List Term → ℕ
  shared_whole [] = 0
  shared_whole (t ∷ ts) = size_in t + shared t + shared_whole ts

-- how many values each part of an answer computes before its own: the bindings, and the values
-- below the last operation of the term
abbrev pub asked_shared : Asked → ℕ
asked_shared a = shared_whole (tensors_of a) a.bindings + shared (tensors_of a) a.term

-- how many values each part of the answer of a header and arrays computes before its own, or the
-- first fault
abbrev pub shared_over : List ℕ → List (List ℤ) → Result ℕ Fault
shared_over header arrays = or_fault asked_shared (request_of_arrays header arrays)

-- the result of a call that counts: the count, or a fault's number, negated
abbrev pub called_for_count : Result ℕ Fault → ℤ
called_for_count (Ok n) = pos n
called_for_count (Err f) = fault_result f

-- the call does what the count says, or reports `NoMemory`
abbrev pub IsCountCall : Result ℕ Fault → ℤ → Type 0
IsCountCall answer result =
    (result ≡ called_for_count answer) ⊎ (result ≡ called_for_count (Err NoMemory))

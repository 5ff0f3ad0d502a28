-- What a call returns, and what it writes to the caller's lists.
use Rattle.std.specs.Prelude.{◌≡◌, ◌⊎◌, ◌<◌, ℕ, ℤ, pos, neg_ℤ, ◌&&◌, ◌++◌, Bool, List, [], ◌∷◌}
use Rattle.std.specs.Prelude.{length, drop, nat_le, nat_lt, Result, Ok, Err, if◌then◌else◌}
use Rattle.expr_reader.specs.Contents.{Contents}
use Rattle.expr_reader.specs.Faults.{fault_number}
use Rattle.expr_reader.specs.Index.{size_of}
use Rattle.expr_reader.specs.Limits.{most_bytes, widest_values}
use Rattle.expr_reader.specs.declared.fault.Fault.{Fault}
use Rattle.expr_reader.specs.declared.fault.Fault.TheVariants.{NoMemory}

-- the result for a fault: its number, negated
abbrev pub fault_result : Fault → ℤ
fault_result f = neg_ℤ (pos (fault_number f))

-- the result if a list is too short
abbrev pub no_room : ℤ
no_room = neg_ℤ (pos 100)

-- a list with other elements in place of its first; the elements after them stay
abbrev pub begun : {A : Type 0} → List A → List A → List A
begun first xs = first ++ drop (length first) xs

-- the rank, and then the dims
abbrev pub ranked : List ℕ → List ℕ
ranked sizes = length sizes ∷ sizes

-- the result of a call, and the two lists after it
pub record Called : Type 0 where
  pub result : ℤ
  pub out : List ℤ
  pub dims : List ℕ

-- whether a list has room for the values, and another for the rank and the dims
abbrev pub has_room : Contents → List ℤ → List ℕ → Bool
has_room t out dims =
    nat_le (length t.values) (length out) && nat_le (length (ranked t.dims)) (length dims)

-- the call writes a tensor that has room, and returns its number of values; for a fault it writes
-- nothing
abbrev pub called : Result Contents Fault → List ℤ → List ℕ → Called
called (Ok t) out dims =
    if has_room t out dims
    then record {
      result = pos (length t.values);
      out = begun t.values out;
      dims = begun (ranked t.dims) dims;
    }
    else record { result = no_room; out = out; dims = dims }
called (Err f) out dims = record { result = fault_result f; out = out; dims = dims }

-- more bytes in a header, or more values, than any version allows
abbrev pub IsTooLong : List ℕ → ℕ → Type 0
IsTooLong header count = (most_bytes < length header) ⊎ (widest_values < count)

-- the call does what the answer says, or reports `NoMemory` and writes nothing
abbrev pub IsCall : Result Contents Fault → List ℤ → List ℕ → Called → Type 0
IsCall answer out dims call =
    (call ≡ called answer out dims) ⊎ (call ≡ called (Err NoMemory) out dims)

-- the result of a call for dims, and the list after it
pub record CalledForDims : Type 0 where
  pub result : ℤ
  pub dims : List ℕ

-- the call writes dims that have room, and returns their size; for a fault it writes nothing
abbrev pub called_for_dims : Result (List ℕ) Fault → List ℕ → CalledForDims
called_for_dims (Ok sizes) dims =
    if nat_le (length (ranked sizes)) (length dims)
    then record { result = pos (size_of sizes); dims = begun (ranked sizes) dims }
    else record { result = no_room; dims = dims }
called_for_dims (Err f) dims = record { result = fault_result f; dims = dims }

-- the call does what the dims say, or reports `NoMemory` and writes nothing
abbrev pub IsDimsCall : Result (List ℕ) Fault → List ℕ → CalledForDims → Type 0
IsDimsCall answer dims call =
    (call ≡ called_for_dims answer dims) ⊎ (call ≡ called_for_dims (Err NoMemory) dims)

-- the result of a call for a name, and the list after it
pub record CalledForName : Type 0 where
  pub result : ℤ
  pub name : List ℕ

-- the call writes a name that has room and a 0 after it, and returns the length of the name
abbrev pub called_for_name : List ℕ → List ℕ → CalledForName
called_for_name text name =
    if nat_lt (length text) (length name)
    then record { result = pos (length text); name = begun (text ++ 0 ∷ []) name }
    else record { result = no_room; name = name }

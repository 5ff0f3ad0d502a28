-- The data of a text, its fields, and the whole numbers in it.
use Rattle.std.specs.Prelude.{ℕ, ℤ, ◌==◌, ◌&&◌, nat_le, Bool, false, List, [], ◌∷◌, codes, Option}
use Rattle.std.specs.Prelude.{Some, None, option_map, option_and_then, if◌then◌else◌}
use Rattle.std.specs.Option.{option_map_or}
use Rattle.std.specs.Str.{is_utf8}
use Rattle.serde_json.specs.Data.{Data, Items, no_items, item}
use Rattle.serde_json.specs.Events.{members_len}
use Rattle.serde_json.specs.Find.{get, as_array, as_object, as_number, as_u64, as_i64}
use Rattle.serde_json.specs.Read.{read}

-- the data that the bytes of a text are, if they are UTF-8 and one JSON value
abbrev pub reading : List ℕ → Option Data
reading text = if is_utf8 text then read text else None

-- whether data is an object with n members
abbrev pub has_members : ℕ → Data → Bool
has_members n d = option_map_or (λ ms. members_len ms == n) (as_object d) false

-- the whole number from 0 up that data is, if it is one
abbrev pub whole_of : Data → Option ℕ
whole_of d = option_and_then as_u64 (as_number d)

-- the whole number of the `i64` range that data is, if it is one
abbrev pub signed_of : Data → Option ℤ
signed_of d = option_and_then as_i64 (as_number d)

-- what was found, if it passes the test
abbrev pub only : {A : Type 0} → (A → Bool) → Option A → Option A
only passes found = option_and_then (λ x. if passes x then Some x else None) found

-- a whole number from `least` to `most`
abbrev pub within : ℕ → ℕ → Data → Option ℕ
within least most d = only (λ n. nat_le least n && nat_le n most) (whole_of d)

-- a list of a head and a rest, if there are both
abbrev pub cons_of : {A : Type 0} → Option A → Option (List A) → Option (List A)
cons_of head rest = option_and_then (λ x. option_map (λ xs. x ∷ xs) rest) head

-- f of each item, if f has a result for all of them
abbrev pub each_of : {A : Type 0} → (Data → Option A) → Items → Option (List A)
each_of f no_items = Some []
each_of f (item d ds) = cons_of (f d) (each_of f ds)

-- f of each item of an array, if f has a result for all of them
abbrev pub list_in : {A : Type 0} → (Data → Option A) → Data → Option (List A)
list_in f d = option_and_then (each_of f) (as_array d)

-- what `next` makes of the member with this name, if there is one
abbrev pub with_member : {A : Type 0} → Data → List ℕ → (Data → Option A) → Option A
with_member d name next = option_and_then next (get name d)

-- the five fields of a request
pub record Fields : Type 0 where
  pub version : Data
  pub workers : Data
  pub block : Data
  pub inputs : Data
  pub expr : Data

-- the fields of an object that has exactly these five
abbrev pub fields_of : Data → Option Fields
fields_of d =
    if has_members 5 d then
    with_member d (codes "version") (λ version. with_member d (codes "workers") (λ workers.
    with_member d (codes "block") (λ block. with_member d (codes "inputs") (λ inputs.
    option_map (λ expr. record {
      version = version;
      workers = workers;
      block = block;
      inputs = inputs;
      expr = expr;
    }) (get (codes "expr") d)))))
    else None

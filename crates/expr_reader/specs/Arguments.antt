-- The arguments of operations: their forms, and which JSON values have each form.
use Rattle.std.specs.Prelude.{ℕ, ℤ, ◌+◌, Bool, List, [], ◌∷◌, Option, Some, None}
use Rattle.std.specs.Prelude.{Result, Ok, Err, ok_or, option_and_then}
use Rattle.serde_json.specs.Data.{Data, Items, no_items, item}
use Rattle.serde_json.specs.Find.{as_bool}
use Rattle.expr_reader.specs.Fields.{within, signed_of, list_in}
use Rattle.expr_reader.specs.Limits.{greatest_size}
use Rattle.expr_reader.specs.Place.{Located, index, at}
use Rattle.expr_reader.specs.Steps.{and_then}
use Rattle.expr_reader.specs.declared.fault.Fault.TheVariants.{BadArgument}

-- the forms of arguments: a whole number from 0 up, a list of such numbers, a list of pairs of such
-- numbers, a list of truth values, and a whole number of the `i64` range
pub data Form : Type 0 where
  size : Form
  sizes : Form
  pairs : Form
  flags : Form
  value : Form

-- the type of an argument of a form
abbrev pub Argument : Form → Type 0
Argument size = ℕ
Argument sizes = List ℕ
Argument pairs = List (ℕ × ℕ)
Argument flags = List Bool
Argument value = ℤ

-- a whole number from 0 to the greatest size
abbrev pub size_in : Data → Option ℕ
size_in d = within 0 greatest_size d

-- the two numbers of a list that has two
abbrev pub pair_of : List ℕ → Option (ℕ × ℕ)
pair_of (x ∷ y ∷ []) = Some (x, y)
pair_of numbers = None

-- a list of two sizes, as a pair
abbrev pub pair_in : Data → Option (ℕ × ℕ)
pair_in d = option_and_then pair_of (list_in size_in d)

-- the argument of a form that the data is, if it is one
abbrev pub argument_in : (f : Form) → Data → Option (Argument f)
argument_in size d = size_in d
argument_in sizes d = list_in size_in d
argument_in pairs d = list_in (λ pair. option_and_then pair_of (list_in size_in pair)) d
argument_in flags d = list_in as_bool d
argument_in value d = signed_of d

-- one argument for each form, in their order
abbrev pub Arguments : List Form → Type 0
Arguments [] = Unit {0}
Arguments (f ∷ fs) = Argument f × Arguments fs

-- the arguments that the items of an array are, if there is one of each form and no more; otherwise
-- a fault at the first item that does not have its form. The first item has the given index
abbrev pub arguments_at : ℕ → (fs : List Form) → Items → Result (Arguments fs) Located
arguments_at i [] no_items = Ok tt
arguments_at i (f ∷ fs) (item d ds) =
    and_then (ok_or (argument_in f d) (at (index i) BadArgument)) (λ x.
    and_then (arguments_at (i + 1) fs ds) (λ xs. Ok (x, xs)))
arguments_at i fs items = Err (at (index i) BadArgument)

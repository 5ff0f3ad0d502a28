-- The inputs of a text: names and tensors.
use Rattle.std.specs.Prelude.{ℕ, ℤ, ◌==◌, length, List, [], ◌∷◌, codes, Option, Some, None}
use Rattle.std.specs.Prelude.{option_map, option_and_then, if◌then◌else◌, Result, ok_or}
use Rattle.std.specs.List.{position_from}
use Rattle.std.specs.Option.{option_map_or}
use Rattle.std.specs.Str.{bytes_eq}
use Rattle.serde_json.specs.Data.{Data, Members, no_members, member}
use Rattle.serde_json.specs.Find.{as_object}
use Rattle.tensor_ops.specs.Bounds.{Bounds}
use Rattle.tensor_ops.specs.Index.{size_of}
use Rattle.tensor_ops.specs.Legal.{are_legal}
use Rattle.tensor_ops.specs.Contents.{Contents, Given}
use Rattle.expr_reader.specs.Fields.{has_members, with_member, whole_of, signed_of}
use Rattle.expr_reader.specs.Fields.{only, list_in, cons_of}
use Rattle.expr_reader.specs.Place.{Step, field, Located}
use Rattle.expr_reader.specs.declared.fault.Fault.TheVariants.{BadTensor}

-- a list of whole numbers that are legal dims
abbrev pub dims_in : Bounds → Data → Option (List ℕ)
dims_in bounds d = only (are_legal bounds) (list_in whole_of d)

-- a list of `size` whole numbers of the `i64` range
abbrev pub values_in : ℕ → Data → Option (List ℤ)
values_in size d = only (λ values. length values == size) (list_in signed_of d)

-- a tensor of these dims, if the data is a list of one value for each place
abbrev pub filled : Data → List ℕ → Option Contents
filled d dims =
    option_map (λ values. record { dims = dims; values = values }) (values_in (size_of dims) d)

-- the tensor of an object of exactly dims and data
abbrev pub tensor_in : Bounds → Data → Option Contents
tensor_in bounds d =
    if has_members 2 d then
    with_member d (codes "dims") (λ dims. with_member d (codes "data") (λ values.
    option_and_then (filled values) (dims_in bounds dims)))
    else None

-- the tensor of each member, in the members' order
abbrev pub tensors_in : Bounds → Members → Option (List Contents)
tensors_in bounds no_members = Some []
tensors_in bounds (member name d ms) = cons_of (tensor_in bounds d) (tensors_in bounds ms)

-- the names of members
abbrev pub names_in : Members → List (List ℕ)
names_in no_members = []
names_in (member name d ms) = name ∷ names_in ms

-- the way to the first member that is no tensor
abbrev pub bad_member : Bounds → Members → List Step
bad_member bounds no_members = []
bad_member bounds (member name d ms) =
    option_map_or (λ t. bad_member bounds ms) (tensor_in bounds d) (field name ∷ [])

-- names and tensors; the name and the tensor at one index belong together
pub record Named : Type 0 where
  pub names : List (List ℕ)
  pub tensors : List Contents

-- the tensors of names, with the bounds of their dims
abbrev pub given : Bounds → Named → Given
given bounds named = record { tensors = named.tensors; bounds = bounds }

-- the names of an object's members, and the tensors that `read` makes of them
abbrev pub named_by : (Members → Option (List Contents)) → Data → Option Named
named_by read d =
    option_and_then (λ ms. option_map (λ tensors. record { names = names_in ms; tensors = tensors })
    (read ms)) (as_object d)

-- the names and tensors, or `BadTensor`: its place is in the object, or the data itself if it is no
-- object
abbrev pub or_place : (Members → List Step) → Data → Option Named → Result Named Located
or_place place d named =
    ok_or named (record { fault = BadTensor; place = option_map_or place (as_object d) [] })

-- the names and tensors of a text's inputs, within bounds
abbrev pub named_in : Bounds → Data → Option Named
named_in bounds d = named_by (tensors_in bounds) d

-- the inputs of a text, within bounds, or their fault
abbrev pub inputs_in : Bounds → Data → Result Named Located
inputs_in bounds d = or_place (bad_member bounds) d (named_in bounds d)

-- the number of a name: its index in the names
abbrev pub number_of : List (List ℕ) → List ℕ → Option ℕ
number_of names name = position_from (λ other. bytes_eq name other) 0 names

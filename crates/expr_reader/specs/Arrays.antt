-- What a header with arrays asks for: the values of each tensor are an array of their own. There is
-- one array for each tensor, in the order of the names.
use Rattle.std.specs.Prelude.{ℕ, ℤ, ◌==◌, nat_lt, List, [], ◌∷◌, ◌++◌, length, map}
use Rattle.std.specs.Prelude.{Option, Some, None, option_map, option_and_then}
use Rattle.std.specs.Prelude.{Result, Err, if◌then◌else◌}
use Rattle.std.specs.Option.{option_map_or}
use Rattle.serde_json.specs.Data.{Data, Members, no_members, member}
use Rattle.serde_json.specs.Find.{as_object}
use Rattle.tensor_ops.specs.Bounds.{Bounds}
use Rattle.tensor_ops.specs.Contents.{Contents}
use Rattle.tensor_ops.specs.Index.{size_of}
use Rattle.expr_reader.specs.Fields.{whole_of, cons_of, list_in, fields_of}
use Rattle.expr_reader.specs.Frame.{dims_alone, framed_tensor, values_limit}
use Rattle.expr_reader.specs.Place.{Step, field, Located, here, unlocated}
use Rattle.expr_reader.specs.Profile.{frame_profile_of}
use Rattle.expr_reader.specs.Request.{Asked, text_asked}
use Rattle.expr_reader.specs.Tensors.{Named, named_by, or_place}
use Rattle.expr_reader.specs.declared.array.Array.{Array}
use Rattle.expr_reader.specs.declared.fault.Fault.{Fault}
use Rattle.expr_reader.specs.declared.fault.Fault.TheVariants.{TooLong}

-- the lists of values of arrays of the code
abbrev pub arrays_under : List Array → List (List ℤ)
arrays_under arrays = map (λ a. a.values.now) arrays

-- the values of all arrays, one array after the other
abbrev pub joined : List (List ℤ) → List ℤ
joined [] = []
joined (array ∷ arrays) = array ++ joined arrays

-- the tensor, if it has as many values as the array
abbrev pub with_all : List ℤ → Contents → Option Contents
with_all array t = if length t.values == length array then Some t else None

-- an object of exactly dims, with an array that has as many values as the dims have places
abbrev pub array_tensor : Bounds → List ℤ → Data → Option Contents
array_tensor bounds array d = option_and_then (with_all array) (framed_tensor bounds array d)

-- the tensor of each member, in the members' order, if there is one array for each and no more
abbrev pub array_tensors : Bounds → List (List ℤ) → Members → Option (List Contents)
array_tensors bounds [] no_members = Some []
array_tensors bounds (array ∷ arrays) no_members = None
array_tensors bounds [] (member name d ms) = None
array_tensors bounds (array ∷ arrays) (member name d ms) =
    cons_of (array_tensor bounds array d) (array_tensors bounds arrays ms)

-- the way to the first member that is no tensor
abbrev pub bad_array : Bounds → List (List ℤ) → Members → List Step
bad_array bounds arrays no_members = []
bad_array bounds [] (member name d ms) = field name ∷ []
bad_array bounds (array ∷ arrays) (member name d ms) =
    option_map_or (λ t. bad_array bounds arrays ms) (array_tensor bounds array d) (field name ∷ [])

-- the inputs that a header and arrays give, within bounds, or their fault
abbrev pub array_inputs : List (List ℤ) → Bounds → Data → Result Named Located
array_inputs arrays bounds d =
    or_place (bad_array bounds arrays) d (named_by (array_tensors bounds arrays) d)

-- how many places the dims have, in an object of exactly dims
abbrev pub places_in : Data → Option ℕ
places_in d = option_map size_of (option_and_then (list_in whole_of) (dims_alone d))

-- how many places each member's dims have
abbrev pub places_of_each : Members → Option (List ℕ)
places_of_each no_members = Some []
places_of_each (member name d ms) = cons_of (places_in d) (places_of_each ms)

-- how many places each of a header's tensors has
abbrev pub header_sizes : Data → Option (List ℕ)
header_sizes d =
    option_and_then (λ f. option_and_then places_of_each (as_object f.inputs)) (fields_of d)

-- the request of a header and arrays, or its first fault
abbrev pub request_of_arrays : List ℕ → List (List ℤ) → Result Asked Fault
request_of_arrays header arrays =
    unlocated (if nat_lt (values_limit header) (length (joined arrays)) then Err (here TooLong)
    else text_asked frame_profile_of (array_inputs arrays) header)

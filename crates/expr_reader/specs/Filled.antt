-- The text that a frame means: its header, with the values written into each tensor's `data`.
use Rattle.std.specs.Prelude.{ℕ, ℤ, nat_le, List, [], ◌∷◌, length, take, drop, codes}
use Rattle.std.specs.Prelude.{Option, Some, None, option_map, option_and_then, if◌then◌else◌}
use Rattle.std.specs.Str.{bytes_eq}
use Rattle.serde_json.specs.Data.{Data, null, boolean, number, string, array, object, Items}
use Rattle.serde_json.specs.Data.{no_items, item, Members, no_members, member}
use Rattle.serde_json.specs.Find.{as_object, of_integer}
use Rattle.tensor_ops.specs.Index.{size_of}
use Rattle.expr_reader.specs.Fields.{whole_of, list_in, fields_of}
use Rattle.expr_reader.specs.Frame.{dims_alone}

-- whole numbers, as the items of an array
abbrev pub numbers_of : List ℤ → Items
numbers_of [] = no_items
numbers_of (v ∷ vs) = item (number (of_integer v)) (numbers_of vs)

-- an object of exactly these dims and this data
abbrev pub tensor_of : Data → List ℤ → Data
tensor_of dims values =
    object
    (member (codes "data") (array (numbers_of values)) (member (codes "dims") dims no_members))

-- the tensor with the first of the values as its data, if there is a value for each place of its
-- dims; and how many these values are
abbrev pub filled_tensor : List ℤ → Data → Option (ℕ × Data)
filled_tensor values d =
    option_and_then (λ dims. option_and_then (λ sizes.
    if nat_le (size_of sizes) (length values)
    then Some (size_of sizes, tensor_of dims (take (size_of sizes) values))
    else None) (list_in whole_of dims)) (dims_alone d)

-- no members, if no values are left
abbrev pub none_to_fill : List ℤ → Option Members
none_to_fill [] = Some no_members
none_to_fill (v ∷ vs) = None

-- each member with its values in it. A member takes the first values, and leaves the others to the
-- members after it; none may be left
abbrev pub filled_members : List ℤ → Members → Option Members
filled_members values no_members = none_to_fill values
filled_members values (member name d ms) =
    option_and_then (λ f. option_map (member name f.1) (filled_members (drop f.0 values) ms))
    (filled_tensor values d)

-- the members, with other data in the member of this name
abbrev pub with_other : List ℕ → Data → Members → Members
with_other name other no_members = no_members
with_other name other (member key d ms) =
    member key (if bytes_eq name key then other else d) (with_other name other ms)

-- an object with other members in its field `inputs`
abbrev pub with_inputs : Members → Data → Data
with_inputs inputs null = null
with_inputs inputs (boolean b) = boolean b
with_inputs inputs (number x) = number x
with_inputs inputs (string s) = string s
with_inputs inputs (array ds) = array ds
with_inputs inputs (object ms) = object (with_other (codes "inputs") (object inputs) ms)

-- the text of a header and values, if there are as many values as all tensors have places
abbrev pub filled_text : List ℤ → Data → Option Data
filled_text values d =
    option_and_then (λ f. option_and_then (λ ms.
    option_map (λ inputs. with_inputs inputs d) (filled_members values ms))
    (as_object f.inputs)) (fields_of d)

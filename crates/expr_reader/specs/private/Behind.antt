-- Where the code takes the values of tensors from. Private clauses cite this.
use Rattle.std.specs.Prelude.{◌<◌, ◌≤◌, ℤ, pos, ⊤, Bool, true, false, List, [], ◌∷◌, length}
use Rattle.std.specs.Prelude.{drop, replicate, Option, None, Result}
use Rattle.serde_json.specs.Data.{Data, Members}
use Rattle.tensor_ops.specs.Contents.{Contents}
use Rattle.expr_reader.specs.Arrays.{arrays_under, array_tensor, array_tensors, bad_array}
use Rattle.expr_reader.specs.Frame.{framed_tensor, framed_tensors, bad_framed}
use Rattle.tensor_ops.specs.Bounds.{Bounds}
use Rattle.expr_reader.specs.Place.{Step, Located}
use Rattle.expr_reader.specs.Tensors.{tensor_in, tensors_in, bad_member, named_by, or_place}
use Rattle.expr_reader.specs.Profile.{Versions, profile_of, frame_profile_of}
use Rattle.expr_reader.specs.Request.{Naming, Asked, data_asked}
use Rattle.expr_reader.specs.declared.values.Values.{Values}
use Rattle.expr_reader.specs.declared.values.Values.TheVariants.{InText, Behind, Apart, Unread}

-- the values that no tensor has yet: in the text, in a list after it, or in an array for each
-- tensor
pub data Source : Type 0 where
  in_text : Source
  behind : List ℤ → Source
  apart : List (List ℤ) → Source

-- `Values` of the code, as a source; values that are not read are zeroes
abbrev pub source_of : Values → Source
source_of InText = in_text
source_of (Behind values) = behind values.now
source_of (Apart arrays) = apart (arrays_under arrays.now)
source_of (Unread count) = behind (replicate count (pos 0))

-- the tensor of a member, with the values in the text or the first of the source
abbrev pub tensor_by : Source → Bounds → Data → Option Contents
tensor_by in_text bounds d = tensor_in bounds d
tensor_by (behind values) bounds d = framed_tensor bounds values d
tensor_by (apart []) bounds d = None
tensor_by (apart (array ∷ arrays)) bounds d = array_tensor bounds array d

-- the source has the values of the tensor as its first
abbrev pub HasFirst : Source → Contents → Type 0
HasFirst in_text t = ⊤
HasFirst (behind values) t = length t.values ≤ length values
HasFirst (apart arrays) t = 0 < length arrays

-- what is left of a source after the values of a tensor
abbrev pub left_by : Source → Contents → Source
left_by in_text t = in_text
left_by (behind values) t = behind (drop (length t.values) values)
left_by (apart []) t = apart []
left_by (apart (array ∷ arrays)) t = apart arrays

-- the tensor of each member, in the members' order
abbrev pub tensors_by : Source → Bounds → Members → Option (List Contents)
tensors_by in_text bounds ms = tensors_in bounds ms
tensors_by (behind values) bounds ms = framed_tensors bounds values ms
tensors_by (apart arrays) bounds ms = array_tensors bounds arrays ms

-- the way to the first member that is no tensor
abbrev pub place_by : Source → Bounds → Members → List Step
place_by in_text bounds ms = bad_member bounds ms
place_by (behind values) bounds ms = bad_framed bounds values ms
place_by (apart arrays) bounds ms = bad_array bounds arrays ms

-- how inputs are read from a source
abbrev pub naming_by : Source → Naming
naming_by source bounds d =
    or_place (place_by source bounds) d (named_by (tensors_by source bounds) d)

-- the versions of a request with such a source
abbrev pub versions_by : Source → Versions
versions_by in_text = profile_of
versions_by (behind values) = frame_profile_of
versions_by (apart arrays) = frame_profile_of

-- what data asks for, with the values of a source
abbrev pub asked_by : Source → Data → Result Asked Located
asked_by source d = data_asked (versions_by source) (naming_by source) d

-- whether a source has no values left
abbrev pub is_end : Source → Bool
is_end in_text = true
is_end (behind []) = true
is_end (behind (v ∷ vs)) = false
is_end (apart []) = true
is_end (apart (array ∷ arrays)) = false

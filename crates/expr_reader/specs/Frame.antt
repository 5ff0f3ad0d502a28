-- What a frame asks for. A frame is a header, which is a text in which each tensor is an object of
-- its dims alone, and the values after it. The values of the tensors follow one another in the
-- order of the tensors' names.
use Rattle.std.specs.Prelude.{◌≡◌, ◌⊎◌, ◌<◌, ◌≤◌, ℕ, ℤ, nat_lt, nat_le, List, [], ◌∷◌, length}
use Rattle.std.specs.Prelude.{take, drop, codes}
use Rattle.std.specs.Prelude.{Option, Some, None, option_map, option_and_then, Result, Err}
use Rattle.std.specs.Prelude.{if◌then◌else◌}
use Rattle.std.specs.Option.{option_map_or}
use Rattle.serde_json.specs.Data.{Data, Members, no_members, member}
use Rattle.serde_json.specs.Find.{get}
use Rattle.tensor_ops.specs.Bounds.{Bounds}
use Rattle.tensor_ops.specs.Index.{size_of}
use Rattle.tensor_ops.specs.Contents.{Contents}
use Rattle.expr_reader.specs.Fields.{has_members, reading}
use Rattle.expr_reader.specs.Limits.{most_values}
use Rattle.expr_reader.specs.Place.{Step, field, Located, here, unlocated}
use Rattle.expr_reader.specs.Profile.{frame_profile_of}
use Rattle.expr_reader.specs.Request.{Asked, text_asked, version_in}
use Rattle.expr_reader.specs.Tensors.{Named, dims_in, named_by, or_place}
use Rattle.expr_reader.specs.declared.fault.Fault.{Fault}
use Rattle.expr_reader.specs.declared.fault.Fault.TheVariants.{TooLong, NoMemory}

-- the data of the field `dims`, in an object without other fields
abbrev pub dims_alone : Data → Option Data
dims_alone d = if has_members 1 d then get (codes "dims") d else None

-- a tensor of these dims that has the first of the values, if there are enough
abbrev pub dealt : List ℤ → List ℕ → Option Contents
dealt values dims =
    if nat_le (size_of dims) (length values)
    then Some (record { dims = dims; values = take (size_of dims) values })
    else None

-- the tensor of an object of exactly dims, with the first of the values
abbrev pub framed_tensor : Bounds → List ℤ → Data → Option Contents
framed_tensor bounds values d =
    option_and_then (λ dims. option_and_then (dealt values) (dims_in bounds dims)) (dims_alone d)

-- no tensors, if no values are left
abbrev pub none_left : List ℤ → Option (List Contents)
none_left [] = Some []
none_left (v ∷ vs) = None

-- the tensor of each member, in the members' order. A member takes the first values, and leaves the
-- others to the members after it; none may be left
abbrev pub framed_tensors : Bounds → List ℤ → Members → Option (List Contents)
framed_tensors bounds values no_members = none_left values
framed_tensors bounds values (member name d ms) =
    option_and_then (λ t. option_map (λ ts. t ∷ ts)
    (framed_tensors bounds (drop (length t.values) values) ms)) (framed_tensor bounds values d)

-- the way to the first member that is no tensor
abbrev pub bad_framed : Bounds → List ℤ → Members → List Step
bad_framed bounds values no_members = []
bad_framed bounds values (member name d ms) =
    option_map_or (λ t. bad_framed bounds (drop (length t.values) values) ms)
    (framed_tensor bounds values d) (field name ∷ [])

-- the names and tensors of a frame's inputs, within bounds
abbrev pub framed_in : List ℤ → Bounds → Data → Option Named
framed_in values bounds d = named_by (framed_tensors bounds values) d

-- the inputs of a frame, within bounds, or their fault
abbrev pub frame_inputs : List ℤ → Bounds → Data → Result Named Located
frame_inputs values bounds d = or_place (bad_framed bounds values) d (framed_in values bounds d)

-- how many values may follow a header: the limit of its version, or of version 1 if it has no
-- known version
abbrev pub values_limit : List ℕ → ℕ
values_limit header =
    option_map_or (λ p. p.values)
    (option_and_then frame_profile_of (option_and_then version_in (reading header))) most_values

-- why a header with `count` values after it is refused: an allocation failed, there are more than
-- `most` values, or it is not the data of a text
abbrev pub IsRefused : {A : Type 0} → Fault → ℕ → ℕ → Result A Located → Type 0
IsRefused fault most count says =
    (fault ≡ NoMemory) ⊎ (((fault ≡ TooLong) × (most < count))
    ⊎ ((count ≤ most) × (says ≡ Err (here fault))))

-- the request of a frame, or its first fault and where it is
abbrev pub frame_at : List ℕ → List ℤ → Result Asked Located
frame_at header values =
    if nat_lt (values_limit header) (length values) then Err (here TooLong)
    else text_asked frame_profile_of (frame_inputs values) header

-- the request of a frame, or its first fault
abbrev pub request_of_frame : List ℕ → List ℤ → Result Asked Fault
request_of_frame header values = unlocated (frame_at header values)

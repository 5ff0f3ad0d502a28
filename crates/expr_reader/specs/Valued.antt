-- What data asks for, by where the values of its tensors are: in the data, in a list after it, in an
-- array for each tensor, or nowhere.
use Rattle.std.specs.Prelude.{pos, replicate, Result}
use Rattle.serde_json.specs.Data.{Data}
use Rattle.expr_reader.specs.Arrays.{arrays_under, array_inputs}
use Rattle.expr_reader.specs.Frame.{frame_inputs}
use Rattle.expr_reader.specs.Place.{Located}
use Rattle.expr_reader.specs.Profile.{Versions, profile_of, frame_profile_of}
use Rattle.expr_reader.specs.Request.{Asked, Naming, data_asked, part_asked}
use Rattle.expr_reader.specs.Tensors.{inputs_in}
use Rattle.expr_reader.specs.declared.values.Values.{Values}
use Rattle.expr_reader.specs.declared.values.Values.TheVariants.{InText, Behind, Apart, Unread}

-- the versions that a request with such values may have
abbrev pub versions_for : Values → Versions
versions_for InText = profile_of
versions_for (Behind values) = frame_profile_of
versions_for (Apart arrays) = frame_profile_of
versions_for (Unread count) = frame_profile_of

-- how inputs with such values are read; values that are not read are zeroes
abbrev pub naming_for : Values → Naming
naming_for InText = inputs_in
naming_for (Behind values) = frame_inputs values.now
naming_for (Apart arrays) = array_inputs (arrays_under arrays.now)
naming_for (Unread count) = frame_inputs (replicate count (pos 0))

-- what data with such values asks for, or its first fault and where it is
abbrev pub asked_from : Values → Data → Result Asked Located
asked_from values d = data_asked (versions_for values) (naming_for values) d

-- what data with such values asks for, with another expression in place of its own
abbrev pub part_from : Values → Data → Data → Result Asked Located
part_from values d expr = part_asked (versions_for values) (naming_for values) d expr

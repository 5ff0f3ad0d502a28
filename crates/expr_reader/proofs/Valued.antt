-- What a source of values asks for is what the values of the code ask for.
use Rattle.std.proofs.Common.{◌≡◌, refl}
use Rattle.serde_json.specs.Data.{Data}
use Rattle.expr_reader.specs.Fields.{Fields, fields_of}
use Rattle.expr_reader.specs.Place.{here}
use Rattle.expr_reader.specs.Request.{fields_asked}
use Rattle.expr_reader.specs.Valued.{versions_for, naming_for, asked_from}
use Rattle.expr_reader.specs.private.Behind.{source_of, versions_by, naming_by, asked_by}
use Rattle.expr_reader.specs.declared.values.Values.{Values}
use Rattle.expr_reader.specs.declared.values.Values.TheVariants.{InText, Behind, Apart, Unread}

pub asked_as_by : (values : Values) (d : Data) → asked_by (source_of values) d ≡ asked_from values d
asked_as_by InText d = refl
asked_as_by (Behind values) d = refl
asked_as_by (Apart arrays) d = refl
asked_as_by (Unread count) d = refl

pub fields_as_by : (values : Values) (f : Fields)
    → fields_asked (versions_by (source_of values)) (naming_by (source_of values)) f
    ≡ fields_asked (versions_for values) (naming_for values) f
fields_as_by InText f = refl
fields_as_by (Behind values) f = refl
fields_as_by (Apart arrays) f = refl
fields_as_by (Unread count) f = refl

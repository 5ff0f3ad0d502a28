-- A `Place` of the code, as the steps down to it.
use Rattle.std.specs.Prelude.{List, [], ◌∷◌, codes}
use Rattle.expr_reader.specs.Place as text
use Rattle.expr_reader.specs.Place.{Step, field, way_of}
use Rattle.expr_reader.specs.declared.place.Place.{Place}
use Rattle.expr_reader.specs.declared.place.Place.TheVariants.{Whole, Field, Input, Node}
use Rattle.expr_reader.specs.declared.place.Located.{Located}

abbrev pub steps_under : Place → List Step
steps_under Whole = []
steps_under (Field name) = field name.now ∷ []
steps_under (Input name) = field (codes "inputs") ∷ field name.now ∷ []
steps_under (Node indices) = field (codes "expr") ∷ way_of indices.items

abbrev pub located_under : Located → text.Located
located_under found = record { fault = found.fault; place = steps_under found.place }

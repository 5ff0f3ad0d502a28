use Rattle.std.proofs.Common.{arith}
use Rattle.std.proofs.lemmas.Int.{to_z-of_z}
use Rattle.tensor_shape.proofs.Places.{index_of-place}
use Rattle.tensor_terms.specs.Result.{shape_of}
use Rattle.tensor_terms.specs.Cursor.{term_under, inputs_under}
use Rattle.tensor_terms.proofs.cursor.Cursor.value.Goals as goal

pub returns : goal.returns
returns c = λ index is_index is_place.
    let found = rw is_place at (index_of-place (shape_of (term_under c.args.self.now) (inputs_under c.args.self.now)) index is_index) in
    rw (← found) (grind (arith, to_z-of_z))

-- Tensors that were freed.
use Rattle.std.specs.Prelude.{pos, [], ◌∷◌}
use Rattle.tensor_terms.specs.Contents.{Contents}

-- the tensor that stands in the place of a freed one: rank 0 and the value 0
abbrev pub freed : Contents
freed = record { dims = []; values = pos 0 ∷ [] }

-- The numbers and the words of the faults of dims.
use Rattle.std.specs.Prelude.{ℕ, List, codes}
use Rattle.tensor_shape.specs.declared.shape_fault.ShapeFault.{ShapeFault}
use Rattle.tensor_shape.specs.declared.shape_fault.ShapeFault.TheVariants.{RankTooHigh}
use Rattle.tensor_shape.specs.declared.shape_fault.ShapeFault.TheVariants.{TooManyElements}

-- the number of a fault
abbrev pub number_of_shape : ShapeFault → ℕ
number_of_shape RankTooHigh = 1
number_of_shape TooManyElements = 2

-- a fault in words
abbrev pub words_of_shape : ShapeFault → List ℕ
words_of_shape RankTooHigh = codes "the rank is too high"
words_of_shape TooManyElements = codes "there are too many elements"

-- What tensor programs compute, as terms.
use Rattle.std.specs.Prelude.{[], ◌∷◌}
use Rattle.tensor_ops.specs.Term.{Term, input, unary, binary, each, pairwise, reduce}
use Rattle.tensor_ops.specs.UnaryScalar.TheVariants.{Square}
use Rattle.tensor_ops.specs.BinaryScalar.TheVariants.{Sub}
use Rattle.tensor_ops.specs.Reducer.TheVariants.{Sum}

-- the squares of the differences of two inputs, added up along axis 1
abbrev pub squared_distances : Term
squared_distances =
    unary (reduce Sum (1 ∷ [])) (unary (each Square) (binary (pairwise Sub) (input 0) (input 1)))

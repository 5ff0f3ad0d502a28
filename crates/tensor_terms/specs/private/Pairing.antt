-- What a contraction sums over.
use Rattle.std.specs.Prelude.{◌≡◌, ℕ, List}
use Rattle.tensor_shape.specs.Index.{size_of}
use Rattle.tensor_terms.specs.Contents.{Contents}
use Rattle.tensor_terms.specs.Contraction.{firsts, seconds}
use Rattle.tensor_terms.specs.Result.{shape_of}
use Rattle.tensor_terms.specs.Term.{Term}
use Rattle.tensor_terms.specs.Merged.{dims_at, other_dims}
use Rattle.tensor_terms.specs.declared.cursor.Pairing.{Pairing}

-- a pairing has the dims of both terms, the paired axes of each, and the sizes of the first term's
-- paired dims and of its other dims
pub record IsPairing (inputs : List Contents) (pairs : List (ℕ × ℕ)) (a b : Term) (p : Pairing) :
    Type 0 where
  pub first : p.first ≡ shape_of a inputs
  pub second : p.second ≡ shape_of b inputs
  pub left : p.firsts.items ≡ firsts pairs
  pub right : p.seconds.items ≡ seconds pairs
  pub whole : p.count ≡ size_of (dims_at p.firsts.items p.first)
  pub apart : p.outer ≡ size_of (other_dims p.firsts.items p.first)

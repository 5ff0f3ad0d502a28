-- The limits on dims, and which dims are within them.
use Rattle.std.specs.Prelude.{ℕ, max, ◌*◌, ◌≤◌, ◌&&◌, nat_le, Bool, List, [], ◌∷◌, length}
use Rattle.tensor_shape.specs.declared.bounds.Bounds.{Bounds}

-- the highest rank of legal dims
abbrev pub highest_rank : ℕ
highest_rank = 8

-- the greatest product of all sizes of legal dims, a 0 counted as 1
abbrev pub most_elements : ℕ
most_elements = 268435456

-- the greatest product of all sizes of dims in a request text, a 0 counted as 1
abbrev pub text_elements : ℕ
text_elements = 1048576

-- the limits on dims in a request text, given the highest rank
abbrev pub text_bounds : ℕ → Bounds
text_bounds rank = record { rank = rank; elements = text_elements }

-- the limits on all dims
abbrev pub widest : Bounds
widest = record { rank = highest_rank; elements = most_elements }

-- limits that are at most the limits on all dims
pub record IsPossible (bounds : Bounds) : Type 0 where
  pub rank : bounds.rank ≤ highest_rank
  pub elements : bounds.elements ≤ most_elements

-- the product of all sizes, a 0 counted as 1
abbrev pub bulk_of : List ℕ → ℕ
bulk_of [] = 1
bulk_of (d ∷ ds) = max 1 d * bulk_of ds

-- dims within limits have neither too high a rank nor too many elements
pub record IsWithin (bounds : Bounds) (dims : List ℕ) : Type 0 where
  pub rank : length dims ≤ bounds.rank
  pub elements : bulk_of dims ≤ bounds.elements

-- legal dims are within the limits on all dims
pub record IsLegal (dims : List ℕ) : Type 0 where
  pub rank : length dims ≤ highest_rank
  pub elements : bulk_of dims ≤ most_elements

-- whether dims are within limits
abbrev pub are_legal : Bounds → List ℕ → Bool
are_legal bounds dims = nat_le (length dims) bounds.rank && nat_le (bulk_of dims) bounds.elements

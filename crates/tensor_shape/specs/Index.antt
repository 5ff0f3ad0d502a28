-- Index lists and their places. Dims are a list of numbers, the fastest axis first.
use Rattle.std.specs.Prelude.{ℕ, ◌+◌, ◌*◌, ◌/◌, ◌%◌, ◌<◌, List, [], ◌∷◌}

-- the number of elements that dims have: the product of the sizes, 1 at rank 0
abbrev pub size_of : List ℕ → ℕ
size_of [] = 1
size_of (d ∷ ds) = d * size_of ds

-- an index list of dims has one index for each axis, below the size of that axis
abbrev pub IsIndexOf : List ℕ → List ℕ → Type 0
IsIndexOf [] [] = Unit {0}
IsIndexOf [] (i ∷ is) = ⊥
IsIndexOf (d ∷ ds) [] = ⊥
IsIndexOf (d ∷ ds) (i ∷ is) = (i < d) × IsIndexOf ds is

-- the strides of dims whose first axis has the given stride: each next stride is the one before
-- times the size of its axis
abbrev pub strides_from : ℕ → List ℕ → List ℕ
strides_from stride [] = []
strides_from stride (d ∷ ds) = stride ∷ strides_from (stride * d) ds

-- the sum of each index times its stride, where the first axis has the given stride
abbrev pub place_by : ℕ → List ℕ → List ℕ → ℕ
place_by stride [] is = 0
place_by stride (d ∷ ds) [] = 0
place_by stride (d ∷ ds) (i ∷ is) = i * stride + place_by (stride * d) ds is

-- the column-major place of an index list: the first axis has stride 1
abbrev pub place : List ℕ → List ℕ → ℕ
place ds is = place_by 1 ds is

-- the index list of a place: the remainder by the first size, then the index list of the quotient
-- in the other dims
abbrev pub index_of : List ℕ → ℕ → List ℕ
index_of [] p = []
index_of (d ∷ ds) p = p % d ∷ index_of ds (p / d)

-- Strided views: the operand's places in the order of the result's places, by a size and a step for
-- each axis.
use Rattle.std.specs.Prelude.{◌≡◌, ℕ, ◌<◌, ◌≤◌, ◌+◌, ◌-◌, ◌*◌, ◌/◌, ◌%◌, List, [], ◌∷◌, length}
use Rattle.std.specs.Prelude.{slice_index, if◌then◌else◌, false}
use Rattle.tensor_views.specs.declared.axis.Axis.{Axis}
use Rattle.tensor_views.specs.declared.row.Row.{Row}

-- how many places the axes have, the fastest axis first
abbrev pub view_size : List Axis → ℕ
view_size [] = 1
view_size (a ∷ rest) = a.size * view_size rest

-- how many steps an index lies from the lowest place: the index itself, or its mirror image if the
-- axis is reversed
abbrev pub steps_to : Axis → ℕ → ℕ
steps_to a i = if a.reversed then a.size - 1 - i else i

-- the operand's place for place p of the view: the start, plus the steps of the index list of p
abbrev pub reached : ℕ → List Axis → ℕ → ℕ
reached start [] p = start
reached start (a ∷ rest) p = reached start rest (p / a.size) + steps_to a (p % a.size) * a.step

-- the operand's place for place p along an axis, from the starts of its rows; the first of these
-- rows holds the place `first`
abbrev pub along : List ℕ → Axis → ℕ → ℕ → ℕ
along rows a first p =
    slice_index rows (p / a.size - first / a.size) + steps_to a (p % a.size) * a.step

-- the operand's place for number k of a part of a row
abbrev pub place_in : Row → ℕ → ℕ
place_in row k = row.start + steps_to row.axis (row.from + k) * row.axis.step

-- a part of a row lies within its axis, and its places are below `count`
pub record IsRowIn (row : Row) (count : ℕ) : Type 0 where
  pub whole : row.from + row.count ≤ row.axis.size
  pub inside : (k : ℕ) → k < row.count → place_in row k < count

-- along each axis the indices of two places add up to less than the size, and no axis is reversed
abbrev pub AreApart : List Axis → ℕ → ℕ → Type 0
AreApart [] a b = Unit {0}
AreApart (x ∷ rest) a b =
    (x.reversed ≡ false)
    × ((a % x.size + b % x.size < x.size) × AreApart rest (a / x.size) (b / x.size))

-- each two places of two lists, divided by `before`, are apart along these axes
abbrev pub AreAllApart : List Axis → ℕ → List ℕ → List ℕ → Type 0
AreAllApart axes before starts offsets = (x q : ℕ) → x < length starts → q < length offsets
    → AreApart axes (slice_index starts x / before) (slice_index offsets q / before)

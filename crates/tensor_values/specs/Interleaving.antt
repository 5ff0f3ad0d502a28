-- Interleavings: n places of one operand and then m places of another operand, in turns.
use Rattle.std.specs.Prelude.{◌≡◌, ℕ, ℤ, ◌+◌, ◌-◌, ◌*◌, ◌/◌, ◌%◌, ◌<◌, min, List, map}
use Rattle.std.specs.Prelude.{Bool, ◌&&◌, nat_le, nat_lt, not, if◌then◌else◌, pos, slice_index, slice_set}
use Rattle.std.specs.List.{filter, range_with_len}

-- whether a place is one of the first operand
abbrev pub is_of_first : ℕ → ℕ → ℕ → Bool
is_of_first first second p = nat_lt (p % (first + second)) first

-- how many places of the first operand precede a place
abbrev pub firsts_before : ℕ → ℕ → ℕ → ℕ
firsts_before first second p = p / (first + second) * first + min (p % (first + second)) first

-- how many places of the second operand precede a place
abbrev pub seconds_before : ℕ → ℕ → ℕ → ℕ
seconds_before first second p =
    p / (first + second) * second + (p % (first + second) - first)

-- the end of the run of places of one operand in which a place lies
abbrev pub end_of_turn : ℕ → ℕ → ℕ → ℕ
end_of_turn first second p =
    p + ((if is_of_first first second p then first else first + second) - p % (first + second))

-- the value at a place, read from the operand that the place belongs to
abbrev pub interleaved : ℕ → ℕ → (ℕ → ℤ) → (ℕ → ℤ) → ℕ → ℤ
interleaved first second f g p =
    if is_of_first first second p
    then f (firsts_before first second p)
    else g (seconds_before first second p)

-- two operands with the given numbers of places fill a whole number of turns, and each has places
-- in a turn
abbrev pub HaveTurns : ℕ → ℕ → ℕ → ℕ → Type 0
HaveTurns first second firsts seconds =
    ((0 < first) × (0 < second))
    × ((firsts ≡ firsts / first * first) × (seconds ≡ firsts / first * second))

-- the places in the first operand that a list of places reads, in order
abbrev pub first_places : ℕ → ℕ → List ℕ → List ℕ
first_places first second ps =
    map (firsts_before first second) (filter (is_of_first first second) ps)

-- the places in the second operand that a list of places reads, in order
abbrev pub second_places : ℕ → ℕ → List ℕ → List ℕ
second_places first second ps =
    map (seconds_before first second) (filter (λ p. not (is_of_first first second p)) ps)

-- values are those of the interleaving at places, if xs are the values of the first operand at ps
-- and ys the values of the second operand at qs
abbrev pub AreInterleaved :
    ℕ → ℕ → List ℕ → List ℕ → List ℕ → List ℤ → List ℤ → List ℤ → Type 0
AreInterleaved first second places ps qs xs ys values =
    (f g : ℕ → ℤ) → xs ≡ map f ps → ys ≡ map g qs
    → values ≡ map (interleaved first second f g) places

-- the places of an operand in a run, given how many precede the run's start and its end
abbrev pub run_between : ℕ → ℕ → List ℕ
run_between from to = range_with_len from (to - from)

-- the value at an index list of a tensor of dims ds that is padded along an axis: `before` zeroes
-- precede its values, and zeroes follow them
abbrev pub padded_along : ℕ → ℕ → List ℕ → (List ℕ → ℤ) → List ℕ → ℤ
padded_along axis before ds a is =
    if nat_le before (slice_index is axis)
    && nat_lt (slice_index is axis) (before + slice_index ds axis)
    then a (slice_set is axis (slice_index is axis - before))
    else pos 0

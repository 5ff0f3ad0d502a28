-- Places of two operands in turns.
use Rattle.std.proofs.Common.{◌≡◌, ℕ, zero, suc, ◌+◌, ◌-◌, ◌*◌, ◌/◌, ◌%◌, ◌<◌, ◌≤◌, min, ℤ, List, [], ◌∷◌, length, get_or, map, Bool, not}
use Rattle.std.proofs.Common.{true, false, refl, ap, ◌∙◌, inl, inr, arith}
use Rattle.std.specs.List.{range_with_len, filter}
use Rattle.std.proofs.lemmas.Bool.{cases_Bool, cases_lt, ltb-true, ltb-false, lt-ltb, le-ltb, not-true}
use Rattle.std.proofs.lemmas.Nat.{div-mul-add, mod-mul-add}
use Rattle.std.proofs.Math.Nat.{mod-lt, mul-le-mul_right}
use Rattle.std.proofs.lemmas.Nat.{div-add-mod'}
use Rattle.tensor_values.specs.Interleaving.{is_of_first, firsts_before, seconds_before, interleaved, HaveTurns, first_places, second_places}
use Rattle.tensor_values.proofs.Runs.{map-shifted}

-- a later place
the_later : (p q : ℕ) → p ≤ q → p + (q - p) ≡ q
the_later p q le = omega arith

filtered-next : (m : ℕ → ℕ) (limit p : ℕ) (rest : List ℕ) → m p < limit
    → ((k : ℕ) → k < length (map m rest) → get_or (map m rest) k 0 < limit)
    → (k : ℕ) → k < length (map m (p ∷ rest)) → get_or (map m (p ∷ rest)) k 0 < limit
filtered-next m limit p rest here others zero within = here
filtered-next m limit p rest here others (suc k) within = others k (omega arith)

-- what those of a list that pass a test are mapped to is below a limit
filtered-below : (m : ℕ → ℕ) (P : ℕ → Bool) (limit : ℕ) (ps : List ℕ)
    → ((k : ℕ) → k < length ps → P (get_or ps k 0) ≡ true → m (get_or ps k 0) < limit)
    → (k : ℕ) → k < length (map m (filter P ps)) → get_or (map m (filter P ps)) k 0 < limit
filtered-below m P limit [] each k within = absurd (omega arith)
filtered-below m P limit (p ∷ ps) each k within =
    let rest = filtered-below m P limit ps (λ j below. each (suc j) (omega arith)) in
    elim (cases_Bool (P p)) [
      | inl passes ↦ rw passes (filtered-next m limit p (filter P ps) (each 0 (omega arith) passes) rest k (rw passes at within))
      | inr fails ↦ rw fails (rest k (rw fails at within))
    ]

module _ (v w : ℕ) where
  -- how many places there are before one of which the turn and the place in the turn are known
  firsts_before-turn : (t r : ℕ) → r < v + w → firsts_before v w (t * (v + w) + r) ≡ t * v + min r v
  firsts_before-turn t r below = rw (div-mul-add t (v + w) r below, mod-mul-add t (v + w) r below) refl

  -- the value at a place
  pub interleaved-first : (f g : ℕ → ℤ) (p : ℕ) → is_of_first v w p ≡ true → f (firsts_before v w p) ≡ interleaved v w f g p
  interleaved-first f g p first = rw first refl

  pub interleaved-second : (f g : ℕ → ℤ) (p : ℕ) → is_of_first v w p ≡ false → g (seconds_before v w p) ≡ interleaved v w f g p
  interleaved-second f g p second = rw second refl

  -- each place before another one is one of the first or of the second
  pub firsts-seconds : (p : ℕ) → firsts_before v w p + seconds_before v w p ≡ p
  firsts-seconds p =
      let q : ℕ = p / (v + w) in
      let whole : q * (v + w) ≡ q * v + q * w = grind arith in
      omega (arith, whole, div-add-mod' p (v + w))

  module _ (some : 0 < v + w) where
    -- one place more
    last_of_turn : (p : ℕ) → p % (v + w) + 1 ≡ v + w → firsts_before v w (p + 1) ≡ p / (v + w) * v + v
    last_of_turn p last =
        let q : ℕ = p / (v + w) in
        let at : p + 1 ≡ (q + 1) * (v + w) + 0 =
        let whole : (q + 1) * (v + w) ≡ q * (v + w) + (v + w) = grind arith in omega (arith, whole, div-add-mod' p (v + w)) in
        let more : (q + 1) * v ≡ q * v + v = grind arith in
        ap (firsts_before v w) at ∙ firsts_before-turn (q + 1) 0 some ∙ omega (arith, more)

    within_turn : (p k : ℕ) → p % (v + w) + k < v + w → p + k ≡ p / (v + w) * (v + w) + (p % (v + w) + k)
    within_turn p k below = omega (arith, div-add-mod' p (v + w))

    pub firsts_before-next : (p : ℕ) → is_of_first v w p ≡ true → firsts_before v w (p + 1) ≡ firsts_before v w p + 1
    firsts_before-next p first =
        let here : p % (v + w) < v = ltb-true (p % (v + w)) v first in
        elim (cases_lt (p % (v + w) + 1) (v + w)) [
          | inl inside ↦
              ap (firsts_before v w) (within_turn p 1 inside) ∙ firsts_before-turn (p / (v + w)) (p % (v + w) + 1) inside ∙ omega arith
          | inr past ↦ last_of_turn p (omega (arith, mod-lt p some)) ∙ omega (arith, mod-lt p some)
        ]

    pub firsts_before-same : (p : ℕ) → is_of_first v w p ≡ false → firsts_before v w (p + 1) ≡ firsts_before v w p
    firsts_before-same p second =
        let here : v ≤ p % (v + w) = ltb-false (p % (v + w)) v second in
        elim (cases_lt (p % (v + w) + 1) (v + w)) [
          | inl inside ↦
              ap (firsts_before v w) (within_turn p 1 inside) ∙ firsts_before-turn (p / (v + w)) (p % (v + w) + 1) inside ∙ omega arith
          | inr past ↦ last_of_turn p (omega (arith, mod-lt p some)) ∙ omega (arith, mod-lt p some)
        ]

    -- there are no fewer of either before a later place
    pub firsts_before-mono : (p k : ℕ) → (firsts_before v w p ≤ firsts_before v w (p + k)) × (firsts_before v w (p + k) ≤ firsts_before v w p + k)
    firsts_before-mono p zero =
        let same : firsts_before v w (p + 0) ≡ firsts_before v w p = ap (firsts_before v w) (omega arith) in
        (omega (arith, same), omega (arith, same))
    firsts_before-mono p (suc k) =
        let before = firsts_before-mono p k in
        let next : firsts_before v w (p + suc k) ≡ firsts_before v w (p + k + 1) = ap (firsts_before v w) (omega arith) in
        elim (cases_Bool (is_of_first v w (p + k))) [
          | inl first ↦ let more = firsts_before-next (p + k) first in (omega (arith, before, next, more), omega (arith, before, next, more))
          | inr second ↦ let more = firsts_before-same (p + k) second in (omega (arith, before, next, more), omega (arith, before, next, more))
        ]

    pub firsts-le : (p q : ℕ) → p ≤ q → firsts_before v w p ≤ firsts_before v w q
    firsts-le p q le = omega (arith, (firsts_before-mono p (q - p)).0, ap (firsts_before v w) (the_later p q le))

    pub seconds-le : (p q : ℕ) → p ≤ q → seconds_before v w p ≤ seconds_before v w q
    seconds-le p q le =
        omega (arith, (firsts_before-mono p (q - p)).1, ap (firsts_before v w) (the_later p q le), firsts-seconds p, firsts-seconds q)

    -- a place is before a limit in its operand, too
    pub first-below : (p q : ℕ) → p < q → is_of_first v w p ≡ true → firsts_before v w p < firsts_before v w q
    first-below p q below first = omega (arith, firsts_before-next p first, firsts-le (p + 1) q (omega arith))

    pub second-below : (p q : ℕ) → p < q → is_of_first v w p ≡ false → seconds_before v w p < seconds_before v w q
    second-below p q below second =
        omega (arith, firsts_before-same p second, firsts-seconds p, firsts-seconds (p + 1), seconds-le (p + 1) q (omega arith))

    -- a run with places of one operand alone
    pub map-first_alone : (f g : ℕ → ℤ) (p q : ℕ) → p ≤ q → seconds_before v w q ≡ seconds_before v w p
        → map f (range_with_len (firsts_before v w p) (firsts_before v w q - firsts_before v w p))
        ≡ map (interleaved v w f g) (range_with_len p (q - p))
    map-first_alone f g p q le none =
        let long : firsts_before v w q - firsts_before v w p ≡ q - p = omega (arith, firsts-seconds p, firsts-seconds q, firsts-le p q le) in
        ap (λ n. map f (range_with_len (firsts_before v w p) n)) long
        ∙ map-shifted f (interleaved v w f g) (firsts_before v w p) p (q - p)
        (λ k below.
        elim (cases_Bool (is_of_first v w (p + k))) [
          | inl first ↦
              let at : firsts_before v w (p + k) ≡ firsts_before v w p + k =
              omega (arith, firsts-seconds p, firsts-seconds (p + k), seconds-le p (p + k) (omega arith), seconds-le (p + k) q (omega arith)) in
              rw (first, at) refl
          | inr second ↦ absurd (omega (arith, second-below (p + k) q (omega arith) second, seconds-le p (p + k) (omega arith)))
        ])

    pub map-second_alone : (f g : ℕ → ℤ) (p q : ℕ) → p ≤ q → firsts_before v w q ≡ firsts_before v w p
        → map g (range_with_len (seconds_before v w p) (seconds_before v w q - seconds_before v w p))
        ≡ map (interleaved v w f g) (range_with_len p (q - p))
    map-second_alone f g p q le none =
        let long : seconds_before v w q - seconds_before v w p ≡ q - p = omega (arith, firsts-seconds p, firsts-seconds q, seconds-le p q le) in
        ap (λ n. map g (range_with_len (seconds_before v w p) n)) long
        ∙ map-shifted g (interleaved v w f g) (seconds_before v w p) p (q - p)
        (λ k below.
        elim (cases_Bool (is_of_first v w (p + k))) [
          | inl first ↦ absurd (omega (arith, first-below (p + k) q (omega arith) first, firsts-le p (p + k) (omega arith)))
          | inr second ↦
              let at : seconds_before v w (p + k) ≡ seconds_before v w p + k =
              omega (arith, firsts-seconds p, firsts-seconds (p + k), firsts-le p (p + k) (omega arith), firsts-le (p + k) q (omega arith)) in
              rw (second, at) refl
        ])

  -- places of one part of a turn
  pub first-in_turn : (p k : ℕ) → is_of_first v w p ≡ true → p % (v + w) + k < v
      → (is_of_first v w (p + k) ≡ true) × (firsts_before v w (p + k) ≡ firsts_before v w p + k)
  first-in_turn p k first below =
      let r : ℕ = p % (v + w) + k in
      let at : p + k ≡ p / (v + w) * (v + w) + r = omega (arith, div-add-mod' p (v + w)) in
      let index : (p + k) % (v + w) ≡ r = ap (λ n. n % (v + w)) at ∙ mod-mul-add (p / (v + w)) (v + w) r (omega arith) in (
        rw index (lt-ltb r v below),
        ap (firsts_before v w) at ∙ firsts_before-turn (p / (v + w)) r (omega arith) ∙ omega arith,
      )

  pub second-in_turn : (p k : ℕ) → is_of_first v w p ≡ false → p % (v + w) + k < v + w
      → (is_of_first v w (p + k) ≡ false) × (seconds_before v w (p + k) ≡ seconds_before v w p + k)
  second-in_turn p k second below =
      let r : ℕ = p % (v + w) + k in
      let here : v ≤ p % (v + w) = ltb-false (p % (v + w)) v second in
      let at : p + k ≡ p / (v + w) * (v + w) + r = omega (arith, div-add-mod' p (v + w)) in
      let index : (p + k) % (v + w) ≡ r = ap (λ n. n % (v + w)) at ∙ mod-mul-add (p / (v + w)) (v + w) r below in
      let turn : (p + k) / (v + w) ≡ p / (v + w) = ap (λ n. n / (v + w)) at ∙ div-mul-add (p / (v + w)) (v + w) r below in
      (rw index (le-ltb r v (omega arith)), rw (turn, index) (omega arith))

  -- before the first t turns
  pub before-turns : (t : ℕ) → 0 < v + w → (firsts_before v w (t * (v + w)) ≡ t * v) × (seconds_before v w (t * (v + w)) ≡ t * w)
  before-turns t some =
      let at : t * (v + w) ≡ t * (v + w) + 0 = omega arith in
      let first : firsts_before v w (t * (v + w)) ≡ t * v = ap (firsts_before v w) at ∙ firsts_before-turn t 0 some ∙ omega arith in
      let both : t * (v + w) ≡ t * v + t * w = grind arith in
      (first, omega (arith, first, both, firsts-seconds (t * (v + w))))

  -- operands in turns, wholly
  module _ (m n : ℕ) (turns : HaveTurns v w m n) where
    pub firsts_before-all : firsts_before v w (m + n) ≡ m
    firsts_before-all =
        let t : ℕ = m / v in
        let whole : t * (v + w) ≡ t * v + t * w = grind arith in
        let at : m + n ≡ t * (v + w) + 0 = omega (arith, turns.1.0, turns.1.1, whole) in
        ap (firsts_before v w) at ∙ firsts_before-turn t 0 (omega (arith, turns.0.0)) ∙ omega (arith, turns.1.0)

    -- where both have places together, each has some
    pub turns-some : 0 < m + n → (0 < m) × (0 < n)
    turns-some places =
        let t : ℕ = m / v in
        elim (cases_lt 0 t) [
          | inl some ↦
              let first : 1 * v ≤ t * v = mul-le-mul_right v some in
              let second : 1 * w ≤ t * w = mul-le-mul_right w some in
              (omega (arith, first, turns.0.0, turns.1.0), omega (arith, second, turns.0.1, turns.1.1))
          | inr none ↦
              let zero_turns : t ≡ 0 = omega arith in
              let first : m ≡ 0 * v = turns.1.0 ∙ ap (λ q. q * v) zero_turns in
              let second : n ≡ 0 * w = turns.1.1 ∙ ap (λ q. q * w) zero_turns in
              absurd (omega (arith, first, second))
        ]

    pub seconds_before-all : seconds_before v w (m + n) ≡ n
    seconds_before-all = omega (arith, firsts-seconds (m + n), firsts_before-all)

    -- a run of places has a run of each operand's
    pub firsts-run : (p q : ℕ) → p ≤ q → q ≤ m + n
        → (firsts_before v w p ≤ firsts_before v w q) × (firsts_before v w q ≤ m)
    firsts-run p q le within =
        let some : 0 < v + w = omega (arith, turns.0.0) in
        (firsts-le some p q le, omega (arith, firsts-le some q (m + n) within, firsts_before-all))

    pub seconds-run : (p q : ℕ) → p ≤ q → q ≤ m + n
        → (seconds_before v w p ≤ seconds_before v w q) × (seconds_before v w q ≤ n)
    seconds-run p q le within =
        let some : 0 < v + w = omega (arith, turns.0.0) in
        (seconds-le some p q le, omega (arith, seconds-le some q (m + n) within, seconds_before-all))

    -- and listed places have places of each
    pub first_places-below : (ps : List ℕ) → ((k : ℕ) → k < length ps → get_or ps k 0 < m + n)
        → (k : ℕ) → k < length (first_places v w ps) → get_or (first_places v w ps) k 0 < m
    first_places-below ps below =
        let some : 0 < v + w = omega (arith, turns.0.0) in
        filtered-below (firsts_before v w) (is_of_first v w) m ps
        (λ k within first. omega (arith, first-below some (get_or ps k 0) (m + n) (below k within) first, firsts_before-all))

    pub second_places-below : (ps : List ℕ) → ((k : ℕ) → k < length ps → get_or ps k 0 < m + n)
        → (k : ℕ) → k < length (second_places v w ps) → get_or (second_places v w ps) k 0 < n
    second_places-below ps below =
        let some : 0 < v + w = omega (arith, turns.0.0) in
        filtered-below (seconds_before v w) (λ p. not (is_of_first v w p)) n ps
        (λ k within other.
        omega (arith, second-below some (get_or ps k 0) (m + n) (below k within) (not-true (is_of_first v w (get_or ps k 0)) other), seconds_before-all))

    -- values of operands that agree with others
    pub interleaved-other : (f g h k : ℕ → ℤ) → ((q : ℕ) → q < m → f q ≡ h q) → ((q : ℕ) → q < n → g q ≡ k q)
        → (p : ℕ) → p < m + n → interleaved v w f g p ≡ interleaved v w h k p
    interleaved-other f g h k same_first same_second p below =
        let some : 0 < v + w = omega (arith, turns.0.0) in
        elim (cases_Bool (is_of_first v w p)) [
          | inl first ↦
              let inside : firsts_before v w p < m = omega (arith, first-below some p (m + n) below first, firsts_before-all) in
              rw first (same_first (firsts_before v w p) inside)
          | inr second ↦
              let inside : seconds_before v w p < n = omega (arith, second-below some p (m + n) below second, seconds_before-all) in
              rw second (same_second (seconds_before v w p) inside)
        ]

-- Axes without a repetition, and the axes that are among some or are the others.
use Rattle.std.proofs.Common.{◌≡◌, ℕ, zero, suc, ◌+◌, ◌-◌, ◌<◌, ◌≤◌, List, [], ◌∷◌, ◌++◌, length}
use Rattle.std.proofs.Common.{get_or, drop}
use Rattle.std.proofs.Common.{Bool, true, false, not, ◌&&◌, ◌||◌, nat_lt, cond}
use Rattle.std.proofs.Common.{refl, ap, sym, ◌∙◌, arith, inl, inr}
use Rattle.std.specs.List.{filter, range_with_len}
use Rattle.std.proofs.lemmas.Bool.{and_parts, and_from, cases_eq, cases_Bool, eq-eqb}
use Rattle.std.proofs.lemmas.Bool.{ne_eqb, lt-ltb, ltb-true, not-true, not_from_false}
use Rattle.std.proofs.lemmas.Bool.{false_from_ne_true}
use Rattle.std.proofs.lemmas.List.{append-nil}
use Rattle.std.proofs.lemmas.List.Elements.{filter-append}
use Rattle.tensor_terms.specs.Movement.{is_among}
use Rattle.tensor_terms.specs.Reduction.{are_axes}
use Rattle.tensor_terms.specs.Merged.{among, others}
use Rattle.tensor_terms.proofs.Permutations.{is_among-rest}

-- the first of some axes, and the rest of them
pub record IsAxis (rank x : ℕ) (xs : List ℕ) : Type 0 where
  pub below : x < rank
  pub alone : is_among x xs ≡ false
  pub rest : are_axes rank xs ≡ true

pub are_axes-first : (rank x : ℕ) (xs : List ℕ) → are_axes rank (x ∷ xs) ≡ true → IsAxis rank x xs
are_axes-first rank x xs h =
    let first = and_parts (nat_lt x rank) (not (is_among x xs) && are_axes rank xs) h in
    let rest = and_parts (not (is_among x xs)) (are_axes rank xs) first.1 in
    record {
      below = ltb-true x rank first.0;
      alone = not-true (is_among x xs) rest.0;
      rest =
          rest.1;
    }

pub are_axes-cons : (rank x : ℕ) (xs : List ℕ) → IsAxis rank x xs → are_axes rank (x ∷ xs) ≡ true
are_axes-cons rank x xs axis =
    and_from (nat_lt x rank) (not (is_among x xs) && are_axes rank xs) (lt-ltb x rank axis.below)
    (and_from (not (is_among x xs)) (are_axes rank xs)
    (not_from_false (is_among x xs) axis.alone) axis.rest)

-- each of them is below the rank
pub get_or-are_axes : (rank k : ℕ) (xs : List ℕ) → are_axes rank xs ≡ true → k < length xs
    → get_or xs k 0 < rank
get_or-are_axes rank k [] h within = absurd (omega arith)
get_or-are_axes rank zero (x ∷ xs) h within = (are_axes-first rank x xs h).below
get_or-are_axes rank (suc k) (x ∷ xs) h within =
    get_or-are_axes rank k xs (are_axes-first rank x xs h).rest (omega arith)

pub is_among-append : (m : ℕ) (xs ys : List ℕ)
    → is_among m (xs ++ ys) ≡ (is_among m xs || is_among m ys)
is_among-append m [] ys = refl
is_among-append m (x ∷ xs) ys =
    elim (cases_eq m x) [
      | inl same ↦ rw (eq-eqb m x same) refl
      | inr other ↦ rw (ne_eqb m x other) (is_among-append m xs ys)
    ]

-- axes after axes, none of which are among the others
pub are_axes-append : (rank : ℕ) (xs ys : List ℕ) → are_axes rank xs ≡ true
    → are_axes rank ys ≡ true
    → ((m : ℕ) → is_among m xs ≡ true → is_among m ys ≡ false) → are_axes rank (xs ++ ys) ≡ true
are_axes-append rank [] ys first second apart = second
are_axes-append rank (x ∷ xs) ys first second apart =
    let axis = are_axes-first rank x xs first in
    let here : is_among x ys ≡ false = apart x (rw (eq-eqb x x refl) refl) in
    let later : (m : ℕ) → is_among m xs ≡ true → is_among m ys ≡ false =
    λ m among. apart m (elim (cases_eq m x) [
      | inl same ↦ rw (eq-eqb m x same) refl
      | inr other ↦ rw (ne_eqb m x other) among
    ]) in
    are_axes-cons rank x (xs ++ ys)
    (record {
      below = axis.below;
      alone = is_among-append x xs ys ∙ rw (axis.alone, here) refl;
      rest = are_axes-append rank xs ys axis.rest second later;
    })

-- a run of numbers after a run
pub range_with_len-append : (a n m : ℕ)
    → range_with_len a n ++ range_with_len (a + n) m ≡ range_with_len a (n + m)
range_with_len-append a zero m =
    ap (λ b. range_with_len b m) (omega arith) ∙ ap (range_with_len a) (omega arith)
range_with_len-append a (suc n) m =
    let start : a + 1 + n ≡ a + suc n = omega arith in
    let long : suc n + m ≡ suc (n + m) = omega arith in
    rw (long, ← start) (ap (λ l. a ∷ l) (range_with_len-append (a + 1) n m))

module _ (test : ℕ → Bool) where
  -- a number that a test picks from a range
  pub record IsPicked (a n m : ℕ) : Type 0 where
    pub above : a ≤ m
    pub below : m < a + n
    pub passes : test m ≡ true

  pub is_picked : (a n m : ℕ) → is_among m (filter test (range_with_len a n)) ≡ true
      → IsPicked a n m
  is_picked a zero m h = (cc)
  is_picked a (suc n) m h =
      let later : is_among m (filter test (range_with_len (a + 1) n)) ≡ true
      → IsPicked a (suc n) m =
      λ among. let rest = is_picked (a + 1) n m among in
      record { above = omega arith; below = omega arith; passes = rest.passes } in
      elim (cases_Bool (test a)) [
        | inl holds ↦
            let h' : is_among m (a ∷ filter test (range_with_len (a + 1) n)) ≡ true =
            rw holds at h in
            elim (cases_eq m a) [
              | inl same ↦ record {
                above = omega arith;
                below = omega arith;
                passes = ap test same
                    ∙ holds;
              }
              | inr other ↦ later (is_among-rest m a
                  (filter test (range_with_len (a + 1) n)) other h')
            ]
        | inr fails ↦ later (rw fails at h)
      ]

  pub is_among-picked : (a n m : ℕ) → a ≤ m → m < a + n → test m ≡ true
      → is_among m (filter test (range_with_len a n)) ≡ true
  is_among-picked a zero m above below passes = absurd (omega arith)
  is_among-picked a (suc n) m above below passes =
      elim (cases_eq m a) [
        | inl same ↦
            let here : test a ≡ true = ap test (sym same) ∙ passes in
            rw (here, eq-eqb m a same) refl
        | inr other ↦
            let rest : is_among m (filter test (range_with_len (a + 1) n)) ≡ true =
            is_among-picked (a + 1) n m (omega arith) (omega arith) passes in
            elim (cases_Bool (test a)) [
              | inl holds ↦ rw (holds, ne_eqb m a other) rest
              | inr fails ↦ rw fails rest
            ]
      ]

  -- such numbers are axes
  pub are_axes-picked : (rank a n : ℕ) → a + n ≤ rank
      → are_axes rank (filter test (range_with_len a n)) ≡ true
  are_axes-picked rank a zero within = refl
  are_axes-picked rank a (suc n) within =
      let rest : are_axes rank (filter test (range_with_len (a + 1) n)) ≡ true =
      are_axes-picked rank (a + 1) n (omega arith) in
      elim (cases_Bool (test a)) [
        | inl holds ↦
            let alone : is_among a (filter test (range_with_len (a + 1) n)) ≡ true → ⊥ =
            λ among. let later = is_picked (a + 1) n a among in omega (arith, later.above) in
            rw holds
            (are_axes-cons rank a (filter test (range_with_len (a + 1) n))
            (record { below = omega arith; alone = false_from_ne_true _ alone; rest = rest }))
        | inr fails ↦ rw fails rest
      ]

  -- all of a range, and none of it
  pub filter-all : (a n : ℕ) → ((m : ℕ) → a ≤ m → m < a + n → test m ≡ true)
      → filter test (range_with_len a n) ≡ range_with_len a n
  filter-all a zero all = refl
  filter-all a (suc n) all =
      let here : test a ≡ true = all a (omega arith) (omega arith) in
      rw here (ap (λ l. a ∷ l) (filter-all (a + 1) n
      (λ m above below. all m (omega arith) (omega arith))))

  pub filter-none : (a n : ℕ) → ((m : ℕ) → a ≤ m → m < a + n → test m ≡ false)
      → filter test (range_with_len a n) ≡ []
  filter-none a zero none = refl
  filter-none a (suc n) none =
      let here : test a ≡ false = none a (omega arith) (omega arith) in
      rw here (filter-none (a + 1) n (λ m above below. none m (omega arith) (omega arith)))

  -- one number more, which is picked, and which isn't
  filter-more : (a k : ℕ) → a ≤ k
      → filter test (range_with_len a (k + 1 - a)) ≡ filter test
      (range_with_len a (k - a)) ++ filter test (k ∷ [])
  filter-more a k order =
      let long : k + 1 - a ≡ k - a + 1 = omega arith in
      let here : a + (k - a) ≡ k = omega arith in
      ap (λ n. filter test (range_with_len a n)) long
      ∙ ap (filter test) (sym (range_with_len-append a (k - a) 1))
      ∙ filter-append test (range_with_len a (k - a)) (range_with_len (a + (k - a)) 1)
      ∙ ap (λ m. filter test (range_with_len a (k - a)) ++ filter test (m ∷ [])) here

  pub filter-picks : (a k : ℕ) → a ≤ k → test k ≡ true
      → filter test (range_with_len a (k + 1 - a)) ≡ filter test
      (range_with_len a (k - a)) ++ k ∷ []
  filter-picks a k order passes =
      filter-more a k order
      ∙ ap (λ b. filter test (range_with_len a (k - a)) ++ cond b (k ∷ []) []) passes

  pub filter-drops : (a k : ℕ) → a ≤ k → test k ≡ false
      → filter test (range_with_len a (k + 1 - a)) ≡ filter test (range_with_len a (k - a))
  filter-drops a k order fails =
      filter-more a k order
      ∙ ap (λ b. filter test (range_with_len a (k - a)) ++ cond b (k ∷ []) []) fails
      ∙ append-nil (filter test (range_with_len a (k - a)))

-- tests that agree on a range
pub filter-ext : (test other : ℕ → Bool) (a n : ℕ)
    → ((m : ℕ) → a ≤ m → m < a + n → test m ≡ other m)
    → filter test (range_with_len a n) ≡ filter other (range_with_len a n)
filter-ext test other a zero same = refl
filter-ext test other a (suc n) same =
    let here : test a ≡ other a = same a (omega arith) (omega arith) in
    let rest : filter test (range_with_len (a + 1) n) ≡ filter other (range_with_len (a + 1) n) =
    filter-ext test other (a + 1) n (λ m above below. same m (omega arith) (omega arith)) in
    rw (here, rest) refl

module _ (axes : List ℕ) (rank : ℕ) where
  -- the axes among some are axes, and so are the others
  pub are_axes-among : are_axes rank (among axes rank) ≡ true
  are_axes-among = are_axes-picked (λ k. is_among k axes) rank 0 rank (omega arith)

  pub are_axes-others : are_axes rank (others axes rank) ≡ true
  are_axes-others = are_axes-picked (λ k. not (is_among k axes)) rank 0 rank (omega arith)

  pub is_among-among : (m : ℕ) → m < rank → is_among m (among axes rank) ≡ is_among m axes
  is_among-among m below =
      elim (cases_Bool (is_among m axes)) [
        | inl holds ↦ is_among-picked (λ k. is_among k axes) 0 rank m (omega arith)
            (omega arith) holds ∙ sym holds
        | inr fails ↦
            false_from_ne_true (is_among m (among axes rank))
            (λ h. let picked = is_picked (λ k. is_among k axes) 0 rank m h in
            let wrong : true ≡ false = sym picked.passes ∙ fails in
            (cc))
            ∙ sym fails
      ]

  -- the others of those are the others
  pub others-among : others (among axes rank) rank ≡ others axes rank
  others-among =
      filter-ext (λ k. not (is_among k (among axes rank))) (λ k. not (is_among k axes)) 0 rank
      (λ m above below. ap not (is_among-among m (omega arith)))

  module _ (legal : are_axes rank axes ≡ true) where
    -- axes and the others are all axes, each once
    pub are_axes-all : are_axes rank (axes ++ others axes rank) ≡ true
    are_axes-all =
        are_axes-append rank axes (others axes rank) legal are_axes-others
        (λ m among. false_from_ne_true (is_among m (others axes rank))
        (λ h. let picked = is_picked (λ k. not (is_among k axes)) 0 rank m h in
        let wrong : false ≡ true = ap not (sym among) ∙ picked.passes in
        (cc)))

  pub is_among-all : (m : ℕ) → m < rank → is_among m (axes ++ others axes rank) ≡ true
  is_among-all m below =
      elim (cases_Bool (is_among m axes)) [
        | inl holds ↦ is_among-append m axes (others axes rank) ∙ rw holds refl
        | inr fails ↦
            let other : is_among m (others axes rank) ≡ true =
            is_among-picked (λ k. not (is_among k axes)) 0 rank m (omega arith) (omega arith)
            (ap not fails) in
            is_among-append m axes (others axes rank) ∙ rw (fails, other) refl
      ]

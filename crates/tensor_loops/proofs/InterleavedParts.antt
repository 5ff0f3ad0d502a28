-- Parts of values of two operands in turns.
use Rattle.std.proofs.Common.{◌≡◌, ℕ, zero, suc, ℤ, pos, ◌+◌, ◌-◌, ◌%◌, ◌<◌, ◌≤◌, List, [], ◌∷◌, ◌++◌, length, map, take, drop, get_or}
use Rattle.std.proofs.Common.{Bool, true, false, if◌then◌else◌, not, refl, ap, sym, ◌∙◌, arith, inl, inr}
use Rattle.std.specs.List.{range_with_len, filter}
use Rattle.std.proofs.lemmas.Bool.{cases_Bool}
use Rattle.std.proofs.lemmas.List.{length-map, length-take-le, get_or-map, take_more, map-append}
use Rattle.std.proofs.lemmas.List.Filters.{length-filter_both, length-filter_more}
use Rattle.std.proofs.lemmas.List.FromFn.{length-map-range_with_len, get_or-map-range_with_len}
use Rattle.tensor_values.specs.Interleaving.{is_of_first, firsts_before, seconds_before, interleaved, HaveTurns}
use Rattle.tensor_values.proofs.InTurns.{firsts-seconds, firsts_before-next, firsts_before-same, firsts-le, seconds-le, first-in_turn, second-in_turn, firsts-run, seconds-run}
use Rattle.tensor_values.proofs.Runs.{map-shifted, part-read, row-more}

-- a part of the values of a run
take-run : (f : ℕ → ℤ) (xs : List ℤ) (a n s c : ℕ) → xs ≡ map f (range_with_len a n) → s + c ≤ n
    → take c (drop s xs) ≡ map f (range_with_len (a + s) c)
take-run f xs a n s c values within =
    part-read xs s c (omega (arith, ap length values, length-map-range_with_len f a n))
    ∙ map-shifted (λ p. get_or xs p (pos 0)) f s (a + s) c
    (λ k below. ap (λ l. get_or l (s + k) (pos 0)) values
    ∙ get_or-map-range_with_len f a n (s + k) (a + s + k) (pos 0) (omega arith) (omega arith))

module _ (v w : ℕ) (some : 0 < v + w) (from place end : ℕ) (above : from ≤ place) (more : place < end) where
  -- there are as many places of the operand in a part of one turn
  pub firsts_before-part : is_of_first v w place ≡ true → place % (v + w) + (end - place) ≤ v
      → firsts_before v w end ≡ firsts_before v w place + (end - place)
  firsts_before-part first turn =
      let last = first-in_turn v w place (end - place - 1) first (omega arith) in
      let at : place + (end - place - 1) + 1 ≡ end = omega arith in
      omega (arith, last.1, firsts_before-next v w some (place + (end - place - 1)) last.0, ap (firsts_before v w) at)

  pub seconds_before-part : is_of_first v w place ≡ false → place % (v + w) + (end - place) ≤ v + w
      → seconds_before v w end ≡ seconds_before v w place + (end - place)
  seconds_before-part second turn =
      let last = second-in_turn v w place (end - place - 1) second (omega arith) in
      let at : place + (end - place - 1) + 1 ≡ end = omega arith in
      omega (
        arith,
        last.1,
        firsts_before-same v w some (place + (end - place - 1)) last.0,
        ap (firsts_before v w) at,
        firsts-seconds v w end,
        firsts-seconds v w (place + (end - place - 1)),
      )

  -- which are places that the operand has
  module _ (m n : ℕ) (turns : HaveTurns v w m n) (within : end ≤ m + n) where
    pub first-within : true ≡ is_of_first v w place
        → place % (v + w) + (end - place) ≤ (if is_of_first v w place then v else v + w)
        → firsts_before v w place + (end - place) ≤ m
    first-within first turn =
        omega (arith, firsts_before-part (sym first) (rw (← first) at turn), (firsts-run v w m n turns place end (omega arith) within).1)

    pub second-within : false ≡ is_of_first v w place
        → place % (v + w) + (end - place) ≤ (if is_of_first v w place then v else v + w)
        → seconds_before v w place + (end - place) ≤ n
    second-within second turn =
        omega (arith, seconds_before-part (sym second) (rw (← second) at turn), (seconds-run v w m n turns place end (omega arith) within).1)

  -- and they have its values
  pub take-first : (f g : ℕ → ℤ) (xs : List ℤ) (n : ℕ) → is_of_first v w place ≡ true → place % (v + w) + (end - place) ≤ v
      → xs ≡ map f (range_with_len (firsts_before v w from) n) → firsts_before v w end - firsts_before v w from ≤ n
      → take (end - place) (drop (firsts_before v w place - firsts_before v w from) xs)
      ≡ map (interleaved v w f g) (range_with_len place (end - place))
  take-first f g xs n first turn values within =
      let le = firsts-le v w some from place above in
      let start : firsts_before v w from + (firsts_before v w place - firsts_before v w from) ≡ firsts_before v w place = omega (arith, le) in
      take-run f xs (firsts_before v w from) n (firsts_before v w place - firsts_before v w from) (end - place) values
      (omega (arith, le, within, firsts_before-part first turn))
      ∙ ap (λ a. map f (range_with_len a (end - place))) start
      ∙ map-shifted f (interleaved v w f g) (firsts_before v w place) place (end - place)
      (λ k below. let here = first-in_turn v w place k first (omega arith) in rw (here.0, here.1) refl)

  pub take-second : (f g : ℕ → ℤ) (ys : List ℤ) (n : ℕ) → is_of_first v w place ≡ false → place % (v + w) + (end - place) ≤ v + w
      → ys ≡ map g (range_with_len (seconds_before v w from) n) → seconds_before v w end - seconds_before v w from ≤ n
      → take (end - place) (drop (seconds_before v w place - seconds_before v w from) ys)
      ≡ map (interleaved v w f g) (range_with_len place (end - place))
  take-second f g ys n second turn values within =
      let le = seconds-le v w some from place above in
      let start : seconds_before v w from + (seconds_before v w place - seconds_before v w from) ≡ seconds_before v w place = omega (arith, le) in
      take-run g ys (seconds_before v w from) n (seconds_before v w place - seconds_before v w from) (end - place) values
      (omega (arith, le, within, seconds_before-part second turn))
      ∙ ap (λ a. map g (range_with_len a (end - place))) start
      ∙ map-shifted g (interleaved v w f g) (seconds_before v w place) place (end - place)
      (λ k below. let here = second-in_turn v w place k second (omega arith) in rw (here.0, here.1) refl)

  -- the values up to the part, and then those of the part
  module _ (f g : ℕ → ℤ) (start : ℕ) (xs ys zs : List ℤ)
      (before : ys ≡ xs ++ map (interleaved v w f g) (range_with_len from (place - from)))
      (turn : place % (v + w) + (end - place) ≤ (if is_of_first v w place then v else v + w)) where
    pub add-first : true ≡ is_of_first v w place → start ≡ firsts_before v w place
        → zs ≡ ys ++ map f (range_with_len start (start + (end - place) - start))
        → zs ≡ xs ++ map (interleaved v w f g) (range_with_len from (end - from))
    add-first first at added =
        let part = rw (← first) at turn in
        let long : place + (end - place) ≡ end = omega arith in
        row-more (interleaved v w f g) f from place start (end - place) xs ys zs above before added
        (λ k below. let here = first-in_turn v w place k (sym first) (omega arith) in rw (here.0, here.1, at) refl)
        ∙ ap (λ p. xs ++ map (interleaved v w f g) (range_with_len from (p - from))) long

    pub add-second : false ≡ is_of_first v w place → start ≡ seconds_before v w place
        → zs ≡ ys ++ map g (range_with_len start (start + (end - place) - start))
        → zs ≡ xs ++ map (interleaved v w f g) (range_with_len from (end - from))
    add-second second at added =
        let part = rw (← second) at turn in
        let long : place + (end - place) ≡ end = omega arith in
        row-more (interleaved v w f g) g from place start (end - place) xs ys zs above before added
        (λ k below. let here = second-in_turn v w place k (sym second) (omega arith) in rw (here.0, here.1, at) refl)
        ∙ ap (λ p. xs ++ map (interleaved v w f g) (range_with_len from (p - from))) long

-- no more than the places passed are of one operand
pub length-places-le : (m : ℕ → ℕ) (P : ℕ → Bool) (ps : List ℕ) (i : ℕ) → i ≤ length ps → length (map m (filter P (take i ps))) ≤ i
length-places-le m P ps i within =
    omega (
      arith,
      length-map (filter P (take i ps)) m,
      length-filter_both P (λ p. not (P p)) (λ p. refl) (take i ps),
      length-take-le i ps within,
    )

module _ (m : ℕ → ℕ) (P : ℕ → Bool) where
  -- a place of an operand has its number among those
  pub get_or-places : (ps : List ℕ) (i : ℕ) → i < length ps → P (get_or ps i 0) ≡ true
      → (length (map m (filter P (take i ps))) < length (map m (filter P ps)))
      × (get_or (map m (filter P ps)) (length (map m (filter P (take i ps)))) 0 ≡ m (get_or ps i 0))
  get_or-places [] i within here = absurd (omega arith)
  get_or-places (p ∷ ps) zero within here = rw here (omega arith, refl)
  get_or-places (p ∷ ps) (suc i) within here =
      let rest = get_or-places ps i (omega arith) here in
      elim (cases_Bool (P p)) [
        | inl passes ↦ rw passes (omega (arith, rest.0), rest.1)
        | inr fails ↦ rw fails rest
      ]

  -- one more, or not
  pub places-more : (ps : List ℕ) (i : ℕ) → i < length ps → P (get_or ps i 0) ≡ true
      → length (map m (filter P (take (i + 1) ps))) ≡ length (map m (filter P (take i ps))) + 1
  places-more ps i within here =
      let more = rw here at (length-filter_more P ps i 0 within) in
      omega (arith, more, length-map (filter P (take (i + 1) ps)) m, length-map (filter P (take i ps)) m)

  pub places-same : (ps : List ℕ) (i : ℕ) → i < length ps → P (get_or ps i 0) ≡ false
      → length (map m (filter P (take (i + 1) ps))) ≡ length (map m (filter P (take i ps)))
  places-same ps i within here =
      let more = rw here at (length-filter_more P ps i 0 within) in
      omega (arith, more, length-map (filter P (take (i + 1) ps)) m, length-map (filter P (take i ps)) m)

  -- so has its value
  pub get_or-values : (f : ℕ → ℤ) (ps : List ℕ) (xs : List ℤ) (i : ℕ) → xs ≡ map f (map m (filter P ps)) → i < length ps → P (get_or ps i 0) ≡ true
      → get_or xs (length (map m (filter P (take i ps)))) (pos 0) ≡ f (m (get_or ps i 0))
  get_or-values f ps xs i values within here =
      let at = get_or-places ps i within here in
      ap (λ l. get_or l (length (map m (filter P (take i ps)))) (pos 0)) values
      ∙ get_or-map f (map m (filter P ps)) (length (map m (filter P (take i ps)))) 0 (pos 0) at.0 ∙ ap f at.1

-- the value at one more place
pub map-more : (h : ℕ → ℤ) (ps : List ℕ) (i : ℕ) (x : ℤ) (values new : List ℤ) → i < length ps → values ≡ map h (take i ps)
    → new ≡ values ++ x ∷ [] → x ≡ h (get_or ps i 0) → new ≡ map h (take (i + 1) ps)
map-more h ps i x values new within before pushed here =
    pushed ∙ ap (λ l. l ++ x ∷ []) before ∙ ap (λ y. map h (take i ps) ++ y ∷ []) here
    ∙ sym (ap (map h) (take_more ps i 0 within) ∙ map-append h (take i ps) (get_or ps i 0 ∷ []))

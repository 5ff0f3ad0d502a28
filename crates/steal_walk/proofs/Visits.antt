-- Walks as lists of rows.
use Rattle.std.proofs.Common.{◌≡◌, ℕ, zero, suc, ◌+◌, ◌-◌, ◌*◌, ◌%◌, ◌<◌, ◌≤◌, false, eqb, cond}
use Rattle.std.proofs.Common.{List, [], ◌∷◌, get_or, map, length}
use Rattle.std.proofs.Common.{arith, refl, sym, ap, ◌∙◌, subst, ⊎_elim}
use Rattle.std.specs.Prelude.{◌==◌, count_by}
use Rattle.std.specs.List.{range_with_len}
use Rattle.std.specs.Int.{IsGcd}
use Rattle.std.proofs.Math.Nat.{mod-add-mod, mod-lt, mod-eq_of_lt}
use Rattle.std.proofs.lemmas.List.FromFn.{length-map-range_with_len, get_or-map-range_with_len}
use Rattle.std.proofs.lemmas.List.Sums.{sum_by-cons}
use Rattle.std.proofs.lemmas.Bool.{cases_eq, ne_eqb, eq-eqb}
use Rattle.steal_walk.specs.Coprimes.{coprimes_of}
use Rattle.steal_walk.specs.Walk.{place_of, step_of, rows_of, walk_of, VisitsEachOnce}
use Rattle.steal_walk.proofs.Bezout.{bezout}
use Rattle.steal_walk.proofs.Cycle.{place, steps_to, steps_to-place, place-steps_to}

pub length-rows_of : (start n f s c : ℕ) → length (rows_of start n f s c) ≡ c
unfolding rows_of
length-rows_of start n f s c = length-map-range_with_len (λ k. start + place n f s k) 0 c

-- ---- the first row, and those after it
pub rows_of-none : (start n f s : ℕ) → rows_of start n f s 0 ≡ []
unfolding rows_of
rows_of-none start n f s = refl

map-range_shift :
    (start n f next s a c : ℕ) → next ≡ (f + s) % n →
    map (λ k. start + place n f s k) (range_with_len (a + 1) c) ≡
    map (λ k. start + place n next s k) (range_with_len a c)
map-range_shift start n f next s a zero e = refl
map-range_shift start n f next s a (suc c) e =
    let rest = map-range_shift start n f next s (a + 1) c e in
    let more : f + (a + 1) * s ≡ f + s + a * s = omega arith in
    let head : place n f s (a + 1) ≡ place n next s a =
    ap (λ m. m % n) more ∙
    sym (mod-add-mod (f + s) n (a * s)) ∙
    ap (λ m. (m + a * s) % n) (sym e) in
    cc

rows_of-suc :
    (start n f next s c : ℕ) → f < n → next ≡ (f + s) % n →
    rows_of start n f s (suc c) ≡ (start + f) ∷ rows_of start n next s c
unfolding rows_of
rows_of-suc start n f next s c inside e =
    let rest = map-range_shift start n f next s 0 c e in
    let none : f + 0 * s ≡ f = omega arith in
    let head : place n f s 0 ≡ f = ap (λ m. m % n) none ∙ mod-eq_of_lt inside in
    cc

pub rows_of-more :
    (start n f next s c : ℕ) → f < n → next ≡ (f + s) % n → 0 < c →
    rows_of start n f s c ≡ (start + f) ∷ rows_of start n next s (c - 1)
rows_of-more start n f next s zero inside e some = absurd (omega arith)
rows_of-more start n f next s (suc c) inside e some =
    let less : suc c - 1 ≡ c = omega arith in rw less (rows_of-suc start n f next s c inside e)

pub rows_of-one : (start n f s : ℕ) → n ≡ 1 → f < n → rows_of start n f s n ≡ start ∷ []
rows_of-one start n f s one inside =
    let next : ℕ = (f + s) % n in
    let here : start + f ≡ start = omega arith in
    let last : n - 1 ≡ 0 = omega arith in
    rows_of-more start n f next s n inside refl (omega arith) ∙
    ap (λ m. m ∷ rows_of start n next s (n - 1)) here ∙
    ap (λ m. start ∷ rows_of start n next s m) last ∙
    ap (λ ys. start ∷ ys) (rows_of-none start n next s)

-- ---- the values of g over a range, where g takes a value at no place, or at one alone
count_by-map_none :
    (g : ℕ → ℕ) (row a c : ℕ) → ((k : ℕ) → a ≤ k → k < a + c → g k ≡ row → ⊥) →
    count_by (λ x. x == row) (map g (range_with_len a c)) ≡ 0
count_by-map_none g row a zero never = refl
count_by-map_none g row a (suc c) never =
    let later = λ (k : ℕ) (low : a + 1 ≤ k) (high : k < a + 1 + c).
    never k (omega arith) (omega arith) in
    let rest = count_by-map_none g row (a + 1) c later in
    let miss = ne_eqb (g a) row (never a (omega arith) (omega arith)) in
    sum_by-cons (λ x. cond (x == row) 1 0) (g a) (map g (range_with_len (a + 1) c)) ∙
    rw miss (omega (arith, rest))

count_by-map_once :
    (g : ℕ → ℕ) (row a c k : ℕ) → a ≤ k → k < a + c → g k ≡ row →
    ((j : ℕ) → a ≤ j → j < a + c → g j ≡ row → j ≡ k) →
    count_by (λ x. x == row) (map g (range_with_len a c)) ≡ 1
count_by-map_once g row a zero k low high here once = absurd (omega arith)
count_by-map_once g row a (suc c) k low high here once =
    sum_by-cons (λ x. cond (x == row) 1 0) (g a) (map g (range_with_len (a + 1) c)) ∙
    ⊎_elim
    (λ same.
    let hit = eq-eqb (g a) row (ap g same ∙ here) in
    let rest = count_by-map_none g row (a + 1) c
    (λ j from to is. omega (arith, once j (omega arith) (omega arith) is)) in
    rw hit (omega (arith, rest)))
    (λ (other : a ≡ k → ⊥).
    let never = λ (is : g a ≡ row). other (once a (omega arith) (omega arith) is) in
    let miss : eqb (g a) row ≡ false = ne_eqb (g a) row never in
    let rest = count_by-map_once g row (a + 1) c k (omega arith) (omega arith) here
    (λ j from to. once j (omega arith) (omega arith)) in
    rw miss (omega (arith, rest)))
    (cases_eq a k)

pub visits_each_once :
    (start n f s : ℕ) → f < n → 0 < s → IsGcd s n 1 →
    VisitsEachOnce start (start + n) (rows_of start n f s n)
unfolding rows_of
visits_each_once start n f s inside some h =
    let b = bezout s n some h in
    let g : ℕ → ℕ = λ k. start + place n f s k in
    let some_n : 0 < n = omega arith in
    record {
      as_many = length-rows_of start n f s n ∙ omega arith;
      within = λ k d short.
          let low : k < n = subst (λ m. k < m) (length-rows_of start n f s n) short in
          let at = get_or-map-range_with_len g 0 n k k d low (omega arith) in
          let below : place n f s k < n = mod-lt (f + k * s) some_n in
          rw at (omega arith, omega (arith, below));
      once = λ row low high.
          let t : ℕ = row - start in
          let k : ℕ = steps_to n f b.x t in
          let comes : place n f s k ≡ t = place-steps_to n f s t b inside (omega arith) in
          let short : k < n = mod-lt (b.x * (t + (n - f))) some_n in
          count_by-map_once g row 0 n k (omega arith) (omega arith) (omega (arith, comes))
          (λ j from to is.
          let there : place n f s j ≡ t = omega (arith, is) in
          sym (steps_to-place n f s j b inside (omega arith)) ∙ ap (steps_to n f b.x) there);
    }

-- ---- the walk that a word picks
pub step_of-get_or :
    (word n chosen : ℕ) (numbers : List ℕ) →
    numbers ≡ coprimes_of n → chosen ≡ place_of word (length numbers) →
    get_or numbers chosen 0 ≡ step_of word n
unfolding step_of
step_of-get_or word n chosen numbers listed at =
    ap (λ m. get_or numbers m 0) at ∙
    ap (λ ys. get_or ys (place_of word (length ys)) 0) listed

pub walk_of-rows_of :
    (word start limit f s : ℕ) →
    f ≡ place_of word (limit - start) → s ≡ step_of word (limit - start) →
    rows_of start (limit - start) f s (limit - start) ≡ walk_of word start limit
unfolding walk_of
walk_of-rows_of word start limit f s first step =
    let n : ℕ = limit - start in
    ap (λ m. rows_of start n m s n) first ∙
    ap (λ m. rows_of start n (place_of word n) m n) step

-- Lists over runs of places.
use Rattle.std.proofs.Common.{◌≡◌, ℕ, zero, suc, ℤ, pos, ◌+◌, ◌-◌, ◌<◌, ◌≤◌, List, [], ◌∷◌, ◌++◌, length, map, take, drop, get_or, set, inl, inr, Result, Ok, Err, OnOk, is_ok, if◌then◌else◌}
use Rattle.std.proofs.Common.{refl, ap, sym, ◌∙◌, arith, add-one, append_assoc, add-zero}
use Rattle.std.proofs.Math.Seq.{drop-cons}
use Rattle.std.specs.Prelude.{replicate}
use Rattle.std.specs.List.{range_with_len}
use Rattle.std.proofs.lemmas.Bool.{cases_eq}
use Rattle.std.proofs.lemmas.List.{length-map, get_or-map, get_or-set_same, get_or-set_other}
use Rattle.std.proofs.lemmas.List.FromFn.{map-range_with_len_more}

-- two functions that agree, each from its own start
pub map-shifted : {X : Type 0} (f g : ℕ → X) (a b n : ℕ) → ((k : ℕ) → k < n → f (a + k) ≡ g (b + k))
    → map f (range_with_len a n) ≡ map g (range_with_len b n)
map-shifted f g a b zero h = refl
map-shifted f g a b (suc n) h =
    let first : f a ≡ g b = rw (← add-zero a, ← add-zero b) (h 0 (omega arith)) in
    let rest : map f (range_with_len (a + 1) n) ≡ map g (range_with_len (b + 1) n) =
    map-shifted f g (a + 1) (b + 1) n (λ k below. ap f (omega arith) ∙ h (k + 1) (omega arith) ∙ ap g (omega arith)) in
    (cc)

-- a run after a run
pub map-joined : {X : Type 0} (f : ℕ → X) (a n m : ℕ)
    → map f (range_with_len a n) ++ map f (range_with_len (a + n) m) ≡ map f (range_with_len a (n + m))
map-joined f a zero m = ap (λ b. map f (range_with_len b m)) (omega arith) ∙ ap (λ k. map f (range_with_len a k)) (omega arith)
map-joined f a (suc n) m =
    let rest = map-joined f (a + 1) n m in
    let start : a + 1 + n ≡ a + suc n = omega arith in
    let long : suc n + m ≡ suc (n + m) = omega arith in
    rw (long, ← start) (ap (λ l. f a ∷ l) rest)

-- a chunk more
pub chunk-more : {X : Type 0} (f : ℕ → X) (first from count : ℕ) (ys cs zs : List X) → first ≤ from
    → ys ≡ map f (range_with_len first (from - first)) → cs ≡ map f (range_with_len from count) → zs ≡ ys ++ cs
    → zs ≡ map f (range_with_len first (from + count - first))
chunk-more f first from count ys cs zs above before chunk added =
    let start : first + (from - first) ≡ from = omega arith in
    let long : from - first + count ≡ from + count - first = omega arith in
    added ∙ ap (λ l. l ++ cs) before ∙ ap (λ l. map f (range_with_len first (from - first)) ++ l) chunk
    ∙ ap (λ a. map f (range_with_len first (from - first)) ++ map f (range_with_len a count)) (sym start)
    ∙ map-joined f first (from - first) count ∙ ap (λ k. map f (range_with_len first k)) long

-- one place more
pub run-more : {X : Type 0} (f : ℕ → X) (a i : ℕ) (xs ys zs : List X) → a ≤ i
    → ys ≡ xs ++ map f (range_with_len a (i - a)) → zs ≡ ys ++ f i ∷ []
    → zs ≡ xs ++ map f (range_with_len a (i + 1 - a))
run-more f a i xs ys zs above before pushed =
    let n : i + 1 - a ≡ i - a + 1 = omega arith in
    let more = map-range_with_len_more f a (i - a) i (omega arith) in
    pushed ∙ ap (λ l. l ++ f i ∷ []) before ∙ append_assoc xs (map f (range_with_len a (i - a))) (f i ∷ [])
    ∙ ap (λ l. xs ++ l) (sym more) ∙ ap (λ k. xs ++ map f (range_with_len a k)) (sym n)

-- a row more
pub row-more : {X : Type 0} (f g : ℕ → X) (first place index count : ℕ) (xs ys zs : List X) → first ≤ place
    → ys ≡ xs ++ map f (range_with_len first (place - first)) → zs ≡ ys ++ map g (range_with_len index (index + count - index))
    → ((k : ℕ) → k < count → g (index + k) ≡ f (place + k))
    → zs ≡ xs ++ map f (range_with_len first (place + count - first))
row-more f g first place index count xs ys zs above before added same =
    let n : index + count - index ≡ count = omega arith in
    let start : first + (place - first) ≡ place = omega arith in
    let long : place - first + count ≡ place + count - first = omega arith in
    added ∙ ap (λ l. l ++ map g (range_with_len index (index + count - index))) before
    ∙ append_assoc xs (map f (range_with_len first (place - first))) (map g (range_with_len index (index + count - index)))
    ∙ ap (λ l. xs ++ (map f (range_with_len first (place - first)) ++ l))
    (ap (λ k. map g (range_with_len index k)) n ∙ map-shifted g f index place count same ∙ ap (λ a. map f (range_with_len a count)) (sym start))
    ∙ ap (λ l. xs ++ l) (map-joined f first (place - first) count)
    ∙ ap (λ k. xs ++ map f (range_with_len first k)) long

-- a part of a list, read by place
pub part-read : (vs : List ℤ) (a n : ℕ) → a + n ≤ length vs
    → take n (drop a vs) ≡ map (λ p. get_or vs p (pos 0)) (range_with_len a n)
part-read vs a zero within = refl
part-read vs a (suc n) within =
    rw (drop-cons vs a (pos 0) (omega arith))
    (ap (λ l. get_or vs a (pos 0) ∷ l) (rw (← add-one a) (part-read vs (a + 1) n (omega arith))))

-- values that are a function's at each place of a list
pub places-read : (f : ℕ → ℤ) (ps : List ℕ) (vs : List ℤ) → length vs ≡ length ps
    → ((k : ℕ) → k < length ps → get_or vs k (pos 0) ≡ f (get_or ps k 0)) → vs ≡ map f ps
places-read f [] [] long each = refl
places-read f [] (v ∷ vs) long each = absurd (omega arith)
places-read f (p ∷ ps) [] long each = absurd (omega arith)
places-read f (p ∷ ps) (v ∷ vs) long each =
    let first : v ≡ f p = each 0 (omega arith) in
    let rest : vs ≡ map f ps = places-read f ps vs (omega arith) (λ k below. each (suc k) (omega arith)) in
    (cc)

pub map-map-of : (f : ℕ → ℤ) (m : ℕ → ℕ) (ps : List ℕ) → map f (map m ps) ≡ map (λ p. f (m p)) ps
map-map-of f m [] = refl
map-map-of f m (p ∷ ps) = ap (λ l. f (m p) ∷ l) (map-map-of f m ps)

module _ (ps : List ℕ) where
  -- an operation on values at the same places
  pub places-applied : (o : ℤ → ℤ) (f : ℕ → ℤ) (xs vs : List ℤ) → xs ≡ map f ps → length vs ≡ length xs
      → ((k : ℕ) → k < length xs → get_or vs k (pos 0) ≡ o (get_or xs k (pos 0))) → vs ≡ map (λ p. o (f p)) ps
  places-applied o f xs vs operand long each =
      let same : length xs ≡ length ps = ap length operand ∙ length-map ps f in
      places-read (λ p. o (f p)) ps vs (omega arith)
      (λ k below. each k (omega arith) ∙ ap (λ l. o (get_or l k (pos 0))) operand ∙ ap o (get_or-map f ps k 0 (pos 0) below))

  -- an operation on the values of two functions at the same places
  pub places-paired : (o : ℤ → ℤ → ℤ) (f g : ℕ → ℤ) (xs vs : List ℤ) → xs ≡ map f ps → length vs ≡ length ps
      → ((k : ℕ) → k < length ps → get_or vs k (pos 0) ≡ o (get_or xs k (pos 0)) (g (get_or ps k 0))) → vs ≡ map (λ p. o (f p) (g p)) ps
  places-paired o f g xs vs left long each =
      places-read (λ p. o (f p) (g p)) ps vs long
      (λ k below. each k below
      ∙ ap (λ l. o (get_or l k (pos 0)) (g (get_or ps k 0))) left ∙ ap (λ x. o x (g (get_or ps k 0))) (get_or-map f ps k 0 (pos 0) below))

  -- a function of the places that another one gives
  pub places-moved : (f : ℕ → ℤ) (m : ℕ → ℕ) → map f (map m ps) ≡ map (λ p. f (m p)) ps
  places-moved f m = map-map-of f m ps

  -- an operation on the values of three functions at the same places
  pub places-selected : (o : ℤ → ℤ → ℤ → ℤ) (f g h : ℕ → ℤ) (xs ys zs vs : List ℤ) → xs ≡ map f ps → ys ≡ map g ps → zs ≡ map h ps
      → length vs ≡ length ys
      → ((k : ℕ) → k < length ys → get_or vs k (pos 0) ≡ o (get_or xs k (pos 0)) (get_or ys k (pos 0)) (get_or zs k (pos 0)))
      → vs ≡ map (λ p. o (f p) (g p) (h p)) ps
  places-selected o f g h xs ys zs vs first second third long each =
      let same : length ys ≡ length ps = ap length second ∙ length-map ps g in
      places-read (λ p. o (f p) (g p) (h p)) ps vs (omega arith)
      (λ k below.
      let x : get_or xs k (pos 0) ≡ f (get_or ps k 0) = ap (λ l. get_or l k (pos 0)) first ∙ get_or-map f ps k 0 (pos 0) below in
      let y : get_or ys k (pos 0) ≡ g (get_or ps k 0) = ap (λ l. get_or l k (pos 0)) second ∙ get_or-map g ps k 0 (pos 0) below in
      let z : get_or zs k (pos 0) ≡ h (get_or ps k 0) = ap (λ l. get_or l k (pos 0)) third ∙ get_or-map h ps k 0 (pos 0) below in
      each k (omega arith)
      ∙ ap (λ v. o v (get_or ys k (pos 0)) (get_or zs k (pos 0))) x
      ∙ ap (λ v. o (f (get_or ps k 0)) v (get_or zs k (pos 0))) y
      ∙ ap (o (f (get_or ps k 0)) (g (get_or ps k 0))) z)

-- one value at all places
pub map-constant : (v : ℤ) (ps : List ℕ) → replicate (length ps) v ≡ map (λ p. v) ps
map-constant v [] = refl
map-constant v (p ∷ ps) = ap (λ l. v ∷ l) (map-constant v ps)

-- one place more that has its value
pub each-more : (f : ℕ → ℤ) (vs : List ℤ) (i : ℕ) (x : ℤ) → i < length vs → x ≡ f i
    → ((k : ℕ) → k < i → get_or vs k (pos 0) ≡ f k) → (k : ℕ) → k < i + 1 → get_or (set vs i x) k (pos 0) ≡ f k
each-more f vs i x within here before k below =
    elim (cases_eq k i) [
      | inl same ↦ rw same (get_or-set_same vs i x (pos 0) within ∙ here)
      | inr other ↦ get_or-set_other vs i k x (pos 0) other ∙ before k (omega arith)
    ]

-- a part that was appended
pub ok-appended : {X T E : Type 0} (r : Result T E) (new old part other : List X) → new ≡ (if is_ok r then old ++ part else old)
    → part ≡ other → OnOk r (new ≡ old ++ other)
ok-appended (Ok x) new old part other appended same = appended ∙ ap (λ l. old ++ l) same
ok-appended (Err e) new old part other appended same = tt

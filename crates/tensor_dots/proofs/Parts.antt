-- Values of a list of which a part was written.
use Rattle.std.proofs.Common.{◌≡◌, ℕ, ℤ, pos, ◌+◌, ◌-◌, ◌<◌, ◌≤◌, List, ◌++◌, length, take, drop}
use Rattle.std.proofs.Common.{get_or, ap, sym, subst, ◌∙◌, arith, inl, inr, ◌*◌, ◌/◌, ◌%◌, min}
use Rattle.std.proofs.Common.{[], ◌∷◌, refl, length-append}
use Rattle.std.proofs.Common.{add_assoc, div-add-mod'}
use Rattle.std.proofs.lemmas.Bool.{cases_lt}
use Rattle.std.proofs.lemmas.List.{get_or-drop, get_or_append_left, get_or-append_right}
use Rattle.std.proofs.lemmas.List.{get_or-take, length-take-le}
use Rattle.std.proofs.Common.{length-drop, length-take}
use borrow.Rule.Slice.PartMut.{put_mid, post_of}

-- how long a part is
pub length-part : (a n : ℕ) (xs : List ℤ) → a + n ≤ length xs
    → length (take (a + n - a) (drop a xs)) ≡ n
length-part a n xs within =
    let same : a + n - a ≡ n = omega arith in
    rw same (length-take-le n (drop a xs) (omega (arith, length-drop a xs)))

module _ (a n : ℕ) (xs ys : List ℤ) (room : a ≤ length xs) where
  long : length (take a xs) ≡ a
  long = length-take-le a xs room

  -- before the part
  pub get_or-before : (k : ℕ) → k < a → get_or (put_mid a n xs ys) k (pos 0) ≡ get_or xs k (pos 0)
  get_or-before k before =
      get_or_append_left (take a xs) (ys ++ post_of a n xs) (pos 0) k (omega (arith, long))
      ∙ get_or-take a xs k (pos 0) before

  -- in the part
  pub get_or-within : (k : ℕ) → k < length ys
      → get_or (put_mid a n xs ys) (a + k) (pos 0) ≡ get_or ys k (pos 0)
  get_or-within k within =
      let back : a + k - a ≡ k = omega arith in
      get_or-append_right (take a xs) (ys ++ post_of a n xs) a (a + k) (pos 0) long (omega arith)
      ∙ ap (λ i. get_or (ys ++ post_of a n xs) i (pos 0)) back
      ∙ get_or_append_left ys (post_of a n xs) (pos 0) k within

  -- after it
  pub get_or-after : (k : ℕ) → length ys ≡ n → a + n ≤ k
      → get_or (put_mid a n xs ys) k (pos 0) ≡ get_or xs k (pos 0)
  get_or-after k same after =
      get_or-append_right (take a xs) (ys ++ post_of a n xs) a k (pos 0) long (omega arith)
      ∙ get_or-append_right ys (post_of a n xs) n (k - a) (pos 0) same (omega arith)
      ∙ get_or-drop n (drop a xs) (k - a - n) (pos 0)
      ∙ get_or-drop a xs (n + (k - a - n)) (pos 0)
      ∙ ap (λ i. get_or xs i (pos 0)) (omega arith)

  -- and the list keeps its length
  pub length-put_mid : length ys ≡ n → a + n ≤ length xs → length (put_mid a n xs ys) ≡ length xs
  length-put_mid same within =
      length-append (take a xs) (ys ++ post_of a n xs)
      ∙ (omega (
        arith,
        long,
        length-append ys (post_of a n xs),
        length-drop n
            (drop a xs),
        length-drop a xs,
      ))

-- a list of which count values, from a place on, were written
module _ (first place count : ℕ) (xs ys : List ℤ) (above : first ≤ place)
    (within : place + count ≤ first + length xs)
    (same : length ys
    ≡ length (take (place - first + count - (place - first)) (drop (place - first) xs))) where
  room : place - first + count ≤ length xs
  room = omega arith

  written : length ys ≡ count
  written = same ∙ length-part (place - first) count xs room

  pub length-written : length (put_mid (place - first) (place - first + count - (place - first))
      xs ys) ≡ length xs
  length-written =
      length-put_mid (place - first) (place - first + count - (place - first)) xs ys
      (omega (arith, room)) (omega (arith, written)) (omega (arith, room))

  -- what holds of its values before the place, and of those of the part, holds of all of these
  pub holds-written : (P : ℕ → ℤ → Type 0)
      → ((k : ℕ) → k < place - first → P k (get_or xs k (pos 0)))
      → ((k : ℕ)
      → k < length (take (place - first + count - (place - first)) (drop (place - first) xs))
      → P (place - first + k) (get_or ys k (pos 0)))
      → (k : ℕ) → k < place + count - first
      → P k (get_or (put_mid (place - first) (place - first + count - (place - first)) xs ys) k
      (pos 0))
  holds-written P before part k below =
      let a = place - first in
      let n = a + count - a in
      let start : a ≤ length xs = omega (arith, room) in
      elim (cases_lt k a) [
        | inl earlier ↦ rw (get_or-before a n xs ys start k earlier) (before k earlier)
        | inr later ↦
            let j = k - a in
            let inside : j < length ys = omega (arith, written) in
            let here : a + j ≡ k = omega arith in
            subst (λ i. P i (get_or (put_mid a n xs ys) i (pos 0))) here
            (rw (get_or-within a n xs ys start j inside)
            (part j (subst (λ n. j < n) same inside)))
      ]

  -- so they are those of a function, if all of these are
  pub get_or-written : (f : ℕ → ℤ)
      → ((k : ℕ) → k < place - first → get_or xs k (pos 0) ≡ f (first + k))
      → ((k : ℕ)
      → k < length (take (place - first + count - (place - first)) (drop (place - first) xs))
      → get_or ys k (pos 0) ≡ f (place + k))
      → (k : ℕ) → k < place + count - first
      → get_or (put_mid (place - first) (place - first + count - (place - first)) xs ys) k (pos 0)
      ≡ f (first + k)
  get_or-written f before part =
      holds-written (λ k v. v ≡ f (first + k)) before
      (λ k few. part k few ∙ ap f (omega (arith, above)))

-- an item of a part
pub get_or-part : {A : Type 0} (d : A) (a n : ℕ) (xs : List A) (k : ℕ)
    → k < length (take (a + n - a) (drop a xs))
    → get_or (take (a + n - a) (drop a xs)) k d ≡ get_or xs (a + k) d
get_or-part d a n xs k below =
    get_or-take (a + n - a) (drop a xs) k d
    (omega (arith, length-take (a + n - a) (drop a xs)))
    ∙ get_or-drop a xs k d

-- no more places than there are before the last end there
pub places-below : (most place last count : ℕ) → count ≡ min most (last - place) → place < last
    → place + count ≤ last
places-below most place last count is below = omega arith

-- a place as its line of the given width, and a place in that line
pub line-place : (width place k : ℕ) → place / width * width + (place % width + k) ≡ place + k
line-place width place k =
    sym (add_assoc (place / width * width) (place % width) k)
    ∙ ap (λ p. p + k) (div-add-mod' place width)

-- what holds of each item of a list and of one more holds of each of both
pub each-next : {A : Type 0} (P : ℕ → A → Type 0) (items new : List A) (more : A) (c : ℕ)
    → c ≡ length items → new ≡ items ++ more ∷ [] → P c more
    → ((k : ℕ) (x : A) → k < length items → get_or items k x ≡ x → P k x)
    → (k : ℕ) (x : A) → k < length new → get_or new k x ≡ x → P k x
each-next P items new more c count is here so_far k x below found =
    let at_k : get_or (items ++ more ∷ []) k x ≡ x = ap (λ l. get_or l k x) (sym is) ∙ found in
    elim (cases_lt k (length items)) [
      | inl before ↦
          so_far k x before (sym (get_or_append_left items (more ∷ []) x k before) ∙ at_k)
      | inr after ↦
          let last : k ≡ c =
          omega (arith, count, ap length is, length-append items (more ∷ [])) in
          let first : k - length items ≡ 0 = omega (arith, count) in
          let same : more ≡ x =
          sym (get_or-append_right items (more ∷ []) (length items) k x refl after
          ∙ ap (λ j. get_or (more ∷ []) j x) first) ∙ at_k in
          subst (λ c. P c x) (sym last) (subst (λ x. P c x) same here)
    ]

-- Concatenations as interleaves: their dims, and their values at places.
use Rattle.std.proofs.Common.{◌≡◌, ℕ, zero, suc, ◌+◌, ◌-◌, ◌*◌, ◌/◌, ◌%◌, ◌<◌, ◌≤◌, min, ℤ, List, [], ◌∷◌, length, take, drop, get_or, set, remove}
use Rattle.std.proofs.Common.{true, false, ◌&&◌, nat_eq, nat_lt, Ok, IsOk, refl, ap, sym, ◌∙◌, inl, inr, arith}
use Rattle.std.proofs.Math.Bool.{and_assoc}
use Rattle.std.proofs.lemmas.Bool.{cases_Bool, eqb-true, ltb-true, ltb-false, lt-ltb, le-ltb}
use Rattle.std.proofs.lemmas.Nat.{div-mul-add, mod-mul-add, div-add-mod'}
use Rattle.std.proofs.Math.Nat.{mod-lt, mul-le-mul_left, div-lt_iff_lt-mul}
use Rattle.std.specs.Cmp.Lexicographic.{pointwise, same_text}
use Rattle.tensor_shape.specs.Index.{size_of, place, index_of}
use Rattle.tensor_shape.specs.Legal.{widest, most_elements, IsLegal, are_legal}
use Rattle.tensor_shape.proofs.Places.{place-cons, place-index_of}
use Rattle.tensor_shape.proofs.Sizes.{size_of-le-bulk_of, bulk_of-take-le}
use Rattle.tensor_terms.specs.Concatenation.{joined_dims, concatenated_dims, concatenated}
use Rattle.tensor_values.specs.Interleaving.{is_of_first, firsts_before, seconds_before, interleaved, HaveTurns}
use Rattle.tensor_terms.specs.declared.fault.ExprFault.TheVariants.{ShapeMismatch, OutOfRange, TooLarge}
use Rattle.tensor_values.proofs.InTurns.{interleaved-first, interleaved-second}
use Rattle.tensor_terms.proofs.Known.{check-known, IsLegal-are_legal}

-- lists without an element are the same where they are before it and behind it
pub remove-parts : (k : ℕ) (xs ys : List ℕ) → length ys ≡ length xs → k < length xs
    → pointwise nat_eq (remove xs k) (remove ys k)
    ≡ (pointwise nat_eq (take k xs) (take k ys) && pointwise nat_eq (drop (suc k) xs) (drop (suc k) ys))
remove-parts k [] ys same within = absurd (omega arith)
remove-parts k (x ∷ xs) [] same within = absurd (omega arith)
remove-parts zero (x ∷ xs) (y ∷ ys) same within = refl
remove-parts (suc k) (x ∷ xs) (y ∷ ys) same within =
    ap (λ b. nat_eq x y && b) (remove-parts k xs ys (omega arith) (omega arith))
    ∙ sym (and_assoc (nat_eq x y) (pointwise nat_eq (take k xs) (take k ys)) (pointwise nat_eq (drop (suc k) xs) (drop (suc k) ys)))

-- what the checks of a concatenation passed
pub record IsConcatenation (axis : ℕ) (ds es : List ℕ) : Type 0 where
  pub same : length ds ≡ length es
  pub in_rank : axis < length ds
  pub others : remove ds axis ≡ remove es axis
  pub legal : IsLegal (joined_dims axis ds es)
  pub dims : concatenated_dims widest axis ds es ≡ Ok (joined_dims axis ds es)

pub concatenation-known : (axis : ℕ) (ds es : List ℕ) → IsOk (concatenated_dims widest axis ds es) → IsConcatenation axis ds es
concatenation-known axis ds es h =
    let same = check-known (nat_eq (length ds) (length es)) _ ShapeMismatch h in
    let in_rank = check-known (nat_lt axis (length ds)) _ OutOfRange same.1 in
    let others = check-known (pointwise nat_eq (remove ds axis) (remove es axis)) _ ShapeMismatch in_rank.1 in
    let legal = check-known (are_legal widest (joined_dims axis ds es)) _ TooLarge others.1 in
    record {
      same = eqb-true (length ds) (length es) same.0;
      in_rank = ltb-true axis (length ds) in_rank.0;
      others = same_text (remove ds axis) (remove es axis) (sym others.0);
      legal = IsLegal-are_legal (joined_dims axis ds es) legal.0;
      dims = rw (same.0, in_rank.0, others.0, legal.0) refl;
    }

-- a size in two parts
pub size_of-parts : (n : ℕ) (ds : List ℕ) → size_of (take n ds) * size_of (drop n ds) ≡ size_of ds
size_of-parts zero ds = omega arith
size_of-parts (suc n) [] = omega arith
size_of-parts (suc n) (d ∷ ds) =
    let rest = size_of-parts n ds in
    let whole : d * size_of (take n ds) * size_of (drop n ds) ≡ d * (size_of (take n ds) * size_of (drop n ds)) = grind arith in
    whole ∙ ap (λ m. d * m) rest

-- one axis more
pub size_of-more : (k : ℕ) (ds : List ℕ) → k < length ds → size_of (take (suc k) ds) ≡ size_of (take k ds) * get_or ds k 0
size_of-more k [] within = absurd (omega arith)
size_of-more zero (d ∷ ds) within = omega arith
size_of-more (suc k) (d ∷ ds) within =
    let rest = size_of-more k ds (omega arith) in
    let whole : d * (size_of (take k ds) * get_or ds k 0) ≡ d * size_of (take k ds) * get_or ds k 0 = grind arith in
    ap (λ n. d * n) rest ∙ whole

pub size_of-take-le : (k : ℕ) (ds : List ℕ) → IsLegal ds → size_of (take k ds) ≤ most_elements
size_of-take-le k ds legal = omega (arith, size_of-le-bulk_of (take k ds), bulk_of-take-le ds k, legal.elements)

-- sizes of dims that differ along one axis alone
pub drop-others : (k : ℕ) (ds es : List ℕ) → length ds ≡ length es → k < length ds → remove ds k ≡ remove es k
    → drop (suc k) ds ≡ drop (suc k) es
drop-others k [] es same within others = absurd (omega arith)
drop-others k (d ∷ ds) [] same within others = absurd (omega arith)
drop-others zero (d ∷ ds) (e ∷ es) same within others = others
drop-others (suc k) (d ∷ ds) (e ∷ es) same within others = drop-others k ds es (omega arith) (omega arith) (cc)

-- both widths together are that of the whole
pub size_of-joined : (k : ℕ) (ds es : List ℕ) → length ds ≡ length es → k < length ds → remove ds k ≡ remove es k
    → size_of (take (suc k) (joined_dims k ds es)) ≡ size_of (take (suc k) ds) + size_of (take (suc k) es)
size_of-joined k [] es same within others = absurd (omega arith)
size_of-joined k (d ∷ ds) [] same within others = absurd (omega arith)
size_of-joined zero (d ∷ ds) (e ∷ es) same within others = omega arith
size_of-joined (suc k) (d ∷ ds) (e ∷ es) same within others =
    let first : d ≡ e = (cc) in
    let rest = size_of-joined k ds es (omega arith) (omega arith) (cc) in
    let whole : d * (size_of (take (suc k) ds) + size_of (take (suc k) es)) ≡ d * size_of (take (suc k) ds) + d * size_of (take (suc k) es) = grind arith in
    ap (λ n. d * n) rest ∙ whole ∙ ap (λ c. d * size_of (take (suc k) ds) + c * size_of (take (suc k) es)) first

pub drop-joined : (k : ℕ) (ds es : List ℕ) → length ds ≡ length es → k < length ds → drop (suc k) (joined_dims k ds es) ≡ drop (suc k) ds
drop-joined k [] es same within = absurd (omega arith)
drop-joined k (d ∷ ds) [] same within = absurd (omega arith)
drop-joined zero (d ∷ ds) (e ∷ es) same within = refl
drop-joined (suc k) (d ∷ ds) (e ∷ es) same within = drop-joined k ds es (omega arith) (omega arith)

over-product : (c r v : ℕ) → v ≤ r → c * (r - v) + c * v ≡ c * r
over-product c r v le =
    let whole : c * (r - v + v) ≡ c * (r - v) + c * v = grind arith in
    sym whole ∙ ap (λ n. c * n) (omega arith)

-- an interleaving under an axis before all others
interleaving-scaled : (c v w p : ℕ) (f g : ℕ → ℤ) → 0 < c → 0 < v + w
    → interleaved v w (λ q. f (p % c + c * q)) (λ q. g (p % c + c * q)) (p / c) ≡ interleaved (c * v) (c * w) f g p
interleaving-scaled c v w p f g some wide =
    let i : ℕ = p % c in
    let t : ℕ = p / c / (v + w) in
    let r : ℕ = p / c % (v + w) in
    let width : c * v + c * w ≡ c * (v + w) = grind arith in
    let row : c * (r + 1) ≤ c * (v + w) = mul-le-mul_left c (omega (arith, mod-lt (p / c) wide)) in
    let next : c * (r + 1) ≡ c * r + c = grind arith in
    let below : i + c * r < c * v + c * w = omega (arith, mod-lt p some, row, next, width) in
    let turns : c * (t * (v + w) + r) ≡ t * (c * v + c * w) + c * r = grind (arith, width) in
    let at : p ≡ t * (c * v + c * w) + (i + c * r) =
    omega (arith, div-add-mod' p c, ap (λ n. c * n) (div-add-mod' (p / c) (v + w)), turns) in
    let turn : p / (c * v + c * w) ≡ t = ap (λ n. n / (c * v + c * w)) at ∙ div-mul-add t (c * v + c * w) (i + c * r) below in
    let index : p % (c * v + c * w) ≡ i + c * r = ap (λ n. n % (c * v + c * w)) at ∙ mod-mul-add t (c * v + c * w) (i + c * r) below in
    elim (cases_Bool (is_of_first v w (p / c))) [
      | inl first ↦
          let here : r < v = ltb-true r v first in
          let up : c * (r + 1) ≤ c * v = mul-le-mul_left c (omega arith) in
          let inside : i + c * r < c * v = omega (arith, up, next, mod-lt p some) in
          let whole : is_of_first (c * v) (c * w) p ≡ true = rw index (lt-ltb (i + c * r) (c * v) inside) in
          let product : c * (t * v + r) ≡ t * (c * v) + c * r = grind arith in
          let least : t * v + min r v ≡ t * v + r = omega arith in
          let place : i + c * firsts_before v w (p / c) ≡ firsts_before (c * v) (c * w) p =
          rw (turn, index) (ap (λ n. i + c * n) least ∙ omega (arith, product, inside)) in
          sym (interleaved-first v w (λ q. f (i + c * q)) (λ q. g (i + c * q)) (p / c) first) ∙ ap f place ∙ interleaved-first (c * v) (c * w) f g p whole
      | inr second ↦
          let here : v ≤ r = ltb-false r v second in
          let past : c * v ≤ c * r = mul-le-mul_left c here in
          let whole : is_of_first (c * v) (c * w) p ≡ false = rw index (le-ltb (i + c * r) (c * v) (omega (arith, past))) in
          let split : c * (r - v) + c * v ≡ c * r = over-product c r v here in
          let product : c * (t * w + (r - v)) ≡ t * (c * w) + c * (r - v) = grind arith in
          let place : i + c * seconds_before v w (p / c) ≡ seconds_before (c * v) (c * w) p =
          rw (turn, index) (omega (arith, product, split)) in
          sym (interleaved-second v w (λ q. f (i + c * q)) (λ q. g (i + c * q)) (p / c) second) ∙ ap g place ∙ interleaved-second (c * v) (c * w) f g p whole
    ]

-- a concatenation of the same values
concatenated-same : (k : ℕ) (ds is : List ℕ) (a b f g : List ℕ → ℤ) → ((js : List ℕ) → a js ≡ f js) → ((js : List ℕ) → b js ≡ g js)
    → concatenated k ds a b is ≡ concatenated k ds f g is
concatenated-same k ds is a b f g first second =
    elim (cases_Bool (nat_lt (get_or is k 0) (get_or ds k 0))) [
      | inl inside ↦ rw inside (first is)
      | inr past ↦ rw past (second (set is k (get_or is k 0 - get_or ds k 0)))
    ]

-- a product above 0 has factors above 0
some-product : (c n p : ℕ) → p < c * n → (0 < c) × (p / c < n)
some-product zero n p below = absurd (omega arith)
some-product (suc c) n p below = (omega arith, (div-lt_iff_lt-mul {k = suc c} {x = p} {y = n} (omega arith)).1 (omega arith))

some-factor : (c n p : ℕ) → p < c * n → 0 < c * n → 0 < n
some-factor c zero p below some = absurd (omega arith)
some-factor c (suc n) p below some = omega arith

-- where the whole has places, each turn has some
pub widths-some : (k : ℕ) (ds es : List ℕ) (p : ℕ) → length ds ≡ length es → k < length ds → remove ds k ≡ remove es k
    → p < size_of (joined_dims k ds es) → 0 < size_of (take (suc k) ds) + size_of (take (suc k) es)
widths-some k ds es p same within others below =
    let parts = size_of-parts (suc k) (joined_dims k ds es) in
    let whole : p < size_of (drop (suc k) (joined_dims k ds es)) * size_of (take (suc k) (joined_dims k ds es)) = omega (arith, parts) in
    omega (arith, size_of-joined k ds es same within others, some-factor _ _ p whole (omega arith))

-- the value at a place of a concatenation
pub concatenated-interleaved : (k : ℕ) (ds es : List ℕ) (f g : ℕ → ℤ) (p : ℕ) → length ds ≡ length es → k < length ds → remove ds k ≡ remove es k
    → p < size_of (joined_dims k ds es)
    → concatenated k ds (λ is. f (place ds is)) (λ is. g (place es is)) (index_of (joined_dims k ds es) p)
    ≡ interleaved (size_of (take (suc k) ds)) (size_of (take (suc k) es)) f g p
concatenated-interleaved k [] es f g p same within others below = absurd (omega arith)
concatenated-interleaved k (d ∷ ds) [] f g p same within others below = absurd (omega arith)
concatenated-interleaved zero (d ∷ ds) (e ∷ es) f g p same within others below =
    let r : ℕ = p % (d + e) in
    let q : ℕ = p / (d + e) in
    let row = some-product (d + e) (size_of ds) p below in
    let rest : place ds (index_of ds q) ≡ q = place-index_of ds q row.1 in
    let one : d * 1 ≡ d = omega arith in
    let two : e * 1 ≡ e = omega arith in
    rw (one, two)
    (elim (cases_Bool (is_of_first d e p)) [
      | inl first ↦
          let here : r < d = ltb-true r d first in
          let at : place (d ∷ ds) (r ∷ index_of ds q) ≡ firsts_before d e p =
          place-cons d r ds (index_of ds q) ∙ ap (λ n. r + d * n) rest ∙ omega arith in
          rw first (ap f at)
      | inr second ↦
          let here : d ≤ r = ltb-false r d second in
          let at : place (e ∷ es) ((r - d) ∷ index_of ds q) ≡ seconds_before d e p =
          place-cons e (r - d) es (index_of ds q) ∙ ap (λ l. r - d + e * place l (index_of ds q)) (sym others)
          ∙ ap (λ n. r - d + e * n) rest ∙ omega arith in
          rw second (ap g at)
    ])
concatenated-interleaved (suc k) (d ∷ ds) (e ∷ es) f g p same within others below =
    let first : e ≡ d = (cc) in
    let i : ℕ = p % d in
    let rs : List ℕ = joined_dims k ds es in
    let row = some-product d (size_of rs) p below in
    let inner = concatenated-interleaved k ds es (λ q. f (i + d * q)) (λ q. g (i + d * q)) (p / d) (omega arith) (omega arith) (cc) row.1 in
    let wide = widths-some k ds es (p / d) (omega arith) (omega arith) (cc) row.1 in
    concatenated-same k ds (index_of rs (p / d)) (λ js. f (place (d ∷ ds) (i ∷ js))) (λ js. g (place (e ∷ es) (i ∷ js)))
    (λ js. f (i + d * place ds js)) (λ js. g (i + d * place es js))
    (λ js. ap f (place-cons d i ds js)) (λ js. ap g (place-cons e i es js ∙ ap (λ c. i + c * place es js) first))
    ∙ inner ∙ interleaving-scaled d (size_of (take (suc k) ds)) (size_of (take (suc k) es)) p f g row.0 wide
    ∙ ap (λ c. interleaved (d * size_of (take (suc k) ds)) (c * size_of (take (suc k) es)) f g p) (sym first)

-- both operands are made of the same number of turns
pub have_turns-concatenation : (k : ℕ) (ds es : List ℕ) → length ds ≡ length es → k < length ds → remove ds k ≡ remove es k
    → 0 < size_of (take (suc k) ds) → 0 < size_of (take (suc k) es)
    → HaveTurns (size_of (take (suc k) ds)) (size_of (take (suc k) es)) (size_of ds) (size_of es)
have_turns-concatenation k ds es same within others first second =
    let v : ℕ = size_of (take (suc k) ds) in
    let w : ℕ = size_of (take (suc k) es) in
    let t : ℕ = size_of (drop (suc k) ds) in
    let tail : size_of (drop (suc k) es) ≡ t = ap size_of (sym (drop-others k ds es same within others)) in
    let left : size_of ds ≡ t * v + 0 = omega (arith, size_of-parts (suc k) ds) in
    let right : size_of es ≡ t * w = sym (size_of-parts (suc k) es) ∙ ap (λ n. w * n) tail ∙ omega arith in
    let turns : size_of ds / v ≡ t = ap (λ n. n / v) left ∙ div-mul-add t v 0 first in
    ((first, second), (left ∙ ap (λ n. n * v + 0) (sym turns) ∙ omega arith, right ∙ ap (λ n. n * w) (sym turns)))

-- the whole has the places of both
pub size_of-concatenation : (k : ℕ) (ds es : List ℕ) → length ds ≡ length es → k < length ds → remove ds k ≡ remove es k
    → size_of (joined_dims k ds es) ≡ size_of ds + size_of es
size_of-concatenation k ds es same within others =
    let t : ℕ = size_of (drop (suc k) ds) in
    let v : ℕ = size_of (take (suc k) ds) in
    let w : ℕ = size_of (take (suc k) es) in
    let tail : size_of (drop (suc k) es) ≡ t = ap size_of (sym (drop-others k ds es same within others)) in
    let whole : (v + w) * t ≡ v * t + w * t = grind arith in
    sym (size_of-parts (suc k) (joined_dims k ds es))
    ∙ ap (λ n. n * size_of (drop (suc k) (joined_dims k ds es))) (size_of-joined k ds es same within others)
    ∙ ap (λ l. (v + w) * size_of l) (drop-joined k ds es same within)
    ∙ whole
    ∙ ap (λ n. n + w * t) (size_of-parts (suc k) ds)
    ∙ ap (λ n. size_of ds + w * n) (sym tail)
    ∙ ap (λ n. size_of ds + n) (size_of-parts (suc k) es)

-- Shards cover the index lists, and give what these give.
use Rattle.std.proofs.Common.{◌≡◌, ℕ, zero, suc, ◌+◌, ◌-◌, ◌*◌, ◌<◌, ◌≤◌, min, max}
use Rattle.std.proofs.Common.{ℤ, pos, ◌+ℤ◌, ◌*ℤ◌, take, drop, slice_index_or}
use Rattle.std.proofs.Common.{List, [], ◌∷◌, ◌++◌, length, map, inl, inr}
use Rattle.std.proofs.Common.{append-nil, mul-le-mul_right, refl, ap, sym, subst, ◌∙◌, arith, rules}
use Rattle.std.specs.List.{fold, range_with_len}
use Rattle.std.proofs.Math.Nat.{lt_of_mul-lt-mul_right}
use Rattle.std.proofs.lemmas.Bool.{cases_lt}
use Rattle.std.proofs.lemmas.Grind.{div_ceil_times}
use Rattle.std.proofs.lemmas.List.FromFn.{length-map-range_with_len, get_or-map-range_with_len}
use Rattle.std.proofs.lemmas.Int.{int_wrap-add_left, int_wrap_fits}
use Rattle.std.proofs.lemmas.List.{map-append}
use Rattle.std.proofs.lemmas.List.Sums.{fold-append}
use Rattle.std.specs.Int.{w64}
use Rattle.std.proofs.lemmas.Simd.{map-map}
use Rattle.tensor_ops.specs.Contraction.{firsts, seconds, contracted}
use Rattle.tensor_ops.specs.Index.{size_of, index_of}
use Rattle.tensor_ops.specs.Parts.{reduced_part, contracted_part}
use Rattle.tensor_ops.specs.Combining.{combine, unit, combination}
use Rattle.tensor_ops.specs.Reduction.{reduced}
use Rattle.tensor_ops.specs.Merged.{among, dims_at, other_dims, merged}
use Rattle.tensor_ops.specs.Wrap.{wrap}
use Rattle.tensor_ops.specs.Reducer.{Reducer}
use Rattle.tensor_ops.specs.Reducer.TheVariants.{Sum}
use Rattle.tensor_ops.proofs.OtherAxes.{range_with_len-append}
use Rattle.tensor_reduce.specs.Shards.{Shard, div_up, most_shards, width_of, shard_at}
use Rattle.tensor_reduce.specs.Shards.{shards_by, shards_of}
use Rattle.tensor_reduce.specs.Shards.{lists_in, lists_of}
use Rattle.tensor_reduce.proofs.Combining.{IsWhole, whole-unit, whole-combine, fold-combination}

-- the index lists of k shards, from shard i on
lists_of-run : (n w i k : ℕ)
    → lists_of (map (shard_at n w) (range_with_len i k))
    ≡ range_with_len (i * w) (min ((i + k) * w) n - i * w)
lists_of-run n w i zero =
    let here : (i + 0) * w ≡ i * w = grind arith in
    let none : 0 ≡ min ((i + 0) * w) n - i * w = omega arith in
    ap (range_with_len (i * w)) none
lists_of-run n w i (suc k) =
    let next : (i + 1) * w ≡ i * w + w = grind arith in
    let last : (i + suc k) * w ≡ i * w + w + k * w = grind arith in
    let behind : (i + 1 + k) * w ≡ i * w + w + k * w = grind arith in
    let first : ℕ = min ((i + 1) * w) n - i * w in
    let rest : ℕ = min ((i + 1 + k) * w) n - (i + 1) * w in
    ap (λ l. range_with_len (i * w) first ++ l) (lists_of-run n w (i + 1) k)
    ∙ elim (cases_lt n (i * w + w)) [
      | inl short ↦
          let none : rest ≡ 0 = omega arith in
          let all : first ≡ min ((i + suc k) * w) n - i * w = omega arith in
          ap (λ m. range_with_len (i * w) first ++ range_with_len ((i + 1) * w) m) none
          ∙ append-nil (range_with_len (i * w) first)
          ∙ ap (range_with_len (i * w)) all
      | inr long ↦
          let start : (i + 1) * w ≡ i * w + first = omega arith in
          let all : first + rest ≡ min ((i + suc k) * w) n - i * w = omega arith in
          ap (λ a. range_with_len (i * w) first ++ range_with_len a rest) start
          ∙ range_with_len-append (i * w) first rest
          ∙ ap (range_with_len (i * w)) all
    ]

pub width_of-enough : (n block : ℕ) → n ≤ most_shards * width_of n block
width_of-enough n block =
    let enough = div_ceil_times n most_shards (omega arith) in
    let wide : div_up n most_shards * most_shards ≤ width_of n block * most_shards =
    mul-le-mul_right most_shards (omega arith) in
    omega (arith, enough.0, wide)

-- shards that are wide enough have all index lists: they have no width only where there are none
all-covered : (n w : ℕ) → n ≤ most_shards * w → n ≤ max 1 (div_up n w) * w
all-covered n w wide =
    elim (cases_lt 0 w) [
      | inl some ↦
          let enough = div_ceil_times n w some in
          let more : div_up n w * w ≤ max 1 (div_up n w) * w = mul-le-mul_right w (omega arith) in
          omega (arith, enough.0, more)
      | inr none ↦
          let flat : w ≡ 0 = omega arith in
          let nothing : most_shards * w ≡ 0 = rw flat (omega arith) in
          omega (arith, wide, nothing)
    ]

lists_of-shards_by : (n w : ℕ) → n ≤ most_shards * w
    → lists_of (shards_by n w) ≡ range_with_len 0 n
lists_of-shards_by n w wide =
    let count : ℕ = max 1 (div_up n w) in
    let all : n ≤ count * w = all-covered n w wide in
    let whole : min ((0 + count) * w) n - 0 * w ≡ n = omega (arith, all) in
    let start : 0 * w ≡ 0 = omega arith in
    lists_of-run n w 0 count ∙ ap (range_with_len (0 * w)) whole
    ∙ ap (λ a. range_with_len a n) start

pub lists_of-shards_of : (n block : ℕ) → lists_of (shards_of n block) ≡ range_with_len 0 n
lists_of-shards_of n block =
    lists_of-shards_by n (width_of n block) (width_of-enough n block)

-- where there are no index lists, their one shard is the same at no width and at a width of one
pub shards_by-some : (n block : ℕ) → shards_by n (max (width_of n block) 1) ≡ shards_of n block
shards_by-some n block =
    elim (cases_lt 0 (width_of n block)) [
      | inl some ↦
          let same : max (width_of n block) 1 ≡ width_of n block = omega arith in
          ap (shards_by n) same
      | inr none ↦
          let flat : width_of n block ≡ 0 = omega arith in
          let enough : n ≤ most_shards * 0 = subst (λ w. n ≤ most_shards * w) flat (width_of-enough n block) in
          let nothing : n ≡ 0 = omega (arith, enough) in
          let empty : shards_by 0 1 ≡ shards_by 0 0 = refl in
          ap (λ w. shards_by n (max w 1)) flat
          ∙ ap (λ m. shards_by m 1) nothing ∙ empty ∙ ap (λ m. shards_by m 0) (sym nothing)
          ∙ ap (shards_by n) (sym flat)
    ]

-- the shards one by one
pub length-shards_by : (n w : ℕ) → length (shards_by n w) ≡ max 1 (div_up n w)
length-shards_by n w = length-map-range_with_len (shard_at n w) 0 (max 1 (div_up n w))

pub get_or-shards_by : (n w i : ℕ) → i < length (shards_by n w)
    → slice_index_or (shards_by n w) i (0, 0) ≡ shard_at n w i
get_or-shards_by n w i below =
    get_or-map-range_with_len (shard_at n w) 0 (max 1 (div_up n w)) i i (0, 0)
    (omega (arith, length-shards_by n w)) (omega arith)

-- one shard has all index lists
pub one-shard : (n w : ℕ) → 0 < w → length (shards_by n w) ≡ 1
    → slice_index_or (shards_by n w) 0 (0, 0) ≡ (0, n)
one-shard n w some one =
    let enough = div_ceil_times n w some in
    let few : div_up n w * w ≤ 1 * w =
    mul-le-mul_right w (omega (arith, length-shards_by n w)) in
    let first : 0 * w ≡ 0 = omega arith in
    let whole : min ((0 + 1) * w) n ≡ n = omega (arith, enough.0, few) in
    get_or-shards_by n w 0 (omega (arith, one))
    ∙ ap (λ a. (a, min ((0 + 1) * w) n)) first ∙ ap (λ b. (0, b)) whole

pub shard-starts : (n w i : ℕ) → 0 < w → i < length (shards_by n w) → i * w ≤ n
shard-starts n w i some below =
    let count = length-shards_by n w in
    let enough = div_ceil_times n w some in
    elim (cases_lt i (div_up n w)) [
      | inl inside ↦
          let next : (i + 1) * w ≡ i * w + w = grind arith in
          let more : (i + 1) * w ≤ div_up n w * w = mul-le-mul_right w (omega arith) in
          omega (arith, enough.1, next, more)
      | inr past ↦
          let first : i ≡ 0 = omega (arith, count) in
          let none : i * w ≡ 0 = rw first (omega arith) in
          omega arith
    ]

pub div_up-few : (n w : ℕ) → 0 < w → n ≤ most_shards * w → div_up n w ≤ most_shards
div_up-few n w some wide =
    let enough = div_ceil_times n w some in
    let more : (most_shards + 1) * w ≡ most_shards * w + w = grind arith in
    let below : div_up n w < most_shards + 1 =
    lt_of_mul-lt-mul_right w {m = div_up n w} {n = most_shards + 1}
    (omega (arith, enough.1, more)) in
    omega arith

-- the combinations of shards, combined, are that of their index lists
fold-shards : (r : Reducer) (f : ℕ → ℤ) (x : ℤ) (shards : List Shard) → IsWhole r x
    → fold (combine r) x (map (λ s. combination r (map f (lists_in s))) shards)
    ≡ fold (combine r) x (map f (lists_of shards))
fold-shards r f x [] whole = refl
fold-shards r f x (s ∷ shards) whole =
    let part : List ℤ = map f (lists_in s) in
    let rest : List ℤ = map f (lists_of shards) in
    fold-shards r f (combine r x (combination r part)) shards
    (whole-combine r x (combination r part) whole)
    ∙ ap (λ u. fold (combine r) u rest) (sym (fold-combination r x part whole))
    ∙ sym (fold-append (combine r) x part rest)
    ∙ ap (fold (combine r) x) (sym (map-append f (lists_in s) (lists_of shards)))

combination-shards : (r : Reducer) (f : ℕ → ℤ) (n w : ℕ) → n ≤ most_shards * w
    → combination r (map (λ s. combination r (map f (lists_in s))) (shards_by n w))
    ≡ combination r (map f (range_with_len 0 n))
combination-shards r f n w wide =
    fold-shards r f (unit r) (shards_by n w) (whole-unit r)
    ∙ ap (λ l. combination r (map f l)) (lists_of-shards_by n w wide)

-- a sum that wraps at each step is the wrap of the whole sum
fold-wrap : (xs : List ℤ) (s : ℤ) → fold (combine Sum) (wrap s) xs ≡ wrap (fold ◌+ℤ◌ s xs)
fold-wrap [] s = refl
fold-wrap (x ∷ xs) s =
    ap (λ u. fold (combine Sum) u xs) (int_wrap-add_left w64 s x) ∙ fold-wrap xs (s +ℤ x)

pub combination-sum : (xs : List ℤ) → combination Sum xs ≡ wrap (fold ◌+ℤ◌ (pos 0) xs)
combination-sum xs =
    ap (λ u. fold (combine Sum) u xs) (sym (int_wrap_fits w64 (pos 0) (search rules)))
    ∙ fold-wrap xs (pos 0)

-- shards that give the same
pub map-ext : {X Y : Type 0} (f g : X → Y) → ((x : X) → f x ≡ g x) → (xs : List X) → map f xs ≡ map g xs
map-ext f g same [] = refl
map-ext f g same (x ∷ xs) = let here = same x in let rest = map-ext f g same xs in cc (here, rest)

pub reduced-shards : (r : Reducer) (axes ds : List ℕ) (a : List ℕ → ℤ) (is : List ℕ) (w : ℕ)
    → size_of (dims_at (among axes (length ds)) ds) ≤ most_shards * w
    → combination r (map (λ s. reduced_part r axes ds a is s.0 (s.1 - s.0))
    (shards_by (size_of (dims_at (among axes (length ds)) ds)) w))
    ≡ reduced r axes ds a is
reduced-shards r axes ds a is w wide =
    let dims : List ℕ = dims_at (among axes (length ds)) ds in
    let f : List ℕ → ℤ = λ js. a (merged (among axes (length ds)) ds js is) in
    let g : ℕ → ℤ = λ q. f (index_of dims q) in
    ap (combination r) (map-ext (λ s. combination r (map f (map (index_of dims) (lists_in s))))
    (λ s. combination r (map g (lists_in s)))
    (λ s. ap (combination r) (map-map f (index_of dims) (lists_in s)))
    (shards_by (size_of dims) w))
    ∙ combination-shards r g (size_of dims) w wide
    ∙ ap (combination r) (sym (map-map f (index_of dims) (range_with_len 0 (size_of dims))))

pub contracted-shards : (pairs : List (ℕ × ℕ)) (ds es : List ℕ) (a b : List ℕ → ℤ) (is : List ℕ)
    (w : ℕ) → size_of (dims_at (firsts pairs) ds) ≤ most_shards * w
    → combination Sum (map (λ s. contracted_part pairs ds es a b is s.0 (s.1 - s.0))
    (shards_by (size_of (dims_at (firsts pairs) ds)) w))
    ≡ contracted pairs ds es a b is
contracted-shards pairs ds es a b is w wide =
    let dims : List ℕ = dims_at (firsts pairs) ds in
    let f : List ℕ → ℤ = λ js.
    a (merged (firsts pairs) ds js (take (length (other_dims (firsts pairs) ds)) is))
    *ℤ b (merged (seconds pairs) es js (drop (length (other_dims (firsts pairs) ds)) is)) in
    let g : ℕ → ℤ = λ q. f (index_of dims q) in
    ap (combination Sum) (map-ext
    (λ s. wrap (fold ◌+ℤ◌ (pos 0) (map f (map (index_of dims) (lists_in s)))))
    (λ s. combination Sum (map g (lists_in s)))
    (λ s. sym (combination-sum (map f (map (index_of dims) (lists_in s))))
    ∙ ap (combination Sum) (map-map f (index_of dims) (lists_in s)))
    (shards_by (size_of dims) w))
    ∙ combination-shards Sum g (size_of dims) w wide
    ∙ ap (combination Sum) (sym (map-map f (index_of dims) (range_with_len 0 (size_of dims))))
    ∙ combination-sum (map f (map (index_of dims) (range_with_len 0 (size_of dims))))

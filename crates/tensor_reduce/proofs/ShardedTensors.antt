-- What shards give of all values of a reduction or a contraction is its tensor.
use Rattle.std.proofs.Common.{◌≡◌, ℕ, ℤ, pos, ◌+◌, ◌-◌, ◌*◌, ◌/◌, ◌%◌, ◌<◌, ◌≤◌, true, Ok}
use Rattle.std.proofs.Common.{List, [], length, map, take, drop, slice_index_or}
use Rattle.std.proofs.Common.{mul-le-mul_right, refl, ap, sym, subst, ◌∙◌, arith}
use Rattle.std.proofs.Math.Nat.{mod-eq_of_lt, mul-add-mod_self_right}
use Rattle.std.proofs.lemmas.List.{get_or-take, get_or-drop, length-take-le, length-drop, length-map}
use Rattle.std.proofs.lemmas.List.{ext_get_or, get_or-map}
use Rattle.std.proofs.lemmas.List.FromFn.{length-map-range_with_len, get_or-map-range_with_len}
use Rattle.std.proofs.lemmas.Nat.{div-mul-add}
use Rattle.std.specs.List.{range_with_len}
use Rattle.std.specs.Result.{result_unwrap_or}
use Rattle.tensor_ops.specs.Contents.{Contents}
use Rattle.tensor_ops.specs.Index.{size_of, index_of}
use Rattle.tensor_ops.specs.Legal.{widest}
use Rattle.tensor_ops.specs.Parts.{has_parts, inner_size, part_value, whole_value}
use Rattle.tensor_ops.specs.Combining.{combination}
use Rattle.tensor_ops.specs.Result.{dims_of, shape_of}
use Rattle.tensor_ops.specs.Term.{Term, input, unary, binary, ternary}
use Rattle.tensor_ops.specs.Term.{each, constant, movement, pad, reduce, along}
use Rattle.tensor_ops.specs.Term.{pairwise, concat, contract, convolve, taking}
use Rattle.tensor_ops.specs.Reducer.{Reducer}
use Rattle.tensor_ops.specs.Value.{value, value_of_place, tensor_of}
use Rattle.tensor_ops.proofs.Evaluated.{map-values_from, tensor_of-made}
use Rattle.tensor_reduce.specs.private.Combined.{reducer_of, shard_value, value_shard, combined_by}
use Rattle.tensor_reduce.specs.Shards.{Shard, shards_by, shards_of, most_shards, width_of}
use Rattle.tensor_reduce.proofs.Sharding.{one-shard, reduced-shards, contracted-shards, width_of-enough}

-- the shards of one value
combination-shards_of : (t : Term) (inputs : List Contents) (p w : ℕ) → has_parts t ≡ true
    → inner_size t inputs ≤ most_shards * w
    → combination (reducer_of t) (map (shard_value t inputs p) (shards_by (inner_size t inputs) w))
    ≡ value_of_place t inputs p
combination-shards_of (input n) inputs p w parts wide = (cc)
combination-shards_of (unary (each o) a) inputs p w parts wide = (cc)
combination-shards_of (unary (constant v) a) inputs p w parts wide = (cc)
combination-shards_of (unary (movement m) a) inputs p w parts wide = (cc)
combination-shards_of (unary (pad pairs) a) inputs p w parts wide = (cc)
combination-shards_of (unary (reduce r axes) a) inputs p w parts wide =
    reduced-shards r axes (shape_of a inputs) (value a inputs)
    (index_of (shape_of (unary (reduce r axes) a) inputs) p) w wide
combination-shards_of (unary (along o axis) a) inputs p w parts wide = (cc)
combination-shards_of (binary (pairwise o) a b) inputs p w parts wide = (cc)
combination-shards_of (binary (concat axis) a b) inputs p w parts wide = (cc)
combination-shards_of (binary (contract pairs) a b) inputs p w parts wide =
    contracted-shards pairs (shape_of a inputs) (shape_of b inputs) (value a inputs)
    (value b inputs) (index_of (shape_of (binary (contract pairs) a b) inputs) p) w wide
combination-shards_of (binary (convolve axes) a b) inputs p w parts wide = (cc)
combination-shards_of (binary (taking axis) a b) inputs p w parts wide = (cc)
combination-shards_of (ternary o a b c) inputs p w parts wide = (cc)

-- the shards of a value among the shards of all values
shards-of_value : (t : Term) (inputs : List Contents) (shards : List Shard) (found : List ℤ)
    (v p : ℕ) → p < v
    → found ≡ map (value_shard t inputs shards) (range_with_len 0 (v * length shards))
    → take (length shards) (drop (p * length shards) found) ≡ map (shard_value t inputs p) shards
shards-of_value t inputs shards found v p below is =
    let c : ℕ = length shards in
    let f : ℕ → ℤ = value_shard t inputs shards in
    let all : List ℤ = map f (range_with_len 0 (v * c)) in
    let next : (p + 1) * c ≡ p * c + c = grind arith in
    let within : (p + 1) * c ≤ v * c = mul-le-mul_right c (omega arith) in
    let behind : length (drop (p * c) all) ≡ v * c - p * c =
    omega (arith, length-drop (p * c) all, length-map-range_with_len f 0 (v * c)) in
    let long : length (take c (drop (p * c) all)) ≡ c =
    length-take-le c (drop (p * c) all) (omega arith) in
    ap (λ l. take c (drop (p * c) l)) is
    ∙ ext_get_or (pos 0) (take c (drop (p * c) all)) (map (shard_value t inputs p) shards)
    (long ∙ sym (length-map shards (shard_value t inputs p)))
    (λ i inside.
    let below_c : i < c = omega (arith, long) in
    get_or-take c (drop (p * c) all) i (pos 0) below_c
    ∙ get_or-drop (p * c) all i (pos 0)
    ∙ get_or-map-range_with_len f 0 (v * c) (p * c + i) (p * c + i) (pos 0) (omega arith)
    (omega arith)
    ∙ ap (λ q. shard_value t inputs q (slice_index_or shards ((p * c + i) % c) (0, 0)))
    (div-mul-add p c i below_c)
    ∙ ap (λ k. shard_value t inputs p (slice_index_or shards k (0, 0)))
    (mul-add-mod_self_right p c i ∙ mod-eq_of_lt below_c)
    ∙ sym (get_or-map (shard_value t inputs p) shards i (0, 0) (pos 0) below_c))

-- what the one shard of a value gives
pub value_shard-one : (t : Term) (inputs : List Contents) (n w p : ℕ) → 0 < w
    → length (shards_by n w) ≡ 1 → n ≡ inner_size t inputs
    → value_shard t inputs (shards_by n w) p ≡ whole_value t inputs p
value_shard-one t inputs n w p some one all =
    let here : p / length (shards_by n w) ≡ p = ap (λ m. p / m) one ∙ omega arith in
    let first : p % length (shards_by n w) ≡ 0 = ap (λ m. p % m) one ∙ omega arith in
    let shard : slice_index_or (shards_by n w) (p % length (shards_by n w)) (0, 0) ≡ (0, n) =
    ap (λ i. slice_index_or (shards_by n w) i (0, 0)) first ∙ one-shard n w some one in
    let count : n - 0 ≡ inner_size t inputs = omega (arith, all) in
    ap (λ q. shard_value t inputs q
    (slice_index_or (shards_by n w) (p % length (shards_by n w)) (0, 0))) here
    ∙ ap (shard_value t inputs p) shard ∙ ap (part_value t inputs p 0) count

-- the shards of all values
pub tensor_of-shards : (t : Term) (inputs : List Contents) (w : ℕ) (shards : List Shard)
    (found : List ℤ) (made : Contents) → has_parts t ≡ true
    → inner_size t inputs ≤ most_shards * w
    → shards ≡ shards_by (inner_size t inputs) w
    → found ≡ map (value_shard t inputs shards)
    (range_with_len 0 (size_of (shape_of t inputs) * length shards))
    → made.dims ≡ shape_of t inputs
    → made.values ≡ map (combined_by (reducer_of t) (length shards) found)
    (range_with_len 0 (size_of (shape_of t inputs)))
    → made ≡ tensor_of t inputs
tensor_of-shards t inputs w shards found made parts wide are is dims values =
    let v : ℕ = size_of (shape_of t inputs) in
    let r = reducer_of t in
    tensor_of-made inputs t made v dims
    (values
    ∙ map-values_from inputs t (combined_by r (length shards) found) 0 v
    (λ p below.
    ap (combination r) (shards-of_value t inputs shards found v p below is)
    ∙ ap (λ l. combination r (map (shard_value t inputs p) l)) are
    ∙ combination-shards_of t inputs p w parts wide)
    (omega arith))
    refl

-- these facts for a term and tensors that are equal to others
module _ (t s : Term) (inputs others : List Contents) (term : s ≡ t) (tensors : others ≡ inputs)
    (ds : List ℕ) (has : dims_of widest t inputs ≡ Ok ds) where
  same-inner : inner_size s others ≡ inner_size t inputs
  same-inner = ap (λ x. inner_size x others) term ∙ ap (inner_size t) tensors

  shape : shape_of t inputs ≡ ds
  shape = ap (λ r. result_unwrap_or r []) has

  pub tensor_of-cut : (inner width v count : ℕ) (shards : List Shard) (found : List ℤ)
      (r : Reducer) (made : Contents)
      → has_parts t ≡ true → inner ≡ inner_size s others → shards ≡ shards_of inner width
      → v ≡ size_of ds → count ≡ length shards
      → found ≡ map (value_shard s others shards) (range_with_len 0 (v * count))
      → r ≡ reducer_of t → made.dims ≡ ds
      → made.values ≡ map (combined_by r count found) (range_with_len 0 v)
      → made ≡ tensor_of t inputs
  tensor_of-cut inner width v count shards found r made parts lists are size all is reducer
      dims values =
      let w : ℕ = width_of inner width in
      let wide : inner_size t inputs ≤ most_shards * w =
      subst (λ n. n ≤ most_shards * w) (lists ∙ same-inner) (width_of-enough inner width) in
      let size_is : v ≡ size_of (shape_of t inputs) = size ∙ ap size_of (sym shape) in
      let places : v * count ≡ size_of (shape_of t inputs) * length shards =
      ap (λ n. n * count) size_is ∙ ap (λ n. size_of (shape_of t inputs) * n) all in
      tensor_of-shards t inputs w shards found made parts wide
      (are ∙ ap (λ n. shards_by n w) (lists ∙ same-inner))
      (is
      ∙ ap (λ x. map (value_shard x others shards) (range_with_len 0 (v * count))) term
      ∙ ap (λ x. map (value_shard t x shards) (range_with_len 0 (v * count))) tensors
      ∙ ap (λ n. map (value_shard t inputs shards) (range_with_len 0 n)) places)
      (dims ∙ sym shape)
      (values
      ∙ ap (λ x. map (combined_by x count found) (range_with_len 0 v)) reducer
      ∙ ap (λ n. map (combined_by (reducer_of t) n found) (range_with_len 0 v)) all
      ∙ ap (λ n. map (combined_by (reducer_of t) (length shards) found) (range_with_len 0 n)) size_is)

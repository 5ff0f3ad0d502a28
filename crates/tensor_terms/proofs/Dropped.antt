-- Lists of distinct axes, and the others.
use Rattle.std.proofs.Common.{◌≡◌, ℕ, zero, suc, ◌+◌, ◌<◌, ◌≤◌, max, List, [], ◌∷◌, ◌++◌}
use Rattle.std.proofs.Common.{length, get_or, IsOk}
use Rattle.std.proofs.Common.{Bool, true, false, not, ◌&&◌, nat_lt, refl, ap}
use Rattle.std.proofs.Common.{◌∙◌, arith, inl, inr}
use Rattle.std.specs.List.{filter, range_with_len}
use Rattle.std.proofs.lemmas.Bool.{cases_Bool, cases_eq, and_parts, and_from}
use Rattle.std.proofs.lemmas.Bool.{eq-eqb, ne_eqb, ltb-true}
use Rattle.std.proofs.lemmas.Bool.{not-true, false_from_ne_true}
use Rattle.std.proofs.lemmas.List.{length-append, length-map}
use Rattle.std.proofs.Math.Nat.{mul-le-mul_left}
use Rattle.tensor_shape.specs.Legal.{widest, bulk_of, IsLegal, are_legal}
use Rattle.tensor_shape.proofs.Sizes.{one-le-bulk_of, bulk_of-take-le}
use Rattle.tensor_terms.specs.Contraction.{firsts, contracted_dims}
use Rattle.tensor_terms.specs.Movement.{is_among, has_all_below, shuffled_dims}
use Rattle.tensor_terms.specs.Reduction.{are_axes}
use Rattle.tensor_terms.specs.Merged.{among, others, dims_at, other_dims}
use Rattle.tensor_terms.proofs.Known.{contraction-known}
use Rattle.tensor_terms.proofs.Legality.{are_legal-below}
use Rattle.tensor_terms.proofs.OtherAxes.{filter-ext, others-among, is_among-all}
use Rattle.tensor_terms.proofs.Permutations.{bulk_of-permutation}
use Rattle.tensor_terms.proofs.Weaving.{length-dims_at}

-- a number isn't among these
abbrev pub is_other : List ℕ → ℕ → Bool
is_other axes k = not (is_among k axes)

-- an axis more is one fewer of the others
length-others-more : (x : ℕ) (axes : List ℕ) (a n : ℕ) → is_among x axes ≡ false → a ≤ x → x < a + n
    → length (filter (is_other (x ∷ axes)) (range_with_len a n)) + 1
    ≡ length (filter (is_other axes) (range_with_len a n))
length-others-more x axes a zero alone from below = absurd (omega arith)
length-others-more x axes a (suc n) alone from below =
    elim (cases_eq a x) [
      | inl same ↦
          let rest = filter-ext (is_other (x ∷ axes)) (is_other axes) (a + 1) n
          (λ k above inside. rw (ne_eqb k x (λ e. omega arith)) refl) in
          let absent : is_among a axes ≡ false = ap (λ k. is_among k axes) same ∙ alone in
          rw (eq-eqb a x same, absent) (omega (arith, ap length rest))
      | inr other ↦
          let rest = length-others-more x axes (a + 1) n alone (omega arith) (omega arith) in
          rw (ne_eqb a x other)
          (elim (cases_Bool (is_among a axes)) [
            | inl among ↦ rw among rest
            | inr absent ↦ rw absent (omega (arith, rest))
          ])
    ]

length-others-none : (a n : ℕ) → length (filter (is_other []) (range_with_len a n)) ≡ n
length-others-none a zero = refl
length-others-none a (suc n) = omega (arith, length-others-none (a + 1) n)

-- axes and the others are all axes
pub length-axes : (rank : ℕ) (axes : List ℕ) → are_axes rank axes ≡ true
    → length axes + length (others axes rank) ≡ rank
length-axes rank [] h = omega (arith, length-others-none 0 rank)
length-axes rank (x ∷ xs) h =
    let below = and_parts (nat_lt x rank) (not (is_among x xs) && are_axes rank xs) h in
    let alone = and_parts (not (is_among x xs)) (are_axes rank xs) below.1 in
    omega (
      arith,
      length-axes rank xs alone.1,
      length-others-more x xs 0 rank (not-true (is_among x xs) alone.0) (omega arith) (omega
          (arith, ltb-true x rank below.0)),
    )

-- more axes than there are
pub are_axes-many : (rank : ℕ) (axes : List ℕ) → rank < length axes → are_axes rank axes ≡ false
are_axes-many rank axes many = false_from_ne_true (are_axes rank axes)
    (λ h. omega (arith, length-axes rank axes h))

has_all_below-each : (n : ℕ) (ss : List ℕ) → ((m : ℕ) → m < n → is_among m ss ≡ true)
    → has_all_below n ss ≡ true
has_all_below-each zero ss each = refl
has_all_below-each (suc n) ss each =
    and_from (is_among n ss) (has_all_below n ss) (each n (omega arith)) (has_all_below-each n ss
    (λ m below. each m (omega arith)))

-- all axes, these first
abbrev pub axes_first : List ℕ → ℕ → List ℕ
axes_first axes rank = axes ++ others axes rank

-- which is a permutation
pub length-axes_first : (rank : ℕ) (axes : List ℕ) → are_axes rank axes ≡ true
    → length (axes_first axes rank) ≡ rank
length-axes_first rank axes h = omega (
  arith,
  length-append axes (others axes rank),
  length-axes rank axes h,
)

pub has_all_below-axes_first : (rank : ℕ) (axes : List ℕ)
    → has_all_below rank (axes_first axes rank) ≡ true
has_all_below-axes_first rank axes =
    has_all_below-each rank (axes_first axes rank) (λ m below. is_among-all axes rank m below)

bulk_of-first : (ds xs ys : List ℕ)
    → bulk_of (shuffled_dims ds xs) ≤ bulk_of (shuffled_dims ds (xs ++ ys))
bulk_of-first ds [] ys = one-le-bulk_of (shuffled_dims ds ys)
bulk_of-first ds (x ∷ xs) ys = mul-le-mul_left (max 1 (get_or ds x 0)) (bulk_of-first ds xs ys)

-- the dims of axes are legal
pub bulk_of-axes : (ds axes : List ℕ) → are_axes (length ds) axes ≡ true
    → bulk_of (dims_at axes ds) ≤ bulk_of ds
bulk_of-axes ds axes h =
    let whole = bulk_of-permutation ds (length ds) (axes_first axes (length ds)) (omega arith)
    (length-axes_first (length ds) axes h)
    (has_all_below-axes_first (length ds) axes) in
    omega (
      arith,
      whole,
      bulk_of-take-le ds (length ds),
      bulk_of-first ds axes (others axes
          (length ds)),
    )

pub are_legal-axes : (ds axes : List ℕ) → IsLegal ds → are_axes (length ds) axes ≡ true
    → are_legal widest (dims_at axes ds) ≡ true
are_legal-axes ds axes legal h =
    are_legal-below ds (dims_at axes ds) legal (omega (
      arith,
      length-dims_at axes ds,
      length-axes
          (length ds) axes h,
    )) (bulk_of-axes ds axes h)

-- axes in order leave the same dims
pub other_dims-among : (ds axes : List ℕ)
    → other_dims (among axes (length ds)) ds ≡ other_dims axes ds
other_dims-among ds axes = ap (shuffled_dims ds) (others-among axes (length ds))

-- a contraction that has result dims pairs no more axes than its first operand has
pub length-pairs : (pairs : List (ℕ × ℕ)) (ds es : List ℕ)
    → IsOk (contracted_dims widest pairs ds es) → length pairs ≤ length ds
length-pairs pairs ds es has =
    omega (
      arith,
      length-axes (length ds) (firsts pairs) (contraction-known pairs ds es has).first,
      length-map pairs (λ pair. pair.0),
    )

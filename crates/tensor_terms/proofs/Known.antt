-- What the checks of each movement passed, where it has result dims.
use Rattle.std.proofs.Common.{◌≡◌, ℕ, zero, suc, ◌*◌, ◌<◌, List, ◌∷◌, length, get_or, remove, Bool, true, false, ◌&&◌, nat_eq, nat_lt, nat_le}
use Rattle.std.proofs.Common.{Ok, Err, IsOk, if◌then◌else◌, [], refl, ap, sym, ◌∙◌, inl, inr, arith}
use Rattle.std.proofs.lemmas.Bool.{cases_Bool, and_parts, eqb-true, ltb-true, leb-true}
use Rattle.std.specs.Cmp.Lexicographic.{pointwise, same_text}
use Rattle.std.specs.Result.{result_unwrap_or}
use Rattle.tensor_shape.specs.Index.{size_of}
use Rattle.tensor_shape.specs.Legal.{highest_rank, widest, most_elements, bulk_of, IsLegal, are_legal}
use Rattle.tensor_terms.specs.Movement.{moved_dims, repeated_dims, shuffled_dims, strided_dims, none_is_zero, fit_within, has_all_below}
use Rattle.tensor_terms.specs.Contraction.{firsts, seconds, outer_dims, contracted_dims, few_products, products_within}
use Rattle.tensor_terms.specs.Convolution.{convolved_dims, fit_along, window_dims}
use Rattle.tensor_terms.specs.Reduction.{are_axes, reduced_dims}
use Rattle.tensor_terms.specs.Shaped.{Shaped, legal_dims, with_one}
use Rattle.tensor_terms.specs.Term.{Movement, broadcast, slice, shuffle, reshape, chip, reverse, stride}
use Rattle.tensor_terms.specs.Merged.{dims_at, other_dims}
use Rattle.tensor_terms.specs.declared.fault.ExprFault.{ExprFault}
use Rattle.tensor_terms.specs.declared.fault.ExprFault.TheVariants.{ShapeMismatch, OutOfRange, TooLarge}

-- a check passed, and so did those after it
pub check-known : (check : Bool) (rest : Shaped) (fault : ExprFault) → IsOk (if check then rest else Err fault) → (check ≡ true) × IsOk rest
check-known true rest fault h = (refl, h)
check-known false rest fault h = (cc)

-- dims that pass the test of being legal are
pub IsLegal-are_legal : (ds : List ℕ) → are_legal widest ds ≡ true → IsLegal ds
IsLegal-are_legal ds h =
    let parts = and_parts (nat_le (length ds) highest_rank) (nat_le (bulk_of ds) most_elements) h in
    record { rank = leb-true (length ds) highest_rank parts.0; elements = leb-true (bulk_of ds) most_elements parts.1 }

pub record IsBroadcast (counts ds : List ℕ) : Type 0 where
  pub long : length counts ≡ length ds
  pub some : none_is_zero counts ≡ true
  pub legal : are_legal widest (repeated_dims ds counts) ≡ true
  pub dims : moved_dims widest (broadcast counts) ds ≡ Ok (repeated_dims ds counts)

pub broadcast-known : (counts ds : List ℕ) → IsOk (moved_dims widest (broadcast counts) ds) → IsBroadcast counts ds
broadcast-known counts ds h =
    let long = check-known (nat_eq (length counts) (length ds)) _ ShapeMismatch h in
    let some = check-known (none_is_zero counts) _ OutOfRange long.1 in
    let legal = check-known (are_legal widest (repeated_dims ds counts)) _ TooLarge some.1 in
    record {
      long = eqb-true (length counts) (length ds) long.0;
      some = some.0;
      legal = legal.0;
      dims = rw (long.0, some.0, legal.0) refl;
    }

pub record IsSlice (offsets extents ds : List ℕ) : Type 0 where
  pub offsets_long : length offsets ≡ length ds
  pub extents_long : length extents ≡ length ds
  pub fits : fit_within ds offsets extents ≡ true
  pub dims : moved_dims widest (slice offsets extents) ds ≡ Ok extents

pub slice-known : (offsets extents ds : List ℕ) → IsOk (moved_dims widest (slice offsets extents) ds) → IsSlice offsets extents ds
slice-known offsets extents ds h =
    let long = check-known (nat_eq (length offsets) (length ds) && nat_eq (length extents) (length ds)) _ ShapeMismatch h in
    let fits = check-known (fit_within ds offsets extents) _ OutOfRange long.1 in
    let each = and_parts (nat_eq (length offsets) (length ds)) (nat_eq (length extents) (length ds)) long.0 in
    record {
      offsets_long = eqb-true (length offsets) (length ds) each.0;
      extents_long = eqb-true (length extents) (length ds) each.1;
      fits = fits.0;
      dims = rw (long.0, fits.0) refl;
    }

pub record IsShuffle (order ds : List ℕ) : Type 0 where
  pub long : length order ≡ length ds
  pub all : has_all_below (length ds) order ≡ true
  pub dims : moved_dims widest (shuffle order) ds ≡ Ok (shuffled_dims ds order)

pub shuffle-known : (order ds : List ℕ) → IsOk (moved_dims widest (shuffle order) ds) → IsShuffle order ds
shuffle-known order ds h =
    let long = check-known (nat_eq (length order) (length ds)) _ ShapeMismatch h in
    let all = check-known (has_all_below (length ds) order) _ OutOfRange long.1 in
    record { long = eqb-true (length order) (length ds) long.0; all = all.0; dims = rw (long.0, all.0) refl }

pub record IsReshape (sizes ds : List ℕ) : Type 0 where
  pub legal : are_legal widest sizes ≡ true
  pub same : size_of sizes ≡ size_of ds
  pub dims : moved_dims widest (reshape sizes) ds ≡ Ok sizes

pub reshape-known : (sizes ds : List ℕ) → IsOk (moved_dims widest (reshape sizes) ds) → IsReshape sizes ds
reshape-known sizes ds h =
    elim (cases_Bool (are_legal widest sizes)) [
      | inl legal ↦
          let checked = rw legal at h in
          let same = check-known (nat_eq (size_of sizes) (size_of ds)) (Ok sizes) ShapeMismatch checked in
          record { legal = legal; same = eqb-true (size_of sizes) (size_of ds) same.0; dims = rw (legal, same.0) refl }
      | inr illegal ↦ let bad = rw illegal at h in (cc)
    ]

pub record IsChip (offset axis : ℕ) (ds : List ℕ) : Type 0 where
  pub in_rank : axis < length ds
  pub in_axis : offset < get_or ds axis 0
  pub dims : moved_dims widest (chip offset axis) ds ≡ Ok (remove ds axis)

pub chip-known : (offset axis : ℕ) (ds : List ℕ) → IsOk (moved_dims widest (chip offset axis) ds) → IsChip offset axis ds
chip-known offset axis ds h =
    let inside = check-known (nat_lt axis (length ds) && nat_lt offset (get_or ds axis 0)) _ OutOfRange h in
    let each = and_parts (nat_lt axis (length ds)) (nat_lt offset (get_or ds axis 0)) inside.0 in
    record {
      in_rank = ltb-true axis (length ds) each.0;
      in_axis = ltb-true offset (get_or ds axis 0) each.1;
      dims = rw inside.0 refl;
    }

pub record IsReverse (flags : List Bool) (ds : List ℕ) : Type 0 where
  pub long : length flags ≡ length ds
  pub dims : moved_dims widest (reverse flags) ds ≡ Ok ds

pub reverse-known : (flags : List Bool) (ds : List ℕ) → IsOk (moved_dims widest (reverse flags) ds) → IsReverse flags ds
reverse-known flags ds h =
    let long = check-known (nat_eq (length flags) (length ds)) _ ShapeMismatch h in
    record { long = eqb-true (length flags) (length ds) long.0; dims = rw long.0 refl }

pub record IsStride (steps ds : List ℕ) : Type 0 where
  pub long : length steps ≡ length ds
  pub some : none_is_zero steps ≡ true
  pub dims : moved_dims widest (stride steps) ds ≡ Ok (strided_dims ds steps)

pub stride-known : (steps ds : List ℕ) → IsOk (moved_dims widest (stride steps) ds) → IsStride steps ds
stride-known steps ds h =
    let long = check-known (nat_eq (length steps) (length ds)) _ ShapeMismatch h in
    let some = check-known (none_is_zero steps) _ OutOfRange long.1 in
    record {
      long = eqb-true (length steps) (length ds) long.0;
      some = some.0;
      dims = rw (long.0, some.0) refl;
    }

-- where none is 0, each is some
pub get_or-none_is_zero : (ss : List ℕ) (k : ℕ) → none_is_zero ss ≡ true → k < length ss → 0 < get_or ss k 0
get_or-none_is_zero [] k some within = absurd (omega arith)
get_or-none_is_zero (s ∷ ss) zero some within = ltb-true 0 s (and_parts (nat_lt 0 s) (none_is_zero ss) some).0
get_or-none_is_zero (s ∷ ss) (suc k) some within =
    get_or-none_is_zero ss k (and_parts (nat_lt 0 s) (none_is_zero ss) some).1 (omega arith)

pub record IsReduction (axes ds : List ℕ) : Type 0 where
  pub legal : are_axes (length ds) axes ≡ true
  pub dims : reduced_dims axes ds ≡ Ok (other_dims axes ds)

pub reduction-known : (axes ds : List ℕ) → IsOk (reduced_dims axes ds) → IsReduction axes ds
reduction-known axes ds h =
    let legal = check-known (are_axes (length ds) axes) _ OutOfRange h in
    record { legal = legal.0; dims = rw legal.0 refl }

pub record IsContraction (pairs : List (ℕ × ℕ)) (ds es : List ℕ) : Type 0 where
  pub first : are_axes (length ds) (firsts pairs) ≡ true
  pub second : are_axes (length es) (seconds pairs) ≡ true
  pub paired : dims_at (firsts pairs) ds ≡ dims_at (seconds pairs) es
  pub dims : contracted_dims widest pairs ds es ≡ Ok (outer_dims pairs ds es)

few_products-known : (count : ℕ) (ds : List ℕ) → IsOk (with_one (few_products widest count) (legal_dims widest ds))
    → with_one (few_products widest count) (legal_dims widest ds) ≡ Ok ds
few_products-known count ds h =
    elim (cases_Bool (are_legal widest ds)) [
      | inl legal ↦
          let checked = rw legal at h in
          let few = check-known (nat_le (size_of ds * count) (products_within widest)) (Ok ds) TooLarge checked in
          rw (legal, few.0) refl
      | inr illegal ↦ let bad = rw illegal at h in (cc)
    ]

pub contraction-known : (pairs : List (ℕ × ℕ)) (ds es : List ℕ) → IsOk (contracted_dims widest pairs ds es) → IsContraction pairs ds es
contraction-known pairs ds es h =
    let legal = check-known (are_axes (length ds) (firsts pairs) && are_axes (length es) (seconds pairs)) _ OutOfRange h in
    let each = and_parts (are_axes (length ds) (firsts pairs)) (are_axes (length es) (seconds pairs)) legal.0 in
    let paired = check-known (pointwise nat_eq (dims_at (firsts pairs) ds) (dims_at (seconds pairs) es)) _ ShapeMismatch legal.1 in
    record {
      first = each.0;
      second = each.1;
      paired = same_text (dims_at (firsts pairs) ds) (dims_at (seconds pairs) es) (sym paired.0);
      dims = rw (legal.0, paired.0) (few_products-known (size_of (dims_at (firsts pairs) ds)) (outer_dims pairs ds es) paired.1);
    }

pub record IsConvolution (axes ds ks : List ℕ) : Type 0 where
  pub legal : are_axes (length ds) axes ≡ true
  pub ranks : length ks ≡ length axes
  pub fits : fit_along axes ks ds ≡ true
  pub dims : convolved_dims widest axes ds ks ≡ Ok (window_dims axes ks ds)

pub convolution-known : (axes ds ks : List ℕ) → IsOk (convolved_dims widest axes ds ks) → IsConvolution axes ds ks
convolution-known axes ds ks h =
    let legal = check-known (are_axes (length ds) axes) _ OutOfRange h in
    let ranks = check-known (nat_eq (length ks) (length axes)) _ ShapeMismatch legal.1 in
    let fits = check-known (fit_along axes ks ds) _ OutOfRange ranks.1 in
    let few = check-known (nat_le (size_of (window_dims axes ks ds) * size_of ks) (products_within widest)) (Ok (window_dims axes ks ds)) TooLarge fits.1 in
    record {
      legal = legal.0;
      ranks = eqb-true (length ks) (length axes) ranks.0;
      fits = fits.0;
      dims = rw (legal.0, ranks.0, fits.0, few.0) refl;
    }

-- a movement has one list of result dims
pub moved_dims-unique : (m : Movement) (ds es rs : List ℕ) → moved_dims widest m ds ≡ Ok es → moved_dims widest m ds ≡ Ok rs → es ≡ rs
moved_dims-unique m ds es rs first second = ap (λ r. result_unwrap_or r []) (sym first ∙ second)

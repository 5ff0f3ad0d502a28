-- Index lists in two parts, by the places of both.
use Rattle.std.proofs.Common.{◌≡◌, ℕ, ◌+◌, ◌*◌, ◌/◌, ◌%◌, ◌<◌, ◌≤◌, List, [], ◌∷◌, ◌++◌, length}
use Rattle.std.proofs.Common.{map, get_or, take, drop, true, Ok}
use Rattle.std.proofs.Common.{refl, ap, sym, ◌∙◌, arith, zero-add}
use Rattle.std.specs.Result.{result_unwrap_or}
use Rattle.std.proofs.lemmas.Bool.{eq-eqb}
use Rattle.std.proofs.lemmas.List.{map-append}
use Rattle.std.proofs.lemmas.Nat.{mul-add-lt, div-mul-add, mod-mul-add}
use Rattle.std.proofs.Math.Nat.{add-mul-mod_self_left, add-mul-div_left, div-lt_iff_lt-mul, mod-lt}
use Rattle.std.proofs.Math.Nat.{div-eq_of_lt}
use Rattle.std.proofs.Math.Arith.{mod-mul}
use Rattle.std.proofs.Math.Seq.{take-append_seam, drop-append_seam}
use Rattle.tensor_shape.specs.Index.{size_of, IsIndexOf, index_of, place}
use Rattle.tensor_shape.specs.Legal.{widest, most_elements, IsLegal}
use Rattle.tensor_shape.proofs.Places.{IsIndexOf-index_of}
use Rattle.tensor_shape.proofs.Sizes.{size_of-le-bulk_of}
use Rattle.tensor_terms.specs.Movement.{moved, moved_dims, shuffled_dims, scattered}
use Rattle.tensor_terms.specs.Reduction.{are_axes}
use Rattle.tensor_terms.specs.Term.{shuffle}
use Rattle.tensor_terms.specs.Merged.{others, dims_at, other_dims, merged}
use Rattle.tensor_terms.proofs.Dropped.{axes_first, length-axes_first, has_all_below-axes_first}
use Rattle.tensor_terms.proofs.Dropped.{bulk_of-axes}
use Rattle.tensor_terms.proofs.Moved.{factor-above}
use Rattle.tensor_terms.proofs.OtherAxes.{are_axes-others}
use Rattle.tensor_terms.proofs.Shapes.{place_read}
use Rattle.tensor_terms.proofs.Splits.{size_of-append, index_of-append, length-index_of}
use Rattle.tensor_values.proofs.Factors.{some_factor}
use Rattle.tensor_terms.proofs.Weaving.{IsIndexOf-merged}

-- the index list of a place, modulo the dims' size
index_of-mod : (ds : List ℕ) (p : ℕ) → 0 < size_of ds
    → index_of ds (p % size_of ds) ≡ index_of ds p
index_of-mod [] p some = refl
index_of-mod (d ∷ ds) p some =
    let s : ℕ = size_of ds in
    let some_d : 0 < d = factor-above d s 0 some in
    let some_s : 0 < s = some_factor d s 0 some in
    let swapped : d * s ≡ s * d = omega arith in
    let split : p % (d * s) ≡ p / d % s * d + p % d = rw swapped (mod-mul p some_s some_d) in
    let low : p % d < d = mod-lt p some_d in
    let first : p % (d * s) % d ≡ p % d = rw split (mod-mul-add (p / d % s) d (p % d) low) in
    let rest : p % (d * s) / d ≡ p / d % s = rw split (div-mul-add (p / d % s) d (p % d) low) in
    rw (first, rest) (ap (λ l. p % d ∷ l) (index_of-mod ds (p / d) some_s))

-- the parts of the index list of a place in dims after dims
pub take-index_of : (ds es : List ℕ) (p : ℕ) → 0 < size_of ds
    → take (length ds) (index_of (ds ++ es) p) ≡ index_of ds (p % size_of ds)
take-index_of ds es p some =
    ap (take (length ds)) (index_of-append ds es p)
    ∙ ap (λ n. take n (index_of ds p ++ index_of es (p / size_of ds))) (sym (length-index_of ds p))
    ∙ take-append_seam (index_of ds p) (index_of es (p / size_of ds))
    ∙ sym (index_of-mod ds p some)

pub drop-index_of : (ds es : List ℕ) (p : ℕ)
    → drop (length ds) (index_of (ds ++ es) p) ≡ index_of es (p / size_of ds)
drop-index_of ds es p =
    ap (drop (length ds)) (index_of-append ds es p)
    ∙ ap (λ n. drop n (index_of ds p ++ index_of es (p / size_of ds))) (sym (length-index_of ds p))
    ∙ drop-append_seam (index_of ds p) (index_of es (p / size_of ds))

-- the index list of a place that is joined from two places
pub index_of-joined : (ds es : List ℕ) (j i : ℕ) → j < size_of ds
    → index_of (ds ++ es) (j + size_of ds * i) ≡ index_of ds j ++ index_of es i
index_of-joined ds es j i below =
    let n : ℕ = size_of ds in
    let some : 0 < n = omega arith in
    let first : index_of ds (j + n * i) ≡ index_of ds j =
    sym (index_of-mod ds (j + n * i) some)
    ∙ ap (index_of ds) (add-mul-mod_self_left j n i) ∙ index_of-mod ds j some in
    let rest : (j + n * i) / n ≡ i =
    add-mul-div_left j i some ∙ ap (λ q. q + i) (div-eq_of_lt below) ∙ zero-add i in
    index_of-append ds es (j + n * i) ∙ rw (first, rest) refl

-- both parts of the index list of a place
pub record InParts (ds es : List ℕ) (p : ℕ) : Type 0 where
  pub outer : p / size_of ds < size_of es
  pub inner : p % size_of ds < size_of ds
  pub first : take (length ds) (index_of (ds ++ es) p) ≡ index_of ds (p % size_of ds)
  pub second : drop (length ds) (index_of (ds ++ es) p) ≡ index_of es (p / size_of ds)

pub in_parts : (ds es : List ℕ) (p : ℕ) → p < size_of (ds ++ es) → InParts ds es p
in_parts ds es p below =
    let n : ℕ = size_of ds in
    let inside : p < n * size_of es = omega (arith, size_of-append ds es) in
    let some : 0 < n = factor-above n (size_of es) p inside in
    let inner : p % n < n = mod-lt p some in
    let outer : p / n < size_of es = (div-lt_iff_lt-mul {k = n} {x = p} {y =
    size_of es} some).1 (omega arith) in
    record {
      outer = outer;
      inner = inner;
      first = take-index_of ds es p some;
      second = drop-index_of ds es p;
    }

module _ (axes ds : List ℕ) (legal : are_axes (length ds) axes ≡ true) where
  -- all axes, these first
  abbrev pub order : List ℕ
  order = axes_first axes (length ds)

  pub shuffle-first : moved_dims widest (shuffle order) ds ≡ Ok (shuffled_dims ds order)
  shuffle-first =
      rw (
        eq-eqb (length order) (length ds) (length-axes_first (length ds) axes legal),
        has_all_below-axes_first (length ds) axes,
      ) refl

  pub dims-first : shuffled_dims ds order ≡ dims_at axes ds ++ other_dims axes ds
  dims-first = map-append (λ s. get_or ds s 0) axes (others axes (length ds))

  module _ (j i : ℕ) (inner : j < size_of (dims_at axes ds)) where
    -- an index list in two parts is what a shuffle reads with these axes first
    pub merged-moved : moved (shuffle order) ds (index_of (shuffled_dims ds order) (j + size_of
        (dims_at axes ds) * i))
        ≡ merged axes ds (index_of (dims_at axes ds) j) (index_of (other_dims axes ds) i)
    merged-moved =
        ap (λ js. scattered order js (map (λ d. 0) ds))
        (ap (λ es. index_of es (j + size_of (dims_at axes ds) * i)) dims-first
        ∙ index_of-joined (dims_at axes ds) (other_dims axes ds) j i inner)

    module _ (outer : i < size_of (other_dims axes ds)) where
      pub part-below : j + size_of (dims_at axes ds) * i < size_of (shuffled_dims ds order)
      part-below =
          omega (
            arith,
            ap size_of dims-first,
            size_of-append (dims_at axes ds) (other_dims axes ds),
            mul-add-lt i (size_of (dims_at axes ds)) j (size_of (other_dims axes ds)) outer inner,
          )

      -- its place is the one that is read
      pub parts-read : place_read (shuffle order) ds (j + size_of (dims_at axes ds) * i)
          ≡ place ds (merged axes ds (index_of (dims_at axes ds) j) (index_of
          (other_dims axes ds) i))
      parts-read =
          ap (λ r. place ds (moved (shuffle order) ds (index_of (result_unwrap_or r [])
          (j + size_of (dims_at axes ds) * i)))) shuffle-first
          ∙ ap (place ds) merged-moved

      -- it is an index list of the whole
      pub IsIndexOf-parts : IsIndexOf ds (merged axes ds (index_of (dims_at axes ds) j) (index_of
          (other_dims axes ds) i))
      IsIndexOf-parts =
          IsIndexOf-merged axes ds legal (index_of (dims_at axes ds) j) (index_of
          (other_dims axes ds) i)
          (IsIndexOf-index_of (dims_at axes ds) j inner) (IsIndexOf-index_of
          (other_dims axes ds) i outer)

-- parts of legal dims are small
pub size_of-others : (axes ds : List ℕ) → IsLegal ds → size_of (other_dims axes ds) ≤ most_elements
size_of-others axes ds legal =
    omega (
      arith,
      legal.elements,
      size_of-le-bulk_of (other_dims axes ds),
      bulk_of-axes ds (others axes (length ds)) (are_axes-others axes (length ds)),
    )

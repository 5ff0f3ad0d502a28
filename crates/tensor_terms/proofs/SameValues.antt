-- Reductions and contractions of operands with the same values.
use Rattle.std.proofs.Common.{◌≡◌, ℕ, ◌+◌, ◌/◌, ◌%◌, ◌<◌, ℤ, pos, ◌+ℤ◌, List, length, take}
use Rattle.std.proofs.Common.{drop, ap, sym, ◌∙◌, true, arith}
use Rattle.std.specs.List.{fold}
use Rattle.tensor_shape.specs.Index.{size_of, IsIndexOf, place, index_of}
use Rattle.tensor_shape.specs.Wrap.{wrap}
use Rattle.tensor_shape.proofs.Places.{index_of-place, place-below-size_of}
use Rattle.tensor_terms.specs.Contraction.{firsts, seconds, outer_dims, contracted}
use Rattle.tensor_values.specs.Combining.{combine, unit}
use Rattle.tensor_terms.specs.Reduction.{reduced, are_axes}
use Rattle.tensor_terms.specs.Merged.{among, dims_at, other_dims, merged}
use Rattle.tensor_values.specs.declared.reducer.Reducer.{Reducer}
use Rattle.tensor_terms.proofs.Combined.{along_dropped, product_at, reduced-fold, contracted-fold}
use Rattle.tensor_terms.proofs.Dropped.{other_dims-among}
use Rattle.tensor_terms.proofs.Known.{IsContraction}
use Rattle.tensor_values.proofs.Runs.{map-shifted}
use Rattle.tensor_terms.proofs.OtherAxes.{are_axes-among}
use Rattle.tensor_terms.proofs.TwoParts.{IsIndexOf-parts, in_parts}

-- two functions agree on all index lists of dims
abbrev pub Agree : List ℕ → (List ℕ → ℤ) → (List ℕ → ℤ) → Type 0
Agree ds f g = (js : List ℕ) → IsIndexOf ds js → f js ≡ g js

-- then they agree where an index list is given by the places of its parts
agree-parts : (ds axes : List ℕ) (f g : List ℕ → ℤ) → Agree ds f g
    → are_axes (length ds) axes ≡ true
    → (j i : ℕ) → j < size_of (dims_at axes ds) → i < size_of (other_dims axes ds)
    → f (merged axes ds (index_of (dims_at axes ds) j) (index_of (other_dims axes ds) i))
    ≡ g (merged axes ds (index_of (dims_at axes ds) j) (index_of (other_dims axes ds) i))
agree-parts ds axes f g same legal j i inner outer =
    same (merged axes ds (index_of (dims_at axes ds) j) (index_of (other_dims axes ds) i))
    (IsIndexOf-parts axes ds legal j i inner outer)

-- so do their reductions
pub reduced-other : (r : Reducer) (axes ds : List ℕ) (f g : List ℕ → ℤ) → Agree ds f g
    → Agree (other_dims axes ds) (reduced r axes ds f) (reduced r axes ds g)
reduced-other r axes ds f g same is index =
    let dropped : List ℕ = among axes (length ds) in
    let p : ℕ = place (other_dims axes ds) is in
    let back : index_of (other_dims axes ds) p
    ≡ is = index_of-place (other_dims axes ds) is index in
    let others = other_dims-among ds axes in
    let outer : p < size_of (other_dims dropped ds) =
    omega (arith, ap size_of others, place-below-size_of (other_dims axes ds) is index) in
    let whole : index_of (other_dims dropped ds) p ≡ is = ap (λ es. index_of es p) others ∙ back in
    let each : (q : ℕ) → q < size_of (dims_at dropped ds)
    → along_dropped axes ds f is q ≡ along_dropped axes ds g is q =
    λ q inner.
    ap (λ ks. f (merged dropped ds (index_of (dims_at dropped ds) q) ks)) (sym whole)
    ∙ agree-parts ds dropped f g same (are_axes-among axes (length ds)) q p inner outer
    ∙ ap (λ ks. g (merged dropped ds (index_of (dims_at dropped ds) q) ks)) whole in
    reduced-fold r axes ds f is
    ∙ ap (fold (combine r) (unit r))
    (map-shifted (along_dropped axes ds f is) (along_dropped axes ds g is) 0 0 (size_of
    (dims_at dropped ds)) (λ k below. each (0 + k) (omega arith)))
    ∙ sym (reduced-fold r axes ds g is)

-- and their contractions
pub contracted-other : (pairs : List (ℕ × ℕ)) (ds es : List ℕ) (f g h k : List ℕ → ℤ)
    → IsContraction pairs ds es → Agree ds f g → Agree es h k
    → Agree (outer_dims pairs ds es) (contracted pairs ds es f h) (contracted pairs ds es g k)
contracted-other pairs ds es f g h k known same_f same_h is index =
    let xs : List ℕ = other_dims (firsts pairs) ds in
    let ys : List ℕ = other_dims (seconds pairs) es in
    let p : ℕ = place (outer_dims pairs ds es) is in
    let back : index_of (outer_dims pairs ds es) p
    ≡ is = index_of-place (outer_dims pairs ds es) is index in
    let parts = in_parts xs ys p (place-below-size_of (outer_dims pairs ds es) is index) in
    let left : take (length xs) is ≡ index_of xs (p % size_of xs) =
    ap (take (length xs)) (sym back) ∙ parts.first in
    let right : drop (length xs) is
    ≡ index_of ys (p / size_of xs) = ap (drop (length xs)) (sym back) ∙ parts.second in
    let paired : dims_at (firsts pairs) ds ≡ dims_at (seconds pairs) es = known.paired in
    let at_left : (q : ℕ) → q < size_of (dims_at (firsts pairs) ds)
    → f (merged (firsts pairs) ds (index_of (dims_at (firsts pairs) ds) q) (take (length xs) is))
    ≡ g (merged (firsts pairs) ds (index_of (dims_at (firsts pairs) ds) q) (take (length xs) is)) =
    λ q inner.
    ap (λ ks. f (merged (firsts pairs) ds (index_of (dims_at (firsts pairs) ds) q) ks)) left
    ∙ agree-parts ds (firsts pairs) f g same_f known.first q (p % size_of xs) inner parts.inner
    ∙ ap (λ ks. g (merged (firsts pairs) ds (index_of (dims_at (firsts pairs) ds) q) ks))
    (sym left) in
    let at_right : (q : ℕ) → q < size_of (dims_at (firsts pairs) ds)
    → h (merged (seconds pairs) es (index_of (dims_at (firsts pairs) ds) q) (drop (length xs) is))
    ≡ k (merged (seconds pairs) es (index_of (dims_at (firsts pairs) ds) q) (drop (length xs) is)) =
    λ q inner.
    ap (λ cs. h (merged (seconds pairs) es (index_of cs q) (drop (length xs) is))) paired
    ∙ ap (λ ks. h (merged (seconds pairs) es (index_of (dims_at (seconds pairs) es) q) ks)) right
    ∙ agree-parts es (seconds pairs) h k same_h known.second q (p / size_of xs) (omega (
      arith,
      ap size_of paired,
    )) parts.outer
    ∙ ap (λ ks. k (merged (seconds pairs) es (index_of (dims_at (seconds pairs) es) q) ks))
    (sym right)
    ∙ ap (λ cs. k (merged (seconds pairs) es (index_of cs q) (drop (length xs) is))) (sym paired) in
    let each : (q : ℕ) → q < size_of (dims_at (firsts pairs) ds)
    → product_at pairs ds es f h is q ≡ product_at pairs ds es g k is q =
    λ q inner. let one = at_left q inner in let two = at_right q inner in cc in
    contracted-fold pairs ds es f h is
    ∙ ap (λ vs. wrap (fold ◌+ℤ◌ (pos 0) vs))
    (map-shifted (product_at pairs ds es f h is) (product_at pairs ds es g k is) 0 0 (size_of
    (dims_at (firsts pairs) ds))
    (λ q below. each (0 + q) (omega arith)))
    ∙ sym (contracted-fold pairs ds es g k is)

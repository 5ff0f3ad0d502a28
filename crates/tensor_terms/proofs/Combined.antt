-- Values combined one after the other, from a place on.
use Rattle.std.proofs.Common.{◌≡◌, ℕ, suc, ◌+◌, ◌-◌, ◌<◌, ℤ, pos, ◌+ℤ◌, ◌*ℤ◌, List, [], ◌∷◌}
use Rattle.std.proofs.Common.{length, map, take, drop}
use Rattle.std.proofs.Common.{ap, ◌∙◌, arith}
use Rattle.std.specs.Int.{w64}
use Rattle.std.specs.List.{fold, range_with_len}
use Rattle.std.proofs.lemmas.Int.{int_wrap-add_same, int_wrap-add_right, int_wrap_fits}
use Rattle.std.proofs.lemmas.Int.{SFits-int_wrap}
use Rattle.std.proofs.lemmas.Simd.{map-map}
use Rattle.tensor_shape.specs.Index.{size_of, index_of}
use Rattle.tensor_shape.specs.Wrap.{wrap}
use Rattle.tensor_terms.specs.Contraction.{firsts, seconds, contracted}
use Rattle.tensor_values.specs.Combining.{combine, unit}
use Rattle.tensor_terms.specs.Reduction.{reduced}
use Rattle.tensor_terms.specs.Merged.{among, dims_at, other_dims, merged}
use Rattle.tensor_values.specs.declared.reducer.Reducer.{Reducer}

-- the first of the values that are left
pub fold-next : {X Y : Type 0} (f : X → Y → X) (g : ℕ → Y) (x : X) (k n : ℕ) → k < n
    → fold f x (map g (range_with_len k (n - k)))
    ≡ fold f (f x (g k)) (map g (range_with_len (k + 1) (n - (k + 1))))
fold-next f g x k n below =
    let more : n - k ≡ suc (n - (k + 1)) = omega arith in
    ap (λ m. fold f x (map g (range_with_len k m))) more

-- and where none is left
pub fold-last : {X Y : Type 0} (f : X → Y → X) (g : ℕ → Y) (x : X) (k n : ℕ) → n ≡ k
    → fold f x (map g (range_with_len k (n - k))) ≡ x
fold-last f g x k n same =
    let none : n - k ≡ 0 = omega arith in
    ap (λ m. fold f x (map g (range_with_len k m))) none

-- sums from equal starts are equal, where both are modulo 2^64
pub wrap-fold : (xs : List ℤ) (s t : ℤ) → wrap s ≡ wrap t
    → wrap (fold ◌+ℤ◌ s xs) ≡ wrap (fold ◌+ℤ◌ t xs)
wrap-fold [] s t same = same
wrap-fold (x ∷ xs) s t same = wrap-fold xs (s +ℤ x) (t +ℤ x) (int_wrap-add_same w64 s t x same)

-- a sum that wraps at each step is the wrap of the whole sum
pub wrap-next : (xs : List ℤ) (s x : ℤ)
    → wrap (fold ◌+ℤ◌ (wrap (s +ℤ wrap x)) xs) ≡ wrap (fold ◌+ℤ◌ (s +ℤ x) xs)
wrap-next xs s x =
    wrap-fold xs (wrap (s +ℤ wrap x)) (s +ℤ x)
    (int_wrap_fits w64 (wrap (s +ℤ wrap x)) (SFits-int_wrap w64 (s +ℤ wrap x))
    ∙ int_wrap-add_right w64 s x)

-- the value that a reduction takes at a place of the dropped dims
abbrev pub along_dropped : List ℕ → List ℕ → (List ℕ → ℤ) → List ℕ → ℕ → ℤ
along_dropped axes ds a is k =
    a (merged (among axes (length ds)) ds (index_of (dims_at (among axes (length ds)) ds) k) is)

pub reduced-fold : (r : Reducer) (axes ds : List ℕ) (a : List ℕ → ℤ) (is : List ℕ)
    → reduced r axes ds a is
    ≡ fold (combine r) (unit r) (map (along_dropped axes ds a is) (range_with_len 0 (size_of
    (dims_at (among axes (length ds)) ds))))
reduced-fold r axes ds a is =
    ap (fold (combine r) (unit r))
    (map-map (λ js. a (merged (among axes (length ds)) ds js is)) (index_of (dims_at (among axes
    (length ds)) ds))
    (range_with_len 0 (size_of (dims_at (among axes (length ds)) ds))))

-- the product that a contraction takes at a place of the paired dims
abbrev pub product_at : List (ℕ × ℕ) → List ℕ → List ℕ → (List ℕ → ℤ) → (List ℕ → ℤ) → List ℕ → ℕ
    → ℤ
product_at pairs ds es a b is k =
    a (merged (firsts pairs) ds (index_of (dims_at (firsts pairs) ds) k) (take (length (other_dims
    (firsts pairs) ds)) is))
    *ℤ b (merged (seconds pairs) es (index_of (dims_at (firsts pairs) ds) k) (drop (length
    (other_dims (firsts pairs) ds)) is))

pub contracted-fold : (pairs : List (ℕ × ℕ)) (ds es : List ℕ) (a b : List ℕ → ℤ) (is : List ℕ)
    → contracted pairs ds es a b is
    ≡ wrap (fold ◌+ℤ◌ (pos 0) (map (product_at pairs ds es a b is) (range_with_len 0 (size_of
    (dims_at (firsts pairs) ds)))))
contracted-fold pairs ds es a b is =
    ap (λ xs. wrap (fold ◌+ℤ◌ (pos 0) xs))
    (map-map (λ js.
    a (merged (firsts pairs) ds js (take (length (other_dims (firsts pairs) ds)) is))
    *ℤ b (merged (seconds pairs) es js (drop (length (other_dims (firsts pairs) ds)) is)))
    (index_of (dims_at (firsts pairs) ds)) (range_with_len 0 (size_of (dims_at (firsts pairs) ds))))

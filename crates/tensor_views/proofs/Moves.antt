-- Movements by their axes: the place that a view reaches is that of the index list that the movement reads.
use Rattle.std.proofs.Common.{◌≡◌, ℕ, zero, suc, ◌+◌, ◌*◌, ◌/◌, ◌%◌, ◌<◌, ◌≤◌, List, [], ◌∷◌, length, get_or, set, Bool, true, not, nat_lt, nat_le, min, Ok, IsOk, inl, inr}
use Rattle.std.proofs.Common.{refl, ap, sym, ◌∙◌, arith}
use Rattle.std.specs.Prelude.{insert, remove}
use Rattle.std.proofs.lemmas.Bool.{and_parts, cases_Bool, ltb-true, leb-true, leb-false, not-true}
use Rattle.std.proofs.lemmas.List.{length-map}
use Rattle.std.proofs.Math.Nat.{div-div-eq-div-mul, mod-mod_of_dvd, dvd-mul_right, mul-le-mul_right}
use Rattle.std.specs.Int.{div_ceil}
use Rattle.tensor_shape.specs.Legal.{widest}
use Rattle.tensor_shape.specs.Index.{size_of, IsIndexOf, index_of, place}
use Rattle.tensor_shape.proofs.Places.{place-index_of, IsIndexOf-index_of, div-below}
use Rattle.tensor_views.specs.Forward.{no_axis}
use Rattle.tensor_views.specs.Moved.{IsMovedView}
use Rattle.tensor_views.specs.Axes.{are_along, by_steps, HasRank, moved_start}
use Rattle.tensor_views.specs.private.MovedAxes.{repeated_axes, cut_axes, reversed_axes, shuffled_axes, strided_axes, moved_axes}
use Rattle.tensor_terms.specs.Movement.{wrapped, offset_by, scattered, mirrored, scaled, moved, moved_dims, repeated_dims, shuffled_dims, strided_dims, none_is_zero, is_among}
use Rattle.tensor_terms.specs.Shaped.{Shaped}
use Rattle.tensor_terms.specs.Term.{Movement, broadcast, slice, shuffle, reshape, chip, reverse, stride}
use Rattle.tensor_views.specs.View.{reached, view_size}
use Rattle.tensor_views.specs.declared.axis.Axis.{Axis}
use Rattle.tensor_views.proofs.AxisLists.{along-first, along-at, length-along, view_size-along, reached-along, reached-forward}
use Rattle.tensor_terms.proofs.Known.{broadcast-known, slice-known, shuffle-known, reshape-known, chip-known, reverse-known, stride-known, get_or-none_is_zero}
use Rattle.tensor_terms.proofs.Moved.{length-scattered, IsIndexOf-moved, mul-below-div_ceil}
use Rattle.tensor_terms.proofs.Permutations.{are_below, are_distinct, are_below-permutation, are_distinct-permutation, get_or-permutation}
use Rattle.tensor_views.proofs.Views.{reached-start}
use Rattle.tensor_terms.proofs.Moved.{zeros, get_or-zeros, scattered-other}

pub by_steps-zeros : (axes : List Axis) (ds : List ℕ) → by_steps axes (zeros ds) ≡ 0
by_steps-zeros [] ds = refl
by_steps-zeros (a ∷ axes) [] = refl
by_steps-zeros (a ∷ axes) (d ∷ ds) = omega (arith, by_steps-zeros axes ds)

-- one index more adds its steps
pub by_steps-set : (axes : List Axis) (js : List ℕ) (k i : ℕ) → k < length axes → length js ≡ length axes → get_or js k 0 ≡ 0
    → by_steps axes (set js k i) ≡ by_steps axes js + i * (get_or axes k no_axis).step
by_steps-set [] js k i within long none = absurd (omega arith)
by_steps-set (a ∷ axes) [] k i within long none = absurd (omega arith)
by_steps-set (a ∷ axes) (j ∷ js) zero i within long none = rw none (omega arith)
by_steps-set (a ∷ axes) (j ∷ js) (suc k) i within long none =
    let rest = by_steps-set axes js k i (omega arith) (omega arith) none in
    omega (arith, rest)

module _ (axes : List Axis) (ds : List ℕ) (along : are_along axes ds ≡ true) where
  -- a shuffle's view
  reached-shuffle : (order : List ℕ) (p : ℕ) → are_below order (length ds) ≡ true → are_distinct order ≡ true
      → reached 0 (shuffled_axes axes order) p ≡ by_steps axes (scattered order (index_of (shuffled_dims ds order) p) (zeros ds))
  reached-shuffle [] p within once = sym (by_steps-zeros axes ds)
  reached-shuffle (s ∷ ss) p within once =
      let below = and_parts (nat_lt s (length ds)) (are_below ss (length ds)) within in
      let alone = and_parts (not (is_among s ss)) (are_distinct ss) once in
      let inside : s < length ds = ltb-true s (length ds) below.0 in
      let at = along-at axes ds s along inside in
      let q : ℕ = p / get_or ds s 0 in
      let js : List ℕ = scattered ss (index_of (shuffled_dims ds ss) q) (zeros ds) in
      let long_ds : length js ≡ length ds = length-scattered ss (index_of (shuffled_dims ds ss) q) (zeros ds) ∙ length-map ds (λ d. 0) in
      let long_axes = length-along axes ds along in
      let none : get_or js s 0 ≡ 0 =
      scattered-other s ss (index_of (shuffled_dims ds ss) q) (zeros ds) (not-true (is_among s ss) alone.0) ∙ get_or-zeros ds s in
      let more = by_steps-set axes js s (p % get_or ds s 0) (omega arith) (omega arith) none in
      let rest = reached-shuffle ss q below.1 alone.1 in
      reached-forward (get_or axes s no_axis) (shuffled_axes axes ss) (get_or ds s 0) p at
      ∙ omega (arith, more, rest)

  view_size-shuffle : (order : List ℕ) → are_below order (length ds) ≡ true
      → view_size (shuffled_axes axes order) ≡ size_of (shuffled_dims ds order)
  view_size-shuffle [] within = refl
  view_size-shuffle (s ∷ ss) within =
      let below = and_parts (nat_lt s (length ds)) (are_below ss (length ds)) within in
      let at = along-at axes ds s along (ltb-true s (length ds) below.0) in
      rw (at.size, view_size-shuffle ss below.1) refl

-- a broadcast's view
view_size-broadcast : (axes : List Axis) (ds cs : List ℕ) → are_along axes ds ≡ true
    → view_size (repeated_axes axes cs) ≡ size_of (repeated_dims ds cs)
view_size-broadcast [] [] cs along = refl
view_size-broadcast [] (d ∷ ds) cs along = (cc)
view_size-broadcast (a ∷ axes) [] cs along = (cc)
view_size-broadcast (a ∷ axes) (d ∷ ds) [] along = refl
view_size-broadcast (a ∷ axes) (d ∷ ds) (c ∷ cs) along =
    let parts = along-first a axes d ds along in
    rw (parts.0.size, view_size-broadcast axes ds cs parts.1) (grind arith)

reached-broadcast : (axes : List Axis) (ds cs : List ℕ) (p : ℕ) → are_along axes ds ≡ true → length cs ≡ length ds
    → reached 0 (repeated_axes axes cs) p ≡ by_steps axes (wrapped ds (index_of (repeated_dims ds cs) p))
reached-broadcast [] [] cs p along same = refl
reached-broadcast [] (d ∷ ds) cs p along same = (cc)
reached-broadcast (a ∷ axes) [] cs p along same = (cc)
reached-broadcast (a ∷ axes) (d ∷ ds) [] p along same = absurd (omega arith)
reached-broadcast (a ∷ axes) (d ∷ ds) (c ∷ cs) p along same =
    let parts = along-first a axes d ds along in
    let rest = reached-broadcast axes ds cs (p / d / c) parts.1 (omega arith) in
    let quotient = div-div-eq-div-mul p d c in
    let remainder : p % (d * c) % d ≡ p % d = mod-mod_of_dvd d p (dvd-mul_right d c) in
    rw (parts.0.size, parts.0.rises, remainder, ← quotient) (omega (arith, rest))

-- a slice's view
view_size-slice : (axes : List Axis) (es : List ℕ) → length es ≡ length axes → view_size (cut_axes axes es) ≡ size_of es
view_size-slice [] [] same = refl
view_size-slice [] (e ∷ es) same = absurd (omega arith)
view_size-slice (a ∷ axes) [] same = absurd (omega arith)
view_size-slice (a ∷ axes) (e ∷ es) same = ap (λ n. e * n) (view_size-slice axes es (omega arith))

mul-offset : (i o s : ℕ) → (i + o) * s ≡ i * s + o * s
mul-offset i o s = grind arith

reached-slice : (axes : List Axis) (os es : List ℕ) (p : ℕ) → length os ≡ length axes → length es ≡ length axes
    → by_steps axes os + reached 0 (cut_axes axes es) p ≡ by_steps axes (offset_by os (index_of es p))
reached-slice [] os es p long_os long_es = refl
reached-slice (a ∷ axes) [] es p long_os long_es = absurd (omega arith)
reached-slice (a ∷ axes) (o ∷ os) [] p long_os long_es = absurd (omega arith)
reached-slice (a ∷ axes) (o ∷ os) (e ∷ es) p long_os long_es =
    let rest = reached-slice axes os es (p / e) (omega arith) (omega arith) in
    omega (arith, rest, mul-offset (p % e) o a.step)

-- a chip's view
view_size-chip : (axes : List Axis) (ds : List ℕ) (k : ℕ) → are_along axes ds ≡ true
    → view_size (remove axes k) ≡ size_of (remove ds k)
view_size-chip [] [] zero along = refl
view_size-chip [] [] (suc k) along = refl
view_size-chip [] (d ∷ ds) k along = (cc)
view_size-chip (a ∷ axes) [] k along = (cc)
view_size-chip (a ∷ axes) (d ∷ ds) zero along = view_size-along axes ds (along-first a axes d ds along).1
view_size-chip (a ∷ axes) (d ∷ ds) (suc k) along =
    let parts = along-first a axes d ds along in
    rw (parts.0.size, view_size-chip axes ds k parts.1) refl

reached-chip : (axes : List Axis) (ds : List ℕ) (o k p : ℕ) → are_along axes ds ≡ true → k < length ds
    → o * (get_or axes k no_axis).step + reached 0 (remove axes k) p ≡ by_steps axes (insert (index_of (remove ds k) p) k o)
reached-chip [] [] o k p along within = absurd (omega arith)
reached-chip [] (d ∷ ds) o k p along within = (cc)
reached-chip (a ∷ axes) [] o k p along within = (cc)
reached-chip (a ∷ axes) (d ∷ ds) o zero p along within =
    omega (arith, reached-along axes ds p (along-first a axes d ds along).1)
reached-chip (a ∷ axes) (d ∷ ds) o (suc k) p along within =
    let parts = along-first a axes d ds along in
    let rest = reached-chip axes ds o k (p / d) parts.1 (omega arith) in
    omega (arith, rest, reached-forward a (remove axes k) d p parts.0)

-- a reverse's view
view_size-reverse : (axes : List Axis) (ds : List ℕ) (fs : List Bool) → are_along axes ds ≡ true → length fs ≡ length ds
    → view_size (reversed_axes axes fs) ≡ size_of ds
view_size-reverse [] [] fs along same = refl
view_size-reverse [] (d ∷ ds) fs along same = (cc)
view_size-reverse (a ∷ axes) [] fs along same = (cc)
view_size-reverse (a ∷ axes) (d ∷ ds) [] along same = absurd (omega arith)
view_size-reverse (a ∷ axes) (d ∷ ds) (f ∷ fs) along same =
    let parts = along-first a axes d ds along in
    rw (parts.0.size, view_size-reverse axes ds fs parts.1 (omega arith)) refl

reached-reverse : (axes : List Axis) (ds : List ℕ) (fs : List Bool) (p : ℕ) → are_along axes ds ≡ true → length fs ≡ length ds
    → reached 0 (reversed_axes axes fs) p ≡ by_steps axes (mirrored fs ds (index_of ds p))
reached-reverse [] [] [] p along same = refl
reached-reverse [] [] (f ∷ fs) p along same = refl
reached-reverse [] (d ∷ ds) fs p along same = (cc)
reached-reverse (a ∷ axes) [] fs p along same = (cc)
reached-reverse (a ∷ axes) (d ∷ ds) [] p along same = absurd (omega arith)
reached-reverse (a ∷ axes) (d ∷ ds) (f ∷ fs) p along same =
    let parts = along-first a axes d ds along in
    let rest = reached-reverse axes ds fs (p / d) parts.1 (omega arith) in
    rw (parts.0.size) (omega (arith, rest))

-- a stride's view
view_size-stride : (axes : List Axis) (ds ss : List ℕ) → are_along axes ds ≡ true → length ss ≡ length ds
    → view_size (strided_axes axes ss) ≡ size_of (strided_dims ds ss)
view_size-stride [] [] ss along same = refl
view_size-stride [] (d ∷ ds) ss along same = (cc)
view_size-stride (a ∷ axes) [] ss along same = (cc)
view_size-stride (a ∷ axes) (d ∷ ds) [] along same = absurd (omega arith)
view_size-stride (a ∷ axes) (d ∷ ds) (s ∷ ss) along same =
    let parts = along-first a axes d ds along in
    rw (parts.0.size, view_size-stride axes ds ss parts.1 (omega arith)) refl

-- a step past the axis is never taken
step-past : (d s i : ℕ) → d < s → i * s < d → i ≡ 0
step-past d s zero past inside = refl
step-past d s (suc i) past inside =
    let more : 1 * s ≤ suc i * s = mul-le-mul_right s (omega arith) in
    absurd (omega (arith, more))

mul-strided : (d s t i : ℕ) → 0 < s → i < div_ceil d s → i * (t * min s d) ≡ i * s * t
mul-strided d s t i some below =
    let inside = mul-below-div_ceil d s i some below in
    elim (cases_Bool (nat_le s d)) [
      | inl within ↦
          let least : min s d ≡ s = omega (arith, leb-true s d within) in
          rw least (grind arith)
      | inr past ↦ rw (step-past d s i (omega (arith, leb-false s d past)) inside) (grind arith)
    ]

reached-stride : (axes : List Axis) (ds ss : List ℕ) (p : ℕ) → are_along axes ds ≡ true → length ss ≡ length ds
    → none_is_zero ss ≡ true → p < size_of (strided_dims ds ss)
    → reached 0 (strided_axes axes ss) p ≡ by_steps axes (scaled ss (index_of (strided_dims ds ss) p))
reached-stride [] [] [] p along same some below = refl
reached-stride [] [] (s ∷ ss) p along same some below = refl
reached-stride [] (d ∷ ds) ss p along same some below = (cc)
reached-stride (a ∷ axes) [] ss p along same some below = (cc)
reached-stride (a ∷ axes) (d ∷ ds) [] p along same some below = absurd (omega arith)
reached-stride (a ∷ axes) (d ∷ ds) (s ∷ ss) p along same some below =
    let parts = along-first a axes d ds along in
    let checks = and_parts (nat_lt 0 s) (none_is_zero ss) some in
    let index = IsIndexOf-index_of (strided_dims (d ∷ ds) (s ∷ ss)) p below in
    let rest = reached-stride axes ds ss (p / div_ceil d s) parts.1 (omega arith) checks.1
    (div-below (div_ceil d s) (size_of (strided_dims ds ss)) p below).1 in
    let first = mul-strided d s a.step (p % div_ceil d s) (ltb-true 0 s checks.0) index.0 in
    rw parts.0.size (omega (arith, rest, first))

-- a result is one only
has_result : (r : Shaped) (rs : List ℕ) → r ≡ Ok rs → IsOk r
has_result r rs h = rw h refl

one_result : (r : Shaped) (known rs : List ℕ) → r ≡ Ok known → r ≡ Ok rs → known ≡ rs
one_result r known rs first second = (cc)

-- any movement's view
module _ (axes : List Axis) (ds rs : List ℕ) (along : are_along axes ds ≡ true) where
  view_size-moved : (m : Movement) → moved_dims widest m ds ≡ Ok rs → view_size (moved_axes m axes) ≡ size_of rs
  view_size-moved (broadcast counts) h =
      let known = broadcast-known counts ds (has_result (moved_dims widest (broadcast counts) ds) rs h) in
      view_size-broadcast axes ds counts along ∙ ap size_of (one_result (moved_dims widest (broadcast counts) ds) _ rs known.dims h)
  view_size-moved (slice offsets extents) h =
      let known = slice-known offsets extents ds (has_result (moved_dims widest (slice offsets extents) ds) rs h) in
      let long = length-along axes ds along in
      view_size-slice axes extents (known.extents_long ∙ sym long)
      ∙ ap size_of (one_result (moved_dims widest (slice offsets extents) ds) _ rs known.dims h)
  view_size-moved (shuffle order) h =
      let known = shuffle-known order ds (has_result (moved_dims widest (shuffle order) ds) rs h) in
      view_size-shuffle axes ds along order (are_below-permutation (length ds) order known.long known.all)
      ∙ ap size_of (one_result (moved_dims widest (shuffle order) ds) _ rs known.dims h)
  view_size-moved (reshape sizes) h =
      let known = reshape-known sizes ds (has_result (moved_dims widest (reshape sizes) ds) rs h) in
      view_size-along axes ds along ∙ sym known.same ∙ ap size_of (one_result (moved_dims widest (reshape sizes) ds) _ rs known.dims h)
  view_size-moved (chip offset axis) h =
      let known = chip-known offset axis ds (has_result (moved_dims widest (chip offset axis) ds) rs h) in
      view_size-chip axes ds axis along ∙ ap size_of (one_result (moved_dims widest (chip offset axis) ds) _ rs known.dims h)
  view_size-moved (reverse flags) h =
      let known = reverse-known flags ds (has_result (moved_dims widest (reverse flags) ds) rs h) in
      view_size-reverse axes ds flags along known.long ∙ ap size_of (one_result (moved_dims widest (reverse flags) ds) _ rs known.dims h)
  view_size-moved (stride steps) h =
      let known = stride-known steps ds (has_result (moved_dims widest (stride steps) ds) rs h) in
      view_size-stride axes ds steps along known.long ∙ ap size_of (one_result (moved_dims widest (stride steps) ds) _ rs known.dims h)

  reached-moved : (m : Movement) (start p : ℕ) → moved_dims widest m ds ≡ Ok rs → p < size_of rs
      → reached (moved_start m start axes) (moved_axes m axes) p ≡ start + by_steps axes (moved m ds (index_of rs p))
  reached-moved (broadcast counts) start p h below =
      let known = broadcast-known counts ds (has_result (moved_dims widest (broadcast counts) ds) rs h) in
      reached-start start (repeated_axes axes counts) p
      ∙ ap (λ n. start + n) (reached-broadcast axes ds counts p along known.long)
      ∙ ap (λ r. start + by_steps axes (wrapped ds (index_of r p))) (one_result (moved_dims widest (broadcast counts) ds) _ rs known.dims h)
  reached-moved (slice offsets extents) start p h below =
      let known = slice-known offsets extents ds (has_result (moved_dims widest (slice offsets extents) ds) rs h) in
      let long = length-along axes ds along in
      let whole = reached-slice axes offsets extents p (known.offsets_long ∙ sym long) (known.extents_long ∙ sym long) in
      let from = reached-start (start + by_steps axes offsets) (cut_axes axes extents) p in
      let composed : reached (start + by_steps axes offsets) (cut_axes axes extents) p
      ≡ start + by_steps axes (offset_by offsets (index_of extents p)) = omega (arith, whole, from) in
      composed ∙ ap (λ r. start + by_steps axes (offset_by offsets (index_of r p))) (one_result (moved_dims widest (slice offsets extents) ds) _ rs known.dims h)
  reached-moved (shuffle order) start p h below =
      let known = shuffle-known order ds (has_result (moved_dims widest (shuffle order) ds) rs h) in
      reached-start start (shuffled_axes axes order) p
      ∙ ap (λ n. start + n)
      (reached-shuffle axes ds along order p (are_below-permutation (length ds) order known.long known.all)
      (are_distinct-permutation (length ds) order known.long known.all))
      ∙ ap (λ r. start + by_steps axes (scattered order (index_of r p) (zeros ds))) (one_result (moved_dims widest (shuffle order) ds) _ rs known.dims h)
  reached-moved (reshape sizes) start p h below =
      let known = reshape-known sizes ds (has_result (moved_dims widest (reshape sizes) ds) rs h) in
      let same = one_result (moved_dims widest (reshape sizes) ds) sizes rs known.dims h in
      let inside : p < size_of sizes = rw same below in
      reached-start start axes p
      ∙ ap (λ n. start + n) (reached-along axes ds p along)
      ∙ ap (λ q. start + by_steps axes (index_of ds q)) (sym (place-index_of sizes p inside))
      ∙ ap (λ r. start + by_steps axes (index_of ds (place sizes (index_of r p)))) same
  reached-moved (chip offset axis) start p h below =
      let known = chip-known offset axis ds (has_result (moved_dims widest (chip offset axis) ds) rs h) in
      let whole = reached-chip axes ds offset axis p along known.in_rank in
      let from = reached-start (start + offset * (get_or axes axis no_axis).step) (remove axes axis) p in
      let composed : reached (start + offset * (get_or axes axis no_axis).step) (remove axes axis) p
      ≡ start + by_steps axes (insert (index_of (remove ds axis) p) axis offset) = omega (arith, whole, from) in
      composed ∙ ap (λ r. start + by_steps axes (insert (index_of r p) axis offset)) (one_result (moved_dims widest (chip offset axis) ds) _ rs known.dims h)
  reached-moved (reverse flags) start p h below =
      let known = reverse-known flags ds (has_result (moved_dims widest (reverse flags) ds) rs h) in
      reached-start start (reversed_axes axes flags) p
      ∙ ap (λ n. start + n) (reached-reverse axes ds flags p along known.long)
      ∙ ap (λ r. start + by_steps axes (mirrored flags ds (index_of r p))) (one_result (moved_dims widest (reverse flags) ds) _ rs known.dims h)
  reached-moved (stride steps) start p h below =
      let known = stride-known steps ds (has_result (moved_dims widest (stride steps) ds) rs h) in
      let same = one_result (moved_dims widest (stride steps) ds) _ rs known.dims h in
      let inside : p < size_of (strided_dims ds steps) = rw same below in
      reached-start start (strided_axes axes steps) p
      ∙ ap (λ n. start + n) (reached-stride axes ds steps p along known.long known.some inside)
      ∙ ap (λ r. start + by_steps axes (scaled steps (index_of r p))) same

  -- a view with this start and these axes is the view of the movement
  pub is_moved : (m : Movement) (start from : ℕ) (along : List Axis) → moved_dims widest m ds ≡ Ok rs
      → from ≡ moved_start m start axes → along ≡ moved_axes m axes → IsMovedView m ds rs start axes from along
  is_moved m start from along h is_from is_along = rw (is_from, is_along) (record {
    size = view_size-moved m h;
    reaches = λ p below. reached-moved m start p h below;
  })

  -- its arguments are for the axes
  pub has_rank-moved : (m : Movement) → moved_dims widest m ds ≡ Ok rs → HasRank m (length axes)
  has_rank-moved (broadcast counts) h =
      (broadcast-known counts ds (has_result (moved_dims widest (broadcast counts) ds) rs h)).long ∙ sym (length-along axes ds along)
  has_rank-moved (slice offsets extents) h =
      let known = slice-known offsets extents ds (has_result (moved_dims widest (slice offsets extents) ds) rs h) in
      let long = sym (length-along axes ds along) in
      (known.offsets_long ∙ long, known.extents_long ∙ long)
  has_rank-moved (shuffle order) h =
      let known = shuffle-known order ds (has_result (moved_dims widest (shuffle order) ds) rs h) in
      let long = length-along axes ds along in
      λ k within. omega (arith, get_or-permutation (length ds) order k known.long known.all within)
  has_rank-moved (reshape sizes) h = tt
  has_rank-moved (chip offset axis) h =
      let known = chip-known offset axis ds (has_result (moved_dims widest (chip offset axis) ds) rs h) in
      omega (arith, length-along axes ds along, known.in_rank)
  has_rank-moved (reverse flags) h =
      (reverse-known flags ds (has_result (moved_dims widest (reverse flags) ds) rs h)).long ∙ sym (length-along axes ds along)
  has_rank-moved (stride steps) h =
      let known = stride-known steps ds (has_result (moved_dims widest (stride steps) ds) rs h) in
      let long = sym (length-along axes ds along) in
      (known.long ∙ long, λ k within. get_or-none_is_zero steps k known.some (omega (arith, known.long, long)))

  -- the index list that it reads is one of its operand's
  pub index-moved : (m : Movement) (index : List ℕ) → moved_dims widest m ds ≡ Ok rs → IsIndexOf rs index → IsIndexOf ds (moved m ds index)
  index-moved m index h is_index = IsIndexOf-moved m ds rs index h is_index

  -- a view starts no further than a place that it reaches
  pub moved_start-below : (m : Movement) (start limit : ℕ) → moved_dims widest m ds ≡ Ok rs → 0 < size_of rs
      → start + by_steps axes (moved m ds (index_of rs 0)) < limit → moved_start m start axes < limit
  moved_start-below m start limit h some below =
      omega (
        arith,
        reached-moved m start 0 h some,
        reached-start (moved_start m start axes) (moved_axes m axes) 0,
      )

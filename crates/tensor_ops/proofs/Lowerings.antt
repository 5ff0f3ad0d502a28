-- Expressions lowered: each kind of node keeps the values.
use Rattle.std.proofs.Common.{◌≡◌, ℕ, ℤ, pos, ◌+◌, ◌<◌, ◌≤◌, ◌≢◌, ◌^◌, List, length, map, Bor, Ok}
use Rattle.std.proofs.Common.{refl, ap, sym, subst, ◌∙◌, arith}
use Rattle.std.specs.List.{range_with_len}
use Rattle.std.proofs.lemmas.List.FromFn.{length-map-range_with_len, get_or-map-range_with_len}
use Rattle.tensor_shape.specs.Index.{size_of, IsIndexOf, place, index_of}
use Rattle.tensor_shape.specs.Legal.{widest, most_elements}
use Rattle.tensor_shape.proofs.Places.{place-below-size_of, index_of-place, place-index_of, IsIndexOf-index_of}
use Rattle.tensor_views.specs.Axes.{axes_from, by_steps, moved_start}
use Rattle.tensor_views.specs.Moved.{IsMovedView}
use Rattle.tensor_terms.specs.Contents.{Contents, value_at}
use Rattle.tensor_ops.specs.private.Meaning.{meaning, count_of, IsSound, IsListOf}
use Rattle.tensor_terms.specs.Movement.{moved, moved_dims}
use Rattle.tensor_values.specs.Values.{value_in}
use Rattle.tensor_ops.specs.private.Lowering.{Gives, IsOperationOn, IsView, meaning_at}
use Rattle.tensor_terms.specs.Term.{Movement, reshape}
use Rattle.tensor_values.specs.Scalars.{applied, combined}
use Rattle.tensor_views.specs.View.{view_size, reached}
use Rattle.tensor_values.specs.declared.operations.BinaryScalar.{BinaryScalar}
use Rattle.tensor_values.specs.declared.operations.UnaryScalar.{UnaryScalar}
use Rattle.tensor_ops.specs.declared.lowered.Lowered.{Lowered}
use Rattle.tensor_ops.specs.declared.lowered.Lowered.TheVariants.{Borrowed}
use Rattle.tensor_views.specs.declared.axis.Axis.{Axis}
use Rattle.tensor_views.proofs.AxisLists.{are_along-from, by_steps-from}
use Rattle.tensor_terms.proofs.Known.{reshape-known}
use Rattle.tensor_views.proofs.Moves.{index-moved, moved_start-below}

-- what is lowered gives its own values
pub gives-itself : (lowered : Lowered) (ds : List ℕ) → IsSound lowered → count_of lowered ≡ size_of ds
    → Gives lowered ds (meaning_at lowered ds)
gives-itself lowered ds sound count = record {
  sound = sound;
  count = count;
  means = λ p below. ap (meaning lowered) (sym (place-index_of ds p below));
}

-- what has no places gives anything
pub gives-none : (lowered : Lowered) (ds : List ℕ) (f : List ℕ → ℤ) → IsSound lowered → count_of lowered ≡ 0 → size_of ds ≡ 0
    → Gives lowered ds f
gives-none lowered ds f sound count none = record {
  sound = sound;
  count = count ∙ sym none;
  means = λ p below. absurd (omega (arith, none));
}

-- a value at an index list
pub gives-index : (lowered : Lowered) (ds : List ℕ) (f : List ℕ → ℤ) (index : List ℕ) → Gives lowered ds f → IsIndexOf ds index
    → meaning_at lowered ds index ≡ f index
gives-index lowered ds f index gives is_index =
    gives.means (place ds index) (place-below-size_of ds index is_index) ∙ ap f (index_of-place ds index is_index)

-- the values of an input
pub gives-input : (values : Bor (List ℤ)) (t : Contents) → values.now ≡ t.values → length t.values ≡ size_of t.dims
    → Gives (Borrowed values) t.dims (value_at t)
gives-input values t same full = record {
  sound = tt;
  count = ap length same ∙ full;
  means = λ p below. ap (λ l. value_in l p) same ∙ ap (value_in t.values) (sym (place-index_of t.dims p below));
}

-- an operand read along the axes of its own dims
pub view-whole : (lowered : Lowered) (ds : List ℕ) → IsSound lowered → count_of lowered ≡ size_of ds → size_of ds ≤ most_elements
    → IsView lowered 0 (axes_from 1 ds) lowered ds
view-whole lowered ds sound count few = record {
  sound = sound;
  few = omega (arith, count);
  along = are_along-from 1 ds;
  inside = λ index is_index. omega (arith, count, by_steps-from 1 ds index, place-below-size_of ds index is_index);
  means = λ index is_index. ap (meaning lowered) (omega (arith, by_steps-from 1 ds index));
}

-- a view over such an operand
pub gives-view : (m : Movement) (inner outer whole : Lowered) (start from : ℕ) (axes along : List Axis) (ds rs : List ℕ)
    → IsView inner start axes outer ds → moved_dims widest m ds ≡ Ok rs → IsMovedView m ds rs start axes from along
    → ((p : ℕ) → meaning whole p ≡ meaning inner (reached from along p)) → count_of whole ≡ view_size along
    → (IsSound inner → count_of inner ≤ most_elements
    → ((p : ℕ) → p < view_size along → reached from along p < count_of inner) → IsSound whole)
    → Gives whole rs (λ index. meaning_at outer ds (moved m ds index))
gives-view m inner outer whole start from axes along ds rs view dims seen means count sound =
    let within : (p : ℕ) → p < size_of rs → IsIndexOf ds (moved m ds (index_of rs p)) =
    λ p below. index-moved axes ds rs view.along m (index_of rs p) dims (IsIndexOf-index_of rs p below) in
    record {
      sound = sound view.sound view.few
          (λ p below.
          let inside : p < size_of rs = omega (arith, seen.size) in
          omega (arith, seen.reaches p inside, view.inside (moved m ds (index_of rs p)) (within p inside)));
      count = count ∙ seen.size;
      means = λ p below. means p ∙ ap (meaning inner) (seen.reaches p below) ∙ view.means (moved m ds (index_of rs p)) (within p below);
    }

-- where it starts is within bounds
pub moved_start-few : (m : Movement) (inner outer : Lowered) (start : ℕ) (axes : List Axis) (ds rs : List ℕ)
    → IsView inner start axes outer ds → moved_dims widest m ds ≡ Ok rs → 0 < size_of rs → moved_start m start axes < 2 ^ 32
moved_start-few m inner outer start axes ds rs view dims some =
    let inside = view.inside (moved m ds (index_of rs 0)) (index-moved axes ds rs view.along m (index_of rs 0) dims (IsIndexOf-index_of rs 0 some)) in
    moved_start-below axes ds rs view.along m start (2 ^ 32) dims some (omega (arith, inside, view.few))

-- an operation on each value
pub gives-each : (o : UnaryScalar) (a b whole : Lowered) (ds : List ℕ) → b ≡ a → (IsSound b → IsSound whole) → count_of whole ≡ count_of b
    → ((p : ℕ) → meaning whole p ≡ applied o (meaning b p)) → IsSound a → count_of a ≡ size_of ds
    → Gives whole ds (λ index. applied o (meaning_at a ds index))
gives-each o a b whole ds same sounds count means sound full = record {
  sound = sounds (rw same sound);
  count = count ∙ ap count_of same ∙ full;
  means = λ p below. means p ∙ ap (λ q. applied o (meaning b q)) (sym (place-index_of ds p below))
      ∙ ap (λ x. applied o (meaning x (place ds (index_of ds p)))) same;
}

-- an operation on each two values of operands of the same dims
pub gives-pairwise : (o : BinaryScalar) (a b whole : Lowered) (ds es rs : List ℕ) → es ≡ ds → rs ≡ ds
    → count_of a ≡ size_of ds → IsOperationOn whole a (λ p. combined o (meaning a p) (meaning b p))
    → Gives whole rs (λ index. combined o (meaning_at a ds index) (meaning_at b es index))
gives-pairwise o a b whole ds es rs same result full joined =
    subst (λ l. Gives whole rs (λ index. combined o (meaning_at a ds index) (meaning_at b l index)))
    (sym same)
    (subst (λ l. Gives whole l (λ index. combined o (meaning_at a ds index)
    (meaning_at b ds index))) (sym result)
    (record {
      sound = joined.sound;
      count = joined.count ∙ full;
      means = λ p below. joined.means p
          ∙ ap (λ q. combined o (meaning a q) (meaning b q)) (sym (place-index_of ds p below));
    }))

-- values that were computed
pub gives-list : (whole lowered : Lowered) (items : List ℤ) (ds : List ℕ) (count : ℕ) → IsListOf whole items → IsSound whole
    → items ≡ map (meaning lowered) (range_with_len 0 count) → count ≡ size_of ds → Gives whole ds (meaning_at lowered ds)
gives-list whole lowered items ds count is sound same full = record {
  sound = sound;
  count = is.count ∙ ap length same ∙ length-map-range_with_len (meaning lowered) 0 count ∙ full;
  means = λ p below. is.each p ∙ ap (λ l. value_in l p) same
      ∙ get_or-map-range_with_len (meaning lowered) 0 count p p (pos 0) (omega arith) (omega arith)
      ∙ ap (meaning lowered) (sym (place-index_of ds p below));
}

-- a reshape has its operand's values at the same places
pub gives-reshape : (sizes ds rs : List ℕ) (lowered : Lowered) → IsSound lowered → count_of lowered ≡ size_of ds
    → moved_dims widest (reshape sizes) ds ≡ Ok rs → Gives lowered rs (λ index. meaning_at lowered ds (moved (reshape sizes) ds index))
gives-reshape sizes ds rs lowered sound count dims =
    let known = reshape-known sizes ds (rw dims refl) in
    let result : sizes ≡ rs = (cc known.dims) in
    let size : size_of rs ≡ size_of ds = sym (ap size_of result) ∙ known.same in
    record {
      sound = sound;
      count = count ∙ sym size;
      means = λ p below.
          let in_sizes : p < size_of sizes = omega (arith, known.same) in
          let same : place ds (index_of ds (place sizes (index_of sizes p))) ≡ p =
          ap (λ q. place ds (index_of ds q)) (place-index_of sizes p in_sizes) ∙ place-index_of ds p (omega arith) in
          ap (meaning lowered) (sym same) ∙ ap (λ r. meaning lowered (place ds (index_of ds (place sizes (index_of r p))))) result;
    }

-- values of the same function
pub gives-other : (lowered : Lowered) (rs : List ℕ) (f g : List ℕ → ℤ) → Gives lowered rs f
    → ((index : List ℕ) → IsIndexOf rs index → f index ≡ g index) → Gives lowered rs g
gives-other lowered rs f g gives same = record {
  sound = gives.sound;
  count = gives.count;
  means = λ p below. gives.means p below ∙ same (index_of rs p) (IsIndexOf-index_of rs p below);
}

-- what stands for a lowered expression gives what that gives
pub gives-after : (lowered other : Lowered) (ds : List ℕ) (f : List ℕ → ℤ) → Gives other ds f → Gives lowered ds (meaning_at other ds)
    → Gives lowered ds f
gives-after lowered other ds f first second =
    gives-other lowered ds (meaning_at other ds) f second (λ index is_index. gives-index other ds f index first is_index)

-- a number that is another one is above 0 where that isn't 0
pub some-of : {m n : ℕ} → n ≡ m → n ≢ 0 → 0 < m
some-of same some = omega arith

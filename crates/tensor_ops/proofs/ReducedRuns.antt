-- Reductions of values that lie in runs.
use Rattle.std.proofs.Common.{◌≡◌, ℕ, ℤ, ◌+◌, ◌<◌, List, length, IsOk}
use Rattle.std.proofs.Common.{ap, sym, subst, ◌∙◌, arith}
use Rattle.std.specs.List.{fold, range_with_len}
use Rattle.std.proofs.lemmas.Simd.{map-map}
use Rattle.tensor_shape.specs.Index.{size_of, IsIndexOf, index_of}
use Rattle.tensor_shape.specs.Legal.{widest}
use Rattle.tensor_loops.specs.Folds.{folded}
use Rattle.tensor_ops.specs.private.InRuns.{run_length, run_places, run_part, HaveOneLength}
use Rattle.tensor_ops.specs.private.InRuns.{GivesParts, GivesReduced}
use Rattle.tensor_ops.specs.Parts.{reduced_part}
use Rattle.tensor_ops.specs.private.Runs.{value_in_run, LieInRuns}
use Rattle.tensor_terms.specs.Contents.{Contents}
use Rattle.tensor_terms.specs.Result.{dims_of, shape_of}
use Rattle.tensor_terms.specs.Term.{Term, unary, reduce}
use Rattle.tensor_terms.specs.Value.{value}
use Rattle.tensor_terms.specs.Merged.{among, dims_at, other_dims, merged}
use Rattle.tensor_values.specs.Combining.{combine, unit}
use Rattle.tensor_ops.specs.declared.part_evaluator.in_runs.InRuns.{InRuns}
use Rattle.tensor_values.specs.declared.reducer.Reducer.{Reducer}
use Rattle.tensor_terms.proofs.Dropped.{other_dims-among}
use Rattle.tensor_terms.proofs.OtherAxes.{are_axes-among}
use Rattle.tensor_terms.proofs.SameValues.{Agree}
use Rattle.tensor_terms.proofs.Terms.{reduced-known}
use Rattle.tensor_terms.proofs.TwoParts.{IsIndexOf-parts}
use Rattle.tensor_values.proofs.Runs.{map-shifted}

module _ (r : Reducer) (axes ds : List ℕ) where
  -- the dropped axes, in order
  abbrev dropped : List ℕ
  dropped = among axes (length ds)

  -- runs along the dropped axes give the parts of a function's reduction
  pub gives-along : (runs : InRuns) (at : ℕ → ℤ) (n count : ℕ) (f : List ℕ → ℤ)
      → LieInRuns at n count ds dropped f → HaveOneLength runs → run_length runs ≡ n
      → run_places runs ≡ count
      → ((p first many : ℕ) → run_part runs p first many
      ≡ folded r (unit r) (λ q. value_in_run at n p (first + q)) many)
      → GivesReduced runs r axes ds f
  gives-along runs at n count f lies lengths long whole each =
      let others = other_dims-among ds axes in
      record {
        lengths = lengths;
        inner = long ∙ lies.long;
        places = whole ∙ lies.many ∙ ap size_of others;
        parts = λ p first many below within.
            let is : List ℕ = index_of (other_dims axes ds) p in
            let is_at : index_of (other_dims dropped ds) p ≡ is =
            ap (λ d. index_of d p) others in
            let inside : p < size_of (other_dims dropped ds) = omega (arith, ap size_of others) in
            each p first many
            ∙ ap (fold (combine r) (unit r))
            (map-shifted (λ q. value_in_run at n p (first + q))
            (λ k. f (merged dropped ds (index_of (dims_at dropped ds) k) is)) 0 first many
            (λ k in_count.
            let here : first + (0 + k) ≡ first + k = omega arith in
            ap (value_in_run at n p) here
            ∙ lies.each p (first + k) inside (omega arith)
            ∙ ap (λ l. f (merged dropped ds (index_of (dims_at dropped ds) (first + k)) l)) is_at)
            ∙ sym (map-map (λ js. f (merged dropped ds js is))
            (index_of (dims_at dropped ds)) (range_with_len first many)));
      }

  -- and of a function that agrees with it
  pub reduced-same : (runs : InRuns) (f g : List ℕ → ℤ) → GivesReduced runs r axes ds f
      → Agree ds f g → GivesReduced runs r axes ds g
  reduced-same runs f g gives same =
      let others = other_dims-among ds axes in
      let at : ℕ → List ℕ = index_of (dims_at dropped ds) in
      record {
        lengths = gives.lengths;
        inner = gives.inner;
        places = gives.places;
        parts = λ p first many below within.
            let is : List ℕ = index_of (other_dims axes ds) p in
            let inside : p < size_of (other_dims dropped ds) = omega (arith, ap size_of others) in
            let legal : (q : ℕ) → q < size_of (dims_at dropped ds)
            → IsIndexOf ds (merged dropped ds (at q) is) =
            λ q in_axes.
            subst (λ d. IsIndexOf ds (merged dropped ds (at q) (index_of d p))) others
            (IsIndexOf-parts dropped ds (are_axes-among axes (length ds)) q p in_axes inside) in
            gives.parts p first many below within
            ∙ ap (fold (combine r) (unit r))
            (map-map (λ js. f (merged dropped ds js is)) at (range_with_len first many)
            ∙ map-shifted (λ k. f (merged dropped ds (at k) is))
            (λ k. g (merged dropped ds (at k) is)) first first many
            (λ k in_count. same (merged dropped ds (at (first + k)) is)
            (legal (first + k) (omega arith)))
            ∙ sym (map-map (λ js. g (merged dropped ds js is)) at (range_with_len first many)));
      }

-- the parts of a reduction
pub gives-reduced : (inputs : List Contents) (t : Term) (r : Reducer) (axes ds : List ℕ)
    (f : List ℕ → ℤ) (runs : InRuns)
    → IsOk (dims_of widest (unary (reduce r axes) t) inputs) → ds ≡ shape_of t inputs
    → GivesReduced runs r axes ds f → Agree ds f (value t inputs)
    → GivesParts runs (unary (reduce r axes) t) inputs
gives-reduced inputs t r axes ds f runs has_dims shape gives same =
    let known = reduced-known inputs r axes t has_dims in
    let at : GivesReduced runs r axes (shape_of t inputs) (value t inputs) =
    subst (λ d. GivesReduced runs r axes d (value t inputs)) shape
    (reduced-same r axes ds runs f (value t inputs) gives same) in
    record {
      lengths = at.lengths;
      inner = at.inner;
      places = at.places ∙ ap size_of (sym known.shape);
      parts = λ p first count below within.
          at.parts p first count (omega (arith, ap size_of known.shape)) within
          ∙ ap (λ d. reduced_part r axes (shape_of t inputs) (value t inputs) (index_of d p)
          first count) (sym known.shape);
    }

-- Where the greatest or the least of some values stands first, as the next value comes behind them.
use Rattle.std.proofs.Common.{◌≡◌, ◌≢◌, ◌∙◌, ap, sym, refl, arith, suc, ◌+◌, ◌<◌}
use Rattle.std.proofs.Common.{true, false, ℤ, ◌<ℤ◌, ◌≤ℤ◌, List, [], ◌∷◌, ◌++◌, length, length-append}
use Rattle.std.specs.Int.{w64, int_max, int_min}
use Rattle.std.specs.List.{All}
use Rattle.std.specs.Ordering.{int_eq}
use Rattle.std.specs.Prelude.{slice_index_or}
use Rattle.std.proofs.lemmas.Int.{ints, clamps, fold-int_max_bounds, fold-int_min_bounds}
use Rattle.std.proofs.lemmas.List.Sums.{fold_push}
use Rattle.std.proofs.lemmas.Bool.Decides.{Decides-int_eq}
use mir.Val.{SFits}
use Rattle.tensor_values.specs.Combining.{combination, combine, unit}
use Rattle.tensor_values.specs.declared.reducer.Reducer.{Reducer}
use Rattle.tensor_values.specs.declared.reducer.Reducer.TheVariants.{Max, Min}
use Rattle.tensor_scans.specs.Lines.{first_place, is_cumulative, reducer_of}
use Rattle.tensor_scans.specs.Progress.{IsProgress}
use Rattle.tensor_scans.specs.declared.operation.LineOperation.{LineOperation}
use Rattle.tensor_scans.specs.declared.operation.LineOperation.TheVariants.{Cumsum, Cumprod, Argmax, Argmin}
use Rattle.tensor_scans.specs.declared.progress.Progress.{Progress}

-- the next value is combined with what those before it are combined to
pub combination-next : (r : Reducer) (xs : List ℤ) (x : ℤ)
    → combination r (xs ++ x ∷ []) ≡ combine r (combination r xs) x
combination-next r xs x = fold_push (combine r) (unit r) xs x

-- what stands in a list stands first where it did, whatever comes behind it
pub first_place-kept : (v : ℤ) (xs ys : List ℤ) → first_place v xs < length xs
    → first_place v (xs ++ ys) ≡ first_place v xs
first_place-kept v [] ys stands = absurd (omega arith)
first_place-kept v (x ∷ xs) ys stands = grind (arith, first_place-kept v xs ys)

-- a value is equal to itself
same : (x : ℤ) → int_eq x x ≡ true
same x = (Decides-int_eq x x).1 refl

-- and to none that is greater, nor to one that is less
less : (x y : ℤ) → x <ℤ y → int_eq x y ≡ false
less x y is = grind (arith, ints)

greater : (x y : ℤ) → y <ℤ x → int_eq x y ≡ false
greater x y is = grind (arith, ints)

-- what stands nowhere in a list stands first behind it
first_place-behind : (v : ℤ) (xs : List ℤ) → All (λ x. int_eq x v ≡ false) xs
    → first_place v (xs ++ v ∷ []) ≡ length xs
first_place-behind v [] none = rw (same v) refl
first_place-behind v (x ∷ xs) none =
    let here : int_eq x v ≡ false = none 0 v (omega arith) in
    let rest : first_place v (xs ++ v ∷ []) ≡ length xs =
    first_place-behind v xs (λ k d below. none (suc k) d (omega (arith, below))) in
    rw here (omega (arith, rest))

-- the greater and the lesser of two, where that is not the first
max_changed : (m x : ℤ) → int_max m x ≢ m → (int_max m x ≡ x) × (m <ℤ x)
max_changed m x other = (grind (arith, ints), grind (arith, ints))

min_changed : (m x : ℤ) → int_min m x ≢ m → (int_min m x ≡ x) × (x <ℤ m)
min_changed m x other = (grind (arith, ints), grind (arith, ints))

-- no value of a list is above the greatest, nor below the least
pub none_above : (xs : List ℤ) (x : ℤ) → combination Max xs <ℤ x → All (λ y. int_eq y x ≡ false) xs
none_above xs x above k d below =
    let most : slice_index_or xs k d ≤ℤ combination Max xs =
    (fold-int_max_bounds (unit Max) xs (combination Max xs) refl).1 k d below in
    less (slice_index_or xs k d) x (omega (arith, ints, most, above))

pub none_below : (xs : List ℤ) (x : ℤ) → x <ℤ combination Min xs → All (λ y. int_eq y x ≡ false) xs
none_below xs x under k d below =
    let least : combination Min xs ≤ℤ slice_index_or xs k d =
    (fold-int_min_bounds (unit Min) xs (combination Min xs) refl).1 k d below in
    greater (slice_index_or xs k d) x (omega (arith, ints, least, under))

-- a value that changes what those before it are combined to stands first behind them
pub first_place-changed : (o : LineOperation) (xs : List ℤ) (x : ℤ) → is_cumulative o ≡ false
    → combine (reducer_of o) (combination (reducer_of o) xs) x ≢ combination (reducer_of o) xs
    → first_place (combine (reducer_of o) (combination (reducer_of o) xs) x) (xs ++ x ∷ [])
    ≡ length xs
first_place-changed Cumsum xs x single other = absurd (cc)
first_place-changed Cumprod xs x single other = absurd (cc)
first_place-changed Argmax xs x single other =
    let parts = max_changed (combination Max xs) x other in
    ap (λ (v : ℤ). first_place v (xs ++ x ∷ [])) parts.0
    ∙ first_place-behind x xs (none_above xs x parts.1)
first_place-changed Argmin xs x single other =
    let parts = min_changed (combination Min xs) x other in
    ap (λ (v : ℤ). first_place v (xs ++ x ∷ [])) parts.0
    ∙ first_place-behind x xs (none_below xs x parts.1)

-- one value alone is what it is combined to
combine-alone : (o : LineOperation) (x : ℤ) → SFits w64 x → is_cumulative o ≡ false
    → combine (reducer_of o) (unit (reducer_of o)) x ≡ x
combine-alone Cumsum x fits single = absurd (cc)
combine-alone Cumprod x fits single = absurd (cc)
combine-alone Argmax x fits single = omega (arith, ints, clamps, fits.sfits)
combine-alone Argmin x fits single = omega (arith, ints, clamps, fits.sfits)

-- what is known of values with the next one, x
module _ (o : LineOperation) (xs : List ℤ) (x : ℤ) (p q : Progress)
    (is : IsProgress o xs p) (next : q.combined ≡ combine (reducer_of o) p.combined x)
    (more : q.count ≡ p.count + 1) where
  -- by what the values before it are combined to
  combined : q.combined ≡ combine (reducer_of o) (combination (reducer_of o) xs) x
  combined = next ∙ ap (λ (v : ℤ). combine (reducer_of o) v x) is.combined

  -- one value more
  count : length (xs ++ x ∷ []) ≡ length xs + 1
  count = length-append xs (x ∷ [])

  -- all of it, from where the first place is
  progress-with : (is_cumulative o ≡ false
      → (q.first ≡ first_place q.combined (xs ++ x ∷ [])) × (q.first < length xs + 1))
      → IsProgress o (xs ++ x ∷ []) q
  progress-with parts = record {
    combined = combined ∙ sym (combination-next (reducer_of o) xs x);
    count = omega (arith, count, is.count, more);
    first = λ single. (parts single).0;
    stands = λ single some. omega (arith, (parts single).1, count);
  }

  -- a value that changes it is what all are combined to, and stands last
  pub progress-changed : q.combined ≢ p.combined → q.first ≡ p.count → IsProgress o (xs ++ x ∷ []) q
  progress-changed other first = progress-with (λ single. (
    first ∙ is.count
        ∙ sym (ap (λ (v : ℤ). first_place v (xs ++ x ∷ [])) combined
        ∙ first_place-changed o xs x single
        (λ same. other (combined ∙ same ∙ sym is.combined))),
    omega (arith, first, is.count),
  ))

-- a value with none before it stands first
first-alone : (o : LineOperation) (x : ℤ) (p q : Progress) → SFits w64 x → IsProgress o [] p
    → q.combined ≡ combine (reducer_of o) p.combined x → is_cumulative o ≡ false
    → first_place q.combined (x ∷ []) ≡ 0
first-alone o x p q fits is next single =
    ap (λ (v : ℤ). first_place v (x ∷ []))
    (next ∙ ap (λ (v : ℤ). combine (reducer_of o) v x) is.combined
    ∙ combine-alone o x fits single)
    ∙ rw (same x) refl

-- a value that leaves it leaves the first place too
pub progress-kept : (o : LineOperation) (xs : List ℤ) (x : ℤ) (p q : Progress) → SFits w64 x
    → IsProgress o xs p → q.combined ≡ combine (reducer_of o) p.combined x
    → q.count ≡ p.count + 1 → q.combined ≡ p.combined → q.first ≡ p.first
    → IsProgress o (xs ++ x ∷ []) q
progress-kept o [] x p q fits is next more kept first =
    progress-with o [] x p q is next more (λ single. (
      first ∙ is.first single ∙ sym (first-alone o x p q fits is next single),
      omega (arith, first, is.first single),
    ))
progress-kept o (y ∷ ys) x p q fits is next more kept first =
    progress-with o (y ∷ ys) x p q is next more (λ single.
    let stands : p.first < length (y ∷ ys) = is.stands single (omega arith) in
    let here : p.first ≡ first_place p.combined (y ∷ ys) = is.first single in (
      first ∙ here
          ∙ sym (ap (λ (v : ℤ). first_place v ((y ∷ ys) ++ x ∷ [])) kept
          ∙ first_place-kept p.combined (y ∷ ys) (x ∷ []) (omega (arith, stands, here))),
      omega (arith, first, stands),
    ))

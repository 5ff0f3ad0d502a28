-- Where the greatest or the least of some values stands first, as a chunk of values comes behind them.
use Rattle.std.proofs.Common.{◌≡◌, ◌≢◌, ◌∙◌, ap, sym, refl, arith, suc, ◌+◌, ◌<◌, ◌≤◌}
use Rattle.std.proofs.Common.{false, ℕ, ℤ, pos, ◌<ℤ◌, ◌≤ℤ◌, List, [], ◌∷◌, ◌++◌, length, take, drop, get_or}
use Rattle.std.specs.List.{All, between, fold}
use Rattle.std.specs.Ordering.{int_eq}
use Rattle.std.proofs.lemmas.Int.{ints, fold-int_max_bounds, fold-int_min_bounds}
use Rattle.std.proofs.lemmas.List.{length-take-le, take-append-drop, take-take, at_drop_more, drop_all}
use Rattle.std.proofs.lemmas.Slice.{between_is}
use Rattle.std.proofs.lemmas.List.Sums.{fold-append}
use Rattle.tensor_values.specs.Combining.{combination, combine, unit}
use Rattle.tensor_values.specs.declared.reducer.Reducer.{Reducer}
use Rattle.tensor_values.specs.declared.reducer.Reducer.TheVariants.{Max, Min}
use Rattle.tensor_scans.specs.Lines.{first_place, is_cumulative, reducer_of}
use Rattle.tensor_scans.specs.declared.operation.LineOperation.{LineOperation}
use Rattle.tensor_scans.specs.declared.operation.LineOperation.TheVariants.{Cumsum, Cumprod, Argmax, Argmin}
use Rattle.tensor_scans.proofs.FirstPlaces.{none_above, none_below}

-- what stands nowhere among some values stands first where it does behind them
pub first_place-past : (v : ℤ) (xs ys : List ℤ) → All (λ x. int_eq x v ≡ false) xs
    → first_place v (xs ++ ys) ≡ length xs + first_place v ys
first_place-past v [] ys none = omega arith
first_place-past v (x ∷ xs) ys none =
    let here : int_eq x v ≡ false = none 0 v (omega arith) in
    let rest : first_place v (xs ++ ys) ≡ length xs + first_place v ys =
    first_place-past v xs ys (λ k d below. none (suc k) d (omega (arith, below))) in
    rw here (omega (arith, rest))

-- no place is past the end
pub first_place-le : (v : ℤ) (xs : List ℤ) → first_place v xs ≤ length xs
first_place-le v [] = omega arith
first_place-le v (x ∷ xs) = grind (arith, first_place-le v xs)

-- one that is no less and another one is greater
above_other : (x y : ℤ) → x ≤ℤ y → y ≢ x → x <ℤ y
above_other x y least other = grind (arith, ints)

below_other : (x y : ℤ) → y ≤ℤ x → y ≢ x → y <ℤ x
below_other x y most other = grind (arith, ints)

-- values that change what those before them are combined to: it stands nowhere among those
pub none_before : (o : LineOperation) (xs ys : List ℤ) (v : ℤ) → is_cumulative o ≡ false
    → v ≡ fold (combine (reducer_of o)) (combination (reducer_of o) xs) ys
    → v ≢ combination (reducer_of o) xs → All (λ x. int_eq x v ≡ false) xs
none_before Cumsum xs ys v single is other = absurd (cc)
none_before Cumprod xs ys v single is other = absurd (cc)
none_before Argmax xs ys v single is other =
    let best : ℤ = combination Max xs in
    none_above xs v (above_other best v (fold-int_max_bounds best ys v is).0 other)
none_before Argmin xs ys v single is other =
    let best : ℤ = combination Min xs in
    none_below xs v (below_other best v (fold-int_min_bounds best ys v is).0 other)

-- the values up to a place, and a chunk more
take-chunk : (xs : List ℤ) (i j : ℕ) → i ≤ j → take j xs ≡ take i xs ++ between i j xs
take-chunk xs i j order =
    sym (take-append-drop i (take j xs))
    ∙ ap (λ l. l ++ drop i (take j xs)) (take-take i j xs order)
    ∙ ap (λ l. take i xs ++ l) (sym (between_is xs i j))

-- what they are combined to
pub combination-chunk : (r : Reducer) (xs : List ℤ) (i j : ℕ) → i ≤ j
    → combination r (take j xs) ≡ fold (combine r) (combination r (take i xs)) (between i j xs)
combination-chunk r xs i j order =
    ap (combination r) (take-chunk xs i j order)
    ∙ fold-append (combine r) (unit r) (take i xs) (between i j xs)

-- what stands nowhere before a place stands first where it does from there on
pub first_place-from : (v : ℤ) (xs : List ℤ) (i : ℕ) → i ≤ length xs
    → All (λ x. int_eq x v ≡ false) (take i xs)
    → first_place v xs ≡ i + first_place v (drop i xs)
first_place-from v xs i within none =
    ap (first_place v) (sym (take-append-drop i xs))
    ∙ first_place-past v (take i xs) (drop i xs) none
    ∙ ap (λ n. n + first_place v (drop i xs)) (length-take-le i xs within)

-- a value that is another one
other : (x y : ℤ) → x ≢ y → int_eq x y ≡ false
other x y differ = grind (arith, ints)

-- a search of a value, from place k on
module _ (v : ℤ) (xs : List ℤ) (k : ℕ) (so_far : first_place v xs ≡ k + first_place v (drop k xs)) where
  -- it goes on past another value
  pub first_place-next : k < length xs → get_or xs k (pos 0) ≢ v
      → first_place v xs ≡ k + 1 + first_place v (drop (k + 1) xs)
  first_place-next below differ =
      let rest : ℕ = first_place v (drop (k + 1) xs) in
      let here : int_eq (get_or xs k (pos 0)) v ≡ false = other (get_or xs k (pos 0)) v differ in
      let more : first_place v (drop k xs) ≡ rest + 1 =
      at_drop_more (first_place v) xs k (pos 0) below ∙ rw here refl in
      omega (arith, so_far, more)

  -- and ends where there are no more
  pub first_place-end : length xs ≤ k → first_place v xs ≡ k
  first_place-end end =
      let none : first_place v (drop k xs) ≡ 0 = ap (first_place v) (drop_all k xs end) in
      omega (arith, so_far, none)

-- a chunk more, of values combined up to its start
module _ (o : LineOperation) (xs : List ℤ) (next end : ℕ) (best combined : ℤ) (order : next ≤ end)
    (known : best ≡ combination (reducer_of o) (take next xs))
    (is : combined ≡ fold (combine (reducer_of o)) best (between next end xs)) where
  from_known : combined
      ≡ fold (combine (reducer_of o)) (combination (reducer_of o) (take next xs)) (between next end xs)
  from_known = is ∙ ap (λ v. fold (combine (reducer_of o)) v (between next end xs)) known

  -- they are combined up to its end
  pub chunk-combined : combined ≡ combination (reducer_of o) (take end xs)
  chunk-combined = from_known ∙ sym (combination-chunk (reducer_of o) xs next end order)

  -- and what is another combination stands nowhere before it
  pub chunk-changed : is_cumulative o ≡ false → combined ≢ best
      → All (λ x. int_eq x combined ≡ false) (take next xs)
  chunk-changed single changed =
      none_before o (take next xs) (between next end xs) combined single from_known
      (λ e. changed (e ∙ sym known))

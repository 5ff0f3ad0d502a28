-- What the seat with every account knows of the last state.
use Rattle.std.proofs.Common.{◌≡◌, ◌≢◌, Bool, false, set, ℕ, zero, suc, ◌+◌, ◌<◌, List, [], ◌∷◌}
use Rattle.std.proofs.Common.{Option, Some, None, length, get_or, drop, sym, refl, ap, ◌∙◌, arith}
use mathlib.Core.Option.{some}
use mathlib.Core.Option as maybe
use lib.ListN.{get_elem?}
use Rattle.atomic_table.specs.Table.{State, Final, Seen}
use Rattle.atomic_table.proofs.Lists.{drop_at}
use Rattle.run_queue.specs.declared.slot_rows.view.View.{View}
use Rattle.run_queue.specs.Bag.{total}
use Rattle.run_queue.specs.Elements.{Phase, empty, busy, ready, home_of, namers_of, weight}
use Rattle.run_queue.specs.Elements.{weight_at_home}
use Rattle.run_queue.specs.Views.{names, nothing}
use Rattle.run_queue.specs.RowTable.{KeepsAccount}
use Rattle.run_queue.proofs.Totals.{total_alone}

module _ {J : Type 0} where
  -- each value is at home, and comes back
  all_back : (h : J → ℕ) (hs : List (maybe.Option (Option J))) (xs : List (Option J))
      → length hs ≡ length xs
      → ((k : ℕ) → k < length hs
      → (y : Option J) × (get_elem? hs k ≡ some (some y)) × (get_elem? xs k ≡ some y))
      → total (weight_at_home h) hs ≡ total (weight h) xs
  all_back h [] [] e all = refl
  all_back h [] (x ∷ xs) e all = absurd (omega arith)
  all_back h (x ∷ hs) [] e all = absurd (omega arith)
  all_back h (x ∷ hs) (y ∷ xs) e all =
      let a = all 0 (omega arith) in
      let b : weight_at_home h x ≡ weight h a.0 =
      ap (weight_at_home h) (maybe.some-injective x (some a.0) a.1) in
      let c : weight h y ≡ weight h a.0 = ap (weight h) (maybe.some-injective y a.0 a.2) in
      let r = all_back h hs xs (omega arith) (λ k lt. all (suc k) (omega arith)) in
      omega arith

  at_home : (p : Phase J) → namers_of p ≡ 0 → (y : Option J) × (home_of p ≡ some y)
  at_home empty e = (None, refl)
  at_home busy e = absurd (omega arith)
  at_home (ready x) e = (Some x, refl)

module _ {J : Type 0} {F : ℕ → J → Type 0} {b : Bool} where
  -- a seat with every part knows a sum to which no part adds nothing
  sum_of : {c : ℕ} (s : State (Option J) (View J)) → KeepsAccount F b c s → (id : ℕ) (v : View J)
      (f : View J → ℕ) → f nothing ≡ 0 → get_elem? s.views id ≡ some v → v.parts ≡ c
      → total f s.views ≡ f v
  sum_of {c} s r id v f zeroed at every =
      total_alone (λ u. u.parts) f s.views id v
      (λ j u e partless. ap f (r.spent j u e partless) ∙ zeroed) at (r.whole ∙ sym every)

  pub settles : {c : ℕ} (id : ℕ) (v : View J) (ws : List ℕ) (xs : List (Option J)) → v.parts ≡ c
      → v.busy ≡ None → Final (Seen (KeepsAccount F b c) id v) ws xs → (h : J → ℕ)
      → total h v.puts ≡ total h v.takes + total (weight h) xs
  settles {c} id v ws xs every rests last h =
      let s = last.0 in
      let r = last.1.0 in
      let at = last.1.1 in
      let back = last.4 in
      let each : (k : ℕ) → k < length s.homes
      → (y : Option J) × (get_elem? s.homes k ≡ some (some y)) × (get_elem? xs k ≡ some y) =
      λ k lt.
      let el = r.each k lt in
      let none_names : namers_of el.0 ≡ 0 =
      sym el.1.2 ∙ sum_of s r id v (λ u. names k u.busy) refl at every ∙ ap (names k) rests in
      let y = at_home el.0 none_names in
      let here = el.1.1 ∙ ap some y.1 in
      (y.0, here, back k y.0 here) in
      let a = all_back h s.homes xs last.3 each in
      let z = sum_of s r id v (λ u. total h u.puts) refl at every in
      let c = sum_of s r id v (λ u. total h u.takes) refl at every in
      let d = r.balance h in
      omega arith

module _ {J : Type 0} where
  pub weight_drop : (h : J → ℕ) (xs : List (Option J)) (i : ℕ) (y : Option J)
      → get_elem? xs i ≡ some y
      → total (weight h) (drop i xs) ≡ weight h y + total (weight h) (drop (i + 1) xs)
  weight_drop h xs i y e =
      ap (total (weight h)) (drop_at xs i y e)
      ∙ ap (λ n. weight h y + total (weight h) (drop n xs))
      (let is : suc i ≡ i + 1 = omega arith in is)

pub emptied : (fs : List Bool) (i k : ℕ) → (k ≢ i → get_or fs k false ≡ false)
    → get_or (set fs i false) k false ≡ false
emptied [] i k h = refl
emptied (x ∷ xs) zero zero h = refl
emptied (x ∷ xs) zero (suc k) h = h (λ e. omega arith)
emptied (x ∷ xs) (suc i) zero h = h (λ e. omega arith)
emptied (x ∷ xs) (suc i) (suc k) h = emptied xs i k (λ ne. h (λ e. ne (omega arith)))

-- Raising and lowering a length keeps the account.
use Rattle.std.proofs.Common.{◌≡◌, ℕ, ◌+◌, ◌-◌, ◌/◌, ◌%◌, ◌^◌, ◌<◌, ◌≤◌}
use Rattle.std.proofs.Common.{Option, Bool, true}
use Rattle.std.proofs.Common.{Some, None, length, get_or, sym, refl, ap, ◌∙◌, subst}
use Rattle.std.proofs.Common.{arith}
use mathlib.Core.Option.{some, none}
use mathlib.Core.Option as maybe
use native.Mathlib.Decide.{ℕ_discrete}
use Rattle.atomic_table.specs.Table.{Allows, step}
use Rattle.atomic_table.specs.Table.{keeps}
use Rattle.run_queue.specs.declared.slot_rows.view.View.{View}
use Rattle.run_queue.specs.Bag.{total}
use Rattle.run_queue.specs.Lengths.{length_word, owed_to}
use Rattle.run_queue.specs.Lengths.{job_in_row}
use Rattle.run_queue.specs.Views.{owing, nothing}
use Rattle.run_queue.specs.RowTable.{KeepsAccount}
use Rattle.run_queue.specs.Plays.{Sat, raises}
use Rattle.run_queue.specs.Plays.{lowers}
use Rattle.run_queue.proofs.Totals.{at_most_total}
use Rattle.run_queue.proofs.Totals.{total_below}
use Rattle.run_queue.proofs.InRows.{total_at_below, in_row_same, in_row_other}
use Rattle.run_queue.proofs.InRows.{in_row_small}
use Rattle.run_queue.proofs.Keeps.{St, Goes}
use Rattle.run_queue.proofs.Keeps.{counted}

module _ {J : Type 0} {F : ℕ → J → Type 0} {b : Bool} where
  -- views owe a row no more than there are seats
  pub owed_few : {c : ℕ} (s : St J) → KeepsAccount F b c s → (r : ℕ)
      → total (λ u. owed_to r u.owes) s.views ≤ c
  owed_few {c} s a r =
      let z =
      total_below (λ u. owed_to r u.owes) (λ u. u.parts) s.views
      (λ j u e. owes_small u (a.spent j u e) (ℕ_discrete u.parts 0)) in
      let e = a.whole in
      omega arith
    where
      owed_small : (o : Option ℕ) → owed_to r o ≤ 1
      owed_small None = omega arith
      owed_small (Some k) = in_row_small r k

      owes_small : (u : View J) → (u.parts ≡ 0 → u ≡ nothing) → Dec (u.parts ≡ 0)
          → owed_to r u.owes ≤ u.parts
      owes_small u spent (yes e) =
          let is : owed_to r u.owes ≡ 0 = ap (λ x. owed_to r x.owes) (spent e) in
          omega arith
      owes_small u spent (no ne) =
          let is = owed_small u.owes in
          omega arith

  -- no length wraps
  length_small : {c : ℕ} (s : St J) → KeepsAccount F b c s → b ≡ true → (r : ℕ) → r ≤ length s.homes / 1024
      → get_or s.words (length_word (length s.homes) r) 0 ≤ 2 ^ 33
  length_small {c} s a on r low =
      let z = total_at_below (job_in_row r) 0 s.homes (λ n y. one_job n y) in
      let e = owed_few s a r in
      let d = a.few in
      let f = a.lengths on r low in
      omega arith
    where
      one_job : (n : ℕ) (y : maybe.Option (Option J)) → job_in_row r n y ≤ 1
      one_job n none = omega arith
      one_job n (some None) = omega arith
      one_job n (some (Some x)) = in_row_small r n

  pub raise_keeps : {c : ℕ} → b ≡ true → (n id : ℕ) (me : Sat J) (k i : ℕ) → i < n
      → k ≡ length_word n (i / 1024) → 0 < me.0.parts → me.0.busy ≡ Some i → me.0.owes ≡ None
      → Allows (KeepsAccount F b c) n id me k (λ y. (y + 1) % 2 ^ 64) (raises (step n k 1 0 none) me)
  raise_keeps {c} on n id me k i near is live works owes_none s a wide at _ =
      let m : ℕ = length s.homes in
      let r : ℕ = i / 1024 in
      let w : View J = owing me.0 me.0.busy in
      let wide' : m ≡ n = wide in
      let low : r ≤ m / 1024 = omega arith in
      let small = length_small s a on r low in
      let none_yet : owed_to r me.0.owes ≡ 0 = ap (owed_to r) owes_none in
      let one : owed_to r me.0.busy ≡ 1 = ap (owed_to r) works ∙ in_row_same i in
      let same : k ≡ length_word m r = omega arith in
      let y : ℕ = get_or s.words (length_word m r) 0 in
      let more : (y + 1) % 2 ^ 64 + owed_to r me.0.owes ≡ y + owed_to r w.owes = omega arith in
      subst
      (λ (z : ℕ). Goes (KeepsAccount F b c) s z id me
      (λ me'. raises (step n z 1 0 none) me (get_or s.words z 0) me')
      ((get_or s.words z 0 + 1) % 2 ^ 64)) (sym same) (
        w,
        keeps,
        tt,
        counted s a r ((y + 1) % 2 ^ 64) id me.0 w low at refl live refl refl refl (λ _. more)
            (λ j ne. ap (owed_to j) works ∙ in_row_other j i ne ∙ sym (ap (owed_to j) owes_none)),
        (i, works, ap (λ x. length_word x r) wide, refl, refl, refl),
      )

  pub lower_keeps : {c : ℕ} → b ≡ true → (n id : ℕ) (me : Sat J) (k i : ℕ) → i < n
      → k ≡ length_word n (i / 1024) → 0 < me.0.parts → me.0.busy ≡ None → me.0.owes ≡ Some i
      → Allows (KeepsAccount F b c) n id me k (λ y. (y + (2 ^ 64 - 1)) % 2 ^ 64)
      (lowers (step n k 1 0 none) me)
  lower_keeps {c} on n id me k i near is live rests owed s a wide at _ =
      let m : ℕ = length s.homes in
      let r : ℕ = i / 1024 in
      let w : View J = owing me.0 None in
      let wide' : m ≡ n = wide in
      let low : r ≤ m / 1024 = omega arith in
      let small = length_small s a on r low in
      let one : owed_to r me.0.owes ≡ 1 = ap (owed_to r) owed ∙ in_row_same i in
      let some_left = at_most_total (λ u. owed_to r u.owes) s.views id me.0 at in
      let here = a.lengths on r low in
      let same : k ≡ length_word m r = omega arith in
      let y : ℕ = get_or s.words (length_word m r) 0 in
      let less : (y + (2 ^ 64 - 1)) % 2 ^ 64 + owed_to r me.0.owes ≡ y + 0 = omega arith in
      subst
      (λ (z : ℕ). Goes (KeepsAccount F b c) s z id me
      (λ me'. lowers (step n z 1 0 none) me (get_or s.words z 0) me')
      ((get_or s.words z 0 + (2 ^ 64 - 1)) % 2 ^ 64)) (sym same) (
        w,
        keeps,
        tt,
        counted s a r ((y + (2 ^ 64 - 1)) % 2 ^ 64) id me.0 w low at refl live refl refl refl (λ _. less)
            (λ j ne. sym (ap (owed_to j) owed ∙ in_row_other j i ne)),
        (i, rests, owed, ap (λ x. length_word x r) wide, refl, refl, refl),
      )

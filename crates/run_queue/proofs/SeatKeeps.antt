-- Seats that are dealt, taken in and opened keep the account.
use Rattle.std.proofs.Common.{◌≡◌, ℕ, ◌+◌, ◌-◌, ◌<◌, [], ◌∷◌}
use Rattle.std.proofs.Common.{◌++◌, Bool}
use Rattle.std.proofs.Common.{None, ⊎_elim, set, sym, refl, ap, ◌∙◌}
use Rattle.std.proofs.Common.{arith}
use Rattle.atomic_table.specs.Table.{Splits, Joins}
use Rattle.atomic_table.proofs.Lists.{at_set, at_snoc}
use Rattle.run_queue.specs.declared.slot_rows.view.View.{View}
use Rattle.run_queue.specs.Bag.{total}
use Rattle.run_queue.specs.Lengths.{owed_to}
use Rattle.run_queue.specs.Views.{names, fresh, nothing}
use Rattle.run_queue.specs.Views.{after_deal, together}
use Rattle.run_queue.specs.RowTable.{KeepsAccount}
use Rattle.run_queue.proofs.Totals.{total_set, total_last, total_append}
use Rattle.run_queue.proofs.Keeps.{St}
use Rattle.run_queue.proofs.Keeps.{reseated, spent_set}

module _ {J : Type 0} {F : ℕ → J → Type 0} {b : Bool} where
  -- a fresh view gives one of its parts away
  pub deal_keeps : {c : ℕ} (id : ℕ) (v : View J) → 0 < v.parts → v ≡ fresh v.parts
      → Splits (KeepsAccount F b c) id v (after_deal v) (fresh 1)
  deal_keeps {c} id v more new s r at =
      let l = after_deal v in
      let vs = set s.views id l in
      let both : (f : View J → ℕ)
      → total f (vs ++ fresh 1 ∷ []) + f v ≡ total f s.views + (f l + f (fresh 1)) =
      λ f.
      let a = total_set f s.views id v l at in
      let z = total_last f vs (fresh 1) in
      omega arith in
      reseated s r (vs ++ fresh 1 ∷ [])
      (let a = both (λ u. u.parts) in omega arith)
      (λ j u e partless. ⊎_elim
      (λ t. ⊎_elim
      (λ x. sym x.1 ∙ dealt v new (ap (λ y. y.parts) x.1 ∙ partless))
      (λ x. r.spent j u x.1 partless) (at_set s.views id j l u t))
      (λ t. let is : 1 ≡ u.parts = ap (λ x. x.parts) t in absurd (omega arith))
      (at_snoc vs (fresh 1) u j e))
      (λ i. let a = both (λ u. names i u.busy) in omega arith)
      (λ k. let a = both (λ u. owed_to k u.owes) in omega arith)
      (λ h. let a = both (λ u. total h u.puts) in omega arith)
      (λ h. let a = both (λ u. total h u.takes) in omega arith)
    where
      dealt : (v : View J) → v ≡ fresh v.parts → v.parts - 1 ≡ 0 → after_deal v ≡ nothing
      dealt v new e = ap after_deal new ∙ ap fresh e

  -- a view takes in another's account
  pub take_in_keeps : {c : ℕ} (id other : ℕ) (v w : View J) → 0 < w.parts → v.busy ≡ None
      → w.busy ≡ None → v.owes ≡ None → w.owes ≡ None
      → Joins (KeepsAccount F b c) id v other w (together v w) nothing
  take_in_keeps {c} id other v w live rests rests' owes_none owes_none' s r at apart at' =
      let t' = together v w in
      let vs = set s.views id t' in
      let both : (f : View J → ℕ)
      → total f (set vs other nothing) + (f v + f w) ≡ total f s.views + (f t' + f nothing) =
      λ f.
      let x = total_set f s.views id v t' at in
      let y = total_set f vs other w nothing at' in
      omega arith in
      reseated s r (set vs other nothing)
      (let a = both (λ u. u.parts) in omega arith)
      (λ j u e partless. ⊎_elim (λ t. sym t.1)
      (λ t. spent_set s.views id t' (omega arith) r.spent j u t.1 partless)
      (at_set vs other j nothing u e))
      (λ i.
      let a = both (λ u. names i u.busy) in
      let x : names i v.busy ≡ 0 = ap (names i) rests in
      let y : names i w.busy ≡ 0 = ap (names i) rests' in
      omega arith)
      (λ k.
      let a = both (λ u. owed_to k u.owes) in
      let x : owed_to k v.owes ≡ 0 = ap (owed_to k) owes_none in
      let y : owed_to k w.owes ≡ 0 = ap (owed_to k) owes_none' in
      omega arith)
      (λ h.
      let a = both (λ u. total h u.puts) in
      let x = total_append h v.puts w.puts in
      omega arith)
      (λ h.
      let a = both (λ u. total h u.takes) in
      let x = total_append h v.takes w.takes in
      omega arith)

  -- a seat comes that has no account
  pub enter_keeps : {c : ℕ} (s : St J) → KeepsAccount F b c s
      → KeepsAccount F b c record { words = s.words; homes = s.homes; views = s.views ++ nothing ∷ [] }
  enter_keeps s r =
      let vs = s.views ++ nothing ∷ [] in
      let same : (f : View J → ℕ) → f nothing ≡ 0 → total f vs ≡ total f s.views =
      λ f e. let a = total_last f s.views nothing in omega arith in
      reseated s r vs (same (λ u. u.parts) refl)
      (λ j u e partless. ⊎_elim (λ t. r.spent j u t partless) (λ t. sym t)
      (at_snoc s.views nothing u j e))
      (λ i. same (λ u. names i u.busy) refl) (λ k. same (λ u. owed_to k u.owes) refl)
      (λ h. same (λ u. total h u.puts) refl)
      (λ h. same (λ u. total h u.takes) refl)

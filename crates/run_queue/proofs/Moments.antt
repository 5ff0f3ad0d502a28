-- What the account of rows says at every moment.
use Rattle.std.proofs.Common.{◌≡◌, ◌==◌, ℕ, zero, suc, ◌<◌, ◌≤◌, if◌then◌else◌, List, []}
use Rattle.std.proofs.Common.{◌∷◌, Option, Some, None, length, get_or, sym, refl, ap, ◌∙◌, arith}
use Rattle.std.proofs.Common.{◌⊎◌, inl, inr, ⊎_elim, Bool}
use Rattle.std.specs.List.{flat_map}
use mathlib.Core.Option.{some, none, some-injective}
use mathlib.Core.Option as maybe
use native.Mathlib.Decide.{ℕ_discrete}
use lib.ListN.{get_elem?}
use Rattle.run_queue.specs.declared.slot_rows.rule.RowsKey.{RowsKey}
use Rattle.run_queue.specs.declared.slot_rows.view.View.{View}
use Rattle.run_queue.specs.Bag.{total}
use Rattle.run_queue.specs.Elements.{Phase, empty, busy, ready, word_of, home_of, namers_of}
use Rattle.run_queue.specs.Elements.{weight_at_home, ready_word}
use Rattle.run_queue.specs.Views.{names}
use Rattle.run_queue.specs.RowTable.{KeepsAccount}
use Rattle.run_queue.specs.Laws.{job_at_home, ready_jobs, Names, PutsAreTakesAndReady}
use Rattle.run_queue.specs.Laws.{BusyElementsAreNamed, NamedElementsAreBusy, ReadyJobsFit}
use Rattle.run_queue.proofs.Totals.{total_append, at_most_total, names_same, names_other}
use Rattle.run_queue.proofs.Keeps.{is_busy}

total_flat_map : {X J : Type 0} (h : J → ℕ) (f : X → List J) (xs : List X)
    → total h (flat_map f xs) ≡ total (λ x. total h (f x)) xs
total_flat_map h f [] = refl
total_flat_map h f (x ∷ xs) =
    let a = total_append h (f x) (flat_map f xs) in
    let r = total_flat_map h f xs in
    omega arith

same_or_not : (i k : ℕ) → Dec (k ≡ i) → (names i (Some k) ≡ 0) ⊎ (Some k ≡ Some i)
same_or_not i k (yes e) = inr (ap Some e)
same_or_not i k (no ne) = inl (names_other k i (λ e. ne (sym e)))

-- a seat that works on an element works on this one, or doesn't count
names_or_not : (i : ℕ) (on : Option ℕ) → (names i on ≡ 0) ⊎ (on ≡ Some i)
names_or_not i None = inl refl
names_or_not i (Some k) = same_or_not i k (ℕ_discrete k i)

module _ {J : Type 0} where
  ready_weight : (h : J → ℕ) (w : ℕ) (x : maybe.Option (Option J)) (p : Phase J) → w ≡ word_of p
      → x ≡ home_of p
      → total h (if w == ready_word then job_at_home x else []) ≡ weight_at_home h x
  ready_weight h w x empty word home =
      ap (λ k. total h (if k == ready_word then job_at_home x else [])) word
      ∙ sym (ap (weight_at_home h) home)
  ready_weight h w x busy word home =
      ap (λ k. total h (if k == ready_word then job_at_home x else [])) word
      ∙ sym (ap (weight_at_home h) home)
  ready_weight h w x (ready job) word home =
      ap (λ k. total h (if k == ready_word then job_at_home x else [])) word
      ∙ ap (λ y. total h (job_at_home y)) home ∙ sym (ap (weight_at_home h) home)

  total_ready : (h : J → ℕ) (ws : List ℕ) (hs : List (maybe.Option (Option J)))
      → length hs ≤ length ws
      → ((i : ℕ) → i < length hs
      → (p : Phase J) × (get_or ws i 0 ≡ word_of p) × (get_elem? hs i ≡ some (home_of p)))
      → total h (ready_jobs ws hs) ≡ total (weight_at_home h) hs
  total_ready h [] [] long each = refl
  total_ready h (w ∷ ws) [] long each = refl
  total_ready h [] (x ∷ hs) long each = absurd (omega arith)
  total_ready h (w ∷ ws) (x ∷ hs) long each =
      let el = each 0 (omega arith) in
      let a = ready_weight h w x el.0 el.1 (some-injective x (home_of el.0) el.2) in
      let b =
      total_append h (if w == ready_word then job_at_home x else []) (ready_jobs ws hs) in
      let r = total_ready h ws hs (omega arith) (λ i lt. each (suc i) (omega arith)) in
      omega arith

  -- one of the views names the element, and is the only one
  abbrev OneNames : ℕ → List (View J) → Type 0
  OneNames i vs =
      (seat : ℕ) × Names vs seat i × ((other : ℕ) → Names vs other i → other ≡ seat)

  -- the first view is the one
  first_names : (i : ℕ) (v : View J) (vs : List (View J)) → v.busy ≡ Some i
      → total (λ u. names i u.busy) (v ∷ vs) ≡ 1 → OneNames i (v ∷ vs)
  first_names i v vs works one = (0, (v, refl, works), only)
    where
      only : (other : ℕ) → Names (v ∷ vs) other i → other ≡ 0
      only zero n = refl
      only (suc k) n =
          let few = at_most_total (λ u. names i u.busy) vs k n.0 n.1 in
          let a : names i v.busy ≡ 1 = ap (names i) works ∙ names_same i in
          let b : names i n.0.busy ≡ 1 = ap (names i) n.2 ∙ names_same i in
          absurd (omega arith)

  -- the first view is not the one
  later_names : (i : ℕ) (v : View J) (vs : List (View J)) → names i v.busy ≡ 0 → OneNames i vs
      → OneNames i (v ∷ vs)
  later_names i v vs rests one = (suc one.0, one.1, only)
    where
      only : (other : ℕ) → Names (v ∷ vs) other i → other ≡ suc one.0
      only zero n =
          let is : names i v.busy ≡ 1 =
          ap (λ u. names i u.busy) (some-injective v n.0 n.1) ∙ ap (names i) n.2 ∙ names_same i in
          absurd (omega arith)
      only (suc k) n = ap suc (one.2 k n)

  one_names : (i : ℕ) (vs : List (View J)) → total (λ v. names i v.busy) vs ≡ 1 → OneNames i vs
  one_names i [] e = absurd (omega arith)
  one_names i (v ∷ vs) e =
      ⊎_elim (λ rests. later_names i v vs rests (one_names i vs (omega arith)))
      (λ works. first_names i v vs works e) (names_or_not i v.busy)

  namers_of_busy : (p : Phase J) → word_of p ≡ 1 → namers_of p ≡ 1
  namers_of_busy empty e = absurd (omega arith)
  namers_of_busy busy e = refl
  namers_of_busy (ready x) e = absurd (omega arith)

module _ {J K : Type 0} (fits : K → ℕ → J → Type 0) {b : Bool} where
  pub puts_balance : PutsAreTakesAndReady {J = J}
      (λ (key : RowsKey K) s. KeepsAccount (fits key.of) b key.seats s)
  puts_balance key s r h =
      let a = total_flat_map h (λ v. v.puts) s.views in
      let z = total_flat_map h (λ v. v.takes) s.views in
      let d = total_append h (flat_map (λ v. v.takes) s.views) (ready_jobs s.words s.homes) in
      let l = r.long in
      let e =
      total_ready h s.words s.homes (omega arith)
      (λ i near. let el = r.each i near in (el.0, el.1.0, el.1.1)) in
      let f = r.balance h in
      omega arith

  pub busy_named : BusyElementsAreNamed {J = J}
      (λ (key : RowsKey K) s. KeepsAccount (fits key.of) b key.seats s)
  busy_named key s r i near word =
      let el = r.each i near in
      one_names i s.views (el.1.2 ∙ namers_of_busy el.0 (sym el.1.0 ∙ word))

  pub named_busy : NamedElementsAreBusy {J = J}
      (λ (key : RowsKey K) s. KeepsAccount (fits key.of) b key.seats s)
  named_busy key s r i seat near n =
      let el = r.each i near in
      let few = at_most_total (λ u. names i u.busy) s.views seat n.0 n.1 in
      let one : names i n.0.busy ≡ 1 = ap (names i) n.2 ∙ names_same i in
      let named = el.1.2 in
      el.1.0 ∙ ap word_of (is_busy el.0 (omega arith))

  pub jobs_fit : ReadyJobsFit {J = J} (λ (key : RowsKey K). fits key.of)
      (λ (key : RowsKey K) s. KeepsAccount (fits key.of) b key.seats s)
  jobs_fit key s r i x e = r.fit i x e

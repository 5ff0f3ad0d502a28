-- What the length of a row tells at every moment, and to a seat that looks at it.
use Rattle.std.proofs.Common.{if◌then◌else◌, ne_eqb, ◌≡◌, ℕ, suc, ◌+◌, ◌*◌, ◌-◌}
use Rattle.std.proofs.Common.{◌/◌, ◌<◌, ◌≤◌, List, [], ◌∷◌, Option, Some, None, length, get_or, Bool, true}
use Rattle.std.proofs.Common.{sym, refl, ap, ◌∙◌, subst, arith}
use mathlib.Core.Option.{some, none, some-injective}
use mathlib.Core.Option as maybe
use native.Mathlib.Decide.{ℕ_discrete}
use lib.ListN.{get_elem?}
use Rattle.atomic_table.specs.Table.{Allows, step, keeps}
use Rattle.run_queue.specs.declared.slot_rows.rule.RowsKey.{RowsKey}
use Rattle.run_queue.specs.declared.slot_rows.view.Notes.{Notes}
use Rattle.run_queue.specs.Elements.{Phase, empty, busy, ready, word_of, home_of}
use Rattle.run_queue.specs.Lengths.{length_word, in_row, total_at, ready_in_row}
use Rattle.run_queue.specs.Lengths.{job_in_row}
use Rattle.run_queue.specs.Plays.{Sat, looks}
use Rattle.run_queue.specs.Views.{looked_at, noted}
use Rattle.run_queue.specs.RowTable.{KeepsAccount}
use Rattle.run_queue.specs.Laws.{LengthsCoverReady, LengthsAreBounded}
use Rattle.run_queue.proofs.InRows.{in_row_other, in_row_small, total_at_none}
use Rattle.run_queue.proofs.Keeps.{stays}
use Rattle.run_queue.proofs.LengthKeeps.{owed_few}

none_there : (r k x : ℕ) → in_row r k ≡ 0 → Dec (x ≡ 2) → ready_in_row r k x ≡ 0
none_there r k x e (yes two) = ap (ready_in_row r k) two ∙ e
none_there r k x e (no ne) = ap (λ b. if b then in_row r k else 0) (ne_eqb x 2 ne)

module _ {J : Type 0} where
  -- one word and its home
  one_home : (r k : ℕ) (p : Phase J) → ready_in_row r k (word_of p) ≤ job_in_row r k (home_of p)
  one_home r k empty = omega arith
  one_home r k busy = omega arith
  one_home r k (ready x) = omega arith

  here : (r k : ℕ) (p : Phase J) (x : ℕ) (y : maybe.Option (Option J)) → x ≡ word_of p
      → y ≡ home_of p → ready_in_row r k x ≤ job_in_row r k y
  here r k p x y e e' =
      subst (λ m. ready_in_row r k m ≤ job_in_row r k y) (sym e)
      (subst (λ m. ready_in_row r k (word_of p) ≤ job_in_row r k m) (sym e') (one_home r k p))

  -- the words that say ready are no more than the jobs at home
  ready_at_home : (r k n : ℕ) (ws : List ℕ) (hs : List (maybe.Option (Option J)))
      → k + length hs ≡ n → r < n / 1024
      → ((i : ℕ) → i < length hs
      → (p : Phase J) × (get_or ws i 0 ≡ word_of p) × (get_elem? hs i ≡ some (home_of p)))
      → total_at (ready_in_row r) k ws ≤ total_at (job_in_row r) k hs
  ready_at_home r k n [] hs wide low each = omega arith
  ready_at_home r k n (w ∷ ws) [] wide low each =
      let a =
      total_at_none (ready_in_row r) k (w ∷ ws)
      (λ j x le. none_there r j x (in_row_other r j (λ e. omega arith)) (ℕ_discrete x 2)) in
      omega arith
  ready_at_home r k n (w ∷ ws) (h ∷ hs) wide low each =
      let a = each 0 (omega arith) in
      let b = here r k a.0 w h a.1 (some-injective h (home_of a.0) a.2) in
      let t =
      ready_at_home r (suc k) n ws hs (omega arith) low (λ i lt. each (suc i) (omega arith)) in
      omega arith

  one_job : (r k : ℕ) (y : maybe.Option (Option J)) → job_in_row r k y ≤ in_row r k
  one_job r k none = omega arith
  one_job r k (some None) = omega arith
  one_job r k (some (Some x)) = omega arith

  -- the elements of a row from one of them on
  one_more : (r k t : ℕ) (y : maybe.Option (Option J)) → r * 1024 ≤ k
      → t ≤ (r + 1) * 1024 - suc k → Dec (r ≡ k / 1024)
      → job_in_row r k y + t ≤ (r + 1) * 1024 - k
  one_more r k t y le few (yes e) =
      let a = one_job r k y in
      let b = in_row_small r k in
      omega arith
  one_more r k t y le few (no ne) =
      let a = one_job r k y in
      let b = in_row_other r k ne in
      omega arith

  from_here : (r k : ℕ) (hs : List (maybe.Option (Option J))) → r * 1024 ≤ k
      → total_at (job_in_row r) k hs ≤ (r + 1) * 1024 - k
  from_here r k [] le = omega arith
  from_here r k (h ∷ hs) le =
      one_more r k (total_at (job_in_row r) (suc k) hs) h le
      (from_here r (suc k) hs (omega arith)) (ℕ_discrete r (k / 1024))

  -- a row has 1,024 elements
  row_small : (r k : ℕ) (hs : List (maybe.Option (Option J))) → k ≤ r * 1024
      → total_at (job_in_row r) k hs ≤ 1024
  row_small r k [] le = omega arith
  row_small r k (h ∷ hs) le =
      there (λ less. row_small r (suc k) hs (omega arith)) (ℕ_discrete k (r * 1024))
    where
      there : (k < r * 1024 → total_at (job_in_row r) (suc k) hs ≤ 1024) → Dec (k ≡ r * 1024)
          → total_at (job_in_row r) k (h ∷ hs) ≤ 1024
      there later (yes e) =
          let a = from_here r k (h ∷ hs) (omega arith) in
          omega arith
      there later (no ne) =
          let a = one_job r k h in
          let b = in_row_other r k (λ e. ne (omega arith)) in
          let t = later (omega arith) in
          omega arith

module _ {J K : Type 0} (fits : K → ℕ → J → Type 0) {b : Bool} where
  pub cover_ready : b ≡ true → LengthsCoverReady {J = J}
      (λ (key : RowsKey K) s. KeepsAccount (fits key.of) b key.seats s)
  cover_ready on key s a r low =
      let z =
      ready_at_home r 0 (length s.homes) s.words s.homes (omega arith) low
      (λ i near. let el = a.each i near in (el.0, el.1.0, el.1.1)) in
      let d = a.lengths on r (omega arith) in
      omega arith

  pub are_bounded : b ≡ true → LengthsAreBounded {J = J}
      (λ (key : RowsKey K) s. KeepsAccount (fits key.of) b key.seats s)
  are_bounded on key s a r low =
      let z = row_small r 0 s.homes (omega arith) in
      let d = a.lengths on r (omega arith) in
      let e = owed_few s a r in
      omega arith

module _ {J : Type 0} {F : ℕ → J → Type 0} {b : Bool} where
  -- a look changes the notes alone
  pub look_keeps : {c : ℕ} → b ≡ true → (n id : ℕ) (me : Sat J) (k row : ℕ) → row < n / 1024
      → k ≡ length_word n row → 0 < me.0.parts
      → Allows (KeepsAccount F b c) n id me k (λ y. y) (looks c (step n k 0 0 none) me)
  look_keeps {c} on n id me k row low is live s r wide at _ =
      let t : Notes = looked_at row (get_or s.words k 0) me.0.notes in
      let low' : row < length s.homes / 1024 = subst (λ m. row < m / 1024) (sym wide) low in
      let here : length_word (length s.homes) row ≡ k = ap (λ m. length_word m row) wide ∙ sym is in
      let few : get_or s.words k 0 ≤ 1024 + c =
      subst (λ m. get_or s.words m 0 ≤ 1024 + c) here (are_bounded {K = Unit {0}} (λ _. F) on (record { seats = c; of = tt }) s r row low') in
      (noted me.0 t, keeps, tt, stays s r k id me.0 t live at, (row, is, refl, refl, few))

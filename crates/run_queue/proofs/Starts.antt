-- The account of a table with nothing in it.
use Rattle.std.proofs.Common.{◌≡◌, ℕ, zero, suc, ◌+◌, ◌/◌, ◌^◌, ◌<◌, List, [], ◌∷◌, Option, None, Some}
use Rattle.std.proofs.Common.{length, map, Bool}
use Rattle.std.proofs.Common.{get_or, replicate, sym, refl, ap, ◌∙◌, subst, arith}
use Rattle.std.proofs.lemmas.List.{length-replicate}
use mathlib.Core.Option.{some, some-injective, some-ne-none}
use mathlib.Core.Option as maybe
use lib.ListN.{get_elem?}
use Rattle.atomic_table.specs.Table.{opening}
use Rattle.run_queue.specs.declared.slot_rows.view.View.{View}
use Rattle.run_queue.specs.Bag.{total}
use Rattle.run_queue.specs.Elements.{empty, weight_at_home}
use Rattle.run_queue.specs.Lengths.{length_word, total_at, job_in_row}
use Rattle.run_queue.specs.Views.{fresh, nothing}
use Rattle.run_queue.specs.RowTable.{KeepsAccount}
use Rattle.run_queue.proofs.Options.{no_job_there}

abbrev zeros : ℕ → List ℕ
zeros m = replicate m 0

zeros_at : (m i : ℕ) → get_or (zeros m) i 0 ≡ 0
zeros_at zero i = refl
zeros_at (suc m) zero = refl
zeros_at (suc m) (suc i) = zeros_at m i

module _ (J : Type 0) where
  abbrev homes : ℕ → List (maybe.Option (Option J))
  homes n = map some (replicate n None)

  homes_long : (n : ℕ) → length (homes n) ≡ n
  homes_long zero = refl
  homes_long (suc n) = ap suc (homes_long n)

  home_at : (n i : ℕ) → i < n → get_elem? (homes n) i ≡ some (some None)
  home_at zero i near = absurd (omega arith)
  home_at (suc n) zero near = refl
  home_at (suc n) (suc i) near = home_at n i (omega arith)

  no_job : (n i : ℕ) (x : J) → get_elem? (homes n) i ≡ some (some (Some x)) → ⊥
  no_job zero i x e = some-ne-none (some (Some x)) (sym e)
  no_job (suc n) zero x e =
      no_job_there x (some-injective None (Some x) (some-injective (some None) (some (Some x)) e))
  no_job (suc n) (suc i) x e = no_job n i x e

  none_home : (h : J → ℕ) (n : ℕ) → total (weight_at_home h) (homes n) ≡ 0
  none_home h zero = refl
  none_home h (suc n) =
      let r = none_home h n in
      omega arith

  none_in_row : (r k n : ℕ) → total_at (job_in_row r) k (homes n) ≡ 0
  none_in_row r k zero = refl
  none_in_row r k (suc n) =
      let t = none_in_row r (suc k) n in
      omega arith

  one_view : (c j : ℕ) (v : View J) → get_elem? (fresh c ∷ []) j ≡ some v → v.parts ≡ 0
      → v ≡ nothing
  one_view c zero v e partless =
      let is = some-injective (fresh c) v e in
      let none : c ≡ 0 = ap (λ x. x.parts) is ∙ partless in
      sym is ∙ ap fresh none
  one_view c (suc j) v e partless = absurd (some-ne-none v (sym e))

  pub starts : (F : ℕ → J → Type 0) (b : Bool) (c m n : ℕ) → length_word n (n / 1024) < m → n + c < 2 ^ 33
      → KeepsAccount {J = J} F b c (opening (zeros m) (replicate n None) (fresh c))
  starts F b c m n long few =
      let a : length (homes n) ≡ n = homes_long n in
      let z : length (zeros m) ≡ m = length-replicate m 0 in record {
        long = subst (λ k. length_word k (k / 1024) < length (zeros m)) (sym a) (omega arith);
        few = omega arith;
        fit = λ i x e. absurd (no_job n i x e);
        each = λ i near. (empty, (zeros_at m i, home_at n i (omega arith), refl));
        lengths = λ on r low.
            let d = none_in_row r 0 n in
            zeros_at m (length_word (length (homes n)) r) ∙ (omega arith);
        balance = λ h. let c = none_home h n in omega arith;
        whole = omega arith;
        spent = one_view c;
      }

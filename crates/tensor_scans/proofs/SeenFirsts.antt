-- What is known of lines of which one value more was seen.
use Rattle.std.proofs.Common.{◌≡◌, ℕ, ℤ, pos, ◌+◌, ◌<◌, ◌^◌, List, length, get_or, set, inl, inr}
use Rattle.std.proofs.Common.{ap, sym, subst, ◌∙◌, arith, false}
use Rattle.std.specs.Int.{w64}
use Rattle.std.proofs.lemmas.Bool.{cases_eq}
use Rattle.std.proofs.lemmas.Int.{to_z_pos}
use Rattle.std.proofs.lemmas.List.{get_or-set_same, get_or-set_other}
use mir.Val.{of_z, to_z}
use Rattle.tensor_scans.specs.Lines.{first_place, is_cumulative}
use Rattle.tensor_scans.specs.Progress.{IsProgress}
use Rattle.tensor_scans.specs.private.Firsts.{IsSeen}
use Rattle.tensor_scans.specs.declared.operation.LineOperation.{LineOperation}
use Rattle.tensor_scans.specs.declared.progress.Progress.{Progress}

module _ (o : LineOperation) (xs : List ℤ) (best first : ℤ) (p : Progress)
    (single : is_cumulative o ≡ false) where
  -- it is the progress of the operation
  pub progress-seen : IsSeen o xs best first → p.combined ≡ best → p.first ≡ of_z w64 first
      → p.count ≡ length xs → IsProgress o xs p
  progress-seen seen combined is count =
      let here : p.first ≡ first_place best xs = is ∙ ap (of_z w64) seen.place in
      record {
        combined = combined ∙ seen.combined;
        count = count;
        first = λ _. here ∙ ap (λ v. first_place v xs) (sym combined);
        stands = λ _ some. omega (arith, here, seen.stands some);
      }

  -- and the other way round
  pub seen-progress : IsProgress o xs p → best ≡ p.combined → first ≡ to_z w64 p.first
      → p.first < 2 ^ 63 → IsSeen o xs best first
  seen-progress known combined is small =
      let here : p.first ≡ first_place best xs =
      known.first single ∙ ap (λ v. first_place v xs) (sym combined) in
      record {
        combined = combined ∙ known.combined;
        place = is ∙ to_z_pos w64 p.first small ∙ ap pos here;
        stands = λ some. omega (arith, here, known.stands single some);
      }

-- one place more of two lists, of whose values something holds
pub both-more : (R : ℕ → ℤ → ℤ → Type 0) (vs ws : List ℤ) (i : ℕ) (x y : ℤ)
    → i < length vs → i < length ws → R i x y
    → ((k : ℕ) → k < i → R k (get_or vs k (pos 0)) (get_or ws k (pos 0)))
    → (k : ℕ) → k < i + 1 → R k (get_or (set vs i x) k (pos 0)) (get_or (set ws i y) k (pos 0))
both-more R vs ws i x y in_vs in_ws here before k below =
    elim (cases_eq k i) [
      | inl same ↦
          subst (λ n. R n (get_or (set vs i x) n (pos 0)) (get_or (set ws i y) n (pos 0))) (sym same)
          (rw (get_or-set_same vs i x (pos 0) in_vs, get_or-set_same ws i y (pos 0) in_ws) here)
      | inr other ↦
          rw (get_or-set_other vs i k x (pos 0) other, get_or-set_other ws i k y (pos 0) other)
          (before k (omega (arith, other)))
    ]

use Rattle.std.proofs.Common.{◌≡◌, ℕ, ℤ, pos, ◌<◌, ◌^◌, List, [], ◌∷◌, ◌++◌, length}
use Rattle.std.proofs.Common.{rules, ap, sym, subst, ◌∙◌, arith}
use Rattle.std.specs.Int.{w64}
use Rattle.std.proofs.lemmas.Int.{to_z-of_z}
use Rattle.std.proofs.lemmas.List.{length-set, length_push, get_or-set_other}
use mir.Val.{SFits, of_z, to_z}
use Rattle.tensor_values.specs.Values.{value_in}
use Rattle.tensor_scans.specs.Progress.{IsProgress}
use Rattle.tensor_scans.specs.declared.progress.Progress.{Progress}
use Rattle.tensor_scans.specs.private.Firsts.{IsSeen}
use Rattle.tensor_scans.proofs.SeenFirsts.{progress-seen, seen-progress, both-more}
use Rattle.tensor_scans.proofs.located.by_rows.take_row.Goals as goal

pub loop-k-preserved : goal.loop-k-preserved
loop-k-preserved c =
    let inv = c.loop-k.invariant in
    let o = c.args.operation in
    let k = c.loop-k.k in
    let bests = c.loop-k.best in
    let firsts = c.loop-k.firsts in
    let row : ℕ → ℤ = value_in c.args.row.values.now in
    let q = c.after-after.result in
    let fits_best : SFits w64 (value_in bests k) = search rules in
    let fits_first : SFits w64 (value_in firsts k) = search rules in
    let fits_row : SFits w64 (row k) = search rules in
    let fits_combined : SFits w64 q.combined = search rules in
    let fits_place : SFits w64 c.cast_signed.result = search rules in
    let best : ℤ = value_in c.args.best.now k in
    let first : ℤ = value_in c.args.firsts.now k in
    let p : Progress = record {
      combined = to_z w64 (of_z w64 (value_in bests k));
      first = c.cast_unsigned.result;
      count = c.args.row.number;
    } in
    let same_best : p.combined ≡ best =
    to_z-of_z w64 (value_in bests k) fits_best ∙ inv.best_rest k (omega arith) in
    let same_first : p.first ≡ of_z w64 first =
    c.cast_unsigned.ensures
    ∙ ap (of_z w64) (to_z-of_z w64 (value_in firsts k) fits_first ∙ inv.firsts_rest k (omega arith)) in
    let x : ℤ = to_z w64 (of_z w64 q.combined) in
    let y : ℤ = to_z w64 (of_z w64 c.cast_signed.result) in
    let R : ℕ → ℤ → ℤ → Type 0 = λ j best first. (xs : List ℤ) → length xs ≡ c.args.row.number
    → IsSeen o xs (value_in c.args.best.now j) (value_in c.args.firsts.now j)
    → IsSeen o (xs ++ row j ∷ []) best first in
    let here : R k x y = λ xs long seen.
    let before = progress-seen o xs best first p c.requires.single seen same_best same_first (sym long) in
    let known : IsProgress o (xs ++ row k ∷ []) q =
    subst (λ v. IsProgress o (xs ++ v ∷ []) q) (to_z-of_z w64 (row k) fits_row)
    (c.after-after.ensures xs before) in
    let more = length_push xs (row k) in
    let small : q.first < 2 ^ 63 =
    omega (arith, known.stands c.requires.single (omega (arith, more)), more, long, c.requires.few) in
    seen-progress o (xs ++ row k ∷ []) x y q c.requires.single known
    (to_z-of_z w64 q.combined fits_combined)
    (to_z-of_z w64 c.cast_signed.result fits_place ∙ c.cast_signed.ensures) small in
    let in_best : k < length bests = omega (arith, inv.best) in
    let in_firsts : k < length firsts = omega (arith, inv.firsts) in
    record {
      best = length-set bests k x ∙ inv.best;
      firsts = length-set firsts k y ∙ inv.firsts;
      each = both-more R bests firsts k x y in_best in_firsts here inv.each;
      best_rest = λ j behind. get_or-set_other bests k j x (pos 0) (omega arith) ∙ inv.best_rest j (omega arith);
      firsts_rest = λ j behind. get_or-set_other firsts k j y (pos 0) (omega arith) ∙ inv.firsts_rest j (omega arith);
    }

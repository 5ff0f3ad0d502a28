use Rattle.std.proofs.Common.{◌≡◌, ℕ, ℤ, List, ◌+◌, ◌*◌, ◌≤◌, ◌++◌, length, map, rules, ap, ◌∙◌}
use Rattle.std.proofs.Common.{arith}
use Rattle.std.proofs.lemmas.Int.{to_z-of_z}
use Rattle.std.proofs.lemmas.Nat.{column_fits}
use Rattle.std.specs.Int.{w64}
use Rattle.std.specs.List.{between, range_with_len}
use mir.Val.{SFits}
use Rattle.tensor_loops.specs.Folds.{folded, run_folded}
use Rattle.tensor_values.specs.Values.{value_in}
use Rattle.tensor_loops.proofs.RunValues.{run-between}
use Rattle.tensor_values.proofs.Runs.{run-more}
use Rattle.tensor_loops.proofs.folds.add_each.Goals as goal

pub loop-index-preserved : goal.loop-index-preserved
loop-index-preserved g c =
    let r = c.args.reducer in
    let values = c.args.values.now in
    let run = c.args.run in
    let index = c.loop-index.index in
    let inv = c.loop-index.invariant in
    let within : run * index + run ≤ length values =
    omega (arith, column_fits run index run c.args.count (omega arith) (omega arith)) in
    let part = between (run * index) (run * index + run) values in
    let fits_unit : SFits w64 c.unit.result = search rules in
    let fits : SFits w64 c.all_with-all.result = search rules in
    let made = simp to_z-of_z at c.all_with-all.ensures in
    let all : c.all_with-all.result ≡ run_folded r (value_in values) run index =
    made ∙ ap (λ x. folded r x (value_in part) (length part)) c.unit.ensures
    ∙ run-between r values run index within in
    let pushed = simp to_z-of_z at c.push_reserved.ensures.items in
    let f : ℕ → ℤ = run_folded r (value_in values) run in
    let so_far : ℕ → List ℤ = λ n. c.args.combined.now.items ++ map f (range_with_len 0 n) in
    record {
      items = run-more f 0 index c.args.combined.now.items _ _ (omega arith)
          (inv.items ∙ ap so_far (omega arith)) (rw (← all) pushed)
          ∙ ap so_far (omega arith);
      len = omega arith;
      capacity = c.push_reserved.ensures.capacity ∙ inv.capacity;
    }

use Rattle.std.proofs.Common.{◌≡◌, ◌-◌, [], rules, ap, ◌∙◌, arith}
use Rattle.std.proofs.lemmas.Int.{to_z-of_z}
use Rattle.std.specs.Int.{w64}
use mir.Val.{SFits}
use Rattle.tensor_ops.specs.private.InRuns.{run_part, run_whole}
use Rattle.tensor_values.proofs.Runs.{run-more}
use Rattle.tensor_ops.proofs.part_evaluator.in_runs.InRuns.one_by_one.Goals as goal

pub loop-place-preserved : goal.loop-place-preserved
loop-place-preserved g c =
    let s = c.args.self.now in
    let place = c.loop-place.place in
    let fits : SFits w64 c.in_ok-value.value = search rules in
    let pushed = simp to_z-of_z at c.in_ok-push.ensures.items in
    let long : c.length.result - 0 ≡ c.length.result = omega arith in
    let all : c.in_ok-value.value ≡ run_whole s place =
    c.in_ok-value.ensures ∙ ap (run_part s place 0) long ∙ ap (run_part s place 0) c.length.ensures in
    run-more (run_whole s) c.args.first place [] _ _ (omega arith) c.loop-place.invariant
    (rw (← all) pushed)

use Rattle.std.proofs.Common.{ℕ, ℤ, pos, ◌+◌, ◌-◌, ◌≤◌, length, ap, ◌∙◌, arith}
use Rattle.std.proofs.lemmas.List.Edits.{get_or-between}
use Rattle.tensor_scans.specs.private.Rows.{running_at}
use Rattle.tensor_scans.proofs.Scans.{running-follows}
use Rattle.tensor_scans.proofs.Written.{length-part, length-written, value_in-written}
use Rattle.tensor_values.specs.Combining.{combine}
use Rattle.tensor_values.specs.Values.{value_in}
use Rattle.tensor_scans.proofs.scanned.Block.fill_rows.Goals as goal

pub loop-done-preserved : goal.loop-done-preserved
loop-done-preserved c =
    let inv = c.loop-done.invariant in
    let r = c.args.reducer in
    let s = c.args.self.stride in
    let f : ℕ → ℤ = value_in c.args.self.values.now in
    let done = c.loop-done.done in
    let count = c.min-count.result in
    let out = c.loop-done.out in
    let part = c.fold_rows.new.out in
    let same = c.fold_rows.ensures.len in
    let room : done ≤ length out = omega arith in
    let n : ℕ = done + count - done in
    let long = length-part done n out part room same (omega arith) in
    record {
      long = length-written done n out part room same ∙ inv.long;
      within = omega arith;
      each = value_in-written done n out part room
          (λ k. running_at r s f (c.args.from + k)) count (omega (arith, long)) inv.each
          (λ k inside. c.fold_rows.ensures.each k (omega (arith, same, long))
          ∙ ap (running_at r s f) (omega arith));
    }

pub returns-clause-each : goal.returns-clause-each
returns-clause-each c =
    let inv = c.loop-done.invariant in
    let r = c.args.reducer in
    let s = c.args.self.stride in
    let from = c.args.from in
    let block = c.args.self.values.now in
    let g : ℕ → ℤ = value_in c.follow.new.out in
    running-follows r s (value_in block) g from (length c.args.out.now) c.args.self.some
    (λ k early inside. c.follow.ensures.first k early ∙ inv.each k (omega arith))
    (λ k inside. c.follow.ensures.next k (omega (arith, inv.long))
    ∙ ap (combine r (g k)) (get_or-between block from (length block) (k + s) (pos 0) (omega arith)))

use Rattle.std.proofs.Common.{◌≡◌, ℕ, ℤ, pos, ◌+◌, ◌-◌, ◌*◌, ◌<◌, ◌≤◌, length, ap, ◌∙◌, arith}
use Rattle.std.proofs.Math.Nat.{lt_of_mul-lt-mul_right}
use Rattle.std.proofs.lemmas.List.Edits.{get_or-between}
use Rattle.std.specs.List.{between}
use Rattle.tensor_scans.specs.private.Rows.{cumulated_at}
use Rattle.tensor_scans.proofs.Rows.{block_fits}
use Rattle.tensor_scans.proofs.Scans.{running-block}
use Rattle.tensor_scans.proofs.Written.{length-part, length-written, value_in-written}
use Rattle.tensor_values.specs.Values.{value_in}
use Rattle.tensor_scans.proofs.along.AlongLines.fill_cumulative.Goals as goal

-- a place of the result has a block
block-below : (s d n block from p : ℕ) → p ≡ block * (s * d) + from → p < s * d * n → block < n
block-below s d n block from p at below =
    lt_of_mul-lt-mul_right (s * d) {m = block} {n = n} (omega arith)

pub slice_bounds-values-end : goal.slice_bounds-values-end
slice_bounds-values-end c =
    let lines = c.args.self.lines in
    let block = c.loop-done.block in
    let at = c.loop-done.invariant.here c.loop-done-test.true in
    let below : block < lines.blocks =
    block-below lines.stride lines.length lines.blocks block c.loop-done.from
    (c.args.first + c.loop-done.done) at (omega (arith, c.requires)) in
    omega (arith, block_fits lines.stride lines.length lines.blocks block below)

pub loop-done-preserved : goal.loop-done-preserved
loop-done-preserved c =
    let inv = c.loop-done.invariant in
    let lines = c.args.self.lines in
    let s = lines.stride in
    let d = lines.length in
    let r = c.args.reducer in
    let first = c.args.first in
    let block = c.loop-done.block in
    let from = c.loop-done.from in
    let done = c.loop-done.done in
    let count = c.min-count.result in
    let out = c.loop-done.out in
    let part = c.fill.new.out in
    let same = c.fill.ensures.len in
    let values = c.args.self.values.now in
    let f : ℕ → ℤ = value_in values in
    let at = inv.here c.loop-done-test.true in
    let start : ℕ = block * (s * d) in
    let room : done ≤ length out = inv.within in
    let n : ℕ = done + count - done in
    let long = length-part done n out part room same (omega arith) in
    record {
      long = length-written done n out part room same ∙ inv.long;
      within = omega (arith, length-written done n out part room same);
      from = omega (arith, inv.from);
      here = λ more. grind arith;
      each = value_in-written done n out part room
          (λ k. cumulated_at r lines f (first + k)) count (omega (arith, long)) inv.each
          (λ k inside. c.fill.ensures.each k (omega (arith, same, long))
          ∙ running-block r lines f (value_in (between start (start + s * d) values)) block (from + k)
          (omega arith) (λ j below. get_or-between values start (start + s * d) j (pos 0) (omega arith))
          ∙ ap (cumulated_at r lines f) (omega (arith, at)));
    }

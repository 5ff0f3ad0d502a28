use Rattle.std.proofs.Common.{◌+◌, ◌≤◌, length, ◌∙◌, le_trans, le-add_right, arith}
use Rattle.tensor_ops.specs.private.Meaning.{meaning}
use Rattle.tensor_kernels.proofs.Parts.{length-written, get_or-written}
use Rattle.tensor_ops.proofs.lowered.Lowered.fill.Goals as goal

pub loop-place-preserved : goal.loop-place-preserved
loop-place-preserved c =
    let first = c.args.first in
    let place = c.loop-place.place in
    let count = c.min-count.result in
    let out = c.loop-place.out in
    let part = c.fill_piece.new.out in
    let l = c.loop-place.invariant in
    let below : place + count ≤ c.args.last = omega (arith, c.min-count.ensures, c.loop-place-test.true) in
    let within : place + count ≤ first + length out = omega (arith, below, l.len, c.requires.long, c.requires.order) in
    record {
      above = le_trans l.above (le-add_right place count);
      below = below;
      len = length-written first place count out part l.above within c.fill_piece.ensures.len
          ∙ l.len;
      each = get_or-written first place count out part l.above within c.fill_piece.ensures.len
          (meaning c.args.self.now) l.each c.in_ok-fill_piece.ensures.each;
    }

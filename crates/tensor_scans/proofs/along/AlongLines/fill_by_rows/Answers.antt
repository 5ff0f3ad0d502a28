use Rattle.std.proofs.Common.{ℕ, ℤ, ◌+◌, ◌-◌, ◌≤◌, length, drop, ap, ◌∙◌, arith}
use Rattle.std.proofs.Common.{length-append, length-drop, length-take}
use Rattle.tensor_scans.specs.Places.{along_at}
use Rattle.tensor_values.specs.Values.{value_in}
use Rattle.tensor_scans.proofs.LineReads.{fewer_lines}
use Rattle.tensor_scans.proofs.Written.{length-part, length-written, value_in-written}
use Rattle.tensor_scans.proofs.along.AlongLines.fill_by_rows.Goals as goal

pub overflow_add-place : goal.overflow_add-place
overflow_add-place c = omega (arith, c.min-count.ensures, fewer_lines c.args.self.lines c.requires.some)

pub loop-place-preserved : goal.loop-place-preserved
loop-place-preserved c =
    let inv = c.loop-place.invariant in
    let first = c.args.first in
    let place = c.loop-place.place in
    let count = c.min-count.result in
    let out = c.loop-place.out in
    let bests = c.loop-place.best in
    let part = c.fill_group.new.out in
    let a : ℕ = place - first in
    let values = value_in c.args.self.values.now in
    let f : ℕ → ℤ = λ p. along_at c.args.self.operation c.args.self.lines values p in
    let below : place + count ≤ first + length c.args.out.now = omega (arith, c.min-count.ensures) in
    let n : ℕ = a + count - a in
    let room : a ≤ length out = omega (arith, inv.above, inv.len, below) in
    let same = c.fill_group.ensures.len in
    let long = length-part a n out part room same (omega (arith, inv.above, inv.len, below)) in
    record {
      above = omega (arith, inv.above);
      below = below;
      room = omega (
        arith,
        length-append c.fill_group.new.best (drop count bests),
        length-take count bests,
        length-drop count bests,
        c.min.ensures,
        c.min-count.ensures,
        c.fill_group.auto.best,
        inv.room,
      );
      len = length-written a n out part room same ∙ inv.len;
      each = λ k few.
          value_in-written a n out part room (λ j. f (first + j)) count (omega (arith, long)) inv.each
          (λ j inside.
          c.fill_group.ensures.each j (omega (arith, inside, same, long))
          ∙ ap f (omega (arith, inv.above)))
          k (omega (arith, few));
    }

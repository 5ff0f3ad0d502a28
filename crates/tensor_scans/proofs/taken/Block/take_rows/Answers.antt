use Rattle.std.proofs.Common.{◌≡◌, ◌+◌, ◌-◌, length, rules, ◌∙◌, arith}
use Rattle.std.proofs.lemmas.Int.{to_z-of_z}
use Rattle.std.proofs.lemmas.List.Edits.{length-between}
use Rattle.std.specs.Int.{w64}
use mir.Val.{SFits}
use Rattle.tensor_scans.specs.private.Rows.{taken_in}
use Rattle.tensor_values.specs.Values.{value_in}
use Rattle.tensor_scans.proofs.TakenRows.{taken_in-row, taken_in-line}
use Rattle.tensor_scans.proofs.Written.{length-written, value_in-written}
use Rattle.tensor_scans.proofs.taken.Block.take_rows.Goals as goal

pub loop-number-preserved : goal.loop-number-preserved
loop-number-preserved c =
    let inv = c.loop-number.invariant in
    let lines = c.args.self.lines in
    let numbers = c.args.numbers.now in
    let out = c.loop-number.out in
    let done = c.loop-number.done in
    let index = c.loop-number.number-index in
    let width = lines.stride in
    let new = c.put_row.new.out in
    let kept = length-written done (done + width - done) out new inv.within c.put_row.ensures.len in
    let long : length new ≡ width = c.put_row.ensures.len
    ∙ length-between out done (done + width) (omega arith) ∙ omega arith in
    let fits : SFits w64 (value_in numbers index) = search rules in
    let now = simp to_z-of_z at c.put_row.ensures.each in
    record {
      rows = grind arith;
      within = omega (arith, kept);
      len = kept ∙ inv.len;
      each = value_in-written done (done + width - done) out new inv.within
          (taken_in lines numbers (value_in c.args.self.values.now)) width (omega (arith, long)) inv.each
          (λ k below. now k (omega (arith, long, c.put_row.ensures.len))
          ∙ taken_in-row lines numbers (value_in c.args.self.values.now) (0 + k) index (done + k) (omega arith) (omega arith));
    }

pub returns-then-out-done-clause-each : goal.returns-then-out-done-clause-each
returns-then-out-done-clause-each c =
    let inv = c.loop-number.invariant in
    let lines = c.args.self.lines in
    let numbers = c.args.numbers.now in
    let out = c.loop-number.out in
    let done = c.loop-number.done in
    let index = c.loop-number.number-index in
    let new = c.put_part.new.out in
    let kept = length-written done (length out - done) out new inv.within c.put_part.ensures.len in
    let long : length new ≡ length out - done = c.put_part.ensures.len
    ∙ length-between out done (length out) (omega arith) in
    let fits : SFits w64 (value_in numbers index) = search rules in
    let now = simp to_z-of_z at c.put_part.ensures.each in
    λ k below. value_in-written done (length out - done) out new inv.within
    (taken_in lines numbers (value_in c.args.self.values.now)) (length out - done) (omega (arith, long)) inv.each
    (λ k below. now k (omega (arith, long, c.put_part.ensures.len))
    ∙ taken_in-row lines numbers (value_in c.args.self.values.now) (0 + k) index (done + k) (omega arith) (omega arith))
    k (omega (arith, kept))

pub returns-then-stride-eq1-clause-each : goal.returns-then-stride-eq1-clause-each
returns-then-stride-eq1-clause-each c = λ k below.
    c.take_each.ensures.each k below
    ∙ taken_in-line c.args.self.lines c.args.numbers.now c.args.self.values.now k (omega arith) (grind arith)

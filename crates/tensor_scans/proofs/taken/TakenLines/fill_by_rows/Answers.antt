use Rattle.std.proofs.Common.{◌≡◌, ℕ, pos, ◌+◌, ◌-◌, ◌*◌, length, min, ap, ◌∙◌, arith}
use Rattle.std.proofs.lemmas.List.Edits.{get_or-between, length-between}
use Rattle.std.specs.List.{between}
use Rattle.tensor_scans.specs.Places.{taken_at}
use Rattle.tensor_values.specs.Values.{value_in}
use Rattle.tensor_scans.proofs.Rows.{block_fits}
use Rattle.tensor_scans.proofs.Steps.{block-below, block-within, next_block}
use Rattle.tensor_scans.proofs.TakenRows.{taken_at-rows}
use Rattle.tensor_scans.proofs.Written.{length-written, value_in-written}
use Rattle.tensor_scans.proofs.taken.TakenLines.fill_by_rows.Goals as goal

pub overflow_mul-width : goal.overflow_mul-width
overflow_mul-width c =
    let lines = c.args.self.lines in
    omega (arith, block-within lines.stride (length c.args.self.numbers.now) lines.length lines.blocks c.args.first (omega arith))

pub overflow_mul-from : goal.overflow_mul-from
overflow_mul-from c =
    let lines = c.args.self.lines in
    let l = c.loop-done in
    let at = l.invariant.at c.loop-done-test.true in
    let inside = block-below lines.stride (length c.args.self.numbers.now) l.block l.column l.j
    (c.args.first + l.done) at lines.blocks (omega arith) in
    omega (arith, block_fits lines.stride lines.length lines.blocks l.block inside)

pub overflow_add-values : goal.overflow_add-values
overflow_add-values c =
    let lines = c.args.self.lines in
    let l = c.loop-done in
    let at = l.invariant.at c.loop-done-test.true in
    let inside = block-below lines.stride (length c.args.self.numbers.now) l.block l.column l.j
    (c.args.first + l.done) at lines.blocks (omega arith) in
    omega (arith, block_fits lines.stride lines.length lines.blocks l.block inside)

pub offset_bounds-self-from : goal.offset_bounds-self-from
offset_bounds-self-from c =
    let lines = c.args.self.lines in
    let l = c.loop-done in
    let at = l.invariant.at c.loop-done-test.true in
    let inside = block-below lines.stride (length c.args.self.numbers.now) l.block l.column l.j
    (c.args.first + l.done) at lines.blocks (omega arith) in
    omega (arith, block_fits lines.stride lines.length lines.blocks l.block inside)

pub slice_bounds-values-end : goal.slice_bounds-values-end
slice_bounds-values-end c =
    let lines = c.args.self.lines in
    let l = c.loop-done in
    let at = l.invariant.at c.loop-done-test.true in
    let inside = block-below lines.stride (length c.args.self.numbers.now) l.block l.column l.j
    (c.args.first + l.done) at lines.blocks (omega arith) in
    omega (arith, block_fits lines.stride lines.length lines.blocks l.block inside)

pub overflow_add-block : goal.overflow_add-block
overflow_add-block c =
    let lines = c.args.self.lines in
    let l = c.loop-done in
    let at = l.invariant.at c.loop-done-test.true in
    let inside = block-below lines.stride (length c.args.self.numbers.now) l.block l.column l.j
    (c.args.first + l.done) at lines.blocks (omega arith) in
    omega arith

pub loop-done-preserved : goal.loop-done-preserved
loop-done-preserved c =
    let inv = c.loop-done.invariant in
    let lines = c.args.self.lines in
    let numbers = c.args.self.numbers.now in
    let values = c.args.self.values.now in
    let out = c.loop-done.out in
    let done = c.loop-done.done in
    let block = c.loop-done.block in
    let column = c.loop-done.column in
    let j = c.loop-done.j in
    let p : ℕ = c.args.first + done in
    let at = inv.at c.loop-done-test.true in
    let width : ℕ = lines.stride * lines.length in
    let part = between (block * width) (block * width + width) values in
    let n = c.take_from-done.result in
    let new = c.take_from-done.new.out in
    let kept = length-written done (length out - done) out new inv.within c.take_from-done.ensures.len in
    let rest : length (between j (length numbers) numbers) ≡ length numbers - j =
    length-between numbers j (length numbers) (omega arith) in
    let count : n ≡ min (lines.stride * (length numbers - j) - column) (length out - done) =
    c.take_from-done.ensures.count
    ∙ ap (λ (k : ℕ). min (lines.stride * k - column) (length (between done (length out) out))) rest
    ∙ ap (λ (k : ℕ). min (lines.stride * (length numbers - j) - column) k)
    (length-between out done (length out) (omega arith)) in
    record {
      within = omega (arith, kept, count);
      len = kept ∙ inv.len;
      at = λ more. next_block lines.stride (length numbers) block column j p at
          (c.args.first + (done + n)) (omega (arith, kept, count));
      each = value_in-written done (length out - done) out new inv.within
          (λ k. taken_at lines numbers (value_in values) (c.args.first + k)) n (omega arith) inv.each
          (λ k below. c.take_from-done.ensures.each k below
          ∙ taken_at-rows lines numbers (value_in values) (value_in part) block column j p k at
          (λ q inside. get_or-between values (block * width) (block * width + width) q (pos 0) (omega arith))
          (omega (arith, count))
          ∙ ap (taken_at lines numbers (value_in values)) (omega arith));
    }

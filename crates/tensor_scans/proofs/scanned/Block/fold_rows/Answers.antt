use Rattle.std.proofs.Common.{◌≡◌, ℕ, ℤ, pos, ◌+◌, ◌*◌, ◌/◌, ◌%◌, ◌<◌, length, ap, sym, ◌∙◌, arith}
use Rattle.std.proofs.lemmas.List.Edits.{get_or-between}
use Rattle.std.specs.List.{between}
use Rattle.tensor_scans.specs.private.Rows.{rows_combined}
use Rattle.tensor_scans.proofs.Scans.{rows-more, running-row}
use Rattle.tensor_values.specs.Combining.{combine}
use Rattle.tensor_values.specs.Values.{value_in}
use Rattle.tensor_scans.proofs.scanned.Block.fold_rows.Goals as goal

pub loop-row-preserved : goal.loop-row-preserved
loop-row-preserved c =
    let inv = c.loop-row.invariant in
    let r = c.args.reducer in
    let s = c.args.self.stride in
    let block = c.args.self.values.now in
    let f : ℕ → ℤ = value_in block in
    let row = c.loop-row.row in
    let first : ℕ = c.args.from % s in
    let start : ℕ = first + row * s in
    let end : ℕ = start + length c.loop-row.out in
    record {
      long = c.fold_row.ensures.len ∙ inv.long;
      each = λ k below.
          let inside : k < length c.loop-row.out = omega (arith, c.fold_row.ensures.len, below) in
          c.fold_row.ensures.each k inside
          ∙ ap (λ y. combine r y (value_in (between start end block) k)) (inv.each k inside)
          ∙ ap (combine r (rows_combined r s f (first + k) row))
          (get_or-between block start end k (pos 0) (omega arith) ∙ ap f (grind arith))
          ∙ sym (rows-more r s f (first + k) row);
    }

pub returns-clause-each : goal.returns-clause-each
returns-clause-each c = λ k below.
    let r = c.args.reducer in
    let s = c.args.self.stride in
    let f : ℕ → ℤ = value_in c.args.self.values.now in
    let from = c.args.from in
    let all : c.loop-row.row ≡ from / s + 1 = omega arith in
    c.loop-row.invariant.each k (omega arith)
    ∙ ap (rows_combined r s f (from % s + k)) all
    ∙ running-row r s f from k (omega arith)

use Rattle.std.proofs.Common.{ℕ, pos, ◌+◌, length, ap, sym, ◌∙◌, arith}
use Rattle.std.proofs.lemmas.Int.{to_z-of_z}
use Rattle.std.proofs.lemmas.List.{get_or-replicate}
use Rattle.std.proofs.lemmas.List.Edits.{get_or-between}
use Rattle.std.proofs.lemmas.Nat.{row_fits_turned}
use Rattle.std.specs.Prelude.{unsigned_abs}
use Rattle.tensor_values.specs.Values.{value_in}
use Rattle.tensor_scans.proofs.TakenRows.{is_row, taken-some, taken-none}
use Rattle.tensor_scans.proofs.taken.Block.put_row.Goals as goal

pub slice_bounds-copy_from_slice-end : goal.slice_bounds-copy_from_slice-end
slice_bounds-copy_from_slice-end c =
    let lines = c.args.self.lines in
    let fits = c.ranges.number in
    let found = simp to_z-of_z at c.in-Some.ensures in
    let row = is_row lines c.args.number c.in-Some.row (sym found) in
    omega (
      arith,
      row_fits_turned (unsigned_abs c.args.number) lines.stride lines.stride lines.length row.below
          (omega arith),
    )

pub returns-in-Some-clause-each : goal.returns-in-Some-clause-each
returns-in-Some-clause-each c = λ k below.
    let block = c.args.self.values.now in
    let column = c.args.column in
    let row = c.in-Some.row in
    let from : ℕ = row + column in
    let fits = c.ranges.number in
    let found = simp to_z-of_z at c.in-Some.ensures in
    ap (λ l. value_in l k) c.copy_from_slice.ensures.after
    ∙ get_or-between block from (from + length c.args.out.now) k (pos 0) (omega arith)
    ∙ ap (value_in block) (omega arith)
    ∙ sym (taken-some c.args.self.lines (value_in block) c.args.number row (column + k) (sym found))

pub returns-in-None-clause-each : goal.returns-in-None-clause-each
returns-in-None-clause-each c = λ k below.
    let fits = c.ranges.number in
    let found = simp to_z-of_z at c.in-None.ensures in
    ap (λ l. value_in l k) (c.fill.ensures.after (λ y same. same))
    ∙ get_or-replicate _ k _ (pos 0) below
    ∙ sym (taken-none c.args.self.lines (value_in c.args.self.values.now) c.args.number (c.args.column + k) (sym found))

use Rattle.std.proofs.Common.{◌≡◌, ℕ, ◌+◌, ◌<◌, List, [], length, drop, slice_index_or, Bor, ap, if◌then◌else◌, Some, arith}
use Rattle.std.specs.Str.{bytes_eq}
use Rattle.std.proofs.lemmas.List.{drop_more}
use Rattle.expr_reader.specs.declared.operation.Operation.{Operation}
use Rattle.expr_reader.specs.declared.operation.Operation.TheVariants.{One}
use Rattle.expr_reader.specs.declared.operation.Unary.TheVariants.{Each}
use Rattle.expr_reader.specs.Profile.{operation_named}
use Rattle.expr_reader.specs.private.Version.{operation_under, table_under}
use Rattle.tensor_ops.specs.UnaryScalar.TheVariants.{Neg}
use Rattle.expr_reader.proofs.version.operation_in.Goals as goal

-- what the row at an index says of the rows from there on
named_at : (name : List ℕ) (rows : List (Bor (List ℕ) × Operation)) (k : ℕ) (d : Bor (List ℕ) × Operation)
    → k < length rows → operation_named name (table_under (drop k rows))
    ≡ (if bytes_eq name (slice_index_or rows k d).0.now then Some (operation_under (slice_index_or rows k d).1)
    else operation_named name (table_under (drop (k + 1) rows)))
named_at name rows k d inside = ap (λ rs. operation_named name (table_under rs)) (drop_more rows k d inside)

abbrev no_row : Bor (List ℕ) × Operation
no_row = (record { ref_ptr = (0, 0); now = [] }, One (Each Neg))

pub returns-then-eq : goal.returns-then-eq
returns-then-eq c =
    let at = named_at c.args.name.now c.args.table.now c.loop-row.row-index no_row (omega (arith, c.loop-row-test.true)) in
    grind (arith, at, c.loop-row.invariant, c.if-eq.true, c.eq.ensures)

pub loop-row-preserved : goal.loop-row-preserved
loop-row-preserved c =
    let at = named_at c.args.name.now c.args.table.now c.loop-row.row-index no_row (omega (arith, c.loop-row-test.true)) in
    grind (arith, at, c.loop-row.invariant, c.if-eq.false, c.eq.ensures)

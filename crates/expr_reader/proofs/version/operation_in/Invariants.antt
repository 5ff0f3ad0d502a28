use Rattle.std.proofs.Common.{◌≡◌, drop}
use Rattle.expr_reader.specs.Profile.{operation_named}
use Rattle.expr_reader.specs.private.Version.{table_under}
use Rattle.expr_reader.proofs.version.operation_in.Given as goal

-- no row before this one has the name
abbrev pub invariant-loop-row : goal.invariant-loop-row
invariant-loop-row l =
    operation_named l.name (table_under l.table)
    ≡ operation_named l.name (table_under (drop l.row-index l.table))

-- How many nodes there may still be.
use Rattle.std.proofs.Common.{◌-◌}
use Rattle.expr_reader.specs.Limits.{widest_nodes}
use Rattle.expr_reader.proofs.expression.+read_expression.Given as goal

abbrev pub decreases-read_expression : goal.decreases-read_expression
decreases-read_expression l = widest_nodes - l.before

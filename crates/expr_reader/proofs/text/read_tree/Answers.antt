use Rattle.std.proofs.Common.{codes}
use Rattle.serde_json.specs.View.{view}
use Rattle.expr_reader.specs.Expression.{expression_at}
use Rattle.expr_reader.specs.Place.{field, way_of}
use Rattle.expr_reader.specs.private.Version.{profile_under}
use Rattle.expr_reader.proofs.Walk.{fault-below}
use Rattle.expr_reader.proofs.text.read_tree.Goals as goal

pub returns-in-Err : goal.returns-in-Err
returns-in-Err c = λ n named.
    fault-below (field (codes "expr")) (expression_at (profile_under c.args.version) n 0 (view c.args.expr.now)) c.in-Err.fault
    (way_of c.read_expression.new.way.items) (c.in-Err.ensures.tree n named)

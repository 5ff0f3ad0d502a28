use Rattle.std.proofs.Common.{arith}
use Rattle.serde_json.specs.View.{view}
use Rattle.expr_reader.proofs.Counted.{member_count-reading}
use Rattle.expr_reader.proofs.text.parse_header.Goals as goal

pub invariant_of-result : goal.invariant_of-result
invariant_of-result c =
    omega (
      arith,
      member_count-reading c.args.header.now (view c.in-Ok.value) c.in-Ok.ensures,
      c.if-header-gt-MAX_TEXT.false,
    )

use Rattle.std.proofs.Common.{arith}
use Rattle.serde_json.specs.View.{view}
use Rattle.expr_reader.proofs.Counted.{member_count-reading}
use Rattle.expr_reader.proofs.text.parse_request.Goals as goal

pub invariant_of-result : goal.invariant_of-result
invariant_of-result c =
    omega (
      arith,
      member_count-reading c.args.text.now (view c.in_ok-value.value) c.in_ok-value.ensures,
      c.if-text-gt-MAX_TEXT.false,
    )

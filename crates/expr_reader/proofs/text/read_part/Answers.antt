use Rattle.std.proofs.Common.{sym, arith}
use Rattle.serde_json.specs.View.{view}
use Rattle.expr_reader.specs.private.Shown.{fields_under}
use Rattle.expr_reader.proofs.Counted.{member_count-fields_of}
use Rattle.expr_reader.proofs.text.read_part.Goals as goal

pub read_fields-requires : goal.read_fields-requires
read_fields-requires c =
    omega (
      arith,
      member_count-fields_of (view c.args.parsed.now.value) (fields_under c.in-Some.fields) (sym c.in-Some.ensures),
      c.args.parsed.now.few,
    )

use Rattle.std.proofs.Common.{pos, replicate}
use Rattle.serde_json.specs.View.{view}
use Rattle.expr_reader.specs.private.Behind.{behind, asked_by}
use Rattle.expr_reader.proofs.Unread.{frame_of_zeroes, told-unlocated}
use Rattle.expr_reader.proofs.text.read_outline.Goals as goal

pub returns-clause-outline : goal.returns-clause-outline
returns-clause-outline c =
    let read = c.in_ok-parsed.ensures.value in
    let value = view c.in_ok-parsed.parsed.value in
    let zeroes = behind (replicate c.args.count (pos 0)) in
    rw (frame_of_zeroes c.args.header.now c.args.count value read.0 read.1)
    (told-unlocated (asked_by zeroes value) _ c.read_value.result c.read_value.ensures.outline)

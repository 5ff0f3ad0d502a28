use Rattle.std.proofs.Common.{sym}
use Rattle.expr_reader.proofs.Unread.{left-zeroes}
use Rattle.expr_reader.proofs.values.Values.without.Goals as goal

pub returns-in-Unread : goal.returns-in-Unread
returns-in-Unread c =
    rw (c.in-Unread.is, c.len-in-Unread.ensures) (sym (left-zeroes c.in-Unread.count c.args.tensor.now))

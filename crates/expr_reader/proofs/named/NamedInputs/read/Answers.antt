use Rattle.std.proofs.Common.{sym, arith}
use Rattle.serde_json.specs.View.{view, members_view}
use Rattle.serde_json.proofs.Views.{members_len-members_view}
use Rattle.expr_reader.proofs.Counted.{members_len-as_object}
use Rattle.expr_reader.proofs.named.NamedInputs.read.Goals as goal

pub read_members-requires-clause-few : goal.read_members-requires-clause-few
read_members-requires-clause-few c =
    let found = c.in-Some.ensures in
    let entries = c.in-Some.members.now.entries in
    omega (arith, members_len-as_object (view c.args.value.now) (members_view entries) (sym found), members_len-members_view entries, c.requires.few)

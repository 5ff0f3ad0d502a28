use Rattle.std.proofs.Common.{eqb, ap, sym, ◌∙◌}
use Rattle.serde_json.specs.View.{view}
use Rattle.serde_json.proofs.Views.{members_len-members_view}
use Rattle.expr_reader.proofs.Data.{has_members-as_object}
use Rattle.expr_reader.proofs.fields.has_members.Goals as goal

pub returns-in-Some : goal.returns-in-Some
returns-in-Some c =
    ap (λ n. eqb n c.args.count) (c.len.ensures.len ∙ sym (members_len-members_view c.in-Some.members.now.entries))
    ∙ sym (has_members-as_object c.args.count (view c.args.value.now) _ (sym c.in-Some.ensures))

use Rattle.std.proofs.Common.{◌≡◌, Some, None, arith}
use Rattle.std.proofs.lemmas.Grind.{common_steps}
use Rattle.std.proofs.lemmas.Map.Text.{btree_map_updates_str}
use Rattle.expr_reader.specs.private.Numbers.{number_in}
use Rattle.expr_reader.proofs.Numbers.{put_new}
use Rattle.expr_reader.proofs.named.put_first.Goals as goal

pub returns-in-Ok-clause-ok : goal.returns-in-Ok-clause-ok
returns-in-Ok-clause-ok c =
    let absent : number_in c.args.numbers.now c.args.name.now ≡ None = grind (arith, common_steps) in
    put_new (number_in c.args.numbers.now) (number_in c.insert.new.self) c.args.name.now c.args.number absent
    (btree_map_updates_str c.args.name.now c.args.numbers.now c.insert.new.self (Some c.args.number) c.in-Ok.ensures.updates)

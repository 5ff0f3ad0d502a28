use Rattle.std.proofs.Common.{sym, ◌∙◌}
use Rattle.frame_server.specs.private.Laws.{parts_in_one_way}
use Rattle.frame_server.proofs.laws.bytes_part_in_one_way.Goals as goal

pub returns : goal.returns
returns c = λ bytes frames others cut other one two.
    parts_in_one_way frames others cut other (sym one.joined ∙ two.joined) one.whole two.whole one.unfinished two.unfinished

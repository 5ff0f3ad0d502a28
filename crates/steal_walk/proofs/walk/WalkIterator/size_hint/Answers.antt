use Rattle.std.proofs.Common.{length, Some, sym, ◌∙◌, ap}
use Rattle.steal_walk.proofs.Visits.{length-rows_of}
use Rattle.steal_walk.proofs.walk.WalkIterator.size_hint.Goals as goal

pub returns : goal.returns
returns c =
    let left = sym (length-rows_of _ _ _ _ _) ∙ ap length c.self.view_is in
    record { exact = ap (λ n. (n, Some n)) left }

use Rattle.std.proofs.Common.{◌-◌, sym, ◌∙◌}
use Rattle.std.proofs.lemmas.List.FromFn.{length-range_with_len}
use Rattle.tensor_views.proofs.places.Places.len.Goals as goal

pub returns-in-Run : goal.returns-in-Run
returns-in-Run c =
    rw c.in-Run.is (c.saturating_sub.ensures ∙ sym (length-range_with_len c.in-Run.first (c.in-Run.last - c.in-Run.first)))

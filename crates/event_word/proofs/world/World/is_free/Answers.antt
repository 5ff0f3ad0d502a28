use Rattle.std.proofs.Common.{◌==◌, ◌<◌, ◌+◌, ◌≡◌, List, length, get_or, position, sym, ap, ◌∙◌}
use Rattle.std.proofs.Common.{subst, arith}
use Rattle.std.specs.Option.{is_some}
use Rattle.event_word.specs.declared.phase.Phase.{Phase}
use Rattle.event_word.specs.declared.phase.Phase.TheVariants.{Running, Ended}
use Rattle.event_word.proofs.Stored.{free_iff}
use Rattle.event_word.proofs.world.World.is_free.Goals as goal

pub returns : goal.returns
returns g c =
    let i = c.self.inside in
    let lt : c.args.actor < length i.phases.items + i.notifiers =
    omega (arith, c.if-place-len.false, c.len.ensures, c.from.ensures, i.phases.ok.0) in
    let runs = subst (λ (xs : List Phase). c.args.actor < length xs
    → get_or xs c.args.actor Ended ≡ Running) c.deref.ensures.value
    (c.runs_if_worker.ensures.0 c.if-not-runs_if_worker.false) in
    let found = ap (λ ds. position (λ d. d.actor == c.args.actor) ds) (sym c.deref-2.ensures.value)
    ∙ sym c.first_owed.ensures in
    free_iff i c.self.invariant _ c.args.actor c.is_none.result c.self.view_is lt runs
    (ap is_some found ∙ c.is_none.ensures)

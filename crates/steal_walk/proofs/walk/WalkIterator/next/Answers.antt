use Rattle.std.proofs.Common.{◌≡◌, ◌+◌, ◌%◌, [], length, arith, sym, ◌∙◌, ap}
use Rattle.steal_walk.specs.Walk.{rows_of}
use Rattle.steal_walk.proofs.Cycle.{place-one, place-one_past}
use Rattle.steal_walk.proofs.Visits.{rows_of-none, rows_of-more}
use Rattle.steal_walk.proofs.walk.WalkIterator.next.Goals as goal
use Rattle.steal_walk.proofs.walk.WalkIterator.next.Goals.{then-self-wraps_from}
use Rattle.steal_walk.proofs.walk.WalkIterator.next.Goals.{else-self-wraps_from}

pub returns-then-self-eq0-clause-steps : goal.returns-then-self-eq0-clause-steps
returns-then-self-eq0-clause-steps c =
    let w = c.self.inside in
    let none : c.args.self.now ≡ [] =
    sym c.self.view_is ∙
    ap (rows_of w.start w.size w.place w.step) c.if-self-eq0.true ∙
    rows_of-none w.start w.size w.place w.step in
    (none, none)

pub returns-clause-steps : goal.returns-clause-steps
returns-clause-steps c =
    let w = c.self.inside in
    let inside = c.self.invariant.inside in
    let short = c.self.invariant.short in
    let on : c.if-self-wraps_from.self ≡ (w.place + w.step) % w.size =
    elim c.if-self-wraps_from.branch [
      | then-self-wraps_from v ↦
          v.self-is ∙ place-one w.size w.place w.step inside short v.if-self-wraps_from.true
      | else-self-wraps_from v ↦
          v.self-is ∙ place-one_past w.size w.place w.step inside short v.if-self-wraps_from.false
    ] in
    sym c.self.view_is ∙
    rows_of-more w.start w.size w.place _ w.step w.left inside on (omega arith)

pub returns-clause-goes : goal.returns-clause-goes
returns-clause-goes c =
    let one_less = ap length (returns-clause-steps c) in
    record { on = λ _. (tt, tt, omega (arith, one_less)); keeps = tt; rests = λ _. tt }

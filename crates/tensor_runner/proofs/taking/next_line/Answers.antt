use Rattle.std.proofs.Common.{◌∙◌, sym, refl, arith}
use Rattle.message_server.proofs.Streams.{OnErr-any}
use Rattle.tensor_runner.proofs.InLines.{InLine-start, TakesMessage-feed, InLine-open, InLine-owes, InLine-more, EndsBy-none, TakesLast-line, StopsIn-line}
use Rattle.tensor_runner.proofs.taking.next_line.Goals as goal

pub returns-then-take_piece-clause-next : goal.returns-then-take_piece-clause-next
returns-then-take_piece-clause-next g c =
    TakesMessage-feed _ _ _ _ _ _ _ _ _ c.take_piece.result c.loop-turn.invariant.2 c.if-take_piece.true c.take_piece.ensures

pub wait_for-requires-clause-owes : goal.wait_for-requires-clause-owes
wait_for-requires-clause-owes g c =
    let i = InLine-open _ _ _ _ _ _ _ _ _ c.take_piece.result c.loop-turn.invariant.2 c.if-take_piece.false c.take_piece.ensures in
    InLine-owes _ _ _ _ _ _ _ g.C.Client.owes_nothing c.requires i

pub returns-in_err-more-clause-stops : goal.returns-in_err-more-clause-stops
returns-in_err-more-clause-stops g c =
    let i = InLine-open _ _ _ _ _ _ _ _ _ c.take_piece.result c.loop-turn.invariant.2 c.if-take_piece.false c.take_piece.ensures in
    OnErr-any c.from_residual.result
    (StopsIn-line _ _ _ _ _ _ _ _ _ _ _ i c.in_err-more.ensures.err.1 c.loop-turn.invariant.4 c.in_err-more.ensures.read_failures)

pub returns-then-len-eq0-clause-next : goal.returns-then-len-eq0-clause-next
returns-then-len-eq0-clause-next g c =
    let i = InLine-open _ _ _ _ _ _ _ _ _ c.take_piece.result c.loop-turn.invariant.2 c.if-take_piece.false c.take_piece.ensures in
    let more = InLine-more _ _ _ _ _ _ _ _ _ _ i c.in_ok-more.ensures.read in
    let end = rw c.if-not-more.true at c.in_ok-more.ensures.enough in
    EndsBy-none _ _ _ _ _ _ _ more end.0 end.1 (sym c.len.ensures ∙ c.if-len-eq0.true)

pub returns-then-not-more-clause-next : goal.returns-then-not-more-clause-next
returns-then-not-more-clause-next g c =
    let i = InLine-open _ _ _ _ _ _ _ _ _ c.take_piece.result c.loop-turn.invariant.2 c.if-take_piece.false c.take_piece.ensures in
    let more = InLine-more _ _ _ _ _ _ _ _ _ _ i c.in_ok-more.ensures.read in
    let end = rw c.if-not-more.true at c.in_ok-more.ensures.enough in
    TakesLast-line _ _ _ _ _ _ _ more end.0 end.1 (omega (arith, c.len.ensures, c.if-len-eq0.false))

pub loop-turn-preserved : goal.loop-turn-preserved
loop-turn-preserved g c =
    let i = InLine-open _ _ _ _ _ _ _ _ _ c.take_piece.result c.loop-turn.invariant.2 c.if-take_piece.false c.take_piece.ensures in
    let more = InLine-more _ _ _ _ _ _ _ _ _ _ i c.in_ok-more.ensures.read in (
      tt,
      tt,
      more,
      c.wait_for.ensures.contents ∙ c.loop-turn.invariant.3,
      c.in_ok-more.ensures.read_failures ∙ c.loop-turn.invariant.4,
      c.wait_for.ensures.write_failures ∙ c.loop-turn.invariant.5,
    )

pub loop-turn-init : goal.loop-turn-init
loop-turn-init g c = (tt, tt, InLine-start _ _ _ _ c.new-kept.ensures, refl, refl, refl)

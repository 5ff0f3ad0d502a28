use Rattle.std.proofs.Common.{arith, ◌∙◌}
use Rattle.tensor_runner.proofs.Streams.{HasTaken-last, HasTaken-full, HasTaken-at_most, HasTaken-more, HasTaken-more-len}
use Rattle.tensor_runner.proofs.reading.read_text.Goals as goal

pub returns-then-count-eq0-clause-text : goal.returns-then-count-eq0-clause-text
returns-then-count-eq0-clause-text g c =
    HasTaken-last _ _ _ _ _ _ c.loop.invariant.4 c.in_ok-count.ensures.taken c.if-count-eq0.true

pub returns-then-len-eq-MOST_READ-clause-text : goal.returns-then-len-eq-MOST_READ-clause-text
returns-then-len-eq-MOST_READ-clause-text g c =
    HasTaken-full _ _ _ _ _ _ c.loop.invariant.4 c.in_ok-count.ensures.taken (omega (arith, c.len.ensures))

pub returns-then-count-eq0-clause-taken : goal.returns-then-count-eq0-clause-taken
returns-then-count-eq0-clause-taken g c =
    HasTaken-at_most _ _ _ _ c.loop.invariant.4 c.read_some.ensures.at_most

pub returns-then-len-eq-MOST_READ-clause-taken : goal.returns-then-len-eq-MOST_READ-clause-taken
returns-then-len-eq-MOST_READ-clause-taken g c =
    HasTaken-at_most _ _ _ _ c.loop.invariant.4 c.read_some.ensures.at_most

pub returns-in_err-count-clause-taken : goal.returns-in_err-count-clause-taken
returns-in_err-count-clause-taken g c =
    HasTaken-at_most _ _ _ _ c.loop.invariant.4 c.read_some.ensures.at_most

pub loop-preserved : goal.loop-preserved
loop-preserved g c =
    let t = c.in_ok-count.ensures.taken in
    let n = HasTaken-more-len _ _ _ _ _ _ c.loop.invariant.4 t in (
      omega (arith, c.loop.invariant.0, c.if-count-eq0.false, n),
      omega (arith, c.len.ensures, c.if-len-eq-MOST_READ.false, n, t.room),
      omega (arith, c.loop.invariant.2, c.read_some.ensures.calls),
      c.in_ok-count.ensures.failures ∙ c.loop.invariant.3,
      HasTaken-more _ _ _ _ _ _ c.loop.invariant.4 t,
    )

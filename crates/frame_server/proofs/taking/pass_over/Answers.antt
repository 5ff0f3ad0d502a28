use Rattle.std.proofs.Common.{◌∙◌, ◌-◌, ap, length, arith}
use Rattle.frame_server.proofs.Parts.{TakesCount-wait, TakesCount-skip}
use Rattle.frame_server.proofs.taking.pass_over.Goals as goal

pub loop-left-preserved : goal.loop-left-preserved
loop-left-preserved g c = (
  TakesCount-skip (c.args.count - c.loop-left.left) (c.args.count - (c.loop-left.left - c.min-most.result)) _ _ _ _ _ _ _ c.min-most.result
      (TakesCount-wait _ _ _ _ _ _ _ _ _ _ c.loop-left.invariant.0 c.in_ok-wait_for.ensures.read)
      (omega (arith, c.min-most.ensures, ap length c.pending-there.ensures)) c.skip.ensures
      (omega (arith, c.min-most.ensures, c.loop-left.invariant.1)),
  omega (arith, c.loop-left.invariant.1),
  c.wait_for.ensures.contents ∙ c.loop-left.invariant.2,
  c.in_ok-wait_for.ensures.read_failures ∙ c.loop-left.invariant.3,
  c.wait_for.ensures.write_failures ∙ c.loop-left.invariant.4,
)

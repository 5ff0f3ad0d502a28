use Rattle.std.proofs.Common.{◌*◌, ◌∙◌, ap, refl, take, length, arith, length-append}
use Rattle.message_server.proofs.Streams.{OnErr-any}
use Rattle.message_server.specs.Pieces.{pending_bytes, IsBelow}
use Rattle.frame_server.specs.private.Taking.{values_of}
use Rattle.frame_server.proofs.Frames.{length-values_of}
use Rattle.frame_server.proofs.Parts.{TakesValues-none, TakesValues-wait, TakesValues-move}
use Rattle.message_server.proofs.Takings.{FailsIn-on, FailsIn-ends}
use Rattle.frame_server.proofs.taking.take_values.Goals as goal

pub loop-buffer-init : goal.loop-buffer-init
loop-buffer-init g c = (
  TakesValues-none _ _ _ _ c.requires.new,
  omega (arith, ap length c.requires.new),
  c.requires.room,
  refl,
  refl,
  refl,
)

pub returns-in_err-wait_for-clause-fails : goal.returns-in_err-wait_for-clause-fails
returns-in_err-wait_for-clause-fails g c =
    let t = c.loop-buffer.invariant.0 in
    OnErr-any c.from_residual.result (FailsIn-on (IsBelow (8 * c.args.count)) (IsBelow 8) _ _ _ _ _ _ _ t.bytes t.takes c.in_err-wait_for.ensures.err.1
    (λ xs few. omega (arith, few, t.counted, length-append t.bytes xs, c.loop-buffer-test.true, c.len.ensures, c.loop-buffer.values.ok.0)))

pub returns-then-not-branch-clause-fails : goal.returns-then-not-branch-clause-fails
returns-then-not-branch-clause-fails g c =
    let t = c.loop-buffer.invariant.0 in
    let w = TakesValues-wait _ _ _ _ _ _ _ _ _ _ t c.in_ok-wait_for.ensures.read in
    let few = rw c.if-not-branch.true at c.in_ok-wait_for.ensures.enough in
    FailsIn-ends (IsBelow (8 * c.args.count)) _ _ _ _ _ _ w.bytes w.takes
    (omega (
      arith,
      few.0,
      w.counted,
      length-append w.bytes (pending_bytes c.wait_for.new.self),
      c.loop-buffer-test.true,
      c.len.ensures,
      c.loop-buffer.values.ok.0,
    ))

pub loop-buffer-smaller : goal.loop-buffer-smaller
loop-buffer-smaller g c =
    let m = c.move_values.ensures.moved in
    let piece = take (8 * m.count) (pending_bytes c.wait_for.new.self) in
    omega (
      arith,
      m.some,
      ap length m.kept_too,
      length-append c.loop-buffer.values.items (values_of m.count piece),
      length-values_of m.count piece,
      c.loop-buffer-test.true,
      c.len.ensures,
      c.loop-buffer.values.ok.0,
    )

pub loop-buffer-preserved : goal.loop-buffer-preserved
loop-buffer-preserved g c =
    let m = c.move_values.ensures.moved in
    let there = pending_bytes c.wait_for.new.self in
    let kept = c.loop-buffer.values.items in
    let piece = take (8 * m.count) there in (
      TakesValues-move _ _ _ _ _ there _ kept _ _ (TakesValues-wait _ _ _ _ _ _ _ _ _ _ c.loop-buffer.invariant.0 c.in_ok-wait_for.ensures.read) m,
      omega (
        arith,
        m.within,
        c.len.ensures,
        c.len-in-loop-buffer.ensures,
        c.loop-buffer.values.ok.0,
        c.loop-buffer.invariant.1,
        ap length m.kept_too,
        length-append kept (values_of m.count piece),
        length-values_of m.count piece,
      ),
      omega (arith, c.loop-buffer.invariant.2, c.move_values.ensures.capacity),
      c.wait_for.ensures.contents ∙ c.loop-buffer.invariant.3,
      c.in_ok-wait_for.ensures.read_failures ∙ c.loop-buffer.invariant.4,
      c.wait_for.ensures.write_failures ∙ c.loop-buffer.invariant.5,
    )

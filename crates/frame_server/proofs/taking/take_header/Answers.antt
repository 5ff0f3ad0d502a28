use Rattle.std.proofs.Common.{◌∙◌, ap, take, length, arith, length-append}
use Rattle.std.proofs.lemmas.List.{length-take-le}
use Rattle.message_server.specs.Pieces.{pending_bytes}
use Rattle.message_server.proofs.Takings.{Takes-wait, Takes-move}
use Rattle.frame_server.proofs.taking.take_header.Goals as goal

pub loop-buffer-preserved : goal.loop-buffer-preserved
loop-buffer-preserved g c =
    let m = c.move_bytes.ensures.moved in
    let there = pending_bytes c.wait_for.new.self in
    let kept = c.loop-buffer.header.items in (
      Takes-move _ _ _ _ _ there _ kept _ m.count (Takes-wait _ _ _ _ _ _ _ _ _ _ c.loop-buffer.invariant.0 c.in_ok-wait_for.ensures.read) m.left m.kept_too,
      omega (
        arith,
        m.within,
        c.len.ensures,
        c.len-in-loop-buffer.ensures,
        c.loop-buffer.header.ok.0,
        c.loop-buffer.invariant.1,
        ap length m.kept_too,
        length-append kept (take m.count there),
        length-take-le m.count there m.there,
      ),
      omega (arith, c.loop-buffer.invariant.2, c.move_bytes.ensures.capacity),
      c.wait_for.ensures.contents ∙ c.loop-buffer.invariant.3,
      c.in_ok-wait_for.ensures.read_failures ∙ c.loop-buffer.invariant.4,
      c.wait_for.ensures.write_failures ∙ c.loop-buffer.invariant.5,
    )

use Rattle.std.proofs.Common.{◌≡◌, ◌-◌, ◌+◌, length, take, drop, ◌∙◌, arith}
use Rattle.std.proofs.lemmas.List.{length-take, length-drop}
use Rattle.message_server.proofs.Streams.{Appends-trans, take-front, failures_after-took_some}
use Rattle.message_server.proofs.Histories.{writing-more, adds-more}
use Rattle.message_server.proofs.writing.write_answer.Goals as goal

pub loop-written-preserved : goal.loop-written-preserved
loop-written-preserved g c =
    let bytes = c.args.bytes.now in
    let written = c.loop-written.written in
    let count = c.in-Ok.count in
    let rest = take (length bytes - written) (drop written bytes) in
    let len : length rest ≡ length bytes - written =
    omega (arith, length-take (length bytes - written) (drop written bytes), length-drop written bytes) in
    let before = c.loop-written.invariant.6 c.loop-written-test.true in
    let one = 1 - (length rest - count) in
    let more = Appends-trans (g.C.Client.contents c.args.client.now) (g.C.Client.contents c.loop-written.client) (g.C.Client.contents c.write.new.self)
    (take written bytes) (take count rest) c.loop-written.invariant.1 c.in-Ok.ensures.bytes in (
      omega (
        arith,
        c.in-Ok.ensures.bound,
        length-take (length bytes - written) (drop written bytes),
        length-drop written bytes,
      ),
      rw (take-front bytes written count) at more,
      c.write.ensures.failures ∙ failures_after-took_some c.write.result count _ c.in-Ok.is c.if-count-gt0.true ∙ c.loop-written.invariant.2,
      writing-more (g.C.Client.history c.args.client.now) (g.C.Client.history c.loop-written.client) (g.C.Client.history c.write.new.self)
          (take written bytes) (take count rest) (take (written + count) bytes) c.loop-written.invariant.3 c.in-Ok.ensures.history (take-front bytes written count),
      c.write.ensures.remaining ∙ c.loop-written.invariant.4,
      c.write.ensures.no_read_failure ∙ c.loop-written.invariant.5,
      λ some. adds-more 0 one 0 (g.C.Client.writes c.args.client.now) (g.C.Client.writes c.loop-written.client) (g.C.Client.writes c.write.new.self)
          before c.in-Ok.ensures.writes (omega (arith, len, some)),
      adds-more 0 one 1 (g.C.Client.writes c.args.client.now) (g.C.Client.writes c.loop-written.client) (g.C.Client.writes c.write.new.self)
          before c.in-Ok.ensures.writes (omega arith),
    )

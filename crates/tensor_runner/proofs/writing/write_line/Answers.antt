use Rattle.std.proofs.Common.{◌-◌, length, take, drop, ◌∙◌, arith}
use Rattle.std.proofs.lemmas.List.{length-take, length-drop}
use Rattle.message_server.proofs.Streams.{Appends-trans, take-front, failures_after-took_some}
use Rattle.tensor_runner.proofs.writing.write_line.Goals as goal

pub loop-written-preserved : goal.loop-written-preserved
loop-written-preserved g c =
    let line = c.args.line.now in
    let rest = take (length line - c.loop-written.written) (drop c.loop-written.written line) in
    let more = Appends-trans (g.W.Sink.contents c.args.writer.now) (g.W.Sink.contents c.loop-written.writer) (g.W.Sink.contents c.write.new.self)
    (take c.loop-written.written line) (take c.in-Ok.count rest) c.loop-written.invariant.1 c.in-Ok.ensures.bytes in (
      omega (
        arith,
        c.in-Ok.ensures.bound,
        length-take (length line - c.loop-written.written) (drop c.loop-written.written line),
        length-drop c.loop-written.written line,
      ),
      rw (take-front line c.loop-written.written c.in-Ok.count) at more,
      c.write.ensures.failures ∙ failures_after-took_some c.write.result c.in-Ok.count _ c.in-Ok.is c.if-count-gt0.true ∙ c.loop-written.invariant.2,
    )

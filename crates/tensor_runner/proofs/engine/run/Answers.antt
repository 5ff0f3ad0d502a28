use Rattle.std.proofs.Common.{◌≡◌, ℕ, ◌<◌, Some, length, take, ◌∙◌, subst}
use Rattle.std.specs.Io.KnownBytes.{Appends}
use Rattle.tensor_runner.specs.Answer.{line_of}
use Rattle.message_server.specs.Pieces.{AppendsFront}
use Rattle.message_server.proofs.Streams.{Appends-Some}
use Rattle.tensor_runner.proofs.engine.run.Goals as goal

pub returns-in_err-write_line-clause-cut_short : goal.returns-in_err-write_line-clause-cut_short
returns-in_err-write_line-clause-cut_short g c = λ text held known holds failed.
    let read = c.in_ok-line.ensures.line text known in
    let line = read.answer in
    let bytes : c.as_slice.result.now ≡ line_of line.answer =
    c.as_slice.ensures.value ∙ line.written in
    let front = c.in_err-write_line.ensures.err.1 in
    let cut : (taken : ℕ) × (taken < length (line_of line.answer))
    × Appends (Some held) (g.W.Sink.contents c.write_line.new.writer)
    (take taken (line_of line.answer)) =
    subst (λ b. AppendsFront (Some held) (g.W.Sink.contents c.write_line.new.writer) b) bytes
    (subst (λ o. AppendsFront o (g.W.Sink.contents c.write_line.new.writer) c.as_slice.result.now) holds front) in
    record {
      answer = line.answer;
      answers = line.answers;
      left = read.left;
      taken = cut.0;
      short = cut.1;
      written = Appends-Some held (g.W.Sink.contents c.write_line.new.writer) (take cut.0 (line_of line.answer)) cut.2;
    }

pub returns-clause-answered : goal.returns-clause-answered
returns-clause-answered g c = λ text held known holds.
    let read = c.in_ok-line.ensures.line text known in
    let line = read.answer in
    let bytes : c.as_slice.result.now ≡ line_of line.answer =
    c.as_slice.ensures.value ∙ line.written in
    let whole : Appends (Some held) (g.W.Sink.contents c.write_line.new.writer) (line_of line.answer) =
    subst (λ b. Appends (Some held) (g.W.Sink.contents c.write_line.new.writer) b) bytes
    (subst (λ o. Appends o (g.W.Sink.contents c.write_line.new.writer) c.as_slice.result.now) holds c.in_ok-write_line.ensures.ok) in
    record {
      answer = line.answer;
      answers = line.answers;
      left = read.left;
      written = Appends-Some held (g.W.Sink.contents c.write_line.new.writer) (line_of line.answer) whole;
      told = line.status;
    }

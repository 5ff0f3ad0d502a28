use Rattle.std.proofs.Common.{[], ◌∙◌, refl}
use Rattle.message_server.specs.Notes.{noting}
use Rattle.message_server.proofs.Notes.{Adds-none, Adds-same, AnswersAll-alone, BreaksOff-alone, CutsSome-alone, GoesBy-noting, Laws-noting}
use Rattle.message_server.proofs.Serving.{Serves-start, Serves-owes, Serves-more, Serves-last, Serves-end, Serves-stops, Serves-why, Serves-cut, Serves-cut_last}
use Rattle.message_server.proofs.Serving.{answers-by, appends-by, writing-by, front-by}
use Rattle.message_server.proofs.Streams.{Appends-none, OnOk-follows, OnOk-both, OnErr-of}
use Rattle.message_server.proofs.answering.answer_messages.Goals as goal

pub loop-turn-init : goal.loop-turn-init
loop-turn-init g c =
    let p = g.P.Protocol in
    let r = p.rules c.args.protocol.now in (
      tt,
      tt,
      Serves-start (noting (p.framing r) (p.is_note r)) p.parting (Laws-noting (p.framing r) (p.is_note r) p.parting (g.met.P.Protocol.laws r))
          _ _ _ _ _ c.new-buffer.ensures c.requires.new,
      refl,
      refl,
      refl,
    )

pub take-requires : goal.take-requires
take-requires g c =
    let p = g.P.Protocol in
    let r = p.rules c.args.protocol.now in
    Serves-owes (noting (p.framing r) (p.is_note r)) p.parting (Laws-noting (p.framing r) (p.is_note r) p.parting (g.met.P.Protocol.laws r))
    _ _ _ _ _ _ _ _ g.C.Client.owes_nothing c.loop-turn.invariant.2
    (GoesBy-noting (p.framing r) (p.is_note r) g.C.Client.owes_nothing c.requires.by_messages)

pub returns-in_err-message-clause-noted_whole : goal.returns-in_err-message-clause-noted_whole
returns-in_err-message-clause-noted_whole g c = λ stream held knows holds failed.
    let p = g.P.Protocol in
    let r = p.rules c.args.protocol.now in
    Serves-stops (noting (p.framing r) (p.is_note r)) p.parting (Laws-noting (p.framing r) (p.is_note r) p.parting (g.met.P.Protocol.laws r))
    _ _ _ _ _ _ _ _ _ _ _ _ _ stream held c.loop-turn.invariant.2
    c.in_err-message.ensures.stops c.take.ensures.contents c.take.ensures.notes knows holds

pub returns-in_err-message-clause-broken_off : goal.returns-in_err-message-clause-broken_off
returns-in_err-message-clause-broken_off g c = λ stream held knows holds failed.
    let p = g.P.Protocol in
    let r = p.rules c.args.protocol.now in
    BreaksOff-alone (p.framing r) (p.is_note r) stream held _ _ _ _ (returns-in_err-message-clause-noted_whole g c stream held knows holds failed)

pub returns-in_err-message-clause-read_fault : goal.returns-in_err-message-clause-read_fault
returns-in_err-message-clause-read_fault g c = λ failed.
    let p = g.P.Protocol in
    let r = p.rules c.args.protocol.now in (
      Serves-why (noting (p.framing r) (p.is_note r)) p.parting (Laws-noting (p.framing r) (p.is_note r) p.parting (g.met.P.Protocol.laws r))
          _ _ _ _ _ _ _ _ _ _ _ _ c.loop-turn.invariant.2 c.loop-turn.invariant.3 c.in_err-message.ensures.stops,
      c.take.ensures.write_failures ∙ c.loop-turn.invariant.4,
    )

pub loop-turn-preserved : goal.loop-turn-preserved
loop-turn-preserved g c =
    let p = g.P.Protocol in
    let r = p.rules c.args.protocol.now in
    let same = c.take.ensures.rules ∙ c.loop-turn.invariant.5 in
    let still = c.answer-answer.ensures.rules ∙ same in
    let t = rw c.in-Message.is at c.in_ok-message.ensures.next in
    let w = c.in_ok-write-in-Message.ensures in
    let answer = c.answer-answer.result in (
      tt,
      tt,
      Serves-more (noting (p.framing r) (p.is_note r)) p.parting (Laws-noting (p.framing r) (p.is_note r) p.parting (g.met.P.Protocol.laws r)) p.is_kept
          _ _ _ _ _ _ _ _ _ _ _ _ _ _ _ _ _ c.in-Message.message (p.told answer, p.note_on answer)
          c.loop-turn.invariant.2 t
          (answers-by p.framing p.is_note r _ same t.message (p.told answer, p.note_on answer)
          (c.answer-answer.ensures.answer t.message t.kept_of, c.answer-answer.ensures.note t.message t.kept_of))
          c.take.ensures.contents (appends-by p.framing p.is_note r _ still _ _ (p.told answer, p.note_on answer) w.ok) (writing-by p.framing p.is_note r _ still _ _ (p.told answer, p.note_on answer) w.noted)
          c.write.ensures.remaining (c.answer-answer.ensures.notes ∙ c.take.ensures.notes) w.one_note,
      c.write.ensures.read_failures ∙ c.in_ok-message.ensures.read_failures ∙ c.loop-turn.invariant.3,
      w.ok_failures ∙ c.take.ensures.write_failures ∙ c.loop-turn.invariant.4,
      c.write.ensures.rules ∙ still,
    )

pub returns-in_err-write-in-Message-clause-noted_some :
    goal.returns-in_err-write-in-Message-clause-noted_some
returns-in_err-write-in-Message-clause-noted_some g c = λ stream held knows holds failed.
    let p = g.P.Protocol in
    let r = p.rules c.args.protocol.now in
    let same = c.take.ensures.rules ∙ c.loop-turn.invariant.5 in
    let t = rw c.in-Message.is at c.in_ok-message.ensures.next in
    let answer = c.answer-answer.result in
    Serves-cut (noting (p.framing r) (p.is_note r)) p.parting (Laws-noting (p.framing r) (p.is_note r) p.parting (g.met.P.Protocol.laws r)) p.is_kept
    _ _ _ _ _ _ _ _ _ _ _ _ _ _ stream held c.in-Message.message (p.told answer, p.note_on answer) c.loop-turn.invariant.2 t
    (answers-by p.framing p.is_note r _ same t.message (p.told answer, p.note_on answer) (c.answer-answer.ensures.answer t.message t.kept_of, c.answer-answer.ensures.note t.message t.kept_of))
    c.take.ensures.contents (front-by p.framing p.is_note r _ (c.answer-answer.ensures.rules ∙ same) _ _ (p.told answer, p.note_on answer) c.in_err-write-in-Message.ensures.front)
    (c.in_err-write-in-Message.ensures.no_note ∙ c.answer-answer.ensures.notes ∙ c.take.ensures.notes) knows holds

pub returns-in_err-write-in-Message-clause-cut_short :
    goal.returns-in_err-write-in-Message-clause-cut_short
returns-in_err-write-in-Message-clause-cut_short g c = λ stream held knows holds failed.
    let p = g.P.Protocol in
    let r = p.rules c.args.protocol.now in
    CutsSome-alone (p.framing r) (p.is_note r) p.parting stream held _ _ _
    (returns-in_err-write-in-Message-clause-noted_some g c stream held knows holds failed)

pub returns-in-Last-clause-noted : goal.returns-in-Last-clause-noted
returns-in-Last-clause-noted g c = λ stream held knows holds.
    let p = g.P.Protocol in
    let r = p.rules c.args.protocol.now in
    let same = c.take.ensures.rules ∙ c.loop-turn.invariant.5 in
    let t = rw c.in-Last.is at c.in_ok-message.ensures.next in
    let answer = c.answer-answer-in-Last.result in
    OnOk-both c.write-in-Last.result _ _ _
    (λ written noted. Serves-last (noting (p.framing r) (p.is_note r)) p.parting (Laws-noting (p.framing r) (p.is_note r) p.parting (g.met.P.Protocol.laws r))
    _ _ _ _ _ _ _ _ _ _ _ _ _ _ stream held t.message (p.told answer, p.note_on answer) c.loop-turn.invariant.2 t.ends
    (answers-by p.framing p.is_note r _ same t.message (p.told answer, p.note_on answer)
    (c.answer-answer-in-Last.ensures.answer t.message t.kept_of, c.answer-answer-in-Last.ensures.note t.message t.kept_of)) c.take.ensures.contents
    (appends-by p.framing p.is_note r _ (c.answer-answer-in-Last.ensures.rules ∙ same) _ _ (p.told answer, p.note_on answer) written)
    (c.answer-answer-in-Last.ensures.notes ∙ c.take.ensures.notes) noted knows holds) c.write-in-Last.ensures.ok c.write-in-Last.ensures.one_note

pub returns-in-Last-clause-answered : goal.returns-in-Last-clause-answered
returns-in-Last-clause-answered g c = λ stream held knows holds.
    let p = g.P.Protocol in
    let r = p.rules c.args.protocol.now in
    OnOk-follows c.write-in-Last.result _ _ (AnswersAll-alone (p.framing r) (p.is_note r) p.parting stream held _ _ _)
    (returns-in-Last-clause-noted g c stream held knows holds)

pub returns-in-Last-clause-noted_some : goal.returns-in-Last-clause-noted_some
returns-in-Last-clause-noted_some g c = λ stream held knows holds failed.
    let p = g.P.Protocol in
    let r = p.rules c.args.protocol.now in
    let same = c.take.ensures.rules ∙ c.loop-turn.invariant.5 in
    let t = rw c.in-Last.is at c.in_ok-message.ensures.next in
    let answer = c.answer-answer-in-Last.result in
    Serves-cut_last (noting (p.framing r) (p.is_note r)) p.parting (Laws-noting (p.framing r) (p.is_note r) p.parting (g.met.P.Protocol.laws r))
    _ _ _ _ _ _ _ _ _ _ _ _ _ stream held t.message (p.told answer, p.note_on answer) c.loop-turn.invariant.2 t.ends
    (answers-by p.framing p.is_note r _ same t.message (p.told answer, p.note_on answer)
    (c.answer-answer-in-Last.ensures.answer t.message t.kept_of, c.answer-answer-in-Last.ensures.note t.message t.kept_of)) c.take.ensures.contents
    (front-by p.framing p.is_note r _ (c.answer-answer-in-Last.ensures.rules ∙ same) _ _ (p.told answer, p.note_on answer)
    (OnErr-of c.write-in-Last.result _ _ failed c.write-in-Last.ensures.front))
    (OnErr-of c.write-in-Last.result _ _ failed c.write-in-Last.ensures.no_note ∙ c.answer-answer-in-Last.ensures.notes ∙ c.take.ensures.notes) knows holds

pub returns-in-Last-clause-cut_short : goal.returns-in-Last-clause-cut_short
returns-in-Last-clause-cut_short g c = λ stream held knows holds failed.
    let p = g.P.Protocol in
    let r = p.rules c.args.protocol.now in
    CutsSome-alone (p.framing r) (p.is_note r) p.parting stream held _ _ _ (returns-in-Last-clause-noted_some g c stream held knows holds failed)

pub returns-in-End-clause-noted : goal.returns-in-End-clause-noted
returns-in-End-clause-noted g c = λ stream held knows holds.
    let p = g.P.Protocol in
    let r = p.rules c.args.protocol.now in
    let e = rw c.in-End.is at c.in_ok-message.ensures.next in
    Serves-end (noting (p.framing r) (p.is_note r)) p.parting (Laws-noting (p.framing r) (p.is_note r) p.parting (g.met.P.Protocol.laws r))
    _ _ _ _ _ _ _ _ _ _ _ _ _ stream held [] [] c.loop-turn.invariant.2 e tt
    c.take.ensures.contents (Appends-none (g.C.Client.contents c.take.new.client)) (Adds-same _ _ _ [] (Adds-none _) c.take.ensures.notes) knows holds

pub returns-in-End-clause-answered : goal.returns-in-End-clause-answered
returns-in-End-clause-answered g c = λ stream held knows holds.
    let p = g.P.Protocol in
    let r = p.rules c.args.protocol.now in
    AnswersAll-alone (p.framing r) (p.is_note r) p.parting stream held _ _ _ (returns-in-End-clause-noted g c stream held knows holds)

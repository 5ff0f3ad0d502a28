use Rattle.std.proofs.Common.{◌∙◌, sym, subst, refl, inl, inr}
use Rattle.expr_reader.specs.Asked.{asked_under}
use Rattle.expr_reader.specs.Contents.{Contents}
use Rattle.frame_server.specs.private.Answering.{IsTensorFrame}
use Rattle.frame_server.proofs.Answering.{IsOwnFrame-limit, IsOwnFrame-tensor}
use Rattle.frame_server.proofs.answer.own_frame.Goals as goal

pub returns-in-Some-clause-frame : goal.returns-in-Some-clause-frame
returns-in-Some-clause-frame g c =
    IsOwnFrame-limit _ _ c.in-Some.fault (asked_under c.args.request.now) c.limit_frame.result (sym c.over_limits.ensures ∙ c.in-Some.is)
    c.limit_frame.ensures.bytes c.limit_frame.ensures.fault

pub returns-in-Ok-Some-clause-frame : goal.returns-in-Ok-Some-clause-frame
returns-in-Ok-Some-clause-frame g c =
    let found = rw c.in-Ok-Some.field-0-is at c.in-Ok-Some.ensures.tensor in
    IsOwnFrame-tensor _ _ (asked_under c.args.request.now) c.tensor_frame.result (sym c.over_limits.ensures ∙ c.in-None.is)
    (inl (subst (λ (t : Contents). IsTensorFrame t c.tensor_frame.result) found c.tensor_frame.ensures.frame))

pub returns-in-Ok-None-clause-frame : goal.returns-in-Ok-None-clause-frame
returns-in-Ok-None-clause-frame g c =
    let stopped = rw c.in-Ok-None.field-0-is at c.in-Ok-None.ensures.stopped in
    IsOwnFrame-tensor _ _ (asked_under c.args.request.now) c.too_many_seconds.result (sym c.over_limits.ensures ∙ c.in-None.is)
    (inr ((c.too_many_seconds.ensures.bytes, c.too_many_seconds.ensures.fault), stopped refl))

pub returns-in-Err-NoMemory-clause-frame : goal.returns-in-Err-NoMemory-clause-frame
returns-in-Err-NoMemory-clause-frame g c =
    IsOwnFrame-tensor _ _ (asked_under c.args.request.now) c.no_memory.result (sym c.over_limits.ensures ∙ c.in-None.is)
    (inl (inr (record { bytes = c.no_memory.ensures.bytes; fault = c.no_memory.ensures.fault })))

use Rattle.std.proofs.Common.{ap, refl, inl, inr, ◌∙◌}
use Rattle.expr_reader.specs.Asked.{asked_under}
use Rattle.tensor_runner.specs.Answer.{tensor_line}
use Rattle.tensor_runner.proofs.Refused.{IsLineUnder-limit, IsLineUnder-memory, IsLineUnder-stopped, IsLineUnder-tensor}
use Rattle.tensor_runner.proofs.answer.line_of.Goals as goal

pub returns-in-Some : goal.returns-in-Some
returns-in-Some g c =
    let asks = rw c.as_slice.ensures.value at c.in-Ok.ensures.request in
    IsLineUnder-limit c.args.allowance.now.limits c.args.allowance.now.logs c.args.text.items (asked_under c.in-Ok.request) c.over_limits.result c.in-Some.fault c.limit_line.result asks
    c.over_limits.ensures c.in-Some.is c.limit_line.ensures.bytes c.limit_line.ensures.fault
    (c.limit_line.ensures.steps ∙ c.steps_of-steps.ensures)

pub returns-in-Ok-Some : goal.returns-in-Ok-Some
returns-in-Ok-Some g c =
    let asks = rw c.as_slice.ensures.value at c.in-Ok.ensures.request in
    let found = rw c.in-Ok-Some.field-0-is at c.in-Ok-Some.ensures.tensor in
    let steps = c.tensor_line.ensures.steps ∙ c.steps_of-steps.ensures in
    elim c.tensor_line.ensures.line [
      | inl own ↦
          IsLineUnder-tensor c.args.allowance.now.limits c.args.allowance.now.logs c.args.text.items (asked_under c.in-Ok.request) c.over_limits.result c.tensor_line.result asks
          c.over_limits.ensures c.in-None.is (own.0 ∙ ap tensor_line found) own.2 own.1 steps
      | inr memory ↦
          IsLineUnder-memory c.args.allowance.now.limits c.args.allowance.now.logs c.args.text.items (asked_under c.in-Ok.request) c.tensor_line.result asks memory.0 memory.1 steps
    ]

pub returns-in-Ok-None : goal.returns-in-Ok-None
returns-in-Ok-None g c =
    let asks = rw c.as_slice.ensures.value at c.in-Ok.ensures.request in
    let stopped = rw c.in-Ok-None.field-0-is at c.in-Ok-None.ensures.stopped in
    IsLineUnder-stopped c.args.allowance.now.limits c.args.allowance.now.logs c.args.text.items (asked_under c.in-Ok.request) c.over_limits.result c.too_many_seconds.result asks
    c.over_limits.ensures c.in-None.is (stopped refl)
    c.too_many_seconds.ensures.bytes c.too_many_seconds.ensures.fault
    (c.too_many_seconds.ensures.steps ∙ c.steps_of-steps.ensures)

pub returns-in-Err-NoMemory : goal.returns-in-Err-NoMemory
returns-in-Err-NoMemory g c =
    let asks = rw c.as_slice.ensures.value at c.in-Ok.ensures.request in
    IsLineUnder-memory c.args.allowance.now.limits c.args.allowance.now.logs c.args.text.items (asked_under c.in-Ok.request) c.no_memory.result asks
    (record { bytes = c.no_memory.ensures.bytes; fault = c.no_memory.ensures.fault }) c.no_memory.ensures.status
    (c.no_memory.ensures.steps ∙ c.steps_of-steps.ensures)

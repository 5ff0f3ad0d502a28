use Rattle.std.proofs.Common.{◌∙◌, ap, ℕ, List, ◌++◌, take, arith}
use Rattle.message_server.proofs.Takings.{Takes-read, pending-read}
use Rattle.message_server.proofs.buffer.InputBuffer.refill.Goals as goal

pub returns-in-Ok-clause-read : goal.returns-in-Ok-clause-read
returns-in-Ok-clause-read g c =
    let s = c.settle.new.self in
    let bytes = take c.in-Ok.count c.read.new.buffer in
    Takes-read _ _ _ _ _ _ bytes (record { consumed = c.in-Ok.ensures.bytes.0; noted = c.in-Ok.ensures.history })
    (pending-read s.bytes c.read.new.buffer _ s.start s.end c.in-Ok.count c.settle.ensures.start (omega (arith, s.in_room, c.settle.ensures.room)) c.in-Ok.ensures.bound.0
    ∙ ap (λ (l : List ℕ). l ++ bytes) c.settle.ensures.pending)

-- Without limits a frame is that of an answer.
use Rattle.std.proofs.Common.{Option, refl, ap, ◌∙◌, inl, inr}
use Rattle.expr_reader.specs.declared.fault.Fault.TheVariants.{NoMemory}
use Rattle.tensor_runner.specs.Answer.{fault}
use Rattle.tensor_runner.specs.declared.limits.LimitFault.{LimitFault}
use Rattle.tensor_runner.proofs.Unlimited.{refused-none, not_stopped}
use Rattle.frame_server.specs.Answer.{answer_of, answer_bytes}
use Rattle.frame_server.specs.Frame.{frame_in}
use Rattle.frame_server.specs.Limited.{frame_unless, request_in, PlainWithoutLimits}

pub plain_without_limits : PlainWithoutLimits
plain_without_limits bytes answer (inl own) = (
  answer_of (frame_in bytes),
  inl refl,
  own ∙ ap (λ (o : Option LimitFault). frame_unless o (answer_bytes (answer_of (frame_in bytes)))) (refused-none (request_in (frame_in bytes))),
)
plain_without_limits bytes answer (inr (inl memory)) = (fault NoMemory, inr (refl, memory.1), memory.0)
plain_without_limits bytes answer (inr (inr stopped)) = absurd (not_stopped (request_in (frame_in bytes)) stopped.0.1)

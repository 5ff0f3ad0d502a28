-- Without limits a line is that of an answer.
use Rattle.std.specs.Prelude.{IsSome, is_some}
use Rattle.std.proofs.Common.{◌≡◌, ℕ, true, false, None, Option, Result, Ok, Err, refl, ap, sym, ◌∙◌, inl, inr}
use Rattle.expr_reader.specs.Request.{Asked, request_of}
use Rattle.expr_reader.specs.declared.fault.Fault.{Fault}
use Rattle.expr_reader.specs.declared.fault.Fault.TheVariants.{NoMemory}
use Rattle.tensor_runner.specs.Answer.{fault, answer_of, line_of}
use Rattle.tensor_runner.specs.Limited.{no_limits, refusal, line_unless, MayStop, PlainWithoutLimits}
use Rattle.tensor_runner.specs.declared.limits.LimitFault.{LimitFault}

pub refused-none : (r : Result Asked Fault) → refusal no_limits r ≡ None
refused-none (Ok a) = refl
refused-none (Err f) = refl

false_is_no_true : false ≡ true → ⊥
false_is_no_true is = cc

-- a limit that is set is not `None`
pub none_is_no_limit : (o : Option ℕ) → IsSome o → o ≡ None → ⊥
none_is_no_limit o some none = false_is_no_true (sym (ap is_some none) ∙ some)

-- without limits no evaluation is stopped
pub not_stopped : (r : Result Asked Fault) → MayStop no_limits r → ⊥
not_stopped r may = none_is_no_limit None may.limited refl

pub plain_without_limits : PlainWithoutLimits
plain_without_limits text line (inl own) = (
  answer_of text,
  inl refl,
  own ∙ ap (λ (o : Option LimitFault). line_unless o (line_of (answer_of text))) (refused-none (request_of text)),
)
plain_without_limits text line (inr (inl memory)) = (fault NoMemory, inr (refl, memory.1), memory.0)
plain_without_limits text line (inr (inr stopped)) = absurd (not_stopped (request_of text) stopped.0.1)

-- The answer of what was read of a text.
use Rattle.std.proofs.Common.{◌≡◌, ◌≢◌, ℕ, ◌<◌, ◌≤◌, List, Err, length, take}
use Rattle.std.proofs.Common.{refl, ap, sym, ◌∙◌, inl, inr, arith}
use Rattle.std.proofs.Math.Decide.{dec_le}
use Rattle.std.proofs.Math.Nat.{lt_of_not-le}
use Rattle.std.proofs.lemmas.Bool.{lt-ltb}
use Rattle.std.proofs.lemmas.List.{take_all, length-take, length-take-le}
use Rattle.expr_reader.specs.Limits.{most_bytes}
use Rattle.expr_reader.specs.Request.{request_of}
use Rattle.expr_reader.specs.declared.fault.Fault.{Fault}
use Rattle.expr_reader.specs.declared.fault.Fault.TheVariants.{TooLong}
use Rattle.tensor_runner.specs.Answer.{Answer, fault, answer_of, answer_from, IsAnswerTo}
use Rattle.tensor_runner.specs.Line.{IsFaultOf}
use Rattle.tensor_runner.specs.Run.{most_reads}

-- too long a text, whatever it says
pub request_of-long : (text : List ℕ) → most_bytes < length text → request_of text ≡ Err TooLong
request_of-long text long = rw (lt-ltb most_bytes (length text) long) refl

-- one byte more than a text may have is as good as the whole
pub request_of-take : (n : ℕ) (text : List ℕ) → most_bytes < n → request_of (take n text) ≡ request_of text
request_of-take n text more = elim (dec_le n (length text)) [
  | yes long ↦
      request_of-long (take n text) (omega (arith, length-take-le n text long))
      ∙ sym (request_of-long text (omega arith))
  | no short ↦ ap request_of (take_all n text (omega (arith, lt_of_not-le short)))
]

answer_of-take : (n : ℕ) (text : List ℕ) → most_bytes < n → answer_of (take n text) ≡ answer_of text
answer_of-take n text more = ap answer_from (request_of-take n text more)

-- a text isn't too long if its prefix isn't
pub short-take : (n : ℕ) (text : List ℕ) → most_bytes < n → length (take n text) ≤ most_bytes → length text ≤ most_bytes
short-take n text more short = omega (arith, short, length-take n text)

pub IsAnswerTo-take : (n : ℕ) (text : List ℕ) (a : Answer) → most_bytes < n → IsAnswerTo (take n text) a → IsAnswerTo text a
IsAnswerTo-take n text a more (inl own) = inl (own ∙ answer_of-take n text more)
IsAnswerTo-take n text a more (inr memory) = inr (memory.0, short-take n text more memory.1)

-- a text of which only the length was kept
pub IsAnswerTo-counted : (text : List ℕ) (count : ℕ) → count ≡ length (take most_reads text) → most_bytes < count → IsAnswerTo text (fault TooLong)
IsAnswerTo-counted text count is long =
    inl (sym (ap answer_from (request_of-long text (omega (arith, is, long, length-take most_reads text)))))

pub short-counted : (text : List ℕ) (count : ℕ) → count ≡ length (take most_reads text) → count ≤ most_bytes → length text ≤ most_bytes
short-counted text count is short = omega (arith, is, short, length-take most_reads text)

pub fault_of : (f : Fault) → fault f ≡ fault TooLong → f ≡ TooLong
fault_of f is = cc

-- a fault that isn't of a text that is too long
pub short-fault : (text : List ℕ) (f : Fault) → IsFaultOf text f → f ≢ TooLong → length text ≤ most_bytes
short-fault text f (inr memory) other = memory.1
short-fault text f (inl own) other = elim (dec_le (length text) most_bytes) [
  | yes short ↦ short
  | no long ↦
      absurd (other (fault_of f (own ∙ ap answer_from (request_of-long text (lt_of_not-le long)))))
]

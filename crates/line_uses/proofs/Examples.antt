-- The lines of small texts, the answer to an empty text, and a history in which an answer is owed.
use Rattle.std.proofs.Common.{◌≡◌, ℕ, List, [], ◌∷◌, ◌++◌, refl, ap, ◌∙◌, subst, codes}
use Rattle.std.specs.Str.{is_utf8, chars}
use Rattle.json.specs.Json.{value}
use Rattle.json.specs.Lex.{punctuate, lex}
use Rattle.expr_reader.specs.declared.fault.Fault.TheVariants.{NotJson}
use Rattle.tensor_runner.specs.Answer.{Answer, tensor, fault, answer_of, line_of}
use Rattle.tensor_runner.specs.History.{History}
use Rattle.tensor_runner.specs.Limited.{no_limits, lines_within}
use Rattle.tensor_runner.specs.Lines.{lines_of, whole_lines}
use Rattle.tensor_runner.specs.Serving.{AreAnswers, bytes_answering, OwesNothing}
use Rattle.tensor_runner.proofs.Unlimited.{plain_without_limits}

pub empty_text : lines_of [] ≡ []
empty_text = refl

pub lone_feed : lines_of (10 ∷ []) ≡ [] ∷ []
lone_feed = refl

pub three_lines : lines_of (codes "a" ++ 10 ∷ 10 ∷ codes "bc") ≡ codes "a" ∷ [] ∷ codes "bc" ∷ []
three_lines = refl

pub two_whole : whole_lines (codes "a" ++ 10 ∷ 10 ∷ codes "bc") ≡ codes "a" ∷ [] ∷ []
two_whole = refl

pub feed_at_the_end : lines_of (codes "a" ++ 13 ∷ 10 ∷ []) ≡ (codes "a" ++ 13 ∷ []) ∷ []
feed_at_the_end = refl

pub answer_of-nothing : answer_of [] ≡ fault NotJson
unfolding is_utf8 chars value punctuate lex
answer_of-nothing = refl

-- an answer's line isn't empty
line_of-some : (a : Answer) (more : List ℕ) → [] ≡ line_of a ++ more → ⊥
line_of-some (tensor t) more is = cc
line_of-some (fault f) more is = cc

-- one whole line was read and nothing is written: an answer is owed
pub owing : History
owing = record { taken = 97 ∷ 10 ∷ []; written = [] }

owes_answer : (answers : List (List ℕ)) → AreAnswers (lines_within no_limits) (codes "a" ∷ []) answers
    → [] ≡ bytes_answering (lines_within no_limits) answers → ⊥
owes_answer [] are is = are
owes_answer (line ∷ answers) are is =
    let rest = bytes_answering (lines_within no_limits) answers in
    let own = plain_without_limits (codes "a") line are.0 in
    line_of-some own.0 rest (is ∙ ap (λ (l : List ℕ). l ++ rest) own.2)

pub owes : ¬ OwesNothing (lines_within no_limits) owing
unfolding owing
owes nothing =
    owes_answer nothing.answers
    (subst (λ (l : List (List ℕ)). AreAnswers (lines_within no_limits) l nothing.answers) nothing.whole nothing.answered) nothing.written

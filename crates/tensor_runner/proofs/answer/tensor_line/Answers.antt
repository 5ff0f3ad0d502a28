use Rattle.std.proofs.Common.{ℕ, List, ◌++◌, ap, ◌∙◌, refl, inl, inr}
use Rattle.tensor_runner.specs.Answer.{tensor_line}
use Rattle.tensor_runner.proofs.answer.tensor_line.Goals as goal

pub returns-in-Ok-clause-line : goal.returns-in-Ok-clause-line
returns-in-Ok-clause-line c =
    inl (c.in-Ok.ensures ∙ ap (λ (l : List ℕ). l ++ tensor_line c.args.tensor.now) c.clear.ensures.items, refl, refl)

pub returns-in-Err-clause-line : goal.returns-in-Err-clause-line
returns-in-Err-clause-line c =
    inr (record { bytes = c.no_memory.ensures.bytes; fault = c.no_memory.ensures.fault }, c.no_memory.ensures.status)

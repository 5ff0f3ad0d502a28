use Rattle.std.proofs.Common.{◌≡◌, IfOk, subst}
use Rattle.std.proofs.lemmas.List.{map-id}
use Rattle.tensor_runner.specs.Line.{bracketed}
use Rattle.tensor_runner.proofs.text.signed_text.Goals as goal

pub returns : goal.returns
returns c =
    subst (λ numbers. IfOk c.array_text.result (λ text. text.items ≡ bracketed numbers))
    (map-id c.args.numbers.now) (c.array_text.ensures (λ x. x) (λ x v is. is))

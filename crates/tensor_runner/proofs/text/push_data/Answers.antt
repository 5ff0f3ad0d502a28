use Rattle.std.proofs.Common.{◌≡◌, ◌<◌, ◌∷◌, [], ◌++◌, length, sym, ap, ◌∙◌, arith, rules, append_assoc, length-append}
use Rattle.tensor_runner.specs.Answer.{numbers_text}
use Rattle.tensor_runner.proofs.Texts.{numbers_text-behind}
use Rattle.tensor_runner.proofs.text.push_data.Goals as goal

pub loop-piece-preserved : goal.loop-piece-preserved
loop-piece-preserved c =
    let passed = c.loop-piece.invariant in
    let piece = c.in-Some.piece.now in
    let steps = c.in-Some.ensures.steps in
    let old = c.args.line.now.items in
    let some : 0 < length piece = omega (arith, steps.1.1, steps.1.2, passed.0) in
    let written : c.push_piece-in-loop-piece.new.line.items
    ≡ ((old ++ numbers_text passed.2) ++ 44 ∷ []) ++ numbers_text piece = search rules in (
      search rules,
      tt,
      passed.2 ++ piece,
      written ∙ numbers_text-behind old passed.2 piece (passed.5 steps.1.2) some,
      append_assoc passed.2 piece _ ∙ ap (λ t. passed.2 ++ t) (sym steps.1.0) ∙ passed.4,
      λ _. omega (arith, some, length-append passed.2 piece),
    )

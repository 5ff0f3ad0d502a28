use Rattle.std.proofs.Common.{ℕ, List, length, get_or, refl, sym}
use Rattle.std.proofs.Common.{true≢false, ap, ◌∙◌, arith}
use Rattle.std.proofs.lemmas.List.FromFn.{get_or-range_with_len}
use Rattle.tensor_ops.proofs.PartValues.{numbers-in-order}
use Rattle.tensor_ops.proofs.part_evaluator.value_runs.is_in_order.Goals as goal

pub returns-then-numbers-k : goal.returns-then-numbers-k
returns-then-numbers-k c =
    let xs : List ℕ = c.args.numbers.now in
    let k : ℕ = c.loop-k.k in (
      λ in_order. absurd (true≢false (sym in_order)),
      λ first. absurd (c.if-numbers-k.true (
          ap (λ l. get_or l k 0) first ∙ get_or-range_with_len 0 (length xs) k 0 (omega arith)
          ∙ omega arith)),
    )

pub returns : goal.returns
returns c = (
  λ in_order.
      numbers-in-order c.args.numbers.now (λ k below. c.loop-k.invariant k (omega arith)),
  λ first. refl,
)

use Rattle.std.proofs.Common.{◌≡◌, ℕ, pos, ◌-◌, length, drop, rules, ap, sym, ◌∙◌, arith}
use Rattle.std.proofs.lemmas.List.{length-replicate}
use Rattle.std.proofs.lemmas.List.FromFn.{length-range_with_len, get_or-range_with_len}
use Rattle.std.specs.List.{range_with_len}
use Rattle.std.specs.Prelude.{replicate}
use Rattle.tensor_ops.specs.private.LineResults.{value_along}
use Rattle.tensor_ops.proofs.Worked.{take-written}
use Rattle.tensor_values.proofs.Runs.{places-read}
use Rattle.tensor_ops.proofs.operands.along.LineResults.values.Goals as goal

pub returns : goal.returns
returns g c =
    let a = c.args.self.now in
    let first = c.args.first in
    let count : ℕ = c.args.last - first in
    let new = c.fill.new.out in
    let made : c.in_ok-values.values.items ≡ replicate count (pos 0) = search rules in
    let lent : c.deref_mut.result.now ≡ replicate count (pos 0) = c.deref_mut.ensures.value ∙ made in
    let long : length new ≡ count = c.fill.ensures.len ∙ ap length lent
    ∙ length-replicate count (pos 0) in
    let places = length-range_with_len first count in
    take-written c.in_ok-values.values.len new (drop (length new) c.in_ok-values.values.items)
    (omega (arith, c.in_ok-values.ensures.len))
    ∙ places-read (value_along a) (range_with_len first count) new (omega arith)
    (λ k below.
    c.fill.ensures.each k (omega (arith, c.fill.ensures.len))
    ∙ ap (value_along a) (sym (get_or-range_with_len first count k 0 (omega arith))))

use Rattle.std.proofs.Common.{◌≡◌, ℕ, ℤ, pos, ◌+◌, ◌-◌, ◌<◌, length, drop, rules}
use Rattle.std.proofs.Common.{ap, sym, ◌∙◌, arith}
use Rattle.std.specs.Prelude.{replicate}
use Rattle.std.specs.List.{range_with_len}
use Rattle.std.proofs.lemmas.List.{get_or-replicate, length-replicate}
use Rattle.std.proofs.lemmas.List.FromFn.{length-range_with_len, get_or-range_with_len}
use Rattle.tensor_values.specs.Values.{value_in}
use Rattle.tensor_ops.specs.private.Reduced.{combined_at, reduction_at}
use Rattle.tensor_values.proofs.Runs.{places-read}
use Rattle.tensor_ops.proofs.Worked.{take-written}
use Rattle.tensor_ops.proofs.operands.reduction.Reduction.values.Goals as goal

pub returns : goal.returns
returns g c =
    let s = c.args.self.now in
    let first = c.args.first in
    let count : ℕ = c.args.last - first in
    let new = c.combine.new.target in
    let made : c.in_ok-values.values.items ≡ replicate count c.unit.result = search rules in
    let lent : c.deref_mut.result.now ≡ replicate count c.unit.result = c.deref_mut.ensures.value
    ∙ made in
    let long : length new ≡ count = c.combine.ensures.len ∙ ap length lent
    ∙ length-replicate count c.unit.result in
    let places = length-range_with_len first count in
    take-written c.in_ok-values.values.len new (drop (length new) c.in_ok-values.values.items)
    (omega (arith, c.in_ok-values.ensures.len))
    ∙ places-read (reduction_at s) (range_with_len first count) new (omega arith)
    (λ k below.
    let in_count : k < count = omega arith in
    let old : value_in c.deref_mut.result.now k ≡ c.unit.result =
    ap (λ l. value_in l k) lent ∙ get_or-replicate count k c.unit.result (pos 0) in_count in
    c.combine.ensures.each k (omega (arith, c.combine.ensures.len))
    ∙ ap (λ x. combined_at s s.reducer x (first + k)) (old ∙ c.unit.ensures)
    ∙ ap (reduction_at s) (sym (get_or-range_with_len first count k 0 in_count)))

use Rattle.std.proofs.Common.{◌+◌, ◌<◌, length, ap, sym, ◌∙◌, arith, Result, Ok, Err, OnOk}
use Rattle.std.specs.List.{range_with_len}
use Rattle.std.proofs.lemmas.List.FromFn.{length-range_with_len, get_or-range_with_len}
use Rattle.tensor_terms.specs.Value.{value_of_place}
use Rattle.tensor_values.proofs.Runs.{places-read}
use Rattle.tensor_ops.specs.Evaluator.{term_evaluated, inputs_evaluated}
use Rattle.tensor_ops.proofs.evaluator.TensorEvaluator.fill.Goals as goal

-- what follows where it is Ok
on-ok : {T E : Type 0} (r : Result T E) (P Q : Type 0) → (P → Q) → OnOk r P → OnOk r Q
on-ok (Ok x) P Q f p = f p
on-ok (Err e) P Q f p = tt

pub returns-clause-values : goal.returns-clause-values
returns-clause-values c =
    let s = c.args.self.now in
    let first = c.args.first in
    let new = c.fill.new.out in
    let n = length c.args.out.now in
    let f = value_of_place (term_evaluated s) (inputs_evaluated s) in
    on-ok c.fill.result _ _
    (λ each. places-read f (range_with_len first n) new
    (c.fill.ensures.len ∙ sym (length-range_with_len first n))
    (λ k below.
    let few : k < n = omega (arith, below, length-range_with_len first n) in
    each k few ∙ s.means (first + k) (omega (arith, few, c.requires.within))
    ∙ ap f (sym (get_or-range_with_len first n k 0 few))))
    c.fill.ensures.each

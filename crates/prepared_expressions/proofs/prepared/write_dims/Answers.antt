use Rattle.std.proofs.Common.{◌≡◌, ◌++◌, ◌∷◌, ◌<◌, length, take, ap, sym, subst, ◌∙◌, true, false, arith, add-one}
use Rattle.tensor_shape.specs.Legal.{are_legal, IsWithin}
use Rattle.tensor_terms.specs.Contents.{input_of}
use Rattle.prepared_expressions.specs.Prepared.{recorded_dims, dims_of_all}
use Rattle.prepared_expressions.proofs.Dealing.{recorded_dims-take, all_legal-take, all_legal-within, are_legal-from, written-list, within-taken, false-true}
use Rattle.prepared_expressions.proofs.prepared.write_dims.Goals as goal

pub loop-number-preserved : goal.loop-number-preserved
loop-number-preserved c =
    let ts = c.args.inputs.now.tensors in
    let i = c.loop-number.number in
    let sizes = c.as_slice-sizes.result.now in
    let at : sizes ≡ (input_of ts i).dims = c.as_slice-sizes.ensures.value ∙ c.dims.ensures in
    let within : i < length ts = omega (arith, c.len-number-end.ensures, c.loop-number-test.true) in
    let here : are_legal c.args.bounds c.dims.result.now ≡ true =
    are_legal-from c.args.bounds c.dims.result.now (rw c.as_slice-sizes.ensures.value at c.in-Ok.ensures.ok.1) in
    rw add-one
    (record {
      numbers = λ rest. written-list c.write_list.new.numbers.items c.loop-number.numbers.items (length sizes ∷ sizes) rest (c.in_ok-write_list.ensures rest)
          ∙ c.loop-number.invariant.numbers ((length sizes ∷ sizes) ++ rest)
          ∙ ap (λ l. c.args.numbers.now.items ++ l)
          (ap (λ s. recorded_dims (dims_of_all (take i ts)) ((length s ∷ s) ++ rest)) at ∙ recorded_dims-take ts i rest within);
      legal = all_legal-take c.args.bounds ts i within c.loop-number.invariant.legal (rw c.dims.ensures at here);
    })

pub returns-in_default-clause-refused : goal.returns-in_default-clause-refused
returns-in_default-clause-refused c = λ legal.
    let ts = c.args.inputs.now.tensors in
    let i = c.loop-number.number in
    let sizes = c.as_slice-sizes.result.now in
    let at : sizes ≡ (input_of ts i).dims = c.as_slice-sizes.ensures.value ∙ c.dims.ensures in
    let within : i < length ts = omega (arith, c.len-number-end.ensures, c.loop-number-test.true) in
    let fits = subst (IsWithin c.args.bounds) (sym at) (all_legal-within c.args.bounds ts legal i within) in
    let taken = within-taken c.args.bounds sizes c.within.result fits c.within.ensures.rank c.within.ensures.elements in
    let none : false ≡ true = rw c.in_default.is at taken in
    absurd (false-true none)

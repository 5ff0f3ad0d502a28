use Rattle.std.proofs.Common.{◌≡◌, ◌++◌, ◌∷◌, ◌+◌, [], take, ap, sym, subst, ◌∙◌}
use Rattle.std.proofs.lemmas.List.{take_all}
use Rattle.std.proofs.lemmas.Result.{err_from_is_err_and}
use Rattle.std.specs.List.{All}
use Rattle.expr_reader.specs.Bindings.{term_under, terms_under}
use Rattle.expr_reader.proofs.Bindings.{terms_under-take}
use Rattle.prepared_expressions.specs.Prepared.{IsWritable}
use Rattle.prepared_expressions.specs.Recorded.{recorded, recorded_all}
use Rattle.prepared_expressions.proofs.TermLists.{recorded_all-append, writable-push, writable-at}
use Rattle.prepared_expressions.proofs.written.write_bindings.Goals as goal

pub loop-binding-preserved : goal.loop-binding-preserved
loop-binding-preserved c =
    let bs = c.args.bindings.now in
    let i = c.loop-binding.binding-index in
    let b = c.binding-item.result in
    let ts = terms_under (take i bs) in
    let terms : terms_under (take (i + 1) bs) ≡ ts ++ term_under b ∷ [] = terms_under-take bs i b c.loop-binding-test.true c.binding-item.is in
    record {
      numbers = λ rest. c.in_ok-write_tree.ensures.numbers rest ∙ c.loop-binding.invariant.numbers (recorded (term_under b) rest)
          ∙ ap (λ l. c.args.numbers.now.items ++ l)
          (sym (recorded_all-append ts (term_under b ∷ []) rest) ∙ ap (λ us. recorded_all us rest) (sym terms));
      writable = subst (All IsWritable) (sym terms) (writable-push ts (term_under b) c.loop-binding.invariant.writable
          (record { ranges = c.in_ok-write_tree.ensures.ranges; height = c.in_ok-write_tree.ensures.height }));
    }

pub returns-clause-numbers : goal.returns-clause-numbers
returns-clause-numbers c = λ rest.
    c.loop-binding.invariant.numbers rest
    ∙ ap (λ bs. c.args.numbers.now.items ++ recorded_all (terms_under bs) rest)
    (take_all c.loop-binding.binding-index c.args.bindings.now c.loop-binding-test.false)

pub returns-clause-writable : goal.returns-clause-writable
returns-clause-writable c =
    subst (λ bs. All IsWritable (terms_under bs)) (take_all c.loop-binding.binding-index c.args.bindings.now c.loop-binding-test.false)
    c.loop-binding.invariant.writable

pub returns-in_err-write_tree-clause-refused : goal.returns-in_err-write_tree-clause-refused
returns-in_err-write_tree-clause-refused c = λ all.
    let p = err_from_is_err_and c.from_residual.result c.from_residual.ensures.1 in
    let b = c.binding-item.result in
    let is = writable-at c.args.bindings.now c.loop-binding.binding-index b c.loop-binding-test.true c.binding-item.is all in
    rw (p.1, p.2) (c.in_err-write_tree.ensures.refused is.height)

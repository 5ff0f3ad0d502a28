use Rattle.std.proofs.Common.{ℕ, ℤ, pos, ◌-◌, length, ap, ◌∙◌, arith}
use Rattle.std.specs.Cow.{cow_slice_items}
use Rattle.std.proofs.lemmas.List.FromFn.{length-map-range_with_len, get_or-map-range_with_len}
use Rattle.tensor_values.specs.Values.{value_in}
use Rattle.tensor_views.specs.Reading.{read_at}
use Rattle.tensor_views.specs.View.{reached}
use Rattle.tensor_ops.proofs.operands.operand.Viewed.into_list.Goals as goal

pub returns-clause-count : goal.returns-clause-count
returns-clause-count c =
    ap length c.in_ok-values.ensures
    ∙ length-map-range_with_len (read_at (record { list = c.as_slice.result; view = c.as_ref.result })) 0
    (c.args.count - 0)
    ∙ omega (arith, c.requires)

pub returns-clause-each : goal.returns-clause-each
returns-clause-each c p below =
    let read : ℕ → ℤ = read_at (record { list = c.as_slice.result; view = c.as_ref.result }) in
    ap (λ l. value_in l p) c.in_ok-values.ensures
    ∙ get_or-map-range_with_len read 0 (c.args.count - 0) p p (pos 0) (omega (arith, c.requires))
    (omega arith)
    ∙ ap (λ l. value_in l (reached c.as_ref.result.start c.as_ref.result.axes.now p))
    c.as_slice.ensures.value
    ∙ ap (λ start. value_in (cow_slice_items c.args.self.list)
    (reached start c.as_ref.result.axes.now p)) c.as_ref.ensures.start
    ∙ ap (λ axes. value_in (cow_slice_items c.args.self.list)
    (reached c.args.self.view.start axes p)) c.as_ref.ensures.axes

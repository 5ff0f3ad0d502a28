use Rattle.std.proofs.Common.{◌≡◌, ◌+◌, ◌*◌, ◌<◌, ℕ, ℤ, List, length, slice_index, refl, ap, ◌∙◌}
use Rattle.std.proofs.Common.{arith}
use Rattle.std.proofs.lemmas.List.Edits.{get_or-between}
use Rattle.std.proofs.lemmas.Nat.{div-mul-add, mod-mul-add}
use Rattle.std.specs.Cow.{cow_slice_items}
use Rattle.tensor_shape.specs.Wrap.{wrap}
use Rattle.tensor_dots.specs.Products.{list_product}
use Rattle.tensor_dots.specs.Rows.{dot_at, row_count}
use Rattle.tensor_dots.specs.declared.rows.Rows.{Rows}
use Rattle.tensor_dots.proofs.dots.Dots.fill_column.Goals as goal

-- the sum over the lists of both operands
dot_at-lists : (first second : Rows) (a b : List ℤ) (offsets others : List ℕ) (x y s t : ℕ)
    → a ≡ cow_slice_items first.values → b ≡ cow_slice_items second.values
    → offsets ≡ first.offsets.items → others ≡ second.offsets.items
    → s ≡ slice_index first.starts.items x → t ≡ slice_index second.starts.items y
    → x < row_count first
    → wrap (list_product a s offsets b t others (length offsets))
    ≡ dot_at first second (y * row_count first + x)
dot_at-lists first second a b offsets others x y s t is_a is_b is_offsets is_others is_s is_t below
    =
    let row = mod-mul-add y (row_count first) x below in
    let column = div-mul-add y (row_count first) x below in
    rw (is_a, is_b, is_offsets, is_others, is_s, is_t, row, column) refl

pub returns-clause-each : goal.returns-clause-each
returns-clause-each c k below =
    let x = c.args.x in
    c.row_sums.ensures.each k below
    ∙ dot_at-lists c.args.self.now.first c.args.self.now.second _ _ _ _ (x + k) c.args.y _ _
    c.as_slice.ensures.value c.as_slice-4.ensures.value c.as_slice-3.ensures.value
    c.as_slice-6.ensures.value
    (get_or-between c.as_slice-2.result.now x (x + length c.args.out.now) k 0 (omega arith)
    ∙ ap (λ l. slice_index l (x + k)) c.as_slice-2.ensures.value)
    (ap (λ l. slice_index l c.args.y) c.as_slice-5.ensures.value) (omega arith)

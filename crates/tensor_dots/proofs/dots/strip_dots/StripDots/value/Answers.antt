use Rattle.std.proofs.Common.{◌≡◌, ◌*ℤ◌, ◌/◌, ◌%◌, length, ap, ◌∙◌, arith}
use Rattle.tensor_shape.specs.Wrap.{wrap}
use Rattle.tensor_values.specs.Values.{value_in}
use Rattle.tensor_dots.specs.Products.{sum_to}
use Rattle.tensor_dots.specs.Strips.{strip_value}
use Rattle.tensor_dots.proofs.ListWrites.{stored}
use Rattle.tensor_dots.proofs.ProductSums.{sum_to-ext}
use Rattle.tensor_dots.proofs.dots.strip_dots.StripDots.value.Goals as goal

pub returns : goal.returns
returns c =
    let d = c.args.self.now in
    let a = c.row.result.now in
    let b = c.row-2.result.now in
    let rows = c.len-rows.result in
    let rows_are : rows ≡ length d.first.starts.items =
    omega (arith, c.len-rows.ensures, d.first.starts.ok.0) in
    let long : length a ≡ d.first.width = c.row.ensures.len in
    let same : sum_to (λ q. value_in a q *ℤ value_in b q) (length a)
    ≡ sum_to (λ q. strip_value d.first (c.args.place % rows) q
    *ℤ strip_value d.second (c.args.place / rows) q) d.first.width =
    ap (sum_to (λ q. value_in a q *ℤ value_in b q)) long
    ∙ sum_to-ext _ _ d.first.width
    (λ q below.
    let left = c.row.ensures.each q below in
    let right = c.row-2.ensures.each q (omega (arith, d.widths)) in
    cc (left, right)) in
    stored _ _ c.dot.ensures ∙ c.dot.ensures ∙ ap wrap same
    ∙ ap (λ m. wrap (sum_to (λ q. strip_value d.first (c.args.place % m) q
    *ℤ strip_value d.second (c.args.place / m) q) d.first.width)) rows_are

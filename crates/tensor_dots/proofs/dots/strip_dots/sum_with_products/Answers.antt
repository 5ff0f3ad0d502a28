use Rattle.std.proofs.Common.{◌≡◌, ◌+◌, ◌%◌, ◌+ℤ◌, ◌*ℤ◌, length, rules, ap, ◌∙◌}
use Rattle.std.specs.Int.{w64}
use Rattle.std.proofs.lemmas.Int.{wraps, wrapping_add-bits, int_wrap-add_right}
use mir.Val.{to_z, of_z}
use Rattle.tensor_shape.specs.Wrap.{wrap}
use Rattle.tensor_values.specs.Values.{value_in}
use Rattle.tensor_dots.specs.Products.{sum_to}
use Rattle.tensor_dots.proofs.dots.strip_dots.sum_with_products.Goals as goal

pub returns : goal.returns
returns c =
    let added : to_z w64 ((of_z w64 c.args.first + of_z w64 c.dot.result) % 18446744073709551616)
    ≡ wrap (c.args.first +ℤ c.dot.result) = search (rules, wraps, wrapping_add-bits w64) in
    added ∙ ap (λ s. wrap (c.args.first +ℤ s)) c.dot.ensures
    ∙ int_wrap-add_right w64 c.args.first
    (sum_to (λ q. value_in c.args.a.now q *ℤ value_in c.args.b.now q) (length c.args.a.now))

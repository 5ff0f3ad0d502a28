use Rattle.std.proofs.Common.{◌≡◌, ℕ, ◌*◌, ◌<◌, ℤ, ◌+ℤ◌, List, length, ap, sym, ◌∙◌}
use Rattle.std.proofs.lemmas.List.{with_items_is}
use Rattle.std.specs.Prelude.{Vec}
use Rattle.std.specs.Vec.{with_items}
use Rattle.tensor_shape.specs.Wrap.{wrap}
use Rattle.tensor_kernels.specs.Chunks.{before}
use Rattle.tensor_kernels.specs.private.Strassen.{IsProductAdded, product_sum}
use Rattle.tensor_values.specs.Values.{value_in}
use Rattle.tensor_kernels.specs.declared.panels.Panels.{Panels}
use Rattle.tensor_kernels.proofs.tiling.strassen.products.Products.add.Goals as goal

-- the values of a list of sums, written as those of a slice of it
is_added : {Z : Type 0} (pair : ℕ) (a b : Panels) (n : ℕ) (sums : Vec ℤ Z) (there new : List ℤ)
    → length sums.items ≡ 16 * n → there ≡ sums.items → length new ≡ 16 * n
    → ((k : ℕ) → k < 16 * n → value_in new k
    ≡ wrap (before pair (value_in there k) +ℤ product_sum a b k))
    → IsProductAdded pair a b n sums.items (with_items sums new).items
is_added pair a b n sums there new count same long each =
    let is = with_items_is sums new (long ∙ sym count ∙ sym sums.ok.0) in
    record {
      len = ap length is ∙ long;
      each = λ k below.
          ap (λ l. value_in l k) is
          ∙ each k below
          ∙ ap (λ l. wrap (before pair (value_in l k) +ℤ product_sum a b k)) same;
    }

pub returns : goal.returns
returns c = record {
  m1 = is_added c.args.pair c.args.rows.now.m1 c.args.columns.now.m1 c.args.n c.args.self.now.m1
      c.deref_mut.result.now c.add_product.new.sums c.requires.long.m1
      c.deref_mut.ensures.value c.add_product.ensures.len c.add_product.ensures.each;
  m2 = is_added c.args.pair c.args.rows.now.m2 c.args.columns.now.m2 c.args.n c.args.self.now.m2
      c.deref_mut-2.result.now c.add_product-2.new.sums c.requires.long.m2
      c.deref_mut-2.ensures.value c.add_product-2.ensures.len c.add_product-2.ensures.each;
  m3 = is_added c.args.pair c.args.rows.now.m3 c.args.columns.now.m3 c.args.n c.args.self.now.m3
      c.deref_mut-3.result.now c.add_product-3.new.sums c.requires.long.m3
      c.deref_mut-3.ensures.value c.add_product-3.ensures.len c.add_product-3.ensures.each;
  m4 = is_added c.args.pair c.args.rows.now.m4 c.args.columns.now.m4 c.args.n c.args.self.now.m4
      c.deref_mut-4.result.now c.add_product-4.new.sums c.requires.long.m4
      c.deref_mut-4.ensures.value c.add_product-4.ensures.len c.add_product-4.ensures.each;
  m5 = is_added c.args.pair c.args.rows.now.m5 c.args.columns.now.m5 c.args.n c.args.self.now.m5
      c.deref_mut-5.result.now c.add_product-5.new.sums c.requires.long.m5
      c.deref_mut-5.ensures.value c.add_product-5.ensures.len c.add_product-5.ensures.each;
  m6 = is_added c.args.pair c.args.rows.now.m6 c.args.columns.now.m6 c.args.n c.args.self.now.m6
      c.deref_mut-6.result.now c.add_product-6.new.sums c.requires.long.m6
      c.deref_mut-6.ensures.value c.add_product-6.ensures.len c.add_product-6.ensures.each;
  m7 = is_added c.args.pair c.args.rows.now.m7 c.args.columns.now.m7 c.args.n c.args.self.now.m7
      c.deref_mut-7.result.now c.add_product-7.new.sums c.requires.long.m7
      c.deref_mut-7.ensures.value c.add_product-7.ensures.len c.add_product-7.ensures.each;
}

use Rattle.std.proofs.Common.{◌≡◌, ℕ, ◌+◌, ◌-◌, ◌*◌, ◌/◌, ◌%◌, ◌<◌, ◌≤◌, ◌+ℤ◌, length, pos}
use Rattle.std.proofs.Common.{take, drop, ap, sym, ◌∙◌, arith, inl, inr, length-drop}
use Rattle.std.proofs.lemmas.Bool.{cases_lt}
use Rattle.std.proofs.lemmas.Int.{int_wrap-add_right}
use Rattle.std.proofs.lemmas.List.{get_or-take, get_or-drop, length-take-le}
use Rattle.std.proofs.lemmas.Nat.{div-mul-add, mod-mul-add}
use Rattle.std.specs.Int.{w64}
use borrow.Rule.Slice.PartMut.{put_mid}
use Rattle.tensor_shape.specs.Wrap.{wrap}
use Rattle.tensor_kernels.specs.Chunks.{before}
use Rattle.tensor_kernels.specs.Panels.{cell_of}
use Rattle.tensor_dots.specs.Products.{dot}
use Rattle.tensor_kernels.specs.private.Strassen.{product_sum}
use Rattle.tensor_values.specs.Values.{value_in}
use Rattle.tensor_kernels.specs.declared.panels.Panels.{Panels}
use Rattle.tensor_dots.proofs.Parts.{get_or-before, get_or-within, get_or-after, length-put_mid}
use Rattle.tensor_kernels.proofs.tiling.strassen.products.add_product.Goals as goal

-- the sum of a row of one column, where it stands among those of all
column-sum : (a b : Panels) (j t : ℕ) → t < 16
    → dot (cell_of 16 a.cells.items 128 (0 * 16 + t)) (cell_of 1 b.cells.items 128 j) 128
    ≡ product_sum a b (16 * j + t)
column-sum a b j t few =
    let is : 16 * j + t ≡ j * 16 + t = omega arith in
    let row : 0 * 16 + t ≡ (16 * j + t) % 16 =
    omega arith ∙ sym (ap (λ k. k % 16) is ∙ mod-mul-add j 16 t few) in
    let column : j ≡ (16 * j + t) / 16 = sym (ap (λ k. k / 16) is ∙ div-mul-add j 16 t few) in
    ap (λ x. dot (cell_of 16 a.cells.items 128 x) (cell_of 1 b.cells.items 128 j) 128) row
    ∙ ap (λ y. dot (cell_of 16 a.cells.items 128 ((16 * j + t) % 16)) (cell_of 1 b.cells.items 128 y)
    128) column

pub loop-j-preserved : goal.loop-j-preserved
loop-j-preserved c =
    let j = c.loop-j.j in
    let old = c.loop-j.sums in
    let new = c.add_run.new.out in
    let a = 16 * j in
    let n = a + 16 - a in
    let inv = c.loop-j.invariant in
    let is_n : n ≡ 16 = omega arith in
    let within : a + n ≤ length old = omega (arith, inv.len, is_n, c.loop-j-test.true) in
    let room : a ≤ length old = omega (arith, within) in
    let long : length (take n (drop a old)) ≡ n =
    length-take-le n (drop a old) (omega (arith, length-drop a old, within)) in
    let count : length new ≡ n = c.add_run.ensures.len ∙ long in
    record {
      len = length-put_mid a n old new room count within ∙ inv.len;
      added = λ k below.
          elim (cases_lt k a) [
            | inl earlier ↦ get_or-before a n old new room k earlier ∙ inv.added k earlier
            | inr later ↦
                let t = k - a in
                let here : a + t ≡ k = omega arith in
                let few : t < 16 = omega (arith, below) in
                let there : value_in (take n (drop a old)) t ≡ value_in c.args.sums.now k =
                get_or-take n (drop a old) t (pos 0) (omega (arith, few, is_n))
                ∙ get_or-drop a old t (pos 0)
                ∙ ap (λ i. value_in old i) here
                ∙ inv.kept k later in
                let so_far = before c.args.pair (value_in c.args.sums.now k) in
                ap (λ k. value_in (put_mid a n old new) k) (sym here)
                ∙ get_or-within a n old new room t (omega (arith, count, is_n, few))
                ∙ c.add_run.ensures.each t (omega (arith, long, is_n, few))
                ∙ ap (λ v. wrap (before c.args.pair v +ℤ value_in c.tile.result t)) there
                ∙ ap (λ v. wrap (so_far +ℤ v)) (c.tile.ensures.each t few)
                ∙ int_wrap-add_right w64 so_far
                (dot (cell_of 16 c.args.rows.now.cells.items 128 (0 * 16 + t))
                (cell_of 1 c.args.columns.now.cells.items 128 j) 128)
                ∙ ap (λ s. wrap (so_far +ℤ s))
                (column-sum c.args.rows.now c.args.columns.now j t few
                ∙ ap (λ k. product_sum c.args.rows.now c.args.columns.now k) here)
          ];
      kept = λ k later.
          get_or-after a n old new room k count (omega (arith, later, is_n))
          ∙ inv.kept k (omega (arith, later));
    }

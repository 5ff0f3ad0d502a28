use Rattle.std.proofs.Common.{◌≡◌, ℕ, ◌+◌, ◌*◌, ◌-◌, ◌/◌, ◌%◌, ◌<◌, ℤ, ◌+ℤ◌, List, refl, ap}
use Rattle.std.proofs.Common.{◌∙◌, arith}
use Rattle.std.proofs.lemmas.Int.{int_wrap-add_right}
use Rattle.std.proofs.lemmas.Nat.{div-add-mod', mod_below}
use Rattle.std.specs.Int.{w64}
use Rattle.tensor_shape.specs.Wrap.{wrap}
use Rattle.tensor_kernels.specs.Chunks.{before}
use Rattle.tensor_kernels.specs.private.Strassen.{block_sum, quadrant_value, IsPutInPanel}
use Rattle.tensor_kernels.specs.private.Tiles.{IsPut}
use Rattle.tensor_values.specs.Values.{value_in}
use Rattle.tensor_kernels.specs.declared.panels.height.Height.TheVariants.{Sixteen}
use Rattle.tensor_kernels.specs.declared.tiling.placing.Tile.{Tile}
use Rattle.tensor_kernels.specs.declared.tiling.strassen.block.Block.{Block}
use Rattle.tensor_kernels.proofs.tiling.strassen.block.Block.put_panel.Goals as goal

-- what a tile's sums make of a place, where they are those of the products
is_put : (block : Block) (r j p : ℕ) (sums : List ℤ) (tile : Tile) (old new : ℤ) → r < 2
    → tile.rows ≡ block.rows → tile.height ≡ Sixteen → tile.panel ≡ 2 * block.block + r
    → tile.column ≡ j
    → ((t : ℕ) → t < 16 → value_in sums t ≡ wrap (quadrant_value block.products.now r
    (j / block.half) (16 * (j % block.half) + t)))
    → IsPut tile block.number sums p old new → IsPutInPanel block r j p old new
is_put block r j p sums tile old new two is_rows is_height is_panel is_column are put =
    let x = p % block.rows in
    let s = 2 * block.block + r in
    record {
      within = λ panel column.
          let t = x - s * 16 in
          let so_far = before block.number old in
          let whole = div-add-mod' x 16 in
          let rest = mod_below x 16 (omega arith) in
          let low : t < 16 = omega (arith, whole, rest, ap (λ k. k * 16) panel) in
          let row : t ≡ x % 16 = omega (arith, whole, rest, ap (λ k. k * 16) panel) in
          let half : x / 16 % 2 ≡ r = ap (λ k. k % 2) panel ∙ omega (arith, two) in
          let sum : wrap (quadrant_value block.products.now r (j / block.half)
          (16 * (j % block.half) + t)) ≡ wrap (block_sum block p) =
          rw (half, column, ← row) refl in
          rw (is_rows, is_height, is_panel, is_column) at put.within panel column
          ∙ ap (λ v. wrap (so_far +ℤ v)) (are t low ∙ sum)
          ∙ int_wrap-add_right w64 so_far (block_sum block p);
      other = rw (is_rows, is_height, is_panel) at put.other;
      elsewhere = rw (is_rows, is_column) at put.elsewhere;
    }

pub returns-then-meets-clause-each : goal.returns-then-meets-clause-each
returns-then-meets-clause-each c k within =
    is_put c.args.self.now c.args.r c.args.j (c.args.from + k) _ _ _ _ c.requires.panel refl refl
    refl refl c.sums.ensures.each (c.put.ensures.each k within)

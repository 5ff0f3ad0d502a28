use Rattle.std.proofs.Common.{◌≡◌, ℕ, ◌+◌, ◌*◌, ◌-◌, ◌%◌, ◌<◌, ℤ, ◌+ℤ◌, List, refl, ap, sym}
use Rattle.std.proofs.Common.{◌∙◌, arith}
use Rattle.std.proofs.lemmas.Int.{int_wrap-add_right}
use Rattle.std.proofs.lemmas.Nat.{div-add-mod', mod_below}
use Rattle.std.specs.Int.{w64}
use Rattle.tensor_shape.specs.Wrap.{wrap}
use Rattle.tensor_kernels.specs.private.Cells.{height_of}
use Rattle.tensor_kernels.specs.Chunks.{before}
use Rattle.tensor_kernels.specs.private.PackedChunks.{tile_sum, IsPutInTile}
use Rattle.tensor_kernels.specs.private.Tiles.{IsPut}
use Rattle.tensor_values.specs.Values.{value_in}
use Rattle.tensor_kernels.specs.declared.tiling.packed_chunk.PackedChunk.{PackedChunk}
use Rattle.tensor_kernels.specs.declared.tiling.placing.Tile.{Tile}
use Rattle.tensor_kernels.proofs.Heights.{height-some}
use Rattle.tensor_kernels.proofs.tiling.packed_chunk.PackedChunk.put_tile.Goals as goal

-- what a tile's sums make of a place, where they are those of a chunk's products
is_put : (chunk : PackedChunk) (s j p : ℕ) (sums : List ℤ) (tile : Tile) (old new : ℤ)
    → tile.rows ≡ chunk.rows → tile.height ≡ chunk.height → tile.panel ≡ s → tile.column ≡ j
    → ((t : ℕ) → t < height_of chunk.height
    → value_in sums t ≡ wrap (tile_sum chunk (s * height_of chunk.height + t) j))
    → IsPut tile chunk.number sums p old new → IsPutInTile chunk s j p old new
is_put chunk s j p sums tile old new is_rows is_height is_panel is_column are put =
    let h = height_of chunk.height in
    let x = p % chunk.rows in
    record {
      within = λ panel column.
          let t = x - s * h in
          let so_far = before chunk.number old in
          let whole = div-add-mod' x h in
          let rest = mod_below x h (height-some chunk.height) in
          let low : t < h = omega (arith, whole, rest, ap (λ k. k * h) panel) in
          let row : s * h + t ≡ x = omega (arith, whole, rest, ap (λ k. k * h) panel) in
          rw (is_rows, is_height, is_panel, is_column) at put.within panel column
          ∙ ap (λ v. wrap (so_far +ℤ v)) (are t low)
          ∙ int_wrap-add_right w64 so_far (tile_sum chunk (s * h + t) j)
          ∙ ap (λ x. wrap (so_far +ℤ tile_sum chunk x j)) row
          ∙ ap (λ y. wrap (so_far +ℤ tile_sum chunk x y)) (sym column);
      other = rw (is_rows, is_height, is_panel) at put.other;
      elsewhere = rw (is_rows, is_column) at put.elsewhere;
    }

pub returns-then-meets-clause-each : goal.returns-then-meets-clause-each
returns-then-meets-clause-each c k within =
    is_put c.args.self.now c.args.s c.args.j (c.args.from + k) _ _ _ _ refl refl refl refl
    c.tile.ensures.each (c.put.ensures.each k within)

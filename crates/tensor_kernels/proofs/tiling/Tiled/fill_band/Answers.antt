use Rattle.std.proofs.Common.{◌≡◌, ◌+◌, ◌*◌, ◌<◌, length, refl, ap, ◌∙◌, arith}
use Rattle.tensor_shape.specs.Wrap.{wrap}
use Rattle.tensor_kernels.specs.Chunks.{before, chunk, chunk_start}
use Rattle.tensor_values.specs.Values.{value_in}
use Rattle.tensor_dots.specs.Products.{sum_to}
use Rattle.tensor_dots.specs.Rows.{row_length}
use Rattle.tensor_kernels.specs.Tiling.{product_at, chunk_total}
use Rattle.tensor_kernels.proofs.ChunkSums.{wrap-chunk, before-later, before-twice, length-chunk}
use Rattle.tensor_kernels.proofs.tiling.Tiled.fill_band.Goals as goal

pub loop-c-init : goal.loop-c-init
loop-c-init c = record {
  len = refl;
  sums = λ k within.
      let t = c.args.self.now in
      let p = c.args.place + k in
      let n = row_length t.first in
      let paired : t.pairs * 256 ≡ chunk_start n (2 * t.pairs) = omega (arith, t.paired) in
      before-twice t.pairs (value_in c.fill_pairs.new.out k)
      ∙ c.in_ok-fill_pairs.ensures.each k (omega (arith, within, c.fill_pairs.ensures.len))
      ∙ ap (λ m. wrap (sum_to (product_at t.first t.second p) m)) paired;
}

pub loop-c-preserved : goal.loop-c-preserved
loop-c-preserved c = record {
  len = c.add_chunk.ensures.len ∙ c.loop-c.invariant.len;
  sums = λ k within.
      let t = c.args.self.now in
      let i = c.loop-c.c in
      let p = c.args.place + k in
      let n = row_length t.first in
      let here : k < length c.loop-c.out = omega (arith, c.loop-c.invariant.len) in
      before-later (i + 1) (value_in c.add_chunk.new.out k) (omega arith)
      ∙ wrap-chunk (product_at t.first t.second p) (chunk_start n i)
      (length (chunk t.first.offsets.items i)) (chunk_start n (i + 1)) _
      (before i (value_in c.loop-c.out k)) (chunk_total t i p)
      (length-chunk t.first.offsets.items i) (c.loop-c.invariant.sums k within) refl
      (c.in_ok-add_chunk.ensures.each k here);
}

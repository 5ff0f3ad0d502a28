use Rattle.std.proofs.Common.{◌≡◌, ℕ, zero, suc, ◌+◌, ◌*◌, ◌<◌, ℤ, length, refl, ap, sym, ◌∙◌, arith}
use Rattle.std.proofs.Common.{min}
use Rattle.std.specs.Int.{div_ceil}
use Rattle.tensor_shape.specs.Wrap.{wrap}
use Rattle.tensor_kernels.specs.Chunks.{before}
use Rattle.tensor_values.specs.Values.{value_in}
use Rattle.tensor_dots.specs.Products.{sum_to}
use Rattle.tensor_kernels.specs.Tiling.{product_at, group_pairs, group_total}
use Rattle.tensor_kernels.proofs.ChunkSums.{wrap-chunk, before-later}
use Rattle.tensor_kernels.proofs.tiling.Tiled.fill_pairs.Goals as goal

pub loop-group-preserved : goal.loop-group-preserved
loop-group-preserved c = record {
  len = c.add_group.ensures.len ∙ c.loop-group.invariant.len;
  sums = λ k within.
      let t = c.args.self.now in
      let i = c.loop-group.group in
      let p = c.args.place + k in
      let f = product_at t.first t.second p in
      let old = value_in c.loop-group.out k in
      let here : k < length c.loop-group.out = omega (arith, c.loop-group.invariant.len) in
      let low : i * 2 < t.pairs = omega (arith, c.loop-group-test.true, c.groups_of-group-end.ensures) in
      let start : min (i * 2) t.pairs * 256 ≡ i * 512 = omega (arith, low) in
      before-later (i + 1) (value_in c.add_group.new.out k) (omega arith)
      ∙ wrap-chunk f (min (i * 2) t.pairs * 256) (group_pairs t i * 256)
      (min ((i + 1) * 2) t.pairs * 256) _ (before i old) (group_total t i p) (omega (arith, low))
      (c.loop-group.invariant.sums k within)
      (ap (λ a. sum_to (λ q. f (a + q)) (group_pairs t i * 256)) (sym start))
      (c.in_ok-add_group.ensures.each k here);
}

-- a sum stands there where there are groups, and so where there are pairs
before-groups : (pairs : ℕ) (v : ℤ) → before (div_ceil pairs 2) v ≡ before pairs v
before-groups zero v = refl
before-groups (suc n) v = before-later (div_ceil (suc n) 2) v (omega arith)

pub returns-clause-each : goal.returns-clause-each
returns-clause-each c k within =
    let t = c.args.self.now in
    let f = product_at t.first t.second (c.args.place + k) in
    let out = value_in c.loop-group.out k in
    let i = c.loop-group.group in
    let last : i ≡ div_ceil t.pairs 2 =
    omega (arith, c.groups_of-group-end.ensures, c.loop-group-test.false, c.loop-group.auto.group-end) in
    let all : min (i * 2) t.pairs ≡ t.pairs = omega (arith, last) in
    sym (before-groups t.pairs out) ∙ ap (λ i. before i out) (sym last)
    ∙ c.loop-group.invariant.sums k within
    ∙ ap (λ n. wrap (sum_to f (n * 256))) all

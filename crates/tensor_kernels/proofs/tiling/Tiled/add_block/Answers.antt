use Rattle.std.proofs.Common.{◌≡◌, ◌+◌, ◌*◌, ◌/◌, ◌%◌, ◌<◌, length, refl, ap, sym, ◌∙◌, arith}
use Rattle.std.proofs.Math.Nat.{mul-add-mod_self_right}
use Rattle.tensor_shape.specs.Wrap.{wrap}
use Rattle.tensor_kernels.specs.Chunks.{before}
use Rattle.tensor_kernels.specs.private.Strassen.{sum_at}
use Rattle.tensor_kernels.specs.Tiling.{gathered_total, group_total}
use Rattle.tensor_values.specs.Values.{value_in}
use Rattle.tensor_kernels.proofs.ChunkSums.{before-later}
use Rattle.tensor_kernels.proofs.Congruence.{same-add}
use Rattle.tensor_dots.proofs.Parts.{line-place}
use Rattle.tensor_kernels.proofs.tiling.Tiled.add_block.Goals as goal

pub returns-clause-each : goal.returns-clause-each
returns-clause-each c k within =
    let t = c.args.self.now in
    let band = c.args.band.now in
    let m = t.rows in
    let some : 0 < m = omega (arith, c.requires.block) in
    let l = band.place % m + k in
    let p = band.place + k in
    let here = line-place m band.place k in
    let row : l % m ≡ p % m =
    sym (mul-add-mod_self_right (band.place / m) m l) ∙ ap (λ p. p % m) here in
    let put = c.put.ensures.each k within in
    let old = value_in c.args.out.now k in
    let products = c.gather.new.products in
    let count = length band.factors.now in
    let some_pairs : 0 < count =
    omega (arith, c.requires.band.count, c.requires.band.group) in
    let inside : l < band.columns * m = omega (arith, within, c.requires.inside) in
    let gathered = λ (at : p % m / 32 ≡ c.args.b).
    sym (ap wrap (before-later count (sum_at m band.half products l) some_pairs))
    ∙ c.in_ok-gather.ensures.each l inside (ap (λ x. x / 32) row ∙ at)
    ∙ ap (λ p. wrap (gathered_total t band.group count p)) here
    ∙ ap (λ n. wrap (gathered_total t band.group n p)) c.requires.band.count in
    record {
      within = λ at.
          put.within (ap (λ x. x / 32) row ∙ at)
          ∙ same-add (before band.group old) (before band.group old)
          (sum_at m band.half products l) (group_total t band.group p) refl (gathered at);
      other = λ apart. put.other (λ same. apart (sym (ap (λ x. x / 32) row) ∙ same));
    }

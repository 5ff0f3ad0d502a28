use Rattle.std.proofs.Common.{◌≡◌, ℕ, ◌+◌, ◌/◌, ◌%◌, ◌<◌, ◌+ℤ◌, length, ap, ◌∙◌, arith, inl, inr}
use Rattle.std.proofs.lemmas.Bool.{cases_lt}
use Rattle.std.proofs.lemmas.Nat.{mod_below}
use Rattle.tensor_shape.specs.Wrap.{wrap}
use Rattle.tensor_kernels.specs.Chunks.{before}
use Rattle.tensor_kernels.specs.Tiling.{group_total}
use Rattle.tensor_kernels.proofs.TilePlaces.{part-of}
use Rattle.tensor_values.proofs.Factors.{some_factor}
use Rattle.tensor_kernels.proofs.tiling.Tiled.add_blocks.Goals as goal

pub loop-b-preserved : goal.loop-b-preserved
loop-b-preserved c =
    let t = c.args.self.now in
    let band = c.args.band.now in
    let inv = c.loop-b.invariant in
    let b = c.loop-b.b in
    let added = λ (k : ℕ) (within : k < length c.args.out.now).
    c.in_ok-add_block.ensures.each k (omega (arith, within, inv.len)) in
    record {
      long = c.add_block.ensures.long;
      len = c.add_block.ensures.len ∙ inv.len;
      put = λ k within earlier.
          let x = (band.place + k) % t.rows / 32 in
          elim (cases_lt x b) [
            | inl before_b ↦
                (added k within).other (λ same. absurd (omega (arith, before_b, same)))
                ∙ inv.put k within before_b
            | inr at ↦
                let here : x ≡ b = omega (arith, at, earlier) in
                (added k within).within here
                ∙ ap (λ v. wrap (before band.group v +ℤ group_total t band.group (band.place + k)))
                (inv.kept k within (omega (arith, here)))
          ];
      kept = λ k within later.
          (added k within).other (λ same. absurd (omega (arith, later, same)))
          ∙ inv.kept k within (omega (arith, later));
    }

pub returns-clause-each : goal.returns-clause-each
returns-clause-each c k within =
    let t = c.args.self.now in
    let m = t.rows in
    let x = (c.args.band.now.place + k) % m in
    let some : 0 < m =
    some_factor c.args.band.now.columns m k (omega (arith, within, c.requires.inside)) in
    c.loop-b.invariant.put k within
    (omega (
      arith,
      part-of 32 m x (omega arith) (mod_below (c.args.band.now.place + k) m some),
      c.div_ceil-b-end.ensures,
    ))

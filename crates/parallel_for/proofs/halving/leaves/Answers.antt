use Rattle.std.proofs.Common.{◌∷◌, ◌++◌, ◌-◌, ◌+◌, ◌*◌, ◌∙◌, ap, sym, arith, rules, List, []}
use Rattle.std.proofs.Common.{map}
use Rattle.std.specs.List.{range_with_len}
use Rattle.std.proofs.lemmas.List.FromFn.{map-range_with_len_more}
use Rattle.parallel_for.specs.Leaves.{Range, leaf}
use Rattle.parallel_for.proofs.Cutting.{leaf-worked_out}
use Rattle.parallel_for.proofs.halving.leaves.Goals as goal

pub loop-i-preserved : goal.loop-i-preserved
loop-i-preserved g c =
    let n = c.args.n in
    let b = c.args.block in
    let i = c.loop-i.i in
    let leaf_at = leaf 0 (n - 0) b in
    record {
      items =
          c.push_reserved.ensures.items
          ∙ ap (λ (l : List Range). l ++ (i * b, i * b + c.min.result) ∷ [])
          c.loop-i.invariant.items
          ∙ ap (λ (r : Range). map leaf_at (range_with_len 0 i) ++ r ∷ [])
          (rw c.min.ensures (leaf-worked_out n b i c.requires (search rules)))
          ∙ sym (map-range_with_len_more leaf_at 0 i i (omega arith));
      len = c.push_reserved.ensures.len ∙ ap (λ k. k + 1) c.loop-i.invariant.len;
      room = omega (arith, c.push_reserved.ensures.capacity, c.loop-i.invariant.room);
    }

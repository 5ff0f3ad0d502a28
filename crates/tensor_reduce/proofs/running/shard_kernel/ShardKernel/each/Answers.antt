use Rattle.std.proofs.Common.{rules, ℕ, ℤ, List, [], ◌∷◌, ◌++◌, ◌≡◌, ◌-◌, ◌+◌, ◌∙◌, ap, sym, refl, arith, map}
use Rattle.std.specs.Int.{w64}
use Rattle.std.specs.List.{range_with_len}
use Rattle.std.proofs.lemmas.Int.{to_z-of_z}
use Rattle.std.proofs.lemmas.List.FromFn.{map-range_with_len_more}
use mir.Val.{SFits, to_z, of_z}
use Rattle.tensor_reduce.specs.private.Combined.{shard_at_place}
use Rattle.tensor_reduce.proofs.running.shard_kernel.ShardKernel.each.Goals as goal

pub loop-place-preserved : goal.loop-place-preserved
loop-place-preserved g c =
    let first = c.args.first in
    let place = c.loop-place.place in
    let value_at : ℕ → ℤ = shard_at_place c.args.self.now in
    let next : place + 1 - first ≡ place - first + 1 = omega arith in
    let fits : SFits w64 c.in_ok-shard.field-0 = search rules in
    let put : to_z w64 (of_z w64 c.in_ok-shard.field-0) ≡ c.in_ok-shard.field-0 =
    simp to_z-of_z refl in
    record {
      items =
          c.push_reserved.ensures.items
          ∙ ap (λ (xs : List ℤ). xs ++ to_z w64 (of_z w64 c.in_ok-shard.field-0) ∷ []) c.loop-place.invariant.items
          ∙ ap (λ (x : ℤ). map value_at (range_with_len first (place - first)) ++ x ∷ [])
          (put ∙ c.in_ok-shard.ensures)
          ∙ sym (map-range_with_len_more value_at first (place - first) place (omega arith))
          ∙ ap (λ (k : ℕ). map value_at (range_with_len first k)) (sym next);
      len = omega (arith, c.push_reserved.ensures.len, c.loop-place.invariant.len);
      room = omega (arith, c.push_reserved.ensures.capacity, c.loop-place.invariant.room);
    }

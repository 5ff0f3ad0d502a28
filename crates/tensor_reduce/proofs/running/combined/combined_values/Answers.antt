use Rattle.std.proofs.Common.{rules, take, drop, refl, ◌-◌, ◌*◌, ℕ, ℤ, List, [], ◌∷◌, ◌++◌, ◌≡◌, ◌+◌, ◌∙◌, ap, sym, arith, map}
use Rattle.std.specs.Int.{w64}
use Rattle.std.specs.List.{range_with_len}
use Rattle.std.proofs.lemmas.Int.{to_z-of_z}
use Rattle.std.proofs.lemmas.List.FromFn.{map-range_with_len_more}
use mir.Val.{SFits, to_z, of_z}
use Rattle.tensor_ops.specs.Combining.{combination}
use Rattle.tensor_reduce.specs.private.Combined.{combined_by}
use Rattle.tensor_reduce.proofs.running.combined.combined_values.Goals as goal

pub loop-value-preserved : goal.loop-value-preserved
loop-value-preserved c =
    let value_at : ℕ → ℤ = combined_by c.args.reducer c.args.count c.args.parts.now in
    let value : ℕ = c.loop-value.value in
    let first : ℕ = value * c.args.count in
    let fits : SFits w64 c.combination.result = search rules in
    let put : to_z w64 (of_z w64 c.combination.result) ≡ c.combination.result =
    simp to_z-of_z refl in
    let width : first + c.args.count - first ≡ c.args.count = omega arith in
    let made : c.combination.result ≡ value_at value =
    c.combination.ensures
    ∙ ap (λ n. combination c.args.reducer (take n (drop first c.args.parts.now))) width in
    record {
      items =
          c.push_reserved.ensures.items
          ∙ ap (λ (xs : List ℤ). xs ++ to_z w64 (of_z w64 c.combination.result) ∷ []) c.loop-value.invariant.items
          ∙ ap (λ (x : ℤ). map value_at (range_with_len 0 value) ++ x ∷ []) (put ∙ made)
          ∙ sym (map-range_with_len_more value_at 0 value value (omega arith));
      len = omega (arith, c.push_reserved.ensures.len, c.loop-value.invariant.len);
      room = omega (arith, c.push_reserved.ensures.capacity, c.loop-value.invariant.room);
    }

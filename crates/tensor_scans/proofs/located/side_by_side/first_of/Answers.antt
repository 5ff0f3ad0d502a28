use Rattle.std.proofs.Common.{◌≡◌, ℤ, pos, ◌+◌, ◌≤◌, length, drop, rules, ap, sym, ◌∙◌, arith}
use Rattle.std.specs.Int.{w64}
use Rattle.std.specs.List.{between, fold}
use Rattle.std.proofs.lemmas.Int.{to_z-of_z, to_z_pos}
use Rattle.std.proofs.Math.Facts.{of_z-to_z}
use Rattle.std.proofs.lemmas.List.{take_all}
use Rattle.std.proofs.lemmas.List.Edits.{length-between}
use Rattle.std.proofs.lemmas.Slice.{between_to_end}
use mir.Val.{SFits, of_z, to_z}
use Rattle.tensor_scans.specs.Lines.{first_place, reducer_of}
use Rattle.tensor_values.specs.Combining.{combination, combine}
use Rattle.tensor_values.specs.declared.reducer.Reducer.{Reducer}
use Rattle.tensor_scans.proofs.Chunks.{chunk-combined, chunk-changed, first_place-from, first_place-le}
use Rattle.tensor_scans.proofs.LineReads.{outcome-single}
use Rattle.tensor_scans.proofs.located.side_by_side.first_of.Goals as goal
use Rattle.tensor_scans.proofs.located.side_by_side.first_of.Goals.{After-place_of}

pub loop-next-preserved-then-combined-best : goal.loop-next-preserved-then-combined-best
loop-next-preserved-then-combined-best c =
    let inv = c.loop-next.invariant in
    let o = c.args.operation in
    let xs = c.args.values.now in
    let next = c.loop-next.next in
    let end = c.min-end.result in
    let best : ℤ = to_z w64 c.loop-next.best-bits in
    let order : next ≤ end = omega (arith, c.min-end.ensures) in
    let fits : SFits w64 c.combined_with-combined.result = search rules in
    let x : ℤ = to_z w64 (of_z w64 c.combined_with-combined.result) in
    let same : x ≡ c.combined_with-combined.result = to_z-of_z w64 c.combined_with-combined.result fits in
    let is : x ≡ fold (combine (reducer_of o)) best (between next end xs) =
    same ∙ c.combined_with-combined.ensures
    ∙ ap (λ (r : Reducer). fold (combine r) best (between next end xs)) c.reducer-reducer.ensures in
    record {
      order = order;
      within = omega (arith, c.min-end.ensures);
      best = chunk-combined o xs next end best x order inv.best is;
      none = chunk-changed o xs next end best x order inv.best is c.requires
          (λ e. c.if-combined-best.true (ap (of_z w64) (sym same ∙ e) ∙ of_z-to_z c.loop-next.auto.best));
    }

pub loop-next-preserved : goal.loop-next-preserved
loop-next-preserved c =
    let inv = c.loop-next.invariant in
    let o = c.args.operation in
    let xs = c.args.values.now in
    let next = c.loop-next.next in
    let end = c.min-end.result in
    let best : ℤ = to_z w64 c.loop-next.best-bits in
    let order : next ≤ end = omega (arith, c.min-end.ensures) in
    let fits : SFits w64 c.combined_with-combined.result = search rules in
    let same : best ≡ c.combined_with-combined.result =
    ap (to_z w64) (sym c.if-combined-best.false) ∙ to_z-of_z w64 c.combined_with-combined.result fits in
    let is : best ≡ fold (combine (reducer_of o)) best (between next end xs) =
    same ∙ c.combined_with-combined.ensures
    ∙ ap (λ (r : Reducer). fold (combine r) best (between next end xs)) c.reducer-reducer.ensures in
    record {
      order = omega (arith, inv.order, order);
      within = omega (arith, c.min-end.ensures);
      best = chunk-combined o xs next end best best order inv.best is;
      none = inv.none;
    }

-- the place is within the values, or their number
in_range : (c : After-place_of) → c.loop-next.chunk + c.place_of.result ≤ length c.args.values.now
in_range c =
    let xs = c.args.values.now in
    let chunk = c.loop-next.chunk in
    let rest = between chunk (length xs) xs in
    omega (
      arith,
      c.loop-next.invariant,
      c.place_of.ensures,
      first_place-le (to_z w64 c.loop-next.best-bits) rest,
      length-between xs chunk (length xs) (omega arith),
    )

pub overflow_add-result : goal.overflow_add-result
overflow_add-result c = omega (arith, in_range c)

pub overflow_cast-result : goal.overflow_cast-result
overflow_cast-result c = record { sfits = omega (arith, in_range c) }

pub returns : goal.returns
returns c =
    let inv = c.loop-next.invariant in
    let o = c.args.operation in
    let xs = c.args.values.now in
    let chunk = c.loop-next.chunk in
    let best : ℤ = to_z w64 c.loop-next.best-bits in
    let whole : best ≡ combination (reducer_of o) xs =
    inv.best ∙ ap (combination (reducer_of o)) (take_all c.loop-next.next xs (omega arith)) in
    let from : first_place best xs ≡ chunk + first_place best (drop chunk xs) =
    first_place-from best xs chunk (omega (arith, inv.order, inv.within)) inv.none in
    let here : chunk + c.place_of.result ≡ first_place (combination (reducer_of o) xs) xs =
    ap (λ n. chunk + n)
    (c.place_of.ensures ∙ ap (first_place best) (between_to_end xs chunk (length xs) (omega arith)))
    ∙ sym from ∙ ap (λ v. first_place v xs) whole in
    to_z_pos w64 (chunk + c.place_of.result) (omega (arith, in_range c)) ∙ ap pos here
    ∙ sym (outcome-single o xs c.requires)

use Rattle.std.proofs.Common.{◌≡◌, ◌+◌, ◌-◌, ◌*◌, ℕ, ℤ, List, length, map, rules, refl, ap}
use Rattle.std.proofs.Common.{◌∙◌, arith}
use Rattle.std.specs.Int.{w64}
use Rattle.std.specs.List.{range_with_len}
use Rattle.std.proofs.lemmas.Int.{to_z-of_z}
use Rattle.std.proofs.lemmas.List.FromFn.{length-map-range_with_len}
use mir.Val.{SFits, to_z, of_z}
use Rattle.tensor_kernels.specs.Contracting.{contraction_value}
use Rattle.tensor_values.specs.Combining.{unit}
use Rattle.tensor_values.specs.Values.{value_in}
use Rattle.tensor_loops.specs.Folds.{folded}
use Rattle.tensor_loops.proofs.Folding.{folded-ext}
use Rattle.tensor_ops.specs.private.ContractedRuns.{contracted_value}
use Rattle.tensor_ops.proofs.PartValues.{piece-value}
use Rattle.tensor_ops.proofs.part_evaluator.contracted_runs.ContractedRuns.combined.Goals as goal

pub returns : goal.returns
returns c =
    let s = c.args.self.now in
    let r = c.args.reducer in
    let at : ℕ → ℤ = contraction_value s.contraction in
    let first = c.args.first in
    let count : ℕ = c.args.last - first in
    let start : ℕ = s.length * c.args.run in
    let items : List ℤ = c.in_ok-values.values.items in
    let same : items ≡ map at (range_with_len (start + first) count) =
    c.in_ok-values.ensures
    ∙ ap (λ n. map at (range_with_len (start + first) n)) (omega arith) in
    let long : length items ≡ count =
    ap length same ∙ length-map-range_with_len at (start + first) count in
    let unit_fits : SFits w64 c.unit.result = search rules in
    let from_unit : to_z w64 (of_z w64 c.unit.result) ≡ unit r =
    simp to_z-of_z refl ∙ c.unit.ensures in
    let fits : SFits w64 c.combined_with.result = search rules in
    let put : to_z w64 (of_z w64 c.combined_with.result) ≡ c.combined_with.result =
    simp to_z-of_z refl in
    put ∙ c.combined_with.ensures
    ∙ ap (λ x. folded r x (value_in c.deref.result.now) (length c.deref.result.now)) from_unit
    ∙ ap (λ l. folded r (unit r) (value_in l) (length l)) c.deref.ensures.value
    ∙ ap (folded r (unit r) (value_in items)) long
    ∙ folded-ext r (unit r) (value_in items) (λ q. contracted_value s c.args.run (first + q)) count
    (λ k below. piece-value at (start + first) count items k same below ∙ ap at (omega arith))

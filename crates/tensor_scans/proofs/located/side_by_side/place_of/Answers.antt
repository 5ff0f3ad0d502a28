use Rattle.std.proofs.Common.{◌≡◌, ℤ, length, ap, sym, ◌∙◌, arith}
use Rattle.std.specs.Int.{w64}
use Rattle.std.proofs.lemmas.Int.{to_z-of_z}
use mir.Val.{of_z, to_z}
use Rattle.tensor_scans.specs.Lines.{first_place}
use Rattle.tensor_scans.proofs.Chunks.{first_place-next, first_place-end}
use Rattle.tensor_scans.proofs.located.side_by_side.place_of.Goals as goal

pub loop-k-preserved : goal.loop-k-preserved
loop-k-preserved c =
    let v : ℤ = to_z w64 (of_z w64 c.args.value) in
    let back : v ≡ c.args.value = to_z-of_z w64 c.args.value c.ranges.value in
    first_place-next v c.args.values.now c.loop-k.k c.loop-k.invariant c.loop-k-test.true
    (λ e. c.if-values-k.false (ap (of_z w64) (e ∙ back)))

pub returns : goal.returns
returns c =
    let v : ℤ = to_z w64 (of_z w64 c.args.value) in
    let back : v ≡ c.args.value = to_z-of_z w64 c.args.value c.ranges.value in
    let last : length c.args.values.now ≡ c.loop-k.k = omega arith in
    last ∙ sym (first_place-end v c.args.values.now c.loop-k.k c.loop-k.invariant c.loop-k-test.false)
    ∙ ap (λ z. first_place z c.args.values.now) back

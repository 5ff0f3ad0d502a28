use Rattle.std.proofs.Common.{◌≡◌, ℕ, ℤ, ◌+◌, ◌*◌, ◌<◌, ◌≤◌, length, rules, refl, ap, sym, ◌∙◌, arith}
use Rattle.std.proofs.lemmas.Int.{to_z-of_z}
use Rattle.std.proofs.lemmas.List.{length-set}
use Rattle.std.specs.Int.{w64}
use mir.Val.{SFits, of_z, to_z}
use Rattle.tensor_scans.specs.Lines.{outcome}
use Rattle.tensor_scans.specs.Places.{along_at, line_values}
use Rattle.tensor_values.specs.Values.{value_in}
use Rattle.tensor_values.proofs.Runs.{each-more}
use Rattle.tensor_scans.proofs.LineReads.{along-single, side-line, side-within}
use Rattle.tensor_scans.proofs.along.AlongLines.fill_side_by_side.Goals as goal

pub loop-k-preserved : goal.loop-k-preserved
loop-k-preserved c =
    let inv = c.loop-k.invariant in
    let lines = c.args.self.lines in
    let k = c.loop-k.k in
    let p : ℕ = c.args.first + k in
    let values : ℕ → ℤ = value_in c.args.self.values.now in
    let f : ℕ → ℤ = λ j. along_at c.args.self.operation lines values (c.args.first + j) in
    let fits : SFits w64 c.first_of.result = search rules in
    let x : ℤ = to_z w64 (of_z w64 c.first_of.result) in
    let below : p < line_values lines 1 = omega arith in
    let inside : p * lines.length + lines.length ≤ length c.args.self.values.now =
    omega (arith, c.args.self.whole, side-within lines p c.requires.stride below) in
    let line = side-line lines c.args.self.values.now p (p * lines.length) c.requires.stride refl inside in
    let is : x ≡ f k =
    to_z-of_z w64 c.first_of.result fits ∙ c.first_of.ensures ∙ ap (outcome c.args.self.operation) line
    ∙ sym (along-single c.args.self.operation lines values p c.requires.single) in
    let within : k < length c.loop-k.out = omega (arith, inv.len) in
    record {
      len = length-set c.loop-k.out k x ∙ inv.len;
      each = each-more f c.loop-k.out k x within is inv.each;
    }

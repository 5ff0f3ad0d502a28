use Rattle.std.proofs.Common.{◌≡◌, ℤ, length-set, to_z, of_z, w64, rules, ap, sym, ◌∙◌, arith}
use Rattle.std.proofs.lemmas.Int.{to_z-of_z}
use mir.Val.{SFits}
use Rattle.tensor_scans.specs.Lines.{taken_from}
use Rattle.tensor_values.specs.Values.{value_in}
use Rattle.tensor_values.proofs.Runs.{each-more}
use Rattle.tensor_scans.proofs.TakenRows.{taken-within, taken-past}
use Rattle.tensor_scans.proofs.taken.take_each.Goals as goal
use Rattle.tensor_scans.proofs.taken.take_each.Goals.{then-number-line, else-number-line}

pub loop-i-preserved : goal.loop-i-preserved
loop-i-preserved c =
    let inv = c.loop-i.invariant in
    let line = c.args.line.now in
    let out = c.loop-i.out in
    let i = c.loop-i.i in
    let place = c.cast_unsigned-number.result in
    let number : ℤ = value_in c.args.numbers.now i in
    let fits : SFits w64 number = search rules in
    let is : place ≡ of_z w64 number = c.cast_unsigned-number.ensures ∙ ap (of_z w64) (to_z-of_z w64 number fits) in
    let x : ℤ = to_z w64 c.if-number-line.out-bits in
    let here : x ≡ taken_from line number =
    elim c.if-number-line.branch [
      | then-number-line w ↦
          let read : SFits w64 (value_in line place) = search rules in
          w.out-is ∙ to_z-of_z w64 (value_in line place) read ∙ ap (value_in line) is
          ∙ taken-within line number fits (omega arith) (omega (arith, is, w.if-number-line.true))
      | else-number-line w ↦ w.out-is ∙ sym (taken-past line number (omega (arith, is, w.if-number-line.false)))
    ] in
    record {
      len = length-set out i x ∙ inv.len;
      each = each-more (λ k. taken_from line (value_in c.args.numbers.now k)) out i x (omega arith) here inv.each;
    }

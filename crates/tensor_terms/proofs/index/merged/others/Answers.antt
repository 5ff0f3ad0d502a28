use Rattle.std.proofs.Common.{◌≡◌, ℕ, Bool, ◌+◌, ◌∷◌, [], ◌++◌, length, true, false, not, ap, sym}
use Rattle.std.proofs.Common.{◌∙◌, arith}
use Rattle.std.proofs.lemmas.List.{length-append}
use Rattle.tensor_terms.specs.Movement.{is_among}
use Rattle.tensor_terms.proofs.OtherAxes.{filter-picks, filter-drops}
use Rattle.tensor_terms.proofs.index.merged.others.Goals.{then-not-is_among, else-not-is_among}
use Rattle.tensor_terms.proofs.index.merged.others.Goals as goal

pub loop-axis-preserved : goal.loop-axis-preserved
loop-axis-preserved c =
    let axis = c.loop-axis.axis in
    let test : ℕ → Bool = λ k. not (is_among k c.args.axes.now) in
    elim c.if-not-is_among.branch [
      | then-not-is_among w ↦
          let passes : test axis ≡ true =
          ap not (sym c.is_among.ensures ∙ w.if-not-is_among.true) in
          let long : length c.if-not-is_among.found.items ≡ length c.loop-axis.found.items + 1 =
          ap (λ f. length f.items) w.found-is ∙ ap length w.push.ensures.items
          ∙ length-append c.loop-axis.found.items (axis ∷ []) in
          record {
            items =
                ap (λ f. f.items) w.found-is ∙ w.push.ensures.items
                ∙ ap (λ l. l ++ axis ∷ []) c.loop-axis.invariant.items
                ∙ sym (filter-picks test c.args.from axis (omega arith) passes);
            room = omega (arith, long, c.loop-axis.invariant.room);
          }
      | else-not-is_among w ↦
          let fails : test axis ≡ false =
          ap not (sym c.is_among.ensures ∙ w.if-not-is_among.false) in
          record {
            items = ap (λ f. f.items) w.found-is ∙ c.loop-axis.invariant.items
                ∙ sym (filter-drops test c.args.from axis (omega arith) fails);
            room = omega (arith, ap (λ f. length f.items) w.found-is, c.loop-axis.invariant.room);
          }
    ]

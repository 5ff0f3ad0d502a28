use Rattle.std.proofs.Common.{◌≡◌, ◌*◌, ◌≤◌, length, sym, subst, ap, ◌∙◌, le_of_eq}
use Rattle.std.specs.Int.{div_ceil}
use Rattle.tensor_kernels.specs.private.Pairs.{ArePairSums}
use Rattle.tensor_kernels.proofs.PackedRows.{are_small-cells}
use Rattle.tensor_kernels.proofs.panels.Panels.of.Goals.{then-small, else-small+in_ok-sums}
use Rattle.tensor_kernels.proofs.panels.Panels.of.Goals as goal

pub returns-clause-ready : goal.returns-clause-ready
returns-clause-ready c =
    let part = c.args.part.now in
    let h = c.args.height in
    let cells = c.in_ok-cells.cells in
    let panels = div_ceil (length part.starts.now) h in
    let n = length part.offsets.now in
    elim c.if-small.branch [
      | then-small w ↦
          rw w.if-small.true
          (are_small-cells h cells.items part.values.now part.starts.now part.offsets.now
          c.requires.some (sym (cells.ok.0) ∙ c.in_ok-cells.ensures.len)
          c.in_ok-cells.ensures.cells part.inside (c.requires.small w.if-small.true))
      | else-small+in_ok-sums w ↦
          let sums = w.in_ok-sums.sums in
          let len : length sums.items ≡ panels * h =
          sym (sums.ok.0) ∙ w.in_ok-sums.ensures.len ∙ ap (λ p. p * h) w.div_ceil-panels.ensures in
          rw w.if-small.false
          (subst (λ sums. (panels * h ≤ length sums.items) × ArePairSums h sums.items cells.items n)
          (sym w.sums-is) (
            le_of_eq (sym len),
            subst (λ cells. ArePairSums h sums.items cells n) w.deref.ensures.value
                w.in_ok-sums.ensures.each,
          ))
    ]

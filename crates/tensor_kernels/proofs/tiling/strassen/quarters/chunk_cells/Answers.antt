use Rattle.std.proofs.Common.{◌≡◌, ◌*◌, length, slice_index}
use Rattle.std.proofs.Common.{ap, sym, subst, ◌∙◌, arith}
use Rattle.std.specs.Int.{div_ceil}
use Rattle.tensor_kernels.specs.Panels.{AreCells}
use Rattle.tensor_kernels.proofs.QuarterCells.{length-whole, div_ceil-whole, has_chunk}
use Rattle.tensor_kernels.proofs.tiling.strassen.quarters.chunk_cells.Goals as goal

pub returns-clause-len : goal.returns-clause-len
returns-clause-len c =
    let half = c.args.half in
    let h = half.height in
    let starts = c.deref.result.now in
    let all : length starts ≡ 2 * (half.panels * h) =
    ap length c.deref.ensures.value ∙ sym (c.in_ok-starts.starts.ok.0)
    ∙ c.in_ok-starts.ensures.len in
    let long : length starts ≡ 2 * half.panels * h = omega (arith, all) in
    let panels : div_ceil (length starts) h ≡ 2 * half.panels =
    ap (λ n. div_ceil n h) long ∙ div_ceil-whole (2 * half.panels) h half.some in
    let values : length c.chunk_of.result.now ≡ 128 =
    ap length c.chunk_of.ensures ∙ length-whole c.args.part.now.offsets.now c.args.c
    c.requires.whole in
    sym (c.in_ok-cells.cells.ok.0) ∙ c.in_ok-cells.ensures.len
    ∙ ap (λ p. p * (length c.chunk_of.result.now * h)) panels
    ∙ ap (λ n. 2 * half.panels * (n * h)) values
    ∙ omega arith

pub returns-clause-each : goal.returns-clause-each
returns-clause-each c =
    let half = c.args.half in
    let part = c.args.part.now in
    let h = half.height in
    let starts = c.deref.result.now in
    let cells = c.in_ok-cells.cells.items in
    let all : length starts ≡ 2 * (half.panels * h) =
    ap length c.deref.ensures.value ∙ sym (c.in_ok-starts.starts.ok.0)
    ∙ c.in_ok-starts.ensures.len in
    let long : length starts ≡ 2 * half.panels * h = omega (arith, all) in
    let is = c.chunk_of.ensures in
    has_chunk h cells part.values.now part.starts.now starts part.offsets.now c.args.c
    (2 * half.panels) half.some long (omega (arith, all))
    (λ x below. ap (λ l. slice_index l x) c.deref.ensures.value
    ∙ c.in_ok-starts.ensures.each x (omega (arith, all, below)))
    c.requires.whole
    (sym (c.in_ok-cells.cells.ok.0) ∙ c.in_ok-cells.ensures.len
    ∙ ap (λ l. div_ceil (length starts) h * (length l * h)) is)
    (subst (λ l. AreCells h cells part.values.now starts l) is c.in_ok-cells.ensures.cells)

-- What begins with a panel, or a column, has the values of its rows.
use Rattle.std.proofs.Common.{◌≡◌, ℕ, ◌*◌, ◌+◌, ◌-◌, ◌<◌, ◌≤◌, ◌/◌, ◌%◌, ℤ, List, length}
use Rattle.std.proofs.Common.{take, drop, refl, ap, sym, subst, ◌∙◌, arith, false}
use Rattle.std.proofs.Common.{length-drop, length-take}
use Rattle.std.proofs.Math.Nat.{mul-le-mul_right}
use Rattle.std.specs.Int.{div_ceil}
use Rattle.std.proofs.lemmas.Nat.{div-mul-add, mod-mul-add}
use Rattle.tensor_shape.specs.Wrap.{wrap}
use Rattle.tensor_kernels.specs.private.Cells.{height_of, AreReady}
use Rattle.tensor_kernels.specs.private.Pairs.{lane}
use Rattle.tensor_kernels.specs.Panels.{cell_of, panel_place}
use Rattle.tensor_dots.specs.Products.{dot}
use Rattle.tensor_values.specs.Values.{value_in}
use Rattle.tensor_kernels.proofs.Heights.{height-some}
use Rattle.tensor_dots.proofs.ListWrites.{value_in-from}
use Rattle.tensor_dots.proofs.ProductSums.{sum_to-ext}
use Rattle.tensor_kernels.proofs.TilePlaces.{part-below}
use Rattle.tensor_kernels.proofs.tiling.packed_chunk.PackedChunk.tile.Goals as goal

-- panels for all rows have room for each of those with a row
panel-room : (h rows s size len : ℕ) → 0 < h → s * h < rows → div_ceil rows h * size ≤ len
    → s * size + size ≤ len
panel-room h rows s size len some below room =
    omega (arith, room, mul-le-mul_right size (part-below h rows s some below))

-- so what begins with a panel is long enough
panel-long : (xs : List ℤ) (h rows s size : ℕ) → 0 < h → s * h < rows
    → div_ceil rows h * size ≤ length xs
    → size ≤ length (take (length xs - s * size) (drop (s * size) xs))
panel-long xs h rows s size some below room =
    omega (
      arith,
      panel-room h rows s size (length xs) some below room,
      length-drop (s * size) xs,
      length-take (length xs - s * size) (drop (s * size) xs),
    )

-- it has the values of the panel's rows
panel-lane : (cells : List ℤ) (h n s t q : ℕ) → t < h
    → lane h (take (length cells - s * (n * h)) (drop (s * (n * h)) cells)) t q
    ≡ cell_of h cells n (s * h + t) q
panel-lane cells h n s t q below =
    let panel : (s * h + t) / h ≡ s = div-mul-add s h t below in
    let row : (s * h + t) % h ≡ t = mod-mul-add s h t below in
    let place : panel_place h n (s * h + t) q ≡ s * (n * h) + (h * q + t) = rw (panel, row) refl in
    value_in-from cells (s * (n * h)) (h * q + t) ∙ ap (λ k. value_in cells k) (sym place)

-- and what begins with a column those of that
column-value : (cells : List ℤ) (n j q : ℕ)
    → value_in (take (length cells - j * n) (drop (j * n) cells)) q ≡ cell_of 1 cells n j q
column-value cells n j q =
    let column : j / 1 ≡ j = omega arith in
    let place : panel_place 1 n j q ≡ j * n + q = rw column (omega arith) in
    value_in-from cells (j * n) q ∙ ap (λ k. value_in cells k) (sym place)

-- so their products are those of the row and the column
panel-dot : (a b : List ℤ) (h n s j t : ℕ) → t < h
    → dot (lane h (take (length a - s * (n * h)) (drop (s * (n * h)) a)) t)
    (value_in (take (length b - j * n) (drop (j * n) b))) n
    ≡ dot (cell_of h a n (s * h + t)) (cell_of 1 b n j) n
panel-dot a b h n s j t below =
    sum_to-ext _ _ n
    (λ q few.
    let left = panel-lane a h n s t q below in
    let right = column-value b n j q in
    cc (left, right))

pub small_tile-requires-clause-a : goal.small_tile-requires-clause-a
small_tile-requires-clause-a c =
    let chunk = c.args.self.now in
    let h = height_of chunk.height in
    rw (c.rows-rows.ensures, c.deref.ensures.value)
    (panel-long chunk.first.now.cells.items h chunk.rows c.args.s (chunk.products * h)
    (height-some chunk.height) c.requires.panel c.requires.packed.first)

pub returns-then-self-clause-each : goal.returns-then-self-clause-each
returns-then-self-clause-each c t below =
    let chunk = c.args.self.now in
    let h = height_of chunk.height in
    let n = chunk.products in
    c.small_tile.ensures.each t below
    ∙ rw (c.rows-rows.ensures, c.deref.ensures.value, c.deref-2.ensures.value)
    (ap wrap
    (panel-dot chunk.first.now.cells.items chunk.second.now.cells.items h n c.args.s c.args.j t
    below))

pub wide_tile-requires-clause-a : goal.wide_tile-requires-clause-a
wide_tile-requires-clause-a c =
    let chunk = c.args.self.now in
    let h = height_of chunk.height in
    rw (c.rows-rows.ensures, c.deref.ensures.value)
    (panel-long chunk.first.now.cells.items h chunk.rows c.args.s (chunk.products * h)
    (height-some chunk.height) c.requires.panel c.requires.packed.first)

pub wide_tile-requires-clause-rows : goal.wide_tile-requires-clause-rows
wide_tile-requires-clause-rows c t below =
    let chunk = c.args.self.now in
    let h = height_of chunk.height in
    let n = chunk.products in
    let s = c.args.s in
    let a = chunk.first.now in
    let ready : AreReady false h (div_ceil chunk.rows h) n a =
    subst (λ small. AreReady small h (div_ceil chunk.rows h) n a) c.if-self.false
    c.requires.packed.ready in
    let room = panel-room h chunk.rows s h (length a.sums.items) (height-some chunk.height)
    c.requires.panel ready.0 in
    rw (c.rows-rows.ensures, c.deref.ensures.value, c.deref-3.ensures.value)
    (value_in-from a.sums.items (s * h) t
    ∙ ready.1 (s * h + t) (omega (arith, room))
    ∙ ap wrap
    (sum_to-ext _ _ (n / 2)
    (λ k few.
    let left = panel-lane a.cells.items h n s t (2 * k) below in
    let right = panel-lane a.cells.items h n s t (2 * k + 1) below in
    cc (left, right))))

pub wide_tile-requires-clause-column : goal.wide_tile-requires-clause-column
wide_tile-requires-clause-column c =
    let chunk = c.args.self.now in
    let n = chunk.products in
    let j = c.args.j in
    let b = chunk.second.now in
    let ready : AreReady false 1 chunk.columns n b =
    subst (λ small. AreReady small 1 chunk.columns n b) c.if-self.false c.requires.packed.other in
    let same : j + 0 ≡ j = omega arith in
    rw (c.deref-2.ensures.value, c.deref-4.ensures.value)
    (value_in-from b.sums.items j 0
    ∙ ap (λ k. value_in b.sums.items k) same
    ∙ ready.1 j (omega (arith, ready.0))
    ∙ ap wrap
    (sum_to-ext _ _ (n / 2)
    (λ k few.
    let left = column-value b.cells.items n j (2 * k) in
    let right = column-value b.cells.items n j (2 * k + 1) in
    cc (left, right))))

pub returns-clause-each : goal.returns-clause-each
returns-clause-each c t below =
    let chunk = c.args.self.now in
    let h = height_of chunk.height in
    let n = chunk.products in
    c.wide_tile.ensures.each t below
    ∙ rw (c.rows-rows.ensures, c.deref.ensures.value, c.deref-2.ensures.value)
    (ap wrap
    (panel-dot chunk.first.now.cells.items chunk.second.now.cells.items h n c.args.s c.args.j t
    below))

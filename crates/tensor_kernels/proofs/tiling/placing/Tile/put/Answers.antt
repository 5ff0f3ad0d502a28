-- The places of a tile's values among those that are written are those from first to last.
use Rattle.std.proofs.Common.{◌≡◌, ℕ, ◌+◌, ◌*◌, ◌-◌, ◌/◌, ◌%◌, ◌<◌, ◌≤◌, ℤ, List, ◌+ℤ◌, pos, length}
use Rattle.std.proofs.Common.{refl, ap, sym, ◌∙◌, arith, inl, inr, min, max, take, drop}
use Rattle.std.proofs.Common.{length-drop}
use Rattle.std.proofs.lemmas.Bool.{cases_lt}
use Rattle.std.proofs.lemmas.List.{get_or-drop, get_or-take, length-take-le}
use borrow.Rule.Slice.PartMut.{put_mid}
use Rattle.tensor_shape.specs.Wrap.{wrap}
use Rattle.tensor_kernels.specs.private.Cells.{height_of}
use Rattle.tensor_kernels.specs.Chunks.{before}
use Rattle.tensor_kernels.specs.private.Tiles.{IsPut, start_of, end_of}
use Rattle.tensor_values.specs.Values.{value_in}
use Rattle.tensor_kernels.specs.declared.tiling.placing.Tile.{Tile}
use Rattle.tensor_kernels.proofs.Heights.{height-some}
use Rattle.tensor_dots.proofs.ListWrites.{value_in-from}
use Rattle.tensor_dots.proofs.Parts.{get_or-before, get_or-within, get_or-after}
use Rattle.tensor_kernels.proofs.TilePlaces.{tile-place, IsInTile, is_in_tile}
use Rattle.tensor_kernels.proofs.tiling.placing.Tile.put.Goals as goal

-- a place of no value of the tile keeps what stands there
is_kept : (tile : Tile) (i : ℕ) (sums : List ℤ) (p : ℕ) (old new : ℤ) → new ≡ old
    → (p % tile.rows / height_of tile.height ≡ tile.panel → p / tile.rows ≡ tile.column → ⊥)
    → IsPut tile i sums p old new
is_kept tile i sums p old new same apart = record {
  within = λ panel column. absurd (apart panel column);
  other = λ panel. same;
  elsewhere = λ column. same;
}

-- at the place of one of its values stands that
is_put : (tile : Tile) (i : ℕ) (sums : List ℤ) (p t : ℕ) (old new : ℤ)
    → IsInTile (height_of tile.height) tile.rows tile.panel tile.column p
    → t ≡ p - start_of tile → new ≡ wrap (before i old +ℤ value_in sums t)
    → IsPut tile i sums p old new
is_put tile i sums p t old new place is_t is = record {
  within = λ panel column.
      let row : t ≡ p % tile.rows - tile.panel * height_of tile.height =
      omega (arith, place.row) in
      is ∙ ap (λ t. wrap (before i old +ℤ value_in sums t)) row;
  other = λ panel. absurd (panel place.panel);
  elsewhere = λ column. absurd (column place.column);
}

pub returns-then-first-last-clause-each : goal.returns-then-first-last-clause-each
returns-then-first-last-clause-each c k within =
    let tile = c.args.self in
    let m = tile.rows in
    let h = height_of tile.height in
    let s = tile.panel in
    let j = tile.column in
    let from = c.args.from in
    let p = from + k in
    let start = start_of tile in
    let old = c.args.out.now in
    let new = c.add_run.new.out in
    let first = c.max-first.result in
    let last = c.min-last.result in
    let a = first - from in
    let n = last - from - a in
    let high : 0 < h = height-some tile.height in
    let some : 0 < m = omega (arith, tile.some) in
    let is_first : first ≡ max start from =
    c.max-first.ensures ∙ ap (λ k. max k from) c.start-start.ensures in
    let is_last : last ≡ min (end_of tile) (from + length old) =
    c.min-last.ensures ∙ ap (λ k. min k (from + length old)) c.end.ensures in
    let room : a ≤ length old = omega arith in
    let long : length (take n (drop a old)) ≡ n =
    length-take-le n (drop a old) (omega (arith, length-drop a old)) in
    let count : length new ≡ n = c.add_run.ensures.len ∙ long in
    elim (cases_lt k a) [
      | inl above ↦
          is_kept tile c.args.c _ p _ _ (get_or-before a n old new room k above)
          (λ panel column.
          absurd (omega (arith, above, (tile-place h m s j p high some column panel).0)))
      | inr under ↦
          elim (cases_lt k (a + n)) [
            | inl inside ↦
                let i = k - a in
                let here : a + i ≡ k = omega arith in
                let few : i < n = omega arith in
                let place = is_in_tile h m s j p tile.some (omega arith) (omega arith) in
                let t = p - start in
                let sums = c.args.sums.now in
                let skip = first - c.start-start.result in
                let at_t : skip + i ≡ t = omega (arith, c.start-start.ensures) in
                let written : value_in new i ≡ wrap (before c.args.c (value_in old k)
                +ℤ value_in sums t) =
                let there : value_in (take n (drop a old)) i ≡ value_in old k =
                get_or-take n (drop a old) i (pos 0) few ∙ get_or-drop a old i (pos 0)
                ∙ ap (λ i. value_in old i) here in
                let more = value_in-from sums skip i ∙ ap (λ i. value_in sums i) at_t in
                c.add_run.ensures.each i (omega (arith, few, long))
                ∙ cc (there, more) in
                is_put tile c.args.c sums p t _ _ place refl
                (ap (λ k. value_in (put_mid a n old new) k) (sym here)
                ∙ get_or-within a n old new room i (omega (arith, count)) ∙ written)
            | inr below ↦
                is_kept tile c.args.c _ p _ _ (get_or-after a n old new room k count below)
                (λ panel column.
                absurd (omega (arith, below, (tile-place h m s j p high some column panel).1)))
          ]
    ]

pub returns-else-first-last-clause-each : goal.returns-else-first-last-clause-each
returns-else-first-last-clause-each c k within =
    let tile = c.args.self in
    let m = tile.rows in
    let h = height_of tile.height in
    let from = c.args.from in
    let some : 0 < m = omega (arith, tile.some) in
    let is_first : c.max-first.result ≡ max (start_of tile) from =
    c.max-first.ensures ∙ ap (λ k. max k from) c.start-start.ensures in
    let is_last : c.min-last.result ≡ min (end_of tile) (from + length c.args.out.now) =
    c.min-last.ensures ∙ ap (λ k. min k (from + length c.args.out.now)) c.end.ensures in
    is_kept tile c.args.c _ (from + k) _ _ refl
    (λ panel column.
    let place = tile-place h m tile.panel tile.column (from + k) (height-some tile.height) some
    column panel in
    absurd (omega arith))

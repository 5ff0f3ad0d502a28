-- Places that are read by tiles.
use Rattle.std.proofs.Common.{◌≡◌, ℕ, ◌+◌, ◌*◌, ◌/◌, ◌%◌, ◌<◌, ◌≤◌, List, ◌∷◌, length, map, get_or, false, refl, ap, sym, ◌∙◌, arith, mul_comm}
use Rattle.std.proofs.Math.Nat.{div-div-eq-div-mul, mod-add-div, mod-lt, mul-pos}
use Rattle.std.proofs.lemmas.List.FromFn.{length-map-range_with_len, get_or-map-range_with_len}
use Rattle.std.specs.List.{range_with_len}
use Rattle.tensor_loops.specs.Tiles.{HaveNeighbours, HasTile}
use Rattle.tensor_views.specs.View.{reached}
use Rattle.tensor_views.specs.declared.axis.Axis.{Axis}
use Rattle.tensor_views.proofs.Views.{reached-row, row-of_row}

-- along an axis whose places lie side by side neighbours follow one another
pub neighbours-along : (a : Axis) (rest : List Axis) → a.step ≡ 1 → a.reversed ≡ false → 0 < a.size
    → HaveNeighbours (a ∷ rest) 1 a.size
neighbours-along a rest unit rises some = record {
  far = omega arith;
  many = some;
  each = λ start p k below.
      let whole : p / 1 ≡ p = omega arith in
      let within : p % a.size + k < a.size = rw whole at below in
      let here : p ≡ p % a.size + a.size * (p / a.size) = sym (mod-add-div p a.size) in
      let there : p + k * 1 ≡ p % a.size + k + a.size * (p / a.size) = omega (arith, here) in
      let at : (i : ℕ) → i < a.size
      → reached start (a ∷ rest) (i + a.size * (p / a.size)) ≡ reached start rest (p / a.size) + i =
      λ i low. reached-row start a rest (p / a.size) i low ∙ rw (rises, unit) (omega arith) in
      let first = ap (reached start (a ∷ rest)) here ∙ at (p % a.size) (omega arith) in
      let second = ap (reached start (a ∷ rest)) there ∙ at (p % a.size + k) within in
      omega (arith, first, second);
}

spread : (k s n q : ℕ) → n * (q + k * s) ≡ n * q + k * (s * n)
spread k s n q = grind arith

-- and behind a faster axis they lie as many times as far apart as it has places
pub neighbours-behind : (a : Axis) (rest : List Axis) (stride count : ℕ) → HaveNeighbours rest stride count
    → 0 < a.size → HaveNeighbours (a ∷ rest) (stride * a.size) count
neighbours-behind a rest stride count slower size = record {
  far = mul-pos slower.far size;
  many = slower.many;
  each = λ start p k below.
      let rows : p / (stride * a.size) ≡ p / a.size / stride =
      ap (λ n. p / n) (mul_comm stride a.size) ∙ sym (div-div-eq-div-mul p a.size stride) in
      let within : p / a.size / stride % count + k < count = rw rows at below in
      let i : ℕ = p % a.size in
      let low : i < a.size = mod-lt p size in
      let here : p ≡ i + a.size * (p / a.size) = sym (mod-add-div p a.size) in
      let there : p + k * (stride * a.size) ≡ i + a.size * (p / a.size + k * stride) =
      omega (arith, here, spread k stride a.size (p / a.size)) in
      let first = ap (reached start (a ∷ rest)) here ∙ reached-row start a rest (p / a.size) i low in
      let second = ap (reached start (a ∷ rest)) there ∙ reached-row start a rest (p / a.size + k * stride) i low in
      omega (arith, first, second, slower.each start (p / a.size) k within);
}

-- the row of a place and of the next ones in it
row-same : (place stride i : ℕ) → place % stride ≡ 0 → i < stride → (place + i) / stride ≡ place / stride
row-same place stride i begins low =
    let at : place + i ≡ i + stride * (place / stride) = omega (arith, mod-add-div place stride, begins) in
    ap (λ p. p / stride) at ∙ row-of_row stride (place / stride) i low

module _ (axes : List Axis) (start stride count place : ℕ) (neighbours : HaveNeighbours axes stride count)
    (tile : HasTile place stride count) where
  -- what is read in a row of a slab is the neighbour of what is read in the first one
  pub reached-in_tile : (i k : ℕ) → i < stride → k < 8
      → reached start axes (place + (i + k * stride)) ≡ reached start axes (place + i) + k
  reached-in_tile i k low few =
      let row = row-same place stride i tile.row low in
      let within : (place + i) / stride % count + k < count = rw row (omega (arith, tile.run, few)) in
      ap (reached start axes) (omega arith) ∙ neighbours.each start (place + i) k within

  -- so the list has all of a tile
  pub tile-inside : (size long i : ℕ) → i < stride → place + 8 * stride ≤ size
      → ((p : ℕ) → p < size → reached start axes p < long) → reached start axes (place + i) + 8 ≤ long
  tile-inside size long i low within inside =
      omega (arith, reached-in_tile i 7 low (omega arith), inside (place + (i + 7 * stride)) (omega arith))

-- places that a view reaches, one by one
module _ (f : ℕ → ℕ) (first n : ℕ) (sources : List ℕ) (are : sources ≡ map f (range_with_len first n)) where
  pub sources-length : length sources ≡ n
  sources-length = ap length are ∙ length-map-range_with_len f first n

  pub source-at : (q : ℕ) → q < n → get_or sources q 0 ≡ f (first + q)
  source-at q below =
      ap (λ l. get_or l q 0) are ∙ get_or-map-range_with_len f first n q (first + q) 0 below refl

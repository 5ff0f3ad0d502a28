use Rattle.std.proofs.Common.{◌≡◌, ℕ, ℤ, pos, ◌+◌, ◌-◌, length, map, drop, get_or, refl, ap, ◌∙◌, arith}
use Rattle.std.specs.List.{range_with_len}
use Rattle.std.proofs.lemmas.List.{get_or_append_left, length-take-le}
use Rattle.std.proofs.lemmas.List.FromFn.{length-map-range_with_len, get_or-map-range_with_len}
use Rattle.tensor_views.specs.Reading.{read_at}
use Rattle.tensor_loops.proofs.gather.tiles.Tiled.gather_next.Goals as goal

pub copy_from_slice-requires : goal.copy_from_slice-requires
copy_from_slice-requires c =
    let place = c.args.place in
    let count = c.min-count.result in
    let f : ℕ → ℤ = read_at c.args.self.reading in
    let n : ℕ = place + count - place in
    let are : c.as_slice.result.now ≡ map f (range_with_len place n) =
    c.as_slice.ensures.value ∙ c.in_ok-piece.ensures in
    omega (
      arith,
      ap length are,
      length-map-range_with_len f place n,
      length-take-le count c.args.out.now (omega arith),
    )

pub returns-clause-each : goal.returns-clause-each
returns-clause-each c = λ k below.
    let place = c.args.place in
    let count = c.min-count.result in
    let f : ℕ → ℤ = read_at c.args.self.reading in
    let n : ℕ = place + count - place in
    let are : c.copy_from_slice.new.self ≡ map f (range_with_len place n) =
    c.copy_from_slice.ensures.after ∙ c.as_slice.ensures.value ∙ c.in_ok-piece.ensures in
    let long : length c.copy_from_slice.new.self ≡ n =
    ap length are ∙ length-map-range_with_len f place n in
    get_or_append_left c.copy_from_slice.new.self (drop count c.args.out.now) (pos 0) k
    (omega (arith, long, below))
    ∙ ap (λ l. get_or l k (pos 0)) are
    ∙ get_or-map-range_with_len f place n k (place + k) (pos 0) (omega (arith, below)) refl

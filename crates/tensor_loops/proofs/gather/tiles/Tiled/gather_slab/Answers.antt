use Rattle.std.proofs.Common.{◌≡◌, ℕ, ◌+◌, ◌-◌, ◌*◌, ◌<◌, ◌≤◌, inl, inr, length, map, ap, sym, ◌∙◌, arith}
use Rattle.std.specs.List.{range_with_len}
use Rattle.std.proofs.lemmas.Bool.{cases_lt}
use Rattle.tensor_values.specs.Values.{value_in}
use Rattle.tensor_views.specs.Reading.{read_at}
use Rattle.tensor_views.specs.View.{view_size, reached}
use Rattle.tensor_loops.proofs.TiledPlaces.{reached-in_tile, tile-inside, sources-length, source-at}
use Rattle.tensor_loops.proofs.TiledValues.{of_slab}
use Rattle.tensor_loops.proofs.gather.tiles.Tiled.gather_slab.Goals as goal

pub put_tile-requires-clause-row : goal.put_tile-requires-clause-row
put_tile-requires-clause-row c =
    let view = c.args.self.reading.view in
    let first : ℕ = c.args.place + c.loop-from.from in
    let n : ℕ = c.args.place + (c.loop-from.from + c.min.result) - first in
    let long : length c.deref.result.now ≡ n =
    sources-length (reached view.start view.axes.now) first n c.deref.result.now
    (c.deref.ensures.value ∙ c.in_ok-sources.ensures) in
    omega (arith, long)

pub put_tile-requires-clause-inside : goal.put_tile-requires-clause-inside
put_tile-requires-clause-inside c = λ q below.
    let view = c.args.self.reading.view in
    let self = c.args.self in
    let from = c.loop-from.from in
    let f : ℕ → ℕ = reached view.start view.axes.now in
    let first : ℕ = c.args.place + from in
    let n : ℕ = c.args.place + (from + c.min.result) - first in
    let are : c.deref.result.now ≡ map f (range_with_len first n) =
    c.deref.ensures.value ∙ c.in_ok-sources.ensures in
    let long : length c.deref.result.now ≡ n =
    sources-length f first n c.deref.result.now are in
    let source = source-at f first n c.deref.result.now are q (omega (arith, long, below)) in
    let here : f (first + q) ≡ f (c.args.place + (from + q)) = ap f (omega arith) in
    let inside = tile-inside view.axes.now view.start self.neighbours.stride self.neighbours.count c.args.place
    c.requires.neighbours c.requires.tile (view_size view.axes.now) (length c.args.self.reading.list.now) (from + q)
    (omega (arith, long, below)) (omega (arith, c.requires.room, c.requires.within)) c.requires.inside in
    omega (arith, source, here, inside)

pub loop-from-preserved : goal.loop-from-preserved
loop-from-preserved c =
    let view = c.args.self.reading.view in
    let self = c.args.self in
    let list = c.args.self.reading.list.now in
    let from = c.loop-from.from in
    let inv = c.loop-from.invariant in
    let f : ℕ → ℕ = reached view.start view.axes.now in
    let first : ℕ = c.args.place + from in
    let n : ℕ = c.args.place + (from + c.min.result) - first in
    let are : c.deref.result.now ≡ map f (range_with_len first n) =
    c.deref.ensures.value ∙ c.in_ok-sources.ensures in
    let long : length c.deref.result.now ≡ n =
    sources-length f first n c.deref.result.now are in
    let within : from + c.min.result ≤ self.neighbours.stride = omega arith in
    record {
      within = within;
      len = c.put_tile.ensures.len ∙ inv.len;
      each = λ i k below few.
          elim (cases_lt i from) [
            | inl earlier ↦ c.put_tile.ensures.kept i k earlier few ∙ inv.each i k earlier few
            | inr later ↦
                let q : ℕ = i - from in
                let low : q < n = omega (arith, later, below) in
                let at : from + q ≡ i = omega (arith, later) in
                let there : first + q ≡ c.args.place + i = omega (arith, later) in
                let source = source-at f first n c.deref.result.now are q low in
                ap (λ j. value_in c.put_tile.new.out (j + k * self.neighbours.stride)) (sym at)
                ∙ c.put_tile.ensures.each q k (omega (arith, long, low)) few
                ∙ ap (λ s. value_in list (s + k)) (source ∙ ap f there)
                ∙ ap (value_in list) (sym
                (reached-in_tile view.axes.now view.start self.neighbours.stride self.neighbours.count c.args.place
                c.requires.neighbours c.requires.tile i k (omega (arith, below, within)) few))
          ];
    }

pub returns-clause-each : goal.returns-clause-each
returns-clause-each c =
    let self = c.args.self in
    let done : self.neighbours.stride ≤ c.loop-from.from = c.loop-from-test.false in
    of_slab (λ p. value_in c.loop-from.out p ≡ read_at c.args.self.reading (c.args.place + p)) self.neighbours.stride
    c.requires.neighbours.far (λ i k low few. c.loop-from.invariant.each i k (omega (arith, low, done)) few)

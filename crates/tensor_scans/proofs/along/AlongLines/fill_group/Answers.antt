use Rattle.std.proofs.Common.{◌≡◌, ℕ, ℤ, pos, ◌+◌, ◌*◌, ◌<◌, [], ◌∷◌, ◌++◌, length, map}
use Rattle.std.proofs.Common.{ap, sym, subst, ◌∙◌, arith}
use Rattle.std.specs.List.{between, range_with_len}
use Rattle.std.proofs.lemmas.List.Edits.{get_or-between, length-between}
use Rattle.std.proofs.lemmas.List.FromFn.{length-map-range_with_len, map-range_with_len_more}
use Rattle.tensor_scans.specs.Places.{line_place}
use Rattle.tensor_scans.specs.private.Firsts.{IsSeen}
use Rattle.tensor_values.specs.Values.{value_in}
use Rattle.tensor_scans.proofs.RowPlaces.{row-place, row-within}
use Rattle.tensor_scans.proofs.along.AlongLines.fill_group.Goals as goal

pub overflow_mul-from : goal.overflow_mul-from
overflow_mul-from c =
    let fits = row-within c.args.self.lines c.args.place c.place-start.result (length c.args.out.now)
    c.loop-number.number c.place-start.ensures.place c.requires.some c.requires.block
    c.requires.within c.loop-number-test.true in
    omega (arith, fits)

pub overflow_add-from : goal.overflow_add-from
overflow_add-from c =
    let fits = row-within c.args.self.lines c.args.place c.place-start.result (length c.args.out.now)
    c.loop-number.number c.place-start.ensures.place c.requires.some c.requires.block
    c.requires.within c.loop-number-test.true in
    omega (arith, fits)

pub offset_bounds-self-from : goal.offset_bounds-self-from
offset_bounds-self-from c =
    let fits = row-within c.args.self.lines c.args.place c.place-start.result (length c.args.out.now)
    c.loop-number.number c.place-start.ensures.place c.requires.some c.requires.block
    c.requires.within c.loop-number-test.true in
    omega (arith, fits)

pub overflow_add-values : goal.overflow_add-values
overflow_add-values c =
    let fits = row-within c.args.self.lines c.args.place c.place-start.result (length c.args.out.now)
    c.loop-number.number c.place-start.ensures.place c.requires.some c.requires.block
    c.requires.within c.loop-number-test.true in
    omega (arith, fits, c.loop-number.invariant.len, c.set_all-2.ensures.len)

pub slice_bounds-values-end : goal.slice_bounds-values-end
slice_bounds-values-end c =
    let fits = row-within c.args.self.lines c.args.place c.place-start.result (length c.args.out.now)
    c.loop-number.number c.place-start.ensures.place c.requires.some c.requires.block
    c.requires.within c.loop-number-test.true in
    omega (arith, fits, c.loop-number.invariant.len, c.set_all-2.ensures.len)

pub loop-number-preserved : goal.loop-number-preserved
loop-number-preserved c =
    let inv = c.loop-number.invariant in
    let lines = c.args.self.lines in
    let o = c.args.self.operation in
    let place = c.args.place in
    let n = c.loop-number.number in
    let values = c.args.self.values.now in
    let from : ℕ = c.place-start.result + n * lines.stride in
    let end : ℕ = from + length c.loop-number.out in
    let row = between from end values in
    let fits = row-within lines place c.place-start.result (length c.args.out.now) n
    c.place-start.ensures.place c.requires.some c.requires.block c.requires.within
    c.loop-number-test.true in
    let same : length c.loop-number.out ≡ length c.args.out.now = inv.len ∙ c.set_all-2.ensures.len in
    let long_row : length row ≡ length c.loop-number.out =
    length-between values from end (omega (arith, fits, same)) ∙ omega arith in
    record {
      room = c.take_row.ensures.best ∙ inv.room;
      len = c.take_row.ensures.firsts ∙ inv.len;
      each = λ k below.
          let best = value_in c.take_row.new.best k in
          let first = value_in c.take_row.new.firsts k in
          let f : ℕ → ℤ = λ m. value_in values (line_place lines 1 (place + k) m) in
          let xs = map f (range_with_len 0 n) in
          let inside : k < length c.loop-number.out = omega (arith, c.take_row.ensures.firsts, below) in
          let at : from + k ≡ line_place lines 1 (place + k) n =
          ap (λ m. m + n * lines.stride + k) c.place-start.ensures.place
          ∙ sym (row-place lines place k n (omega (arith, inside, same, c.requires.block))) in
          let is : value_in row k ≡ f n =
          get_or-between values from end k (pos 0) (omega (arith, inside)) ∙ ap (value_in values) at in
          let more : xs ++ value_in row k ∷ [] ≡ map f (range_with_len 0 (n + 1)) =
          ap (λ y. xs ++ y ∷ []) is ∙ sym (map-range_with_len_more f 0 n n (omega arith)) in
          subst (λ l. IsSeen o l best first) more
          (c.take_row.ensures.each k (omega (arith, long_row, inside)) xs (length-map-range_with_len f 0 n)
          (inv.each k inside));
    }

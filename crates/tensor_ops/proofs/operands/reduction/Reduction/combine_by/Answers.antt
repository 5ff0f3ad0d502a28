use Rattle.std.proofs.Common.{◌≡◌, ℕ, ℤ, pos, ◌+◌, ◌-◌, ◌*◌, ◌<◌, ◌≤◌, List, length, get_or, take}
use Rattle.std.proofs.Common.{drop, refl, ap, sym, ◌∙◌, inl, inr, arith}
use Rattle.std.specs.Cow.{cow_slice_items}
use Rattle.std.proofs.lemmas.Bool.{cases_lt}
use Rattle.std.proofs.lemmas.List.{get_or_default}
use Rattle.std.proofs.lemmas.List.Edits.{get_or-between}
use Rattle.std.proofs.lemmas.Nat.{column_fits, div-mul-add, mod-mul-add}
use Rattle.std.proofs.Math.Nat.{lt_of_mul-lt-mul_right}
use borrow.Rule.Slice.PartMut.{put_mid}
use Rattle.tensor_loops.specs.Folds.{folded, offset_at}
use Rattle.tensor_values.specs.Values.{value_in}
use Rattle.tensor_ops.specs.private.Reduced.{combined_at}
use Rattle.tensor_ops.specs.private.Starts.{start_at}
use Rattle.tensor_values.specs.declared.reducer.Reducer.{Reducer}
use Rattle.tensor_ops.specs.declared.operands.reduction.Reduction.{Reduction}
use Rattle.tensor_loops.proofs.Folding.{offset_at-run}
use Rattle.tensor_kernels.proofs.Parts.{length-part, length-put_mid, get_or-before, get_or-within}
use Rattle.tensor_kernels.proofs.Parts.{get_or-after}
use Rattle.tensor_ops.proofs.operands.reduction.Reduction.combine_by.Goals as goal

swapped : (m n : ℕ) → m * n ≡ n * m
swapped m n = grind arith

next : (row width : ℕ) → (row + 1) * width ≡ row * width + width
next row width = grind arith

-- a place of the result has a row, and the row has a group
group-within : (group rows row width index p count : ℕ) → p ≡ (group * rows + row) * width + index
    → p < count * rows * width → group < count
group-within group rows row width index p count at below =
    let in_rows : group * rows + row < count * rows =
    lt_of_mul-lt-mul_right width {m = group * rows + row} {n = count * rows} (omega arith) in
    lt_of_mul-lt-mul_right rows {m = group} {n = count} (omega (arith, in_rows))

-- where a row begins, by its group and its number in the group
start_at-row : (starts : List ℕ) (rows width run group row index p : ℕ) → row < rows
    → index < width → p ≡ (group * rows + row) * width + index
    → start_at starts rows width run p ≡ get_or starts group 0 + row * (width * run) + index
start_at-row starts rows width run group row index p in_group in_row at =
    let place : start_at starts rows width run p
    ≡ offset_at starts (width * run) rows (group * rows + row) + index =
    rw at (rw (
      mod-mul-add (group * rows + row) width index in_row,
      div-mul-add (group * rows + row) width index in_row,
    ) refl) in
    omega (arith, place, offset_at-run starts (width * run) rows group row in_group)

-- the rows of a group begin no further from its start than the group spans
row-near : (row rows step : ℕ) → row < rows → row * step ≤ rows * step
row-near row rows step below =
    let fits : step * row + step ≤ step * rows = column_fits step row step rows below (omega arith) in
    omega (arith, fits, swapped step row, swapped step rows)

-- what is combined with a value, by the tables that are lent
combined-part : (s : Reduction) (r : Reducer) (x y : ℤ) (p start : ℕ) (values : List ℤ)
    (offsets : List ℕ)
    → x ≡ y → values ≡ cow_slice_items s.values → offsets ≡ s.offsets.items
    → start ≡ start_at s.starts.items s.group s.width s.run p
    → folded r x (λ q. value_in values (start + offset_at offsets s.width s.run q))
    (length offsets * s.run) ≡ combined_at s r y p
combined-part s r x y p start values offsets same lent_values lent_offsets begins =
    let all : List ℤ = cow_slice_items s.values in
    let table : List ℕ = s.offsets.items in
    ap (λ v. folded r v (λ q. value_in values (start + offset_at offsets s.width s.run q))
    (length offsets * s.run)) same
    ∙ ap (λ l. folded r y (λ q. value_in l (start + offset_at offsets s.width s.run q))
    (length offsets * s.run)) lent_values
    ∙ ap (λ l. folded r y (λ q. value_in all (start + offset_at l s.width s.run q))
    (length l * s.run)) lent_offsets
    ∙ ap (λ n. folded r y (λ q. value_in all (n + offset_at table s.width s.run q))
    (length table * s.run)) begins

pub overflow_add-start : goal.overflow_add-start
overflow_add-start c =
    let s = c.args.self.now in
    let at = c.rows.invariant.here c.rows-test.true in
    let within : c.rows.group < length s.starts.items =
    group-within c.rows.group s.group c.rows.row s.width c.rows.index (c.args.first + c.rows.done)
    (length s.starts.items) at (omega (arith, c.requires)) in
    let read : c.index.result.now ≡ get_or s.starts.items c.rows.group 0 =
    c.index.ensures ∙ get_or_default s.starts.items c.rows.group c.index.result.now 0 within in
    let near = row-near c.rows.row s.group (s.width * s.run) c.rows.invariant.row in
    omega (
      arith,
      read,
      near,
      s.near,
      s.starts_low c.rows.group within,
      s.narrow,
      c.rows.invariant.index,
    )

pub overflow_add-start-in-rows : goal.overflow_add-start-in-rows
overflow_add-start-in-rows c =
    let s = c.args.self.now in
    let at = c.rows.invariant.here c.rows-test.true in
    let within : c.rows.group < length s.starts.items =
    group-within c.rows.group s.group c.rows.row s.width c.rows.index (c.args.first + c.rows.done)
    (length s.starts.items) at (omega (arith, c.requires)) in
    let read : c.index.result.now ≡ get_or s.starts.items c.rows.group 0 =
    c.index.ensures ∙ get_or_default s.starts.items c.rows.group c.index.result.now 0 within in
    let near = row-near c.rows.row s.group (s.width * s.run) c.rows.invariant.row in
    omega (
      arith,
      read,
      near,
      s.near,
      s.starts_low c.rows.group within,
      s.narrow,
      c.rows.invariant.index,
    )

pub next_row-requires-clause-few : goal.next_row-requires-clause-few
next_row-requires-clause-few c =
    let s = c.args.self.now in
    let at = c.rows.invariant.here c.rows-test.true in
    let within : c.rows.group < length s.starts.items =
    group-within c.rows.group s.group c.rows.row s.width c.rows.index (c.args.first + c.rows.done)
    (length s.starts.items) at (omega (arith, c.requires)) in
    omega (arith, within, s.few_starts)

pub combine_runs-requires-clause-start : goal.combine_runs-requires-clause-start
combine_runs-requires-clause-start c =
    let s = c.args.self.now in
    let at = c.rows.invariant.here c.rows-test.true in
    let within : c.rows.group < length s.starts.items =
    group-within c.rows.group s.group c.rows.row s.width c.rows.index (c.args.first + c.rows.done)
    (length s.starts.items) at (omega (arith, c.requires)) in
    let read : c.index.result.now ≡ get_or s.starts.items c.rows.group 0 =
    c.index.ensures ∙ get_or_default s.starts.items c.rows.group c.index.result.now 0 within in
    let near = row-near c.rows.row s.group (s.width * s.run) c.rows.invariant.row in
    omega (
      arith,
      read,
      near,
      s.near,
      s.starts_low c.rows.group within,
      s.narrow,
      c.rows.invariant.index,
    )

pub combine_runs-requires-clause-inside : goal.combine_runs-requires-clause-inside
combine_runs-requires-clause-inside c = λ i q in_part in_runs.
    let s = c.args.self.now in
    let done = c.rows.done in
    let count = c.min-count.result in
    let at = c.rows.invariant.here c.rows-test.true in
    let within : c.rows.group < length s.starts.items =
    group-within c.rows.group s.group c.rows.row s.width c.rows.index (c.args.first + done)
    (length s.starts.items) at (omega (arith, c.requires)) in
    let read : c.index.result.now ≡ get_or s.starts.items c.rows.group 0 =
    c.index.ensures ∙ get_or_default s.starts.items c.rows.group c.index.result.now 0 within in
    let long = length-part done count c.rows.target (omega (arith, c.rows.invariant.long)) in
    let in_count : i < count = omega arith in
    let values_long : length c.as_slice-values.result.now ≡ length (cow_slice_items s.values) =
    ap length c.as_slice-values.ensures.value in
    let offset : offset_at c.as_slice-offsets.result.now s.width s.run q
    ≡ offset_at s.offsets.items s.width s.run q =
    ap (λ l. offset_at l s.width s.run q) c.as_slice-offsets.ensures.value in
    let runs : length c.as_slice-offsets.result.now * s.run ≡ length s.offsets.items * s.run =
    ap (λ l. length l * s.run) c.as_slice-offsets.ensures.value in
    let inside = s.inside (c.args.first + done + i) q (omega (arith, c.requires)) (omega arith) in
    let start = start_at-row s.starts.items s.group s.width s.run c.rows.group c.rows.row
    (c.rows.index + i) (c.args.first + done + i) c.rows.invariant.row (omega arith)
    (omega arith) in
    omega (arith, read, inside, start, offset, values_long)

pub rows-preserved : goal.rows-preserved
rows-preserved c =
    let s = c.args.self.now in
    let inv = c.rows.invariant in
    let done = c.rows.done in
    let count = c.min-count.result in
    let part = c.combine_runs.new.row in
    let target = c.rows.target in
    let at = inv.here c.rows-test.true in
    let within : c.rows.group < length s.starts.items =
    group-within c.rows.group s.group c.rows.row s.width c.rows.index (c.args.first + done)
    (length s.starts.items) at (omega (arith, c.requires)) in
    let read : c.index.result.now ≡ get_or s.starts.items c.rows.group 0 =
    c.index.ensures ∙ get_or_default s.starts.items c.rows.group c.index.result.now 0 within in
    let room : done ≤ length target = omega (arith, inv.long) in
    let ends : done + (done + count - done) ≤ length target = omega (arith, inv.long) in
    let part_long : length (take (done + count - done) (drop done target)) ≡ count =
    length-part done count target (omega (arith, inv.long)) in
    let long : length part ≡ done + count - done = omega (arith, c.combine_runs.ensures.len) in
    record {
      long = length-put_mid done (done + count - done) target part room long ends ∙ inv.long;
      below = omega arith;
      index = omega (arith, inv.index);
      row = c.next_row.ensures.within;
      here = λ more.
          omega (
            arith,
            at,
            ap (λ r. r * s.width) c.next_row.ensures.next,
            next (c.rows.group * s.group + c.rows.row) s.width,
          );
      each = λ j below.
          elim (cases_lt j done) [
            | inl before ↦ get_or-before done (done + count - done) target part room j before
                ∙ inv.each j before
            | inr after ↦
                let i : ℕ = j - done in
                let here : done + i ≡ j = omega arith in
                let in_count : i < count = omega arith in
                let old : value_in (take (done + count - done) (drop done target)) i
                ≡ value_in c.args.target.now j =
                get_or-between target done (done + count) i (pos 0) (omega arith)
                ∙ ap (value_in target) here ∙ inv.rest j after in
                let start = start_at-row s.starts.items s.group s.width s.run c.rows.group
                c.rows.row (c.rows.index + i) (c.args.first + j) inv.row (omega arith)
                (omega arith) in
                ap (value_in (put_mid done (done + count - done) target part)) (sym here)
                ∙ get_or-within done (done + count - done) target part room i (omega arith)
                ∙ c.combine_runs.ensures.each i (omega arith)
                ∙ combined-part s c.args.reducer _ (value_in c.args.target.now j) (c.args.first + j)
                (c.index.result.now + c.rows.row * (s.width * s.run) + c.rows.index + i)
                c.as_slice-values.result.now c.as_slice-offsets.result.now old
                c.as_slice-values.ensures.value c.as_slice-offsets.ensures.value
                (omega (arith, start, read))
          ];
      rest = λ j above. get_or-after done (done + count - done) target part room j long
          (omega arith) ∙ inv.rest j (omega arith);
    }

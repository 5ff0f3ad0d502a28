use Rattle.std.proofs.Common.{◌≡◌, ◌+◌, ◌*◌, ◌-◌, ◌<◌, ℕ, ℤ, List, length, slice_index}
use Rattle.std.proofs.Common.{refl, ap, ◌∙◌, arith}
use Rattle.std.proofs.Math.Nat.{div-eq_of_lt, mod-eq_of_lt}
use Rattle.std.proofs.lemmas.Nat.{div-mul-add, mod-mul-add, mul-add-lt}
use Rattle.std.specs.Cow.{cow_slice_items}
use Rattle.tensor_shape.specs.Wrap.{wrap}
use Rattle.tensor_dots.specs.Products.{list_product}
use Rattle.tensor_dots.specs.WindowDots.{window_dots_value}
use Rattle.tensor_dots.specs.declared.dots.window_dots.WindowDots.{WindowDots}
use Rattle.tensor_dots.specs.declared.rows.windows.Windows.{Windows}
use Rattle.tensor_dots.proofs.dots.window_dots.WindowDots.fill_run.Goals as goal

-- a place of a run is one of all
place-of-run : (run i width count : ℕ) → run < count → i < width → run * width + i < count * width
place-of-run run i width count below within =
    grind (arith, mul-add-lt run width i count below within)

-- so far on in a run, what lies under a place of the kernel is one of the values
inside-run : (r : Windows) (run i q : ℕ) → run < length r.starts.items → i < r.width
    → q < length r.offsets.items
    → slice_index r.starts.items run + i + slice_index r.offsets.items q
    < length (cow_slice_items r.values)
inside-run r run i q below within value =
    rw (div-mul-add run r.width i within, mod-mul-add run r.width i within) at
    (r.inside (run * r.width + i) q
    (place-of-run run i r.width (length r.starts.items) below within) value)

-- the sum over the lists of both operands
value-lists : (d : WindowDots) (a b : List ℤ) (offsets others : List ℕ) (run index k s t : ℕ)
    → a ≡ cow_slice_items d.runs.values → b ≡ cow_slice_items d.kernel.values
    → offsets ≡ d.runs.offsets.items → others ≡ d.kernel.offsets.items
    → s ≡ slice_index d.runs.starts.items run → t ≡ slice_index d.kernel.starts.items 0
    → run < length d.runs.starts.items → index + k < d.runs.width
    → wrap (list_product a (s + index + k) offsets b t others (length offsets))
    ≡ window_dots_value d (run * d.runs.width + (index + k))
value-lists d a b offsets others run index k s t is_a is_b is_offsets is_others is_s is_t below within
    =
    let w = d.runs.width in
    let inside = place-of-run run (index + k) w (length d.runs.starts.items) below within in
    let row = mod-eq_of_lt inside in
    let column = div-eq_of_lt inside in
    let start : s + index + k ≡ s + (index + k) = omega arith in
    rw (
      start,
      is_a,
      is_b,
      is_offsets,
      is_others,
      is_s,
      is_t,
      row,
      column,
      div-mul-add run w (index + k) within,
      mod-mul-add run w (index + k) within,
    )
    refl

pub overflow_add-under : goal.overflow_add-under
overflow_add-under c =
    let r = c.args.self.now.runs in
    let below = inside-run r c.args.run c.args.index 0 c.requires.run
    (omega (arith, c.requires.within, c.requires.some)) r.some in
    let start : slice_index c.as_slice-2.result.now c.args.run
    ≡ slice_index r.starts.items c.args.run = ap (λ l. slice_index l c.args.run) c.as_slice-2.ensures.value in
    record {
      fits = omega (arith, below, start, c.as_slice.type_inv.0, ap length c.as_slice.ensures.value);
    }

pub sums_of_run-requires-clause-rows : goal.sums_of_run-requires-clause-rows
sums_of_run-requires-clause-rows c q below =
    let r = c.args.self.now.runs in
    let value : q < length r.offsets.items =
    omega (arith, below, ap length c.as_slice-3.ensures.value) in
    let last : ℕ = c.args.index + length c.args.out.now - 1 in
    let inside = inside-run r c.args.run last q c.requires.run
    (omega (arith, c.requires.within, c.requires.some)) value in
    omega (
      arith,
      inside,
      c.requires.some,
      ap (λ l. slice_index l c.args.run) c.as_slice-2.ensures.value,
      ap (λ l. slice_index l q) c.as_slice-3.ensures.value,
      ap length c.as_slice.ensures.value,
    )

pub returns-clause-each : goal.returns-clause-each
returns-clause-each c k below =
    c.sums_of_run.ensures.each k below
    ∙ value-lists c.args.self.now _ _ _ _ c.args.run c.args.index k _ _
    c.as_slice.ensures.value c.as_slice-4.ensures.value c.as_slice-3.ensures.value
    c.as_slice-6.ensures.value (ap (λ l. slice_index l c.args.run) c.as_slice-2.ensures.value)
    (ap (λ l. slice_index l 0) c.as_slice-5.ensures.value) c.requires.run
    (omega (arith, c.requires.within))

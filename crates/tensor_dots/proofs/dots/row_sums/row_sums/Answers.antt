use Rattle.std.proofs.Common.{◌≡◌, ℕ, ◌+◌, ◌-◌, ◌<◌, ◌≤◌, length, slice_index, inl, inr}
use Rattle.std.proofs.Common.{ap, sym, ◌∙◌, arith}
use Rattle.std.proofs.lemmas.Bool.{cases_lt}
use Rattle.tensor_shape.specs.Wrap.{wrap}
use Rattle.tensor_values.specs.Values.{value_in}
use Rattle.tensor_dots.specs.Products.{list_product}
use Rattle.tensor_dots.proofs.Parts.{length-part, length-put_mid, get_or-before, get_or-within}
use Rattle.tensor_dots.proofs.dots.row_sums.row_sums.Goals as goal

pub loop-k-preserved : goal.loop-k-preserved
loop-k-preserved c =
    let rows = c.args.rows.now in
    let row = c.args.row.now in
    let k = c.loop-k.k in
    let count = c.side_by_side-count.result in
    let out = c.loop-k.out in
    let run = c.sums_of_run.new.out in
    let within : k + count ≤ length rows.starts.now = c.side_by_side-count.ensures.few in
    let room : k + count ≤ length out = omega (arith, c.loop-k.invariant.len) in
    let long : length run ≡ count = c.sums_of_run.ensures.len ∙ length-part k count out room in
    record {
      below = within;
      len = length-put_mid k (k + count - k) out run (omega arith) (omega arith) (omega arith)
          ∙ c.loop-k.invariant.len;
      each = λ i below.
          elim (cases_lt i k) [
            | inl before ↦
                get_or-before k (k + count - k) out run (omega arith) i before
                ∙ c.loop-k.invariant.each i before
            | inr from ↦
                let j : ℕ = i - k in
                let here : k + j ≡ i = omega arith in
                let inside : j < length run = omega arith in
                ap (value_in _) (sym here)
                ∙ get_or-within k (k + count - k) out run (omega arith) j inside
                ∙ c.sums_of_run.ensures.each j (omega (arith, c.sums_of_run.ensures.len))
                ∙ ap (λ x. wrap (list_product rows.values.now x rows.offsets.now row.values.now
                row.start row.offsets.now (length rows.offsets.now)))
                (sym (c.side_by_side-count.ensures.each j (omega arith))
                ∙ ap (slice_index rows.starts.now) here)
          ];
    }

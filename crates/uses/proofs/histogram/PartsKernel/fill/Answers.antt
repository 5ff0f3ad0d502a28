use Rattle.std.proofs.Common.{◌≡◌, ℕ, ◌+◌, ◌-◌, List, [], ◌∷◌, ◌++◌, ◌∙◌, ap, sym, arith, map}
use Rattle.std.specs.List.{range_with_len}
use Rattle.std.proofs.lemmas.List.FromFn.{map-range_with_len_more}
use Rattle.uses.specs.Counts.{counts_of, part_of}
use Rattle.uses.proofs.histogram.PartsKernel.fill.Goals as goal

pub loop-i-preserved : goal.loop-i-preserved
loop-i-preserved g c =
    let kernel = c.args.self.now in
    let first = c.args.first in
    let i = c.loop-i.i in
    let counts_at = λ (k : ℕ). counts_of (part_of kernel.text.now kernel.part_length k) in
    let next : i + 1 - first ≡ i - first + 1 = omega arith in
    record {
      items =
          c.push_reserved.ensures.items
          ∙ ap (λ (xs : List (List ℕ)). xs ++ c.counted.result ∷ []) c.loop-i.invariant.items
          ∙ ap (λ (counts : List ℕ). map counts_at (range_with_len first (i - first)) ++ counts ∷ [])
          (c.counted.ensures ∙ ap counts_of c.part_at.ensures)
          ∙ sym (map-range_with_len_more counts_at first (i - first) i (omega arith))
          ∙ ap (λ (k : ℕ). map counts_at (range_with_len first k)) (sym next);
      len = omega (arith, c.push_reserved.ensures.len, c.loop-i.invariant.len);
      room = omega (arith, c.push_reserved.ensures.capacity, c.loop-i.invariant.room);
    }

pub returns : goal.returns
returns g c =
    let kernel = c.args.self.now in
    let first = c.args.first in
    let counts_at = λ (k : ℕ). counts_of (part_of kernel.text.now kernel.part_length k) in
    let at_end : c.loop-i.i ≡ c.args.last = omega (arith, c.loop-i-test.false, c.loop-i.auto.i-end) in
    c.loop-i.invariant.items
    ∙ ap (λ (k : ℕ). map counts_at (range_with_len first (k - first))) at_end

use Rattle.std.proofs.Common.{◌≡◌, ℕ, ◌*◌, ◌-◌, ◌%◌, ◌^◌, ◌<◌, ◌≤◌, ◌==◌, List, length, map, take_all, get_or, ap, subst, ◌∙◌, sym, arith}
use Rattle.std.specs.Prelude.{sum_by}
use Rattle.std.specs.List.{range_with_len}
use Rattle.std.proofs.Math.Nat.{mod-eq_of_lt}
use Rattle.std.proofs.lemmas.Grind.{same_number_lists, div_ceil_times}
use Rattle.std.proofs.lemmas.List.Sums.{count_by-le-length}
use Rattle.uses.specs.Counts.{count_of, counts_of, part_of}
use Rattle.uses.proofs.Counts.{get_or-counts_of, length-counts_of, sum_by-parts}
use Rattle.uses.proofs.histogram.histogram.Goals as goal

pub returns-clause-counts : goal.returns-clause-counts
returns-clause-counts g c =
    let text = c.args.text.now in
    let part_length = c.args.part_length in
    let parts = c.blocks-parts.result in
    let sums = c.added.result in
    let sum_at = λ (byte : ℕ) (items : List (List ℕ)). sum_by (λ counts. get_or counts byte 0) items in
    let part_counts = λ (i : ℕ). counts_of (part_of text part_length i) in
    let from_0 : parts - 0 ≡ parts = omega arith in
    let all : length sums ≡ 256 = c.added.ensures.all in
    let whole : length text ≤ parts * part_length =
    subst (λ (k : ℕ). length text ≤ k * part_length) (sym c.blocks-parts.ensures)
    (div_ceil_times (length text) part_length (omega arith)).0 in
    same_number_lists sums (counts_of text) (all ∙ sym (length-counts_of text))
    (λ byte below.
    let inside : byte < 256 = omega (arith, all, below) in
    let few : count_of byte text < 2 ^ 64 = omega (arith, count_by-le-length (λ b. b == byte) text) in
    c.added.ensures.sums byte inside
    ∙ ap (λ (k : ℕ). k % 2 ^ 64)
    (ap (sum_at byte) c.deref.ensures.value
    ∙ ap (sum_at byte) c.in_ok-counts.ensures.items
    ∙ ap (λ (n : ℕ). sum_at byte (map part_counts (range_with_len 0 n))) from_0
    ∙ sum_by-parts text part_length parts byte inside
    ∙ ap (λ (l : List ℕ). count_of byte l) (take_all (parts * part_length) text whole))
    ∙ mod-eq_of_lt few
    ∙ sym (get_or-counts_of text byte inside))

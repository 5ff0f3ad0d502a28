-- Counts of texts that are cut into parts.
use Rattle.std.proofs.Common.{◌≡◌, ℕ, zero, suc, ◌+◌, ◌*◌, ◌<◌, ◌==◌, cond, ap, sym, ◌∙◌, arith}
use Rattle.std.proofs.Common.{List, length, map, take, get_or, take-add}
use Rattle.std.specs.Prelude.{sum_by}
use Rattle.std.specs.List.{range_with_len}
use Rattle.std.proofs.lemmas.List.Sums.{sum_by-append}
use Rattle.std.proofs.lemmas.List.FromFn.{sum_by-map-range_with_len_more, get_or-map-range_with_len, length-map-range_with_len}
use Rattle.uses.specs.Counts.{count_of, counts_of, part_of}

-- there are 256 of them
pub length-counts_of : (text : List ℕ) → length (counts_of text) ≡ 256
length-counts_of text = length-map-range_with_len (λ b. count_of b text) 0 256

-- what stands in the counts of a text
pub get_or-counts_of : (text : List ℕ) (byte : ℕ) → byte < 256
    → get_or (counts_of text) byte 0 ≡ count_of byte text
get_or-counts_of text byte below =
    get_or-map-range_with_len (λ b. count_of b text) 0 256 byte byte 0 below (omega arith)

-- the counts of the first parts, added up, are the counts of the text up to the end of these parts
pub sum_by-parts : (text : List ℕ) (part_length n byte : ℕ) → byte < 256
    → sum_by (λ counts. get_or counts byte 0)
    (map (λ i. counts_of (part_of text part_length i)) (range_with_len 0 n))
    ≡ count_of byte (take (n * part_length) text)
sum_by-parts text part_length zero byte below =
    let none : zero * part_length ≡ 0 = omega arith in
    ap (λ (k : ℕ). count_of byte (take k text)) (sym none)
sum_by-parts text part_length (suc n) byte below =
    let counts_at = λ (counts : List ℕ). get_or counts byte 0 in
    let part_counts = λ (i : ℕ). counts_of (part_of text part_length i) in
    let one = λ (b : ℕ). cond (b == byte) 1 0 in
    let next : suc n ≡ n + 1 = omega arith in
    let further : suc n * part_length ≡ n * part_length + part_length = grind arith in
    ap (λ (k : ℕ). sum_by counts_at (map part_counts (range_with_len 0 k))) next
    ∙ sum_by-map-range_with_len_more counts_at part_counts 0 n n (omega arith)
    ∙ ap (λ (k : ℕ). k + get_or (part_counts n) byte 0) (sum_by-parts text part_length n byte below)
    ∙ ap (λ (k : ℕ). count_of byte (take (n * part_length) text) + k)
    (get_or-counts_of (part_of text part_length n) byte below)
    ∙ sym (sum_by-append one (take (n * part_length) text) (part_of text part_length n))
    ∙ ap (λ (l : List ℕ). count_of byte l) (sym (take-add (n * part_length) part_length text))
    ∙ ap (λ (k : ℕ). count_of byte (take k text)) (sym further)

use Rattle.std.proofs.Common.{ℕ, ◌<◌, ◌≤◌, List, length, take_all, ap, ◌∙◌, sym, arith}
use Rattle.std.proofs.lemmas.List.{get_or-replicate}
use Rattle.std.proofs.lemmas.Grind.{same_number_lists}
use Rattle.uses.specs.Counts.{count_of, counts_of}
use Rattle.uses.proofs.Counts.{get_or-counts_of, length-counts_of}
use Rattle.uses.proofs.histogram.counted.Goals as goal

pub loop-byte-init : goal.loop-byte-init
loop-byte-init c = record { all = omega arith; counts = λ b below. get_or-replicate 256 b 0 0 below }

pub returns : goal.returns
returns c =
    let text = c.args.text.now in
    let counts = c.loop-byte.counts in
    let at_end : length text ≤ c.loop-byte.byte-index = omega (arith, c.loop-byte-test.false) in
    same_number_lists counts (counts_of text)
    (c.loop-byte.invariant.all ∙ sym (length-counts_of text))
    (λ byte below.
    let inside : byte < 256 = omega (arith, c.loop-byte.invariant.all, below) in
    c.loop-byte.invariant.counts byte inside
    ∙ ap (λ (l : List ℕ). count_of byte l) (take_all c.loop-byte.byte-index text at_end)
    ∙ sym (get_or-counts_of text byte inside))

use Rattle.std.proofs.Common.{◌≡◌, ℕ, ◌+◌, ◌-◌, ◌≤◌, true, false, take, drop, length, ap, sym, ◌∙◌, rules, arith}
use Rattle.tensor_values.specs.Interleaving.{is_of_first, firsts_before, seconds_before}
use Rattle.tensor_values.proofs.InTurns.{firsts-le, seconds-le}
use Rattle.tensor_loops.proofs.InterleavedParts.{firsts_before-part, seconds_before-part, take-first, take-second}
use Rattle.tensor_loops.proofs.gather.interleaved.part.Goals as goal

pub overflow_sub-start : goal.overflow_sub-start
overflow_sub-start c =
    let t = c.args.turns in
    omega (arith, c.firsts_before.ensures, c.firsts_before-then-is_of_first.ensures, firsts-le t.first t.second t.some c.args.from c.args.place c.requires.order)

pub overflow_sub-start-else-is_of_first : goal.overflow_sub-start-else-is_of_first
overflow_sub-start-else-is_of_first c =
    let t = c.args.turns in
    omega (arith, c.seconds_before.ensures, c.seconds_before-else-is_of_first.ensures, seconds-le t.first t.second t.some c.args.from c.args.place c.requires.order)

pub offset_bounds-firsts-start : goal.offset_bounds-firsts-start
offset_bounds-firsts-start c =
    let t = c.args.turns in
    let first : is_of_first t.first t.second c.args.place ≡ true = sym c.is_of_first.ensures ∙ c.if-is_of_first.true in
    let turn = rw first at c.requires.turn in
    let long = firsts_before-part t.first t.second t.some c.args.from c.args.place c.args.end c.requires.order c.requires.some first turn in
    let within : c.firsts_before.result - c.firsts_before-then-is_of_first.result ≤ length c.args.firsts.now =
    omega (arith, c.requires.firsts, long, c.firsts_before.ensures, c.firsts_before-then-is_of_first.ensures) in
    search rules

pub offset_bounds-seconds-start : goal.offset_bounds-seconds-start
offset_bounds-seconds-start c =
    let t = c.args.turns in
    let second : is_of_first t.first t.second c.args.place ≡ false = sym c.is_of_first.ensures ∙ c.if-is_of_first.false in
    let turn = rw second at c.requires.turn in
    let long = seconds_before-part t.first t.second t.some c.args.from c.args.place c.args.end c.requires.order c.requires.some second turn in
    let within : c.seconds_before.result - c.seconds_before-else-is_of_first.result ≤ length c.args.seconds.now =
    omega (arith, c.requires.seconds, long, c.seconds_before.ensures, c.seconds_before-else-is_of_first.ensures) in
    search rules

pub slice_bounds-result-end : goal.slice_bounds-result-end
slice_bounds-result-end c =
    let t = c.args.turns in
    let first : is_of_first t.first t.second c.args.place ≡ true = sym c.is_of_first.ensures ∙ c.if-is_of_first.true in
    let turn = rw first at c.requires.turn in
    let long = firsts_before-part t.first t.second t.some c.args.from c.args.place c.args.end c.requires.order c.requires.some first turn in
    let le = firsts-le t.first t.second t.some c.args.from c.args.place c.requires.order in
    omega (arith, le, c.requires.firsts, long, c.firsts_before.ensures, c.firsts_before-then-is_of_first.ensures)

pub slice_bounds-result-end-else-is_of_first : goal.slice_bounds-result-end-else-is_of_first
slice_bounds-result-end-else-is_of_first c =
    let t = c.args.turns in
    let second : is_of_first t.first t.second c.args.place ≡ false = sym c.is_of_first.ensures ∙ c.if-is_of_first.false in
    let turn = rw second at c.requires.turn in
    let long = seconds_before-part t.first t.second t.some c.args.from c.args.place c.args.end c.requires.order c.requires.some second turn in
    let le = seconds-le t.first t.second t.some c.args.from c.args.place c.requires.order in
    omega (arith, le, c.requires.seconds, long, c.seconds_before.ensures, c.seconds_before-else-is_of_first.ensures)

pub returns-then-is_of_first : goal.returns-then-is_of_first
returns-then-is_of_first c = λ f g first_values second_values.
    let t = c.args.turns in
    let first : is_of_first t.first t.second c.args.place ≡ true = sym c.is_of_first.ensures ∙ c.if-is_of_first.true in
    let turn = rw first at c.requires.turn in
    let s : ℕ = c.firsts_before.result - c.firsts_before-then-is_of_first.result in
    let n : s + (c.args.end - c.args.place) - s ≡ c.args.end - c.args.place = omega arith in
    let start : s ≡ firsts_before t.first t.second c.args.place - firsts_before t.first t.second c.args.from =
    ap (λ a. a - c.firsts_before-then-is_of_first.result) c.firsts_before.ensures
    ∙ ap (λ a. firsts_before t.first t.second c.args.place - a) c.firsts_before-then-is_of_first.ensures in
    ap (λ a. take a (drop s c.args.firsts.now)) n ∙ ap (λ a. take (c.args.end - c.args.place) (drop a c.args.firsts.now)) start
    ∙ take-first t.first t.second t.some c.args.from c.args.place c.args.end c.requires.order c.requires.some f g c.args.firsts.now
    (length c.args.firsts.now) first turn first_values c.requires.firsts

pub returns-else-is_of_first : goal.returns-else-is_of_first
returns-else-is_of_first c = λ f g first_values second_values.
    let t = c.args.turns in
    let second : is_of_first t.first t.second c.args.place ≡ false = sym c.is_of_first.ensures ∙ c.if-is_of_first.false in
    let turn = rw second at c.requires.turn in
    let s : ℕ = c.seconds_before.result - c.seconds_before-else-is_of_first.result in
    let n : s + (c.args.end - c.args.place) - s ≡ c.args.end - c.args.place = omega arith in
    let start : s ≡ seconds_before t.first t.second c.args.place - seconds_before t.first t.second c.args.from =
    ap (λ a. a - c.seconds_before-else-is_of_first.result) c.seconds_before.ensures
    ∙ ap (λ a. seconds_before t.first t.second c.args.place - a) c.seconds_before-else-is_of_first.ensures in
    ap (λ a. take a (drop s c.args.seconds.now)) n ∙ ap (λ a. take (c.args.end - c.args.place) (drop a c.args.seconds.now)) start
    ∙ take-second t.first t.second t.some c.args.from c.args.place c.args.end c.requires.order c.requires.some f g c.args.seconds.now
    (length c.args.seconds.now) second turn second_values c.requires.seconds

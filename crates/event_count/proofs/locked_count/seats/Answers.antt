-- One more seat.
use Rattle.std.proofs.Common.{◌≡◌, ℕ, zero, suc, ◌+◌, ◌++◌, List, [], ◌∷◌, All, map, length, sym}
use Rattle.std.proofs.Common.{ap, ◌∙◌, subst, arith}
use Rattle.std.specs.List.{range_with_len}
use Rattle.std.proofs.lemmas.List.{length-map, map-append}
use Rattle.std.proofs.lemmas.List.Elements.{All-nil, All-cons, All-append}
use Rattle.std.proofs.lemmas.List.FromFn.{length-range_with_len}
use Rattle.event_word.specs.declared.phase.Phase.TheVariants.{Running}
use Rattle.event_count.specs.declared.locked_count.LockedSeat.{LockedSeat}
use Rattle.event_count.proofs.locked_count.seats.Goals as goal

-- one number more stands at the end
range_with_len_more : (from count : ℕ)
    → range_with_len from (count + 1) ≡ range_with_len from count ++ (from + count) ∷ []
range_with_len_more from zero = let same : from ≡ from + 0 = omega arith in ap (λ n. n ∷ []) same
range_with_len_more from (suc count) =
    let one_more : suc count + 1 ≡ suc (count + 1) = omega arith in
    let same : from + 1 + count ≡ from + suc count = omega arith in
    ap (range_with_len from) one_more
    ∙ ap (λ numbers. from ∷ numbers) (range_with_len_more (from + 1) count
    ∙ ap (λ n. range_with_len (from + 1) count ++ n ∷ []) same)

abbrev numbers_of : List LockedSeat → List ℕ
numbers_of seats = map (λ seat. seat.number) seats

abbrev Runs : LockedSeat → Type 0
Runs seat = seat.phase ≡ Running

module _ (before after : List LockedSeat) (seat : LockedSeat)
    (is : after ≡ before ++ seat ∷ []) where
  numbers_more : (next : ℕ) → numbers_of before ≡ range_with_len 0 next → seat.number ≡ next
      → numbers_of after ≡ range_with_len 0 (next + 1)
  numbers_more next numbers number =
      let from_zero : next ≡ 0 + next = omega arith in
      ap numbers_of is ∙ (map-append (λ seat. seat.number) before (seat ∷ [])
      ∙ ((λ i. numbers i ++ (number ∙ from_zero) i ∷ []) ∙ sym (range_with_len_more 0 next)))

  running_more : All Runs before → seat.phase ≡ Running → All Runs after
  running_more all runs = subst (All Runs) (sym is)
      (All-append Runs before (seat ∷ []) all (All-cons Runs seat [] runs (All-nil Runs)))

pub push_reserved-requires : goal.push_reserved-requires
push_reserved-requires g c =
    let made = ap length c.loop-number.invariant.numbers in
    let seats = length-map c.loop-number.seats.items (λ (seat : LockedSeat). seat.number) in
    let numbers = length-range_with_len 0 c.loop-number.number in
    let room = c.loop-number.invariant.room in let less = c.loop-number-test.true in
    omega arith

pub loop-number-preserved : goal.loop-number-preserved
loop-number-preserved g c =
    let before = c.loop-number.seats.items in let after = c.push_reserved.new.self.items in
    let seat = c.new.result in let items = c.push_reserved.ensures.items in record {
      numbers = numbers_more before after seat items c.loop-number.number
          c.loop-number.invariant.numbers c.new.ensures.number;
      running = running_more before after seat items c.loop-number.invariant.running
          c.new.ensures.running;
      room = let kept = c.push_reserved.ensures.capacity in
          let had = c.loop-number.invariant.room in omega arith;
    }

use Rattle.std.proofs.Common.{◌≡◌, ◌∙◌, [], ◌∷◌, ◌++◌, ap, arith, length, map, sym, append_assoc}
use Rattle.std.proofs.Common.{⊎_elim}
use Rattle.std.specs.Iterator.Adapters.{zip_first}
use Rattle.std.specs.Vec.Iter.{into_iter_items}
use Rattle.std.proofs.lemmas.List.{map_push}
use Rattle.event_count.specs.Seats.{card_of, seat_id, IsIdle}
use Rattle.event_count.specs.Rows.Seats.{IsSilent}
use Rattle.run_queue.specs.SlotSeats.{number_in, puts_of, takes_of, table_of}
use Rattle.waking_rows.specs.Seats.{number_by, puts_by, takes_by, home_of, credits_by}
use Rattle.waking_rows.specs.Tickets.{jobs_in}
use Rattle.waking_rows.proofs.Lists.{All-first, All-rest, All-snoc, length-snoc, nothing-left}
use Rattle.waking_rows.proofs.opening.both.Goals as goal

pub invariant_of-push_reserved : goal.invariant_of-push_reserved
invariant_of-push_reserved g c =
    let seat_split = c.in-Some.ensures.steps.1.0 in
    record {
      idle = All-first IsIdle _ _ _ seat_split c.loop-slot.invariant.idle;
      silent = All-first IsSilent _ _ _ seat_split c.loop-slot.invariant.silent;
    }

pub loop-slot-preserved : goal.loop-slot-preserved
loop-slot-preserved g c =
    let before = c.loop-slot.invariant in
    let slot_split = c.in-Some.ensures.steps.0.0 in
    let seat_split = c.in-Some.ensures.steps.1.0 in
    let added = c.push_reserved.ensures.items in
    let slots_less = ap length slot_split in
    let seats_less = ap length seat_split in
    let longer = length-snoc _ _ _ added in
    let rest = map number_in (into_iter_items (zip_first c.next.new.self)) in
    record {
      can = (tt, tt);
      finite = tt;
      even = (let e = before.even in omega arith);
      many = (let m = before.many in omega arith);
      room = c.push_reserved.ensures.capacity ∙ before.room;
      numbers = ap (λ items. map number_by items ++ rest) added
          ∙ (ap (λ numbers. numbers ++ rest) (map_push number_by c.loop-slot.list.items _)
          ∙ (append_assoc (map number_by c.loop-slot.list.items) (number_in c.in-Some.slot ∷ []) rest
          ∙ (sym (ap (λ items. map number_by c.loop-slot.list.items ++ map number_in items)
          slot_split) ∙ before.numbers)));
      idle = All-rest IsIdle _ _ _ seat_split before.idle;
      silent = All-rest IsSilent _ _ _ seat_split before.silent;
      ours = λ table count slots seats.
          let was = before.ours table count slots seats in (
            All-rest (λ s. table_of s ≡ table) _ _ _ slot_split was.0,
            All-rest (λ s. seat_id s ≡ count) _ _ _ seat_split was.1,
            All-snoc (λ s. home_of s ≡ (table, count)) _ _ _ added was.2
                (λ i. (
                  All-first (λ s. table_of s ≡ table) _ _ _ slot_split was.0 i,
                  All-first (λ s. seat_id s ≡ count) _ _ _ seat_split was.1 i,
                )),
          );
      accounts = λ slots.
          let was = before.accounts slots in
          let first = All-first (λ s. (puts_of s ≡ []) × (takes_of s ≡ [])) _ _ _ slot_split was.0 in (
            All-rest (λ s. (puts_of s ≡ []) × (takes_of s ≡ [])) _ _ _ slot_split was.0,
            All-snoc (λ s. (puts_by s ≡ []) × (takes_by s ≡ [])) _ _ _ added was.1
                (ap jobs_in first.0, ap jobs_in first.1),
          );
      paid = λ credits seats.
          let was = before.paid credits seats in (
            All-rest (λ s. (card_of s).credits ≡ credits) _ _ _ seat_split was.0,
            All-snoc (λ s. credits_by s ≡ credits) _ _ _ added was.1
                (All-first (λ s. (card_of s).credits ≡ credits) _ _ _ seat_split was.0),
          );
    }

pub returns-clause-numbers : goal.returns-clause-numbers
returns-clause-numbers g c =
    let end = c.loop-slot.invariant in
    let even = end.even in
    let slots_len = c.loop-slot.slot-iterator.a.rest.ok.0 in
    let seats_len = c.loop-slot.slot-iterator.b.rest.ok.0 in
    let none : length (into_iter_items (zip_first c.loop-slot.slot-iterator)) ≡ 0 =
    ⊎_elim (λ none. let left = none.1.0 in omega arith) (λ none. let left = none.1.0 in omega arith)
    c.in-None.ensures.steps in
    nothing-left number_in _ _ _ none end.numbers

pub returns-clause-ours : goal.returns-clause-ours
returns-clause-ours g c = λ table count slots seats. (c.loop-slot.invariant.ours table count slots seats).2

pub returns-clause-credits : goal.returns-clause-credits
returns-clause-credits g c = λ credits seats. (c.loop-slot.invariant.paid credits seats).1

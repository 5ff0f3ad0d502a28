use Rattle.std.proofs.Common.{◌≡◌, [], ◌∷◌, subst, All, rules, arith, length-append}
use Rattle.std.proofs.lemmas.List.Elements.{All-head, All-rest}
use Rattle.event_count.specs.declared.seat.Seat.{Seat}
use Rattle.event_count.specs.Seats.{seat_id, IsIdle}
use Rattle.event_count.specs.Rows.Seats.{IsSilent}
use Rattle.uses.proofs.queued_sum.members_of.Goals as goal

-- the seat was the first of those that were left
pub invariant_of-push_reserved-clause-ours : goal.invariant_of-push_reserved-clause-ours
invariant_of-push_reserved-clause-ours g c =
    let is_ours = λ (seat : Seat). seat_id seat ≡ g.C.Crew.count in
    let seats = subst (All is_ours) c.in-Some.ensures.steps.0 c.loop-seat.invariant.ours in
    All-head is_ours c.in-Some.seat c.next.new.self.rest.items seats

pub invariant_of-push_reserved-clause-idle : goal.invariant_of-push_reserved-clause-idle
invariant_of-push_reserved-clause-idle g c =
    let seats = subst (All IsIdle) c.in-Some.ensures.steps.0 c.loop-seat.invariant.idle in
    All-head IsIdle c.in-Some.seat c.next.new.self.rest.items seats

pub invariant_of-push_reserved-clause-silent : goal.invariant_of-push_reserved-clause-silent
invariant_of-push_reserved-clause-silent g c =
    let seats = subst (All IsSilent) c.in-Some.ensures.steps.0 c.loop-seat.invariant.silent in
    All-head IsSilent c.in-Some.seat c.next.new.self.rest.items seats

-- and the others are left
pub loop-seat-preserved : goal.loop-seat-preserved
loop-seat-preserved g c =
    let rest = c.next.new.self.rest.items in
    let first = c.in-Some.ensures.steps.0 in
    let held = c.loop-seat.invariant in
    let more = length-append c.loop-seat.yielded (c.in-Some.seat ∷ []) in
    record {
      count = omega (arith, held.count, c.push_reserved.ensures.len, more);
      room = search rules;
      parts = omega (arith, held.parts, c.split_off.ensures.parts_left, more);
      none = search rules;
      ours = All-rest (λ (seat : Seat). seat_id seat ≡ g.C.Crew.count) c.in-Some.seat rest _ first held.ours;
      idle = All-rest IsIdle c.in-Some.seat rest _ first held.idle;
      silent = All-rest IsSilent c.in-Some.seat rest _ first held.silent;
    }

-- There is room for as many full rows as were made.
use Rattle.std.proofs.Common.{arith, ◌∙◌, [], ap, length}
use Rattle.std.proofs.lemmas.List.{length-replicate}
use Rattle.run_queue.proofs.deque_rows.DequeRows.new.Goals as goal

pub invariant_of-result : goal.invariant_of-result
invariant_of-result g c =
    let made = ap length c.in_ok-deques.ensures ∙ length-replicate c.args.count [] in (
      c.in_ok-left.ensures.items,
      omega (arith, made, c.in_ok-left.ensures.exact, c.from.ensures),
    )

pub returns : goal.returns
returns g c = c.in_ok-deques.ensures

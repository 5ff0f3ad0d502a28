use Rattle.std.proofs.Common.{rules, ◌≡◌, ◌+◌, length, false, subst, sym, ◌∙◌}
use Rattle.tensor_reduce.specs.private.Readers.{are_reading}
use Rattle.tensor_reduce.proofs.NextSteps.{two-steps, later-steps, next-number}
use Rattle.tensor_reduce.proofs.schedule.next.Next.with_one_fused.Goals as goal

pub returns-clause-next : goal.returns-clause-next
returns-clause-next c = (
  next-number c.args.inputs.now.tensors c.args.earlier.now c.from.result
      (c.from.ensures ∙ c.len.ensures),
  record {
    steps =
        two-steps c.args.left.now c.first-item.result c.second-item.result
        c.in-len2-up.len_at_least c.first-item.is c.second-item.is;
    fits = c.in-Some.ensures;
    unread =
        subst (λ l. are_reading (c.from.result + length c.args.earlier.now) l ≡ false)
        (later-steps c.args.left.now 2) (sym c.if-are_reading.ensures);
    small = search rules;
  },
)

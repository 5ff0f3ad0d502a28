use Rattle.std.proofs.Common.{rules, ◌≡◌, ◌+◌, length, refl, false, subst, ◌∙◌}
use Rattle.tensor_reduce.specs.private.Readers.{are_reading}
use Rattle.tensor_reduce.proofs.NextSteps.{three-steps, later-steps, next-number}
use Rattle.tensor_reduce.proofs.schedule.next.Next.with_both_fused.Goals as goal

pub returns-clause-next : goal.returns-clause-next
returns-clause-next c = (
  next-number c.args.inputs.now.tensors c.args.earlier.now c.from.result
      (c.from.ensures ∙ c.len.ensures),
  record {
    steps =
        three-steps c.args.left.now c.first-item.result c.second-item.result c.third-item.result
        c.in-len3-up.len_at_least c.first-item.is c.second-item.is c.third-item.is;
    fits = c.in-Some.ensures;
    apart = c.if-are_read_elsewhere.ensures.second refl;
    unread =
        subst (λ l. are_reading (c.from.result + length c.args.earlier.now) l ≡ false)
        (later-steps c.args.left.now 3) (c.if-are_read_elsewhere.ensures.first_later refl);
    unread_too =
        subst (λ l. are_reading (c.from.result + length c.args.earlier.now + 1) l ≡ false)
        (later-steps c.args.left.now 3) (c.if-are_read_elsewhere.ensures.second_later refl);
    small = search rules;
  },
)

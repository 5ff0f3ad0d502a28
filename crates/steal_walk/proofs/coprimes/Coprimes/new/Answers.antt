use Rattle.std.proofs.Common.{◌+◌, arith, ◌∙◌, ap, vec_capacity}
use Rattle.steal_walk.proofs.Listed.{listed_below-all, listed_below-more_yes, listed_below-more_no}
use Rattle.steal_walk.proofs.coprimes.Coprimes.new.Goals as goal
use Rattle.steal_walk.proofs.coprimes.Coprimes.new.Goals.{else-loop-number-test}
use Rattle.steal_walk.proofs.coprimes.Coprimes.new.Goals.{then-loop-number-test+else-number-n}
use Rattle.steal_walk.proofs.coprimes.Coprimes.new.Goals.{then-gcd-eq1, else-gcd-eq1}

pub loop-number-init : goal.loop-number-init
loop-number-init g c =
    let made = c.in_ok-numbers.ensures in
    record { listed = made.items; behind = omega (arith, made.len); room = made.exact }

pub loop-number-preserved : goal.loop-number-preserved
loop-number-preserved g c =
    let n = c.args.n in
    let k = c.loop-number.number in
    let low = c.loop-number.auto.number in
    let was = c.loop-number.invariant in
    let divides = c.gcd.ensures in
    elim c.if-gcd-eq1.branch [
      | then-gcd-eq1 w ↦
          let one = w.if-gcd-eq1.true in
          let push = w.push_reserved.ensures in
          let listed = listed_below-more_yes n k _ _ _ low divides one was.listed push.items in
          record {
            listed = ap (λ v. v.items) w.numbers-is ∙ listed;
            behind = rw w.numbers-is (omega arith);
            room = ap vec_capacity w.numbers-is ∙ push.capacity ∙ was.room;
          }
      | else-gcd-eq1 w ↦
          let other = w.if-gcd-eq1.false in
          let listed = listed_below-more_no n k _ _ low c.requires divides other was.listed in
          record {
            listed = ap (λ v. v.items) w.numbers-is ∙ listed;
            behind = rw w.numbers-is (omega arith);
            room = ap vec_capacity w.numbers-is ∙ was.room;
          }
    ]

pub invariant_of-result : goal.invariant_of-result
invariant_of-result g c =
    let n = c.args.n in
    let k = c.loop-number.number in
    let low = c.loop-number.auto.number in
    let was = c.loop-number.invariant.listed in (
      c.requires,
      elim c.loop-number-test.branch [
        | else-loop-number-test w ↦
            ap (λ v. v.items) w.numbers-is ∙ was ∙ listed_below-all n k (omega arith)
        | then-loop-number-test+else-number-n w ↦
            let divides = w.gcd.ensures in
            ap (λ v. v.items) w.numbers-is ∙
            elim w.if-gcd-eq1.branch [
              | then-gcd-eq1 v ↦
                  let one = v.if-gcd-eq1.true in
                  let pushed = v.push_reserved.ensures.items in
                  ap (λ v. v.items) v.numbers-is ∙
                  listed_below-more_yes n k _ _ _ low divides one was pushed
              | else-gcd-eq1 v ↦
                  let other = v.if-gcd-eq1.false in
                  ap (λ v. v.items) v.numbers-is ∙
                  listed_below-more_no n k _ _ low c.requires divides other was
            ] ∙
            listed_below-all n (k + 1) (omega arith)
      ],
    )

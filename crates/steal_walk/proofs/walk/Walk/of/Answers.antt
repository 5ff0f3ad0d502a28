use Rattle.std.proofs.Common.{◌≡◌, ℕ, ◌+◌, ◌-◌, length, get_or, arith, ap, ◌∙◌, subst}
use Rattle.steal_walk.specs.Coprimes.{AreCoprimes}
use Rattle.steal_walk.specs.Walk.{rows_of, step_of, VisitsEachOnce}
use Rattle.steal_walk.proofs.Listed.{length-coprimes_of-le, some_coprime, coprime_at}
use Rattle.steal_walk.proofs.Visits.{visits_each_once, rows_of-one, step_of-get_or, walk_of-rows_of}
use Rattle.steal_walk.proofs.walk.Walk.of.Goals as goal

pub overflow_cast-steps : goal.overflow_cast-steps
overflow_cast-steps g c =
    let short = length-coprimes_of-le c.args.coprimes.now in
    let listed = ap length c.numbers-steps.ensures.listed in
    omega (arith, short, listed)

pub scaled-chosen-requires : goal.scaled-chosen-requires
scaled-chosen-requires g c =
    some_coprime c.args.coprimes.now _ (omega arith) c.numbers-steps.ensures.coprime

pub invariant_of-result : goal.invariant_of-result
invariant_of-result g c =
    let steps = c.numbers-steps.ensures in
    let chosen = c.scaled-chosen in
    let step = coprime_at c.args.coprimes.now chosen.result _ steps.coprime chosen.ensures.below in
    let below = c.scaled.ensures.below in
    record { inside = below; short = omega (arith, step.within); fits = omega arith }

pub returns-clause-rows : goal.returns-clause-rows
returns-clause-rows g c =
    let word = c.args.word in
    let place = c.scaled-chosen.ensures.place in
    let listed = c.numbers-steps.ensures.listed in
    let step =
    step_of-get_or word c.args.coprimes.now _ _ listed place ∙
    ap (step_of word) c.requires.sized in
    walk_of-rows_of word c.args.start c.args.limit _ _ c.scaled.ensures.place step

pub returns-clause-once : goal.returns-clause-once
returns-clause-once g c =
    let start = c.args.start in
    let n : ℕ = c.args.limit - start in
    let f = c.scaled.result in
    let steps = c.numbers-steps in
    let chosen = c.scaled-chosen in
    let s : ℕ = get_or steps.result.now chosen.result 0 in
    let coprimes =
    subst (λ m. AreCoprimes m steps.result.now) c.requires.sized steps.ensures.coprime in
    let step = coprime_at n chosen.result _ coprimes chosen.ensures.below in
    let ends : start + n ≡ c.args.limit = omega arith in
    subst (λ m. VisitsEachOnce start m (rows_of start n f s n)) ends
    (visits_each_once start n f s c.scaled.ensures.below step.positive step.coprime)

pub returns-clause-of_one : goal.returns-clause-of_one
returns-clause-of_one g c one =
    rows_of-one c.args.start _ c.scaled.result _ (omega arith) c.scaled.ensures.below

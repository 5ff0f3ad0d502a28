use Rattle.std.proofs.Common.{◌∙◌, ap}
use Rattle.steal_walk.specs.Coprimes.{coprimes_of}
use Rattle.steal_walk.proofs.Listed.{coprimes_of-AreCoprimes, coprimes_of-one}
use Rattle.steal_walk.proofs.coprimes.Coprimes.numbers.Goals as goal

pub returns-clause-coprime : goal.returns-clause-coprime
returns-clause-coprime g c =
    let listed = c.deref.ensures.value ∙ c.self.invariant.1 in
    let view = c.self.view_is in
    rw (listed, ← view) (coprimes_of-AreCoprimes c.self.inside.of c.self.invariant.0)

pub returns-clause-of_one : goal.returns-clause-of_one
returns-clause-of_one g c one =
    c.deref.ensures.value ∙
    c.self.invariant.1 ∙
    ap coprimes_of (c.self.view_is ∙ one) ∙
    coprimes_of-one

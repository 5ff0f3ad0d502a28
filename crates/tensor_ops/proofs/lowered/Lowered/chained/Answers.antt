use Rattle.std.proofs.Common.{◌≡◌, ℕ, ap, sym, ◌∙◌, rules}
use Rattle.tensor_loops.specs.Chain.{chained}
use Rattle.tensor_loops.specs.Loops.{either_way}
use Rattle.tensor_ops.specs.private.Meaning.{meaning, count_of}
use Rattle.tensor_loops.proofs.Chains.{chained-longer}
use Rattle.tensor_ops.proofs.lowered.Lowered.chained.Goals as goal

pub returns-in-Chain : goal.returns-in-Chain
returns-in-Chain c =
    let links = c.in-Chain.links.items in
    let a = c.in-Chain.a.value in
    let b = c.in-Chain.b.value in
    let link = c.args.link in
    let again : (p : ℕ) → meaning b p ≡ meaning c.args.other p = search rules in
    let sound = rw c.in-Chain.is at c.requires.sound in
    record {
      sound = sound;
      count = sym (ap count_of c.in-Chain.is);
      means = λ p.
          ap (λ ls. chained ls (meaning a p) (meaning b p)) c.in_ok-push-in-Chain.ensures.items
          ∙ chained-longer links link (meaning a p) (meaning b p)
          ∙ ap (λ y. either_way c.args.link.operation c.args.link.swapped (chained links (meaning a p) (meaning b p)) y)
          (again p)
          ∙ ap (λ z. either_way c.args.link.operation c.args.link.swapped (meaning z p) (meaning c.args.other p)) (sym c.in-Chain.is);
    }

use Rattle.std.proofs.Common.{◌≡◌, ◌<◌, length, ap, sym, subst, arith}
use Rattle.std.proofs.lemmas.List.{length-set}
use Rattle.std.specs.Prelude.{slice_set}
use Rattle.tensor_terms.specs.Contents.{Given, AreWithin}
use Rattle.tensor_terms.specs.Freed.{freed}
use Rattle.tensor_terms.proofs.MoreTensors.{AreWithin-freed}
use Rattle.tensor_terms.proofs.tensor.inputs.Inputs.free.Goals as goal

pub invariant_of-self : goal.invariant_of-self
invariant_of-self c =
    let ts = c.self.inside.tensors.items in
    let n = c.args.number in
    let there : n < length ts = subst (λ (g : Given). n < length g.tensors) (sym c.self.view_is) c.requires in
    let is : slice_set ts n freed ≡ slice_set ts n c.freed.result =
    ap (slice_set ts n) (sym c.freed.ensures) in (
      omega (arith, length-set ts n c.freed.result, c.self.invariant.0),
      (
        c.self.invariant.1.0,
        subst (AreWithin c.self.inside.bounds) is
            (AreWithin-freed c.self.inside.bounds ts n there c.self.invariant.1.1),
      ),
    )

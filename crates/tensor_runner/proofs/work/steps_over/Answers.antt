use Rattle.std.proofs.Common.{◌≡◌, false, true, IsOk, subst}
use Rattle.tensor_runner.proofs.work.steps_over.Goals as goal

-- what has dims has no fault
pub unreachable-requires : goal.unreachable-requires
unreachable-requires c =
    let bad : false ≡ true = subst (λ d. IsOk d) c.in_default.ensures.dims c.requires.dims in
    (cc)

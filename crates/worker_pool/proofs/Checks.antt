-- What passed a check has no error.
use Rattle.std.proofs.Common.{◌≡◌, ◌↔◌, Result, Ok, Err, ap, sym, ◌∙◌}
use Rattle.std.specs.Prelude.{IsErrOf}
use Rattle.std.specs.Result.{is_err}
use Rattle.std.proofs.lemmas.Bool.{false≢true}

-- a result isn't both a value and an error
pub ok-no_error : {T E : Type 0} → (r : Result T E) (x : T) (e : E) → r ≡ Ok x → r ≡ Err e → ⊥
ok-no_error r x e value error = false≢true (ap is_err (sym value ∙ error))

-- two results that are values have no error, so that what one's error means the other's means too
pub error-both_ok : {T U E P : Type 0} → (r : Result T E) (x : T) (s : Result U E) (y : U) (e : E)
    → r ≡ Ok x → s ≡ Ok y → (IsErrOf r e ↔ P) → IsErrOf s e ↔ P
error-both_ok r x s y e one other means = (
  (λ error. absurd (ok-no_error s y e other error)),
  λ holds. absurd (ok-no_error r x e one (means.1 holds)),
)

-- Values of options.
use Rattle.std.proofs.Common.{◌≡◌, ℕ, Option, None, Some, length, option_to_list, ap, arith}
use Rattle.std.specs.Prelude.{unwrap_or}

-- two that have the same value
pub same_job : {A : Type 0} (x y : A) → Some x ≡ Some y → x ≡ y
same_job x y e = ap (λ o. unwrap_or o x) e

-- one that has none
pub no_job_there : {A : Type 0} (x : A) → None ≡ Some x → ⊥
no_job_there x e =
    let one : ◌≡◌ {A = ℕ} 0 1 = ap (λ o. length (option_to_list o)) e in
    omega arith

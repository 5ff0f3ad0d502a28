-- The word's lowest bit.
use Rattle.std.proofs.Common.{◌≡◌, ℕ, zero, suc, ◌+◌, ◌*◌, ◌^◌, ◌<◌, ◌≤◌}
use Rattle.std.proofs.Common.{bit_or, refl, ap, ◌∙◌, arith}
use Rattle.std.specs.Int.Bits.{or_zero_r}
use Rattle.std.proofs.lemmas.Nat.{or_block}

-- a number with a lowest bit, after that bit was set: its upper half stays
or-one : (half bit : ℕ) → bit < 2 ^ 1 → bit_or bit 1 ≡ 1 → bit_or (2 * half + bit) 1 ≡ 2 * half + 1
or-one half bit low set =
    let same : 2 * half + bit ≡ half * 2 ^ 1 + bit = omega arith in
    let block = or_block 1 half 0 bit 1 low (omega arith) in
    let upper = ap (λ (n : ℕ). n * 2 + bit_or bit 1) (or_zero_r half) in
    ap (λ (n : ℕ). bit_or n 1) same ∙ (block ∙ (upper ∙ omega arith))

-- the word after the flag was set
pub or-flag : (notices flag : ℕ) → flag ≤ 1 → bit_or (2 * notices + flag) 1 ≡ 2 * notices + 1
or-flag notices zero low = or-one notices 0 (omega arith) refl
or-flag notices (suc zero) low = or-one notices 1 (omega arith) refl
or-flag notices (suc (suc flag)) low = absurd (omega arith)

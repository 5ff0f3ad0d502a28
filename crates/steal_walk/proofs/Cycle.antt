-- Steps of a coprime size round n places come to each place once.
use Rattle.std.proofs.Common.{◌≡◌, ℕ, ◌+◌, ◌-◌, ◌*◌, ◌%◌, ◌<◌, ◌≤◌, arith, sym, ap, ◌∙◌}
use Rattle.std.proofs.Math.Nat.{mod-add-mod, add-mod-mod, mod-eq_of_lt, mod-eq-sub-mod}
use Rattle.std.proofs.Math.Nat.{add-mul-mod_self_left}
use Rattle.std.proofs.lemmas.Nat.{mul-mod_first, mul-mod_second}
use Rattle.steal_walk.proofs.Bezout.{IsBezout}

-- where k steps of size s from f come to
abbrev pub place : (n f s k : ℕ) → ℕ
place n f s k = (f + k * s) % n

-- how many steps come to the place t, where x steps come one place on
abbrev pub steps_to : (n f x t : ℕ) → ℕ
steps_to n f x t = (x * (t + (n - f))) % n

pub steps_to-place :
    (n f s k : ℕ) (b : IsBezout s n) → f < n → k < n → steps_to n f b.x (place n f s k) ≡ k
steps_to-place n f s k b inside short =
    let is = b.is in
    let g : ℕ = f + k * s in
    let by_k : k * (s * b.x) ≡ k * (n * b.y + 1) = ap (λ m. k * m) is in
    let round : g + (n - f) ≡ k * s + n = omega arith in
    let product : b.x * (k * s + n) ≡ k + n * (k * b.y + b.x) = omega arith in
    sym (mul-mod_second b.x (g % n + (n - f)) n) ∙
    ap (λ m. (b.x * m) % n) (mod-add-mod g n (n - f)) ∙
    mul-mod_second b.x (g + (n - f)) n ∙
    ap (λ m. (b.x * m) % n) round ∙
    ap (λ m. m % n) product ∙
    add-mul-mod_self_left k n (k * b.y + b.x) ∙
    mod-eq_of_lt short

pub place-steps_to :
    (n f s t : ℕ) (b : IsBezout s n) → f < n → t < n → place n f s (steps_to n f b.x t) ≡ t
place-steps_to n f s t b inside short =
    let is = b.is in
    let w : ℕ = t + (n - f) in
    let by_w : w * (s * b.x) ≡ w * (n * b.y + 1) = ap (λ m. w * m) is in
    let round : f + w ≡ t + n = omega arith in
    let product : f + b.x * w * s ≡ f + w + n * (b.y * w) = omega arith in
    let whole : f + w + n * (b.y * w) ≡ t + n * (1 + b.y * w) = omega arith in
    sym (add-mod-mod f ((b.x * w) % n * s) n) ∙
    ap (λ m. (f + m) % n) (mul-mod_first (b.x * w) s n) ∙
    add-mod-mod f (b.x * w * s) n ∙
    ap (λ m. m % n) (product ∙ whole) ∙
    add-mul-mod_self_left t n (1 + b.y * w) ∙
    mod-eq_of_lt short

-- one step on, short of the end and past it
pub place-one : (n f s : ℕ) → f < n → s ≤ n → f < n - s → f + s ≡ (f + s) % n
place-one n f s inside le short = sym (mod-eq_of_lt (omega arith))

pub place-one_past : (n f s : ℕ) → f < n → s ≤ n → n - s ≤ f → f - (n - s) ≡ (f + s) % n
place-one_past n f s inside le past =
    let gap : f + s - n ≡ f - (n - s) = omega arith in
    sym (mod-eq-sub-mod (omega arith) ∙ mod-eq_of_lt (omega arith) ∙ gap)

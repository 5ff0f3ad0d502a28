-- How many calls of a stream were made, and how many failed.
use Rattle.std.specs.Prelude.{◌≡◌, ◌⊎◌, ◌+◌, ◌-◌, ◌^◌, ◌<◌, ℕ, zero, suc, min, Bool, true, false}
use Rattle.std.specs.Prelude.{if◌then◌else◌, Result, Ok, Err}

-- a number plus one; the greatest `u64` stays as it is
abbrev pub one_more : ℕ → ℕ
one_more n = min (n + 1) (2 ^ 64 - 1)

-- a call failed: the number of failures grew, or is the greatest `u64`
abbrev pub HasFailed : ℕ → ℕ → Type 0
HasFailed before after = (before < after) ⊎ (after ≡ 2 ^ 64 - 1)

-- whether a write took a byte or more; if not, it failed
abbrev pub took_some : {E : Type 0} → Result ℕ E → Bool
took_some (Ok zero) = false
took_some (Ok (suc n)) = true
took_some (Err e) = false

-- the number of failures after a call that succeeded (`well`) or failed
abbrev pub failures_after : Bool → ℕ → ℕ
failures_after well n = if well then n else one_more n

-- how often a stream is called for one read or write, if signals interrupt each call
abbrev pub most_calls : ℕ
most_calls = 2 ^ 64 - 1

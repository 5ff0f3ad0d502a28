-- The history of a client: the bytes that were read from it and written to it so far.
use Rattle.std.specs.Prelude.{◌≡◌, ◌≤◌, ◌+◌, ◌-◌, ℕ, List, [], ◌++◌, length, take}
use Rattle.std.specs.Prelude.{Option, Some, None, Result, Ok, Err, option_map, ⊤}

pub record History : Type 0 where
  pub taken : List ℕ
  pub written : List ℕ

-- nothing was read or written yet
abbrev pub IsNew : History → Type 0
IsNew h = (h.taken ≡ []) × (h.written ≡ [])

-- the history after these bytes were read
abbrev pub reading : List ℕ → History → History
reading bytes h = record { taken = h.taken ++ bytes; written = h.written }

-- the history after these bytes were written
abbrev pub writing : List ℕ → History → History
writing bytes h = record { taken = h.taken; written = h.written ++ bytes }

-- the history after a call of `read`, from its result and the buffer that it filled from the start
abbrev pub after_read : {E : Type 0} → Result ℕ E → List ℕ → Option History → Option History
after_read (Ok count) buffer h = option_map (reading (take count buffer)) h
after_read (Err e) buffer h = h

-- the history after a call of `write`, which wrote a prefix of these bytes or failed
abbrev pub after_write : {E : Type 0} → Result ℕ E → List ℕ → Option History → Option History
after_write (Ok count) bytes h = option_map (writing (take count bytes)) h
after_write (Err e) bytes h = h

-- how many writes took all that they were given, if that is known, after a call of `write`
abbrev pub writes_after : {E : Type 0} → Result ℕ E → List ℕ → Option ℕ → Option ℕ
writes_after (Ok count) bytes n = option_map (λ k. k + (1 - (length bytes - count))) n
writes_after (Err e) bytes n = n

-- at most this many such writes were added
abbrev pub AddsAtMost : ℕ → Option ℕ → Option ℕ → Type 0
AddsAtMost most None None = ⊤
AddsAtMost most None (Some k) = ⊥
AddsAtMost most (Some n) None = ⊥
AddsAtMost most (Some n) (Some k) = k ≤ n + most

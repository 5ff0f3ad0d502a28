-- Wrapping into the `i64` range.
use Rattle.std.specs.Prelude.{ℤ}
use Rattle.std.specs.Int.{w64, int_wrap}

-- the number of the `i64` range that equals z modulo 2^64
abbrev pub wrap : ℤ → ℤ
wrap z = int_wrap w64 z

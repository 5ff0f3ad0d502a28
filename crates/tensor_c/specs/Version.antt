-- The version of the library as one number. A new version changes `tensor_version` and its edit too.
use Rattle.std.specs.Prelude.{ℕ, ◌+◌, ◌*◌}

-- the three numbers of a version as one number: 3002001 for 3.2.1
abbrev pub packed : ℕ → ℕ → ℕ → ℕ
packed first second third = 1000000 * first + 1000 * second + third

-- the version that the file VERSION has
abbrev pub version : ℕ
version = packed 4 1 0

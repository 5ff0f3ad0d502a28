-- What is kept of a text while it is read, for the private clauses of the engine and the server.
use Rattle.std.specs.Prelude.{◌≡◌, ℕ, List, length, take}
use Rattle.tensor_runner.specs.Run.{most_reads}
use Rattle.tensor_runner.specs.declared.kept.KeptText.{KeptText}
use Rattle.tensor_runner.specs.declared.kept.KeptText.TheVariants.{Text, Counted}

-- kept is a prefix of the text, or the length of this prefix
abbrev pub IsKept : List ℕ → KeptText → Type 0
IsKept text (Text front) = front.items ≡ take most_reads text
IsKept text (Counted count) = count ≡ length (take most_reads text)

-- how many bytes are kept, or only counted
abbrev pub kept_len : KeptText → ℕ
kept_len (Text front) = length front.items
kept_len (Counted count) = count

-- how many bytes of the text are in memory
abbrev pub kept_bytes : KeptText → ℕ
kept_bytes (Text front) = length front.items
kept_bytes (Counted count) = 0

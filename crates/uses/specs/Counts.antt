-- How often bytes stand in texts.
use Rattle.std.specs.Prelude.{ℕ, ◌*◌, ◌==◌, List, map, take, drop}
use Rattle.std.specs.List.{range_with_len, count_by}

-- how often a byte stands in a text
abbrev pub count_of : (byte : ℕ) → List ℕ → ℕ
count_of byte text = count_by (λ b. b == byte) text

-- how often each byte, from 0 to 255, stands in a text
abbrev pub counts_of : List ℕ → List ℕ
counts_of text = map (λ byte. count_of byte text) (range_with_len 0 256)

-- part i of a text that is cut after every part_length bytes
abbrev pub part_of : List ℕ → (part_length i : ℕ) → List ℕ
part_of text part_length i = take part_length (drop (i * part_length) text)

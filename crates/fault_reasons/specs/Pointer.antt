-- A place as a JSON pointer (RFC 6901), and as it is printed in a line.
use Rattle.std.specs.Prelude.{ℕ, ◌/◌, ◌%◌, ◌==◌, Bool, ◌||◌, nat_lt, List, [], ◌∷◌, ◌++◌}
use Rattle.std.specs.Prelude.{flat_map, codes, decimal, if◌then◌else◌}
use Rattle.std.specs.Char.{digit_char}
use Rattle.expr_reader.specs.Place.{Step, field, index}

-- a byte of a name; a tilde and a slash are written as two bytes
abbrev pub escaped : ℕ → List ℕ
escaped byte =
    if byte == 126 then codes "~0" else (if byte == 47 then codes "~1" else byte ∷ [])

-- a step: a slash, and then the name or the index
abbrev pub step_text : Step → List ℕ
step_text (field name) = codes "/" ++ flat_map escaped name
step_text (index n) = codes "/" ++ decimal n

-- the JSON pointer of a place
abbrev pub pointer_of : List Step → List ℕ
pointer_of steps = flat_map step_text steps

-- whether a byte is escaped in a line: a control byte, a quotation mark and a backslash, as in a
-- JSON string, and a colon, which ends the place
abbrev pub is_hidden : ℕ → Bool
is_hidden byte = nat_lt byte 32 || (byte == 34 || (byte == 92 || byte == 58))

-- a byte as it is printed: an escaped byte is `\u` and four digits of base 16
abbrev pub shown : ℕ → List ℕ
shown byte =
    if is_hidden byte then codes "\\u00" ++ digit_char (byte / 16) ∷ digit_char (byte % 16) ∷ []
    else byte ∷ []

-- a place as it is printed; the whole text has no pointer and gets these words
abbrev pub place_text : List Step → List ℕ
place_text [] = codes "the whole text"
place_text (step ∷ steps) = flat_map shown (pointer_of (step ∷ steps))

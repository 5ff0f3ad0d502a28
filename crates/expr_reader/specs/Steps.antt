-- Checks one after the other: the first fault ends them.
use Rattle.std.specs.Prelude.{Result, Ok, Err}
use Rattle.expr_reader.specs.Place.{Located}

-- what the next check makes of what was found, or the fault
abbrev pub and_then : {A B : Type 0} → Result A Located → (A → Result B Located) → Result B Located
and_then (Ok x) next = next x
and_then (Err fault) next = Err fault

-- f of what was found, or the fault
abbrev pub map_found : {A B : Type 0} → (A → B) → Result A Located → Result B Located
map_found f found = and_then found (λ x. Ok (f x))

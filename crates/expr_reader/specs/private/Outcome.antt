-- What the code returns for a part of a text, beside what the definitions say.
use Rattle.std.specs.Prelude.{◌≡◌, ◌⊎◌, ℕ, List, Option, Some, None}
use Rattle.std.specs.Prelude.{Result, Ok, Err, MatchResult}
use Rattle.expr_reader.specs.Place.{Step, Located, way_of}
use Rattle.expr_reader.specs.declared.fault.Fault.{Fault}
use Rattle.expr_reader.specs.declared.fault.Fault.TheVariants.{NoMemory}

-- the code returns what is there, as `shows` sees it, or `fault` if nothing is there, or `NoMemory`
abbrev pub IsReadOr : {A B : Type 0} → Fault → (A → B) → Option B → Result A Fault → Type 0
IsReadOr fault shows there r =
    MatchResult r (λ x. there ≡ Some (shows x))
    (λ e. (e ≡ NoMemory) ⊎ ((e ≡ fault) × (there ≡ None)))

-- the code returns what is said, as `shows` sees it, or the fault that is said, at this place, or
-- `NoMemory`
abbrev pub IsToldAt : {A B : Type 0} → (A → B) → Result B Located → List Step → Result A Fault
    → Type 0
IsToldAt shows says place r =
    MatchResult r (λ x. says ≡ Ok (shows x))
    (λ e. (e ≡ NoMemory) ⊎ (says ≡ Err (record { fault = e; place = place })))

-- the code returns what is said, as `shows` sees it, or the fault that is said, at the end of this
-- way, or `NoMemory`
abbrev pub IsReadAt : {A B : Type 0} → (A → B) → Result B Located → List ℕ → Result A Fault
    → Type 0
IsReadAt shows says indices r = IsToldAt shows says (way_of indices) r

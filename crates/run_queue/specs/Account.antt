-- The account of rows: which jobs went in through their seats, and which came out.
use Rattle.std.specs.Prelude.{◌≡◌, List, [], ◌∷◌, ◌++◌, Result, MatchResult}
use Rattle.std.specs.List.{flat_map}
use Rattle.run_queue.specs.Bag.{SameBag}

-- the list gets the job, and no other, if the result is Ok; otherwise it stays
abbrev pub AddsIfOk : {J : Type 0} → Result (Unit {0}) J → J → List J → List J → Type 0
AddsIfOk result job old new = MatchResult result (λ _. new ≡ old ++ job ∷ []) (λ _. new ≡ old)

-- what all seats put in is, as a bag, what they took out and what is left
abbrev pub AccountsFor : {S J : Type 0} → (S → List J) → (S → List J) → List S → List J → Type 0
AccountsFor puts takes seats left = SameBag (flat_map puts seats) (flat_map takes seats ++ left)

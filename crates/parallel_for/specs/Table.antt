-- The collector's table: the items of each block, or an empty list if they are missing.
use Rattle.std.specs.Prelude.{◌≡◌, ℕ, ◌+◌, ◌*◌, ◌≤◌, min, List, [], ◌∷◌, map}
use Rattle.std.specs.declared.vec.Vec.{Vec}
use Rattle.run_queue.specs.Bag.{total}
use Rattle.parallel_for.specs.Leaves.{Range, leaf}
use Rattle.parallel_for.specs.Items.{AreItems}

-- the items in each row
abbrev pub rows_of : {I A : Type 0} → List (Vec I A) → List (List I)
rows_of rows = map (λ row. row.items) rows

module _ {I : Type 0} (n block : ℕ) where
  -- a function's items at the places of block i of n places
  abbrev pub AreOfBlock : (ℕ → I) → ℕ → List I → Type 0
  AreOfBlock item_at i items = AreItems item_at (i * block) (min ((i + 1) * block) n) items

  -- each row from block i on is empty, or has the items of its block
  abbrev pub IsTable : (ℕ → I) → ℕ → List (List I) → Type 0
  IsTable item_at i [] = Unit {0}
  IsTable item_at i ([] ∷ rows) = IsTable item_at (i + 1) rows
  IsTable item_at i ((x ∷ items) ∷ rows) =
      AreOfBlock item_at i (x ∷ items) × IsTable item_at (i + 1) rows

  -- the blocks from block i on whose row is empty
  abbrev pub missing : ℕ → List (List I) → List Range
  missing i [] = []
  missing i ([] ∷ rows) = leaf 0 n block i ∷ missing (i + 1) rows
  missing i ((x ∷ items) ∷ rows) = missing (i + 1) rows

-- each range stands in the second list at least as often as in the first
pub record AreAmong (ranges others : List Range) : Type 0 where
  pub weigh : (weight : Range → ℕ) → total weight ranges ≤ total weight others

-- what was missing before is what was taken and what is still missing
pub record IsTaken (before taken after : List Range) : Type 0 where
  pub weigh : (weight : Range → ℕ)
      → total weight before ≡ total weight taken + total weight after

-- Room for a list, kept in a table of one slot.
use Rattle.std.specs.Prelude.{◌≡◌, ◌≤◌, ℕ, [], vec_capacity}
use Rattle.std.specs.declared.vec.Vec.{Vec}
use mathlib.Core.Option.{some}
use lib.ListN.{get_elem?}
use Rattle.atomic_table.specs.Table.{State}

module _ {J A : Type 0} where
  -- the slot has an empty list with room for this number of elements
  abbrev pub KeepsRoom : ℕ → State (Vec J A) (Unit {0}) → Type 0
  KeepsRoom room s =
      (list : Vec J A) × (get_elem? s.homes 0 ≡ some (some list)) × (list.items ≡ [])
      × (room ≤ vec_capacity list)

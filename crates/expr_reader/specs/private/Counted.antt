-- The number of members of all objects in a value, at any depth.
use Rattle.std.specs.Prelude.{ℕ, suc, ◌+◌}
use Rattle.serde_json.specs.Data.{Data, null, boolean, number, string, array, object, Items}
use Rattle.serde_json.specs.Data.{no_items, item, Members, no_members, member}

abbrev mutual
  pub member_count : Data → ℕ
  member_count null = 0
  member_count (boolean b) = 0
  member_count (number x) = 0
  member_count (string s) = 0
  member_count (array ds) = count_in_items ds
  member_count (object ms) = count_in_members ms

  pub count_in_items : Items → ℕ
  count_in_items no_items = 0
  count_in_items (item d ds) = member_count d + count_in_items ds

  pub count_in_members : Members → ℕ
  count_in_members no_members = 0
  count_in_members (member name d ms) = suc (member_count d + count_in_members ms)

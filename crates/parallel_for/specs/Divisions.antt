-- Default values for types in which no division is named.
use Rattle.std.specs.Prelude.{[]}
use Rattle.pool_barrier.specs.Seated.{TableId}

-- a barrier that no job has
abbrev pub no_barrier : TableId
no_barrier = record {
  words = 0;
  slots = 0;
  views_name = 0;
  atom = 0;
  block = 0;
  offset = 0;
  slot_names = [];
}

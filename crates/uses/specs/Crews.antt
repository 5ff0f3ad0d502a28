-- Default values for types in which no count is named.
use Rattle.std.specs.Prelude.{[]}
use Rattle.event_count.specs.Seated.{TableId}

-- a count to which no number belongs
abbrev pub no_count : TableId
no_count = record {
  words = 0;
  slots = 0;
  views_name = 0;
  atom = 0;
  block = 0;
  offset = 0;
  slot_names = [];
}

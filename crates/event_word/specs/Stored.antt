-- How the program stores a World.
use Rattle.std.specs.Prelude.{◌+◌, ◌≤◌, length, map, vec_capacity}
use Rattle.event_word.specs.declared.world.World.TheInside.{Inside}
use Rattle.event_word.specs.Limits.{most_workers}
use Rattle.event_word.specs.World.{World}
use Rattle.event_word.specs.Debts.{owed_lists, AreKnown}
use Rattle.event_word.specs.Lawful.{Lawful, HasSizes}

-- the World that the stored lists show; each actor has its own part of the list of debts
abbrev pub world_view : {A : Type 0} → Inside A → World
world_view i = record {
  phases = i.phases.items;
  flags = i.flags.items;
  passed = map (λ row. row.items) i.passed.items;
  pre = i.pre.items;
  signals = i.signals;
  stack = i.stack.items;
  owed = owed_lists (length i.phases.items + i.notifiers) i.owed.items;
  announcing = i.announcing.items;
  tokens = i.tokens.items;
  lengths = i.lengths.items;
  stop = i.stop;
}

-- the World is lawful, and each list has room for every worker
pub record IsStored {A : Type 0} (i : Inside A) : Type 0 where
  pub lawful : Lawful (world_view i)
  pub sizes : HasSizes (length i.phases.items) (length i.phases.items + i.notifiers)
      (length i.lengths.items) (world_view i)
  pub few : length i.phases.items ≤ most_workers
  pub known : AreKnown (length i.phases.items + i.notifiers) i.owed.items
  pub room_to_wait : length i.phases.items ≤ vec_capacity i.pre
  pub room_to_park : length i.phases.items ≤ vec_capacity i.stack
  pub room_to_owe : length i.phases.items ≤ vec_capacity i.owed

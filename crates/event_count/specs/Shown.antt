-- The World that a table shows, with its history: the rule of the table.
use Rattle.std.specs.Prelude.{◌≡◌, ℕ, ◌≤◌, false, List}
use Rattle.atomic_table.specs.Table.{State}
use Rattle.event_word.specs.declared.event.Event.{Event}
use Rattle.event_word.specs.World.{World, is_announcing}
use Rattle.event_word.specs.Step.{row_limit}
use Rattle.event_word.specs.Runs.{Runs}
use Rattle.event_count.specs.declared.rule.RowSizes.{RowSizes}
use Rattle.event_count.specs.declared.view.View.{View}
use Rattle.event_count.specs.Limits.{most_waiters}
use Rattle.event_count.specs.Written.{Written}
use Rattle.event_count.specs.Known.{world_at_first, next_epoch, Agrees, AreDealt, Each}
use Rattle.event_count.specs.Kept.{Knows, Links}
use Rattle.event_count.specs.Tickets.{credits_for, banked, AreCounted}

-- a state of a count's table: its words, and what each of its seats knows
abbrev pub CountState : Type 0
CountState = State (Unit {0}) View

-- nobody stops a count alone, and nobody is to notify there
pub record HasNoRows (w : World) : Type 0 where
  pub stop : w.stop ≡ 0
  pub silent : (actor : ℕ) → is_announcing w actor ≡ false

-- the table shows this World, to which this history leads
pub record Shows (k : RowSizes) (s : CountState) (history : List Event) (w : World) : Type 0 where
  pub runs : Runs (world_at_first k) history w
  pub few : k.waiters ≤ most_waiters
  pub written : Written k s.words w (next_epoch k history)
  pub known : Each (Agrees k history w) s.views
  pub kept : Each (Knows s.words w (next_epoch k history)) s.views
  pub linked : Each (Links s.words) s.views
  pub dealt : AreDealt k s.views
  pub counted : AreCounted (credits_for k) (banked s.words) w s.views
  pub few_credits : credits_for k ≤ row_limit
  pub plain : k.rows ≡ 0 → HasNoRows w

-- the table shows a World
abbrev pub ShowsWorld : RowSizes → CountState → Type 0
ShowsWorld k s = (history : List Event) × (w : World) × Shows k s history w

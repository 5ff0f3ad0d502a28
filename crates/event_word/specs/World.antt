-- The event model as plain data: who waits, who was notified, and who is owed a token.
use Rattle.std.specs.Prelude.{ℕ, ◌+◌, Bool, false, List, [], slice_index, slice_index_or, replicate}
use Rattle.event_word.specs.declared.phase.Phase.{Phase}
use Rattle.event_word.specs.declared.phase.Phase.TheVariants.{Running, Ended}

-- The model's state. Workers are numbered from 0, and the notifiers after them. Workers and
-- notifiers are actors. A worker is also a seat.
pub record World : Type 0 where
  -- for each worker, its phase
  pub phases : List Phase
  -- for each worker, whether it has found no stop since its prewait, and which rows it has found
  -- empty since then
  pub flags : List Bool
  pub passed : List (List Bool)
  -- the pre-waiting seats in order of arrival, and how many of them have a signal
  pub pre : List ℕ
  pub signals : ℕ
  -- the seats on the stack, top first
  pub stack : List ℕ
  -- for each actor, the seats that it has popped and not unparked, and whether it is to notify
  pub owed : List (List ℕ)
  pub announcing : List Bool
  -- for each worker, whether it is unparked and has not taken its token
  pub tokens : List Bool
  -- how many jobs each row has
  pub lengths : List ℕ
  -- 0 at first, 1 once the workers are to end, 2 once all were notified of this
  pub stop : ℕ

-- the phase of a seat; a number past the last worker counts as ended
abbrev pub phase_of : World → ℕ → Phase
phase_of w seat = slice_index_or w.phases seat Ended

-- the seat has found no stop since its prewait
abbrev pub has_passed_flag : World → ℕ → Bool
has_passed_flag w seat = slice_index_or w.flags seat false

-- for each row, whether the seat has found it empty since its prewait
abbrev pub rows_passed_by : World → ℕ → List Bool
rows_passed_by w seat = slice_index_or w.passed seat []

-- the seat has found the row empty since its prewait
abbrev pub has_passed : World → ℕ → ℕ → Bool
has_passed w seat row = slice_index_or (rows_passed_by w seat) row false

-- the seats that the actor has popped and not unparked, the next one first
abbrev pub owed_by : World → ℕ → List ℕ
owed_by w actor = slice_index_or w.owed actor []

-- the actor has published or stopped, and not notified since
abbrev pub is_announcing : World → ℕ → Bool
is_announcing w actor = slice_index_or w.announcing actor false

-- the seat is unparked, and has not taken its token
abbrev pub has_token : World → ℕ → Bool
has_token w seat = slice_index_or w.tokens seat false

-- how many jobs the row has
abbrev pub length_of : World → ℕ → ℕ
length_of w row = slice_index w.lengths row

-- the World at the start: all workers run, all lists are empty, and nobody has stopped
abbrev pub opening_world : ℕ → ℕ → ℕ → World
opening_world workers notifiers rows = record {
  phases = replicate workers Running;
  flags = replicate workers false;
  passed = replicate workers (replicate rows false);
  pre = [];
  signals = 0;
  stack = [];
  owed = replicate (workers + notifiers) [];
  announcing = replicate (workers + notifiers) false;
  tokens = replicate workers false;
  lengths = replicate rows 0;
  stop = 0;
}

-- The barrier word, and the rule of a barrier's table.
use Rattle.std.specs.Prelude.{◌≡◌, ℕ, ◌+◌, ◌*◌, ◌≤◌, List, [], ◌∷◌, length, slice_index, Contains}
use Rattle.atomic_table.specs.Table.{State}
use Rattle.pool_barrier.specs.declared.rule.TheConstants.{WORDS, STATE}
use Rattle.pool_barrier.specs.declared.view.Phase.TheVariants.{Done}
use Rattle.pool_barrier.specs.declared.view.View.{View}
use Rattle.pool_barrier.specs.declared.view.View.TheVariants.{Waits}
use Rattle.pool_barrier.specs.Limits.{most_notices}
use Rattle.pool_barrier.specs.Views.{notices_in, given_in, waiter_in, flag_in}

-- a state of a barrier's table: its words, and what each of its seats knows
abbrev pub BarrierState : Type 0
BarrierState = State (Unit {0}) View

-- the sum of f over the views
abbrev pub total : (View → ℕ) → List View → ℕ
total f [] = 0
total f (view ∷ views) = f view + total f views

-- twice the number of notices left over all shares, plus 1 if the waiter has set its flag
abbrev pub barrier_word : List View → ℕ
barrier_word views = 2 * total notices_in views + total flag_in views

-- the state of a barrier that was made with `count` notices
pub record IsCounted (count : ℕ) (s : BarrierState) : Type 0 where
  pub room : length s.words ≡ WORDS
  pub word : slice_index s.words STATE ≡ barrier_word s.views
  pub few : count ≤ most_notices
  pub account : total notices_in s.views + total given_in s.views ≡ count
  pub one_waiter : total waiter_in s.views ≡ 1
  pub done : Contains s.views (Waits Done) → total notices_in s.views ≡ 0

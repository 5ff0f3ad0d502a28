-- The laws of a barrier: what holds in every state that its rule allows.
use Rattle.std.specs.Prelude.{◌≡◌, ℕ, slice_index, Contains, All}
use Rattle.pool_barrier.specs.declared.rule.TheConstants.{STATE}
use Rattle.pool_barrier.specs.declared.view.Phase.TheVariants.{Done}
use Rattle.pool_barrier.specs.declared.view.View.TheVariants.{Waits}
use Rattle.pool_barrier.specs.Views.{notices_in, given_in}
use Rattle.pool_barrier.specs.BarrierWord.{BarrierState, total, barrier_word}

-- a rule for barriers, by the number of notices with which they were made
abbrev Rule : Type 1
Rule = ℕ → BarrierState → Type 0

-- the word is the barrier word
abbrev pub WordIsBarrierWord : Rule → Type 0
WordIsBarrierWord holds =
    (count : ℕ) (s : BarrierState) → holds count s
    → slice_index s.words STATE ≡ barrier_word s.views

-- once the waiter is done, no seat has a notice left
abbrev pub NoNoticeIsLeft : Rule → Type 0
NoNoticeIsLeft holds =
    (count : ℕ) (s : BarrierState) → holds count s → Contains s.views (Waits Done)
    → All (λ view. notices_in view ≡ 0) s.views

-- once the waiter is done, the seats have given all notices with which the barrier was made
abbrev pub AllNoticesAreGiven : Rule → Type 0
AllNoticesAreGiven holds =
    (count : ℕ) (s : BarrierState) → holds count s → Contains s.views (Waits Done)
    → total given_in s.views ≡ count

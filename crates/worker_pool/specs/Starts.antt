-- What holds before workers are started, and after they have come home.
use Rattle.std.specs.Prelude.{◌≡◌, ℕ, ◌+◌, ◌≤◌, Option, IsNone, IfSome, Bool, true, false, List, [], ◌++◌, length}
use Rattle.std.specs.Prelude.{All, Vec, vec_len, vec_capacity, count_by, min}
use Rattle.std.specs.List.{AllZip}
use Rattle.run_queue.specs.Limits.{most_rows}
use Rattle.worker_pool.specs.declared.standing.left_out.LeftOut.{LeftOut}
use Rattle.worker_pool.specs.declared.opening.start.home.Home.{Home}
use Rattle.worker_pool.specs.declared.opening.start.home.Start.{Start}
use Rattle.worker_pool.specs.declared.opening.start.home.Start.TheVariants.{Joined, Refused, NotAsked}

-- a thread was started, and was joined
abbrev pub was_joined : Start → Bool
was_joined Joined = true
was_joined Refused = false
was_joined NotAsked = false

-- a thread was asked for
abbrev pub was_asked : Start → Bool
was_asked Joined = true
was_asked Refused = true
was_asked NotAsked = false

module _ {X : Type 0} where
  -- how many threads were started, and were joined
  abbrev pub joined_of : List (Home X) → ℕ
  joined_of homes = count_by (λ home. was_joined home.start) homes

  -- a thread was asked for exactly for the workers with numbers below `starts`
  pub record AsksFirst (starts : ℕ) (homes : List (Home X)) : Type 0 where
    pub asked : List (Home X)
    pub others : List (Home X)
    pub all : homes ≡ asked ++ others
    pub many : length asked ≡ min starts (length homes)
    pub were_asked : All (λ home. was_asked home.start ≡ true) asked
    pub were_not : All (λ home. was_asked home.start ≡ false) others

module _ {S X A B : Type 0} (is_at_work : S → X → Type 0) where
  -- The workers are at work, no state has come home, and there is room for all states. The opening
  -- may begin with any number of workers that can still be started.
  pub record IsToRun (may_begin : B → ℕ → Type 0) (workplace : S) (states : Vec X A)
      (ended : Vec (Home X) A) (started : ℕ) (opening : B) : Type 0 where
    pub at_work : All (is_at_work workplace) states.items
    pub none_ended : ended.items ≡ []
    pub few : started + vec_len states ≤ most_rows
    pub room : vec_len states ≤ vec_capacity ended
    pub begins : (count : ℕ) → count ≤ started + vec_len states → may_begin opening count

module _ {S X : Type 0} (is_at_work : S → X → Type 0) (has_ended : S → X → X → Type 0) where
  -- A worker that was at work is still at work. It has ended, or it has the token of its number and
  -- did nothing.
  pub record Returns (workplace : S) (before : X) (number : ℕ) (came : X × Option LeftOut)
      : Type 0 where
    pub at_work : is_at_work workplace came.0
    pub ended : IsNone came.1 → has_ended workplace before came.0
    pub left_out : IfSome came.1 (λ token. (token.number ≡ number) × (came.0 ≡ before))

  -- a worker that was at work is still at work, and has ended
  pub record Ends (workplace : S) (before after : X) : Type 0 where
    pub at_work : is_at_work workplace after
    pub ended : has_ended workplace before after

  -- A worker's state came home. The worker has ended if a thread was asked for; otherwise its state
  -- is unchanged.
  pub record ComesHome (workplace : S) (before : X) (home : Home X) : Type 0 where
    pub at_work : is_at_work workplace home.state
    pub ended : was_asked home.start ≡ true → has_ended workplace before home.state
    pub kept : home.start ≡ NotAsked → home.state ≡ before

  -- All workers came home, by number. For each of them a thread was asked for. The opening has
  -- ended. The number of started workers that it saw is `started` plus the number of joined
  -- threads.
  pub record HasRun {A B D : Type 0} (has_left : B → ℕ → D → Type 0) (workplace : S)
      (states : Vec X A) (ended : Vec (Home X) A) (started : ℕ) (opening : B)
      (result : Vec (Home X) A × D) : Type 0 where
    pub home : AllZip (ComesHome workplace) states.items result.0.items
    pub asked : All (λ home. was_asked home.start ≡ true) result.0.items
    pub all : vec_len result.0 ≡ vec_len states
    pub capacity : vec_capacity result.0 ≡ vec_capacity ended
    pub left : has_left opening (started + joined_of result.0.items) result.1

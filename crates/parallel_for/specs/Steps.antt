-- What a step of a range job gives.
use Rattle.std.specs.Prelude.{◌≡◌, ℕ, ◌+◌, ◌<◌, ◌≤◌, ◌-◌, List}
use Rattle.pool_barrier.specs.declared.share.Share.{Share}
use Rattle.pool_barrier.specs.Shares.{notices_of, given_of, share_id}
use Rattle.worker_pool.specs.declared.job.Progress.{Progress}
use Rattle.worker_pool.specs.declared.job.Progress.TheVariants.{Fork, Done}
use Rattle.parallel_for.specs.Leaves.{Range, middle}
use Rattle.parallel_for.specs.Items.{AreItems}

-- one fact holds if the job forks, the other if it is done
abbrev pub EitherWay : {J O : Type 0} → (J → J → Type 0) → (O → Type 0) → Progress J O → Type 0
EitherWay forks done (Fork kid rest) = forks kid rest
EitherWay forks done (Done out) = done out

-- a range longer than a block is cut in two: the kid has the upper part, and the rest has the lower
-- part
pub record IsHalved (whole kid rest : Range) (block : ℕ) : Type 0 where
  pub long : block < whole.1 - whole.0
  pub kid_first : kid.0 ≡ middle whole.0 whole.1 block
  pub kid_last : kid.1 ≡ whole.1
  pub rest_first : rest.0 ≡ whole.0
  pub rest_last : rest.1 ≡ middle whole.0 whole.1 block

-- a range of at most a block is a leaf: the piece has that range, with a function's items
pub record IsLeaf {I : Type 0} (item_at : ℕ → I) (whole piece : Range) (items : List I)
    (block : ℕ) : Type 0 where
  pub short : whole.1 - whole.0 ≤ block
  pub first : piece.0 ≡ whole.0
  pub last : piece.1 ≡ whole.1
  pub filled : AreItems item_at whole.0 whole.1 items

-- a share has given one more notice of its barrier
pub record GaveOne (before after : Share) : Type 0 where
  pub of : share_id after ≡ share_id before
  pub given : given_of after ≡ given_of before + 1

-- a share has given `count` more notices, and has none left
pub record GaveAll (count : ℕ) (before after : Share) : Type 0 where
  pub given : given_of after ≡ given_of before + count
  pub none_left : notices_of after ≡ 0

-- The pieces of a range, as the workers hand them in.
use Rattle.std.specs.Prelude.{ℕ, List, map}
use Rattle.std.specs.List.{flat_map}
use Rattle.std.specs.declared.vec.Vec.{Vec}
use Rattle.run_queue.specs.Bag.{SameBag}
use Rattle.parallel_for.specs.declared.piece.Piece.{Piece}
use Rattle.parallel_for.specs.Leaves.{Range, leaves_of}
use Rattle.parallel_for.specs.Items.{AreItems}

module _ {I A : Type 0} where
  -- the piece has a function's item at each of its places
  abbrev pub IsRight : (ℕ → I) → Piece I A → Type 0
  IsRight item_at piece = AreItems item_at piece.first piece.last piece.items.items

  -- the range of each piece
  abbrev pub ranges_of : List (Piece I A) → List Range
  ranges_of pieces = map (λ piece. (piece.first, piece.last)) pieces

  -- the range of each piece of each list
  abbrev pub all_ranges : List (Vec (Piece I A) A) → List Range
  all_ranges lists = flat_map (λ pieces. ranges_of pieces.items) lists

-- the ranges cover the places below n once: they are the blocks of these places, each once, in any
-- order
abbrev pub CoverOnce : (n block : ℕ) → List Range → Type 0
CoverOnce n block ranges = SameBag (leaves_of 0 n block) ranges

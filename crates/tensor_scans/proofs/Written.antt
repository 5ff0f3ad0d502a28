-- Values of a list of which a part was written.
use Rattle.std.proofs.Common.{◌≡◌, ℕ, ℤ, pos, ◌+◌, ◌-◌, ◌<◌, ◌≤◌, List, ◌++◌, length, take, drop}
use Rattle.std.proofs.Common.{ap, ◌∙◌, inl, inr, arith, length-append, length-drop, length-take}
use Rattle.std.proofs.lemmas.Bool.{cases_lt}
use Rattle.std.proofs.lemmas.List.{get_or_append_left, get_or-append_right, get_or-take, length-take-le}
use borrow.Rule.Slice.PartMut.{put_mid, post_of}
use Rattle.tensor_values.specs.Values.{value_in}

module _ (done count : ℕ) (old new : List ℤ) (room : done ≤ length old) where
  front : length (take done old) ≡ done
  front = length-take-le done old room

  -- the part has as many values as it had
  pub length-part : length new ≡ length (take count (drop done old)) → done + count ≤ length old
      → length new ≡ count
  length-part same within = same ∙ length-take-le count (drop done old) (omega (arith, length-drop done old))

  -- the list keeps its length
  pub length-written : length new ≡ length (take count (drop done old))
      → length (put_mid done count old new) ≡ length old
  length-written same =
      length-append (take done old) (new ++ post_of done count old)
      ∙ omega (
        arith,
        front,
        same,
        length-append new (post_of done count old),
        length-take count (drop done old),
        length-drop count (drop done old),
        length-drop done old,
      )

  -- what was written before and the first of what is written now are as wanted, so all of these are
  pub value_in-written : (f : ℕ → ℤ) (more : ℕ) → more ≤ length new
      → ((k : ℕ) → k < done → value_in old k ≡ f k)
      → ((k : ℕ) → k < more → value_in new k ≡ f (done + k))
      → (k : ℕ) → k < done + more → value_in (put_mid done count old new) k ≡ f k
  value_in-written f more long before now k below =
      elim (cases_lt k done) [
        | inl earlier ↦
            get_or_append_left (take done old) (new ++ post_of done count old) (pos 0) k
            (omega (arith, front))
            ∙ get_or-take done old k (pos 0) earlier ∙ before k earlier
        | inr later ↦
            get_or-append_right (take done old) (new ++ post_of done count old) done k (pos 0)
            front later
            ∙ get_or_append_left new (post_of done count old) (pos 0) (k - done) (omega arith)
            ∙ now (k - done) (omega arith) ∙ ap f (omega arith)
      ]

-- Values at places that were computed into a list, or are at hand.
use Rattle.std.proofs.Common.{◌≡◌, ℕ, ℤ, pos, ◌+◌, ◌<◌, ◌++◌, List, length, map, take, drop, get_or, ap, ◌∙◌, arith}
use Rattle.std.specs.List.{range_with_len}
use Rattle.std.proofs.Math.Seq.{take-append_seam}
use Rattle.std.proofs.lemmas.List.{length-map, get_or-map}
use Rattle.std.proofs.lemmas.List.FromFn.{length-map-range_with_len, get_or-map-range_with_len}
use Rattle.tensor_loops.specs.Putting.{other_at}
use Rattle.tensor_loops.specs.declared.loops.putting.Others.{Others}
use Rattle.tensor_values.specs.Values.{value_in}
use Rattle.tensor_ops.specs.private.Meaning.{AreOthers}

module _ (from count : ℕ) (f : ℕ → ℤ) (values : List ℤ)
    (are : values ≡ map f (range_with_len from count)) where
  -- there are as many
  pub run-long : length values ≡ count
  run-long = ap length are ∙ length-map-range_with_len f from count

  -- and each is the one of its place
  pub run-read : (k : ℕ) → k < count → value_in values k ≡ f (from + k)
  run-read k inside =
      ap (λ l. value_in l k) are
      ∙ get_or-map-range_with_len f from count k (from + k) (pos 0) inside (omega arith)

-- what stands second is the value of its place
pub other-read : (f : ℕ → ℤ) (ps : List ℕ) (others : Others) → AreOthers others (map f ps)
    → (k : ℕ) → k < length ps → other_at others k ≡ f (get_or ps k 0)
other-read f ps others are k below =
    are.each k (omega (arith, below, length-map ps f)) ∙ get_or-map f ps k 0 (pos 0) below

-- a list of which all was written, as a slice
pub all-written : (n : ℕ) (new items : List ℤ) → length new ≡ n → take n (new ++ drop (length new) items) ≡ new
all-written n new items whole = rw (← whole) (take-append_seam new (drop (length new) items))

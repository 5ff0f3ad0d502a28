use Rattle.std.proofs.Common.{◌≡◌, ℕ, ◌+◌, ◌-◌, ◌<◌, ◌≤◌, List, ◌∷◌, ◌++◌, length, drop, get_or}
use Rattle.std.proofs.Common.{add-one, append_assoc, refl, ap, ◌∙◌, arith}
use Rattle.std.proofs.Math.Seq.{drop-cons}
use Rattle.std.proofs.lemmas.Bool.{le-leb, lt-ltb}
use Rattle.tensor_terms.specs.Padding.{is_inside, moved_back}
use Rattle.tensor_terms.proofs.index.interleaved_index.moved_back.Goals as goal

-- one axis of those that are left
moved_back-at : (ps : List (ℕ × ℕ)) (is : List ℕ) (k : ℕ) → k < length ps → k < length is
    → (get_or is k 0 - (get_or ps k (0, 0)).0) ∷ moved_back (drop (k + 1) ps) (drop (k + 1) is)
    ≡ moved_back (drop k ps) (drop k is)
moved_back-at ps is k within index =
    rw (add-one, drop-cons ps k (0, 0) within, drop-cons is k 0 index) refl

is_inside-at : (ps : List (ℕ × ℕ)) (ds is : List ℕ) (k : ℕ) → k < length ps → k < length ds
    → k < length is → (get_or ps k (0, 0)).0 ≤ get_or is k 0
    → get_or is k 0 - (get_or ps k (0, 0)).0 < get_or ds k 0
    → is_inside (drop k ps) (drop k ds) (drop k is)
    ≡ is_inside (drop (k + 1) ps) (drop (k + 1) ds) (drop (k + 1) is)
is_inside-at ps ds is k within size index low high =
    rw (
      add-one,
      drop-cons ps k (0, 0) within,
      drop-cons ds k 0 size,
      drop-cons is k 0 index,
      le-leb _ _ low,
      lt-ltb (get_or is k 0) ((get_or ps k (0, 0)).0 + get_or ds k 0) (omega arith),
    ) refl

pub loop-axis-preserved : goal.loop-axis-preserved
loop-axis-preserved c =
    let inv = c.loop-axis.invariant in
    let k = c.loop-axis.axis in
    let ps = c.args.pairs.now in
    let ds = c.args.sizes.now in
    let is = c.args.index.now in
    let size : k < length ds = omega arith in
    let index : k < length is = omega arith in
    record {
      read = rw (c.push.ensures.items, append_assoc)
          (ap (λ l. c.loop-axis.read.items ++ l) (moved_back-at ps is k c.loop-axis-test.true index)
          ∙ inv.read);
      len = omega (arith, c.push.ensures.len, inv.len);
      inside = inv.inside
          ∙ is_inside-at ps ds is k c.loop-axis-test.true size index c.if-index-axis.false
          c.if-index-axis-2.false;
    }

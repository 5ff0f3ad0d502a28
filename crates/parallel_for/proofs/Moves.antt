-- Ranges that are taken, one list or one range after the other.
use Rattle.std.proofs.Common.{◌≡◌, ◌⊎◌, inl, inr, ℕ, zero, suc, ◌+◌, ◌-◌, ◌<◌}
use Rattle.std.proofs.Common.{List, [], ◌∷◌, ◌++◌, map, replicate, Contains}
use Rattle.std.proofs.Common.{Bool, true, false, nat_eq, if◌then◌else◌, Some}
use Rattle.std.proofs.Common.{refl, ap, sym, ◌∙◌, arith, rules}
use Rattle.std.proofs.lemmas.Bool.Decides.{nat_tests}
use Rattle.std.specs.List.{range_with_len, slice_get}
use Rattle.run_queue.specs.Bag.{total, SameBag}
use Rattle.worker_pool.proofs.Bags.{total-append}
use Rattle.parallel_for.specs.Leaves.{Range, blocks_of, leaf, leaves_of}
use Rattle.parallel_for.specs.Table.{missing, AreAmong, IsTaken}
use Rattle.parallel_for.proofs.Rows.{missing-blank, Contains-from}

-- what is missing now is what was missing before, without the ranges of `taken` that are not in
-- `left`
pub record AreMoved (before taken now left : List Range) : Type 0 where
  pub weigh : (weight : Range → ℕ)
      → total weight before + total weight left ≡ total weight now + total weight taken

both : Bool → Bool → ℕ
both s t = if s then (if t then 1 else 0) else 0

-- 1 at that range, and nothing at others
is_range : Range → Range → ℕ
unfolding both
is_range r s = both (nat_eq r.0 s.0) (nat_eq r.1 s.1)

both-cases : (s t : Bool) → ((s ≡ true) × (t ≡ true)) ⊎ (both s t ≡ 0)
unfolding both
both-cases true true = inl (refl, refl)
both-cases true false = inr refl
both-cases false t = inr refl

is_range-cases : (r s : Range) → (r ≡ s) ⊎ (is_range r s ≡ 0)
unfolding is_range
is_range-cases (a, e) (c, d) = elim (both-cases (nat_eq a c) (nat_eq e d)) [
  | inl equal ↦
      let first : a ≡ c = grind (arith, nat_tests, equal.0) in
      let last : e ≡ d = grind (arith, nat_tests, equal.1) in
      inl (λ i. (first i, last i))
  | inr other ↦ inr other
]

is_range-same : (r : Range) → is_range r r ≡ 1
unfolding is_range both
is_range-same (a, e) =
    let first : nat_eq a a ≡ true = search rules in
    let last : nat_eq e e ≡ true = search rules in
    rw (first, last) refl

-- a range that weighs something stands in the list
place-of : (r : Range) (rs : List Range) → 0 < total (is_range r) rs
    → (k : ℕ) × (slice_get rs k ≡ Some r)
place-of r [] some = absurd (omega arith)
place-of r (s ∷ rs) some = elim (is_range-cases r s) [
  | inl same ↦ (zero, ap (λ (x : Range). Some x) (sym same))
  | inr other ↦ let rest = place-of r rs (omega arith) in (suc rest.0, rest.1)
]

no-weight : (rs : List Range) → total (λ r. 1) rs ≡ 0 → rs ≡ []
no-weight [] none = refl
no-weight (r ∷ rs) none = absurd (omega arith)

module _ (before taken now left : List Range) where
  -- one range more is taken
  pub AreMoved-one : (r : Range) (left' now' : List Range) → left ≡ r ∷ left'
      → AreMoved before taken now left
      → IsTaken now (r ∷ []) now'
      → AreMoved before taken now' left'
  AreMoved-one r left' now' split moved one = record {
    weigh = λ h.
        let s = ap (total h) split in omega (arith, moved.weigh h, one.weigh h);
  }

  -- one list more is taken
  pub AreMoved-list : (list left' now' : List Range) → left ≡ list ++ left'
      → AreMoved before taken now left
      → IsTaken now list now'
      → AreMoved before taken now' left'
  AreMoved-list list left' now' split moved one = record {
    weigh = λ h.
        let s = ap (total h) split in
        let a = total-append h list left' in
        omega (arith, moved.weigh h, one.weigh h);
  }

  -- all are taken
  pub IsTaken-all : left ≡ [] → AreMoved before taken now left → IsTaken before taken now
  IsTaken-all none moved = record {
    weigh = λ h.
        let s = ap (total h) none in omega (arith, moved.weigh h);
  }

  -- the range at hand is missing still
  pub still-missing : (r : Range) (left' : List Range) → left ≡ r ∷ left'
      → AreMoved before taken now left
      → AreAmong taken before
      → Contains now r
  still-missing r left' split moved among =
      let h = is_range r in
      let one = is_range-same r in
      let s = ap (total h) split in
      let at = place-of r now (omega (arith, moved.weigh h, among.weigh h)) in
      Contains-from now r at.0 at.1

  -- the list at hand is missing still
  pub still-among : (list left' : List Range) → left ≡ list ++ left'
      → AreMoved before taken now left
      → SameBag before taken
      → AreAmong list now
  still-among list left' split moved same = record {
    weigh = λ h.
        let s = ap (total h) split in
        let a = total-append h list left' in
        omega (arith, moved.weigh h, same h);
  }

  -- nothing is missing once all that was missing is taken
  pub none-missing : left ≡ [] → AreMoved before taken now left → SameBag before taken → now ≡ []
  none-missing none moved same =
      let s = ap (total (λ r. 1)) none in
      let zero' : total (λ r. 1) now ≡ 0 = omega (arith, moved.weigh (λ r. 1), same (λ r. 1)) in
      no-weight now zero'

-- nothing is taken at first
pub AreMoved-start : (before taken left : List Range) → left ≡ taken
    → AreMoved before taken before left
AreMoved-start before taken left same = record {
  weigh = λ h.
      let s = ap (total h) same in omega arith;
}

-- from a blank table everything is missing
pub missing-leaves : {I : Type 0} (n b : ℕ) (rows : List (List I))
    → rows ≡ replicate (blocks_of n b) []
    → missing n b 0 rows ≡ leaves_of 0 n b
missing-leaves {I} n b rows blank =
    let whole : n ≡ n - 0 = omega arith in
    ap (missing n b 0) blank ∙ missing-blank I n b 0 (blocks_of n b)
    ∙ ap (λ (m : ℕ). map (leaf 0 m b) (range_with_len 0 (blocks_of m b))) whole

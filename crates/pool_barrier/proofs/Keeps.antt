-- Each kind of step keeps the rule.
use Rattle.std.proofs.Common.{◌≡◌, ℕ, ◌+◌, ◌-◌, ◌*◌, ◌%◌, ◌^◌, ◌<◌, ◌≤◌, [], set, bit_or}
use Rattle.std.proofs.Common.{Bool, true, false, nat_lt, if◌then◌else◌, slice_index, sym}
use Rattle.std.proofs.Common.{ap, refl, ◌∙◌}
use Rattle.std.proofs.Common.{subst, inl, inr, arith, length-set, get_or-set_same}
use Rattle.std.proofs.lemmas.Bool.Decides.{nat_tests}
use mathlib.Core.Option.{some, none}
use lib.ListN.{get_elem?}
use Rattle.atomic_table.specs.Table.{step, keeps, stepped, Allows, Splits}
use Rattle.pool_barrier.specs.declared.rule.TheConstants.{STATE}
use Rattle.pool_barrier.specs.declared.view.Phase.{Phase}
use Rattle.pool_barrier.specs.declared.view.Phase.TheVariants.{Fresh, Flagged, Done}
use Rattle.pool_barrier.specs.declared.view.View.{View}
use Rattle.pool_barrier.specs.declared.view.View.TheVariants.{Whole, Gives, Waits}
use Rattle.pool_barrier.specs.Views.{notices_in, given_in, waiter_in, flag_in, flag_of}
use Rattle.pool_barrier.specs.Views.{Sat, after_split, split_off, after_flag, gives_one, sets_flag}
use Rattle.pool_barrier.specs.BarrierWord.{BarrierState, total, barrier_word, IsCounted}
use Rattle.pool_barrier.specs.Laws.{NoNoticeIsLeft}
use Rattle.pool_barrier.proofs.Totals.{total-set, total-append, le_total, total_mono_but}
use Rattle.pool_barrier.proofs.Totals.{All-total, Contains-set, Contains-append}
use Rattle.pool_barrier.proofs.Words.{or-flag}

-- a step that changes one view, and writes the barrier word of the new views
moves_on : (count : ℕ) (s : BarrierState) (id : ℕ) (v w : View) (word : ℕ)
    → IsCounted count s
    → get_elem? s.views id ≡ some v
    → notices_in w + given_in w ≡ notices_in v + given_in v
    → notices_in w ≤ notices_in v
    → waiter_in w ≡ waiter_in v
    → (w ≡ Waits Done → total notices_in (set s.views id w) ≡ 0)
    → word ≡ barrier_word (set s.views id w)
    → IsCounted count (stepped s STATE word id [] w keeps)
moves_on count s id v w word rule at balance fewer same done is =
    let notices = total-set notices_in s.views id v w at in
    let given = total-set given_in s.views id v w at in
    let waiters = total-set waiter_in s.views id v w at in
    let room = rule.room in
    let account = rule.account in
    let one = rule.one_waiter in
    record {
      room = length-set s.words STATE word ∙ rule.room;
      word = get_or-set_same s.words STATE word 0 (omega arith) ∙ is;
      few = rule.few;
      account = omega arith;
      one_waiter = omega arith;
      done = λ there. elim (Contains-set s.views id w (Waits Done) there) [
        | inl new ↦ done new
        | inr old ↦ let none_left = rule.done old in omega arith
      ];
    }

-- a split that divides what the view has
divides : (count id : ℕ) (v left right : View)
    → notices_in left + notices_in right ≡ notices_in v
    → given_in left + given_in right ≡ given_in v
    → waiter_in left + waiter_in right ≡ waiter_in v
    → flag_in left + flag_in right ≡ flag_in v
    → (left ≡ Waits Done → ⊥)
    → (right ≡ Waits Done → ⊥)
    → Splits (IsCounted count) id v left right
divides count id v left right notices given waiter flag left_waits right_waits s rule at =
    let views = set s.views id left in
    let notices_set = total-set notices_in s.views id v left at in
    let notices_more = total-append notices_in views right in
    let given_set = total-set given_in s.views id v left at in
    let given_more = total-append given_in views right in
    let waiter_set = total-set waiter_in s.views id v left at in
    let waiter_more = total-append waiter_in views right in
    let flag_set = total-set flag_in s.views id v left at in
    let flag_more = total-append flag_in views right in
    let word = rule.word in
    let account = rule.account in
    let one = rule.one_waiter in
    record {
      room = rule.room;
      word = omega arith;
      few = rule.few;
      account = omega arith;
      one_waiter = omega arith;
      done = λ there. elim (Contains-append views right (Waits Done) there) [
        | inl new ↦ absurd (right_waits new)
        | inr old ↦ elim (Contains-set s.views id left (Waits Done) old) [
          | inl new ↦ absurd (left_waits new)
          | inr older ↦ let none_left = rule.done older in omega arith
        ]
      ];
    }

-- the first seat hands all its notices to the first share
pub cut_keeps : (count id n : ℕ) (v : View)
    → v ≡ Whole n
    → Splits (IsCounted count) id v (Waits Fresh) (Gives (notices_in v) 0 0)
cut_keeps count id n v is =
    let cut = divides count id (Whole n) (Waits Fresh) (Gives n 0 0) (omega arith) refl refl refl
    (λ e. cc) (λ e. cc) in
    subst (λ (u : View). Splits (IsCounted count) id u (Waits Fresh) (Gives (notices_in u) 0 0))
    (sym is) cut

-- a share hands some of its notices to a new one
pub split_keeps : (count id k amount n g f : ℕ) (v : View)
    → amount ≡ k
    → v ≡ Gives n g f
    → k ≤ notices_in v
    → Splits (IsCounted count) id v (after_split amount v) (split_off amount v)
split_keeps count id k amount n g f v same is room =
    let fits : k ≤ n = subst (λ (u : View). k ≤ notices_in u) is room in
    let split = divides count id (Gives n g f) (Gives (n - k) g f) (Gives k 0 0)
    (omega arith) (omega arith) refl refl (λ e. cc) (λ e. cc) in
    subst (λ (a : ℕ). Splits (IsCounted count) id v (after_split a v) (split_off a v)) (sym same)
    (subst (λ (u : View). Splits (IsCounted count) id u (after_split k u) (split_off k u))
    (sym is) split)

-- what giving a notice asks
abbrev MayGive : ℕ → ℕ → ℕ → Sat → Type 0
MayGive count slots id me =
    Allows (IsCounted count) slots id me STATE (λ word. (word + (2 ^ 64 - 2)) % 2 ^ 64)
    (gives_one (step slots STATE 2 0 none) me)

gives : (count slots id n g f : ℕ) → 0 < n → MayGive count slots id (Gives n g f, [])
gives count slots id n g f some_left s rule _ at small =
    let v = Gives n g f in
    let found = slice_index s.words STATE in
    let w = Gives (n - 1) (g + 1) found in
    let word = rule.word in
    let notices = total-set notices_in s.views id v w at in
    let flags = total-set flag_in s.views id v w at in
    let mine = le_total notices_in s.views id v at in (
      w,
      keeps,
      tt,
      moves_on count s id v w ((found + (2 ^ 64 - 2)) % 2 ^ 64) rule at
          (omega arith) (omega arith) refl (λ e. absurd (cc)) (omega arith),
      (refl, refl),
    )

-- a share with a notice left gives one
pub notify_keeps : (count slots id n g f : ℕ) (me : Sat)
    → me.0 ≡ Gives n g f
    → me.1 ≡ []
    → 0 < notices_in me.0
    → MayGive count slots id me
notify_keeps count slots id n g f me view slotless some_left =
    let left : 0 < n = subst (λ (u : View). 0 < notices_in u) view some_left in
    subst (λ (m : Sat). MayGive count slots id m) (λ i. (sym view i, sym slotless i))
    (gives count slots id n g f left)

flag-le-waiter : (v : View) → flag_in v ≤ waiter_in v
flag-le-waiter (Whole n) = omega arith
flag-le-waiter (Gives n g f) = omega arith
flag-le-waiter (Waits Fresh) = omega arith
flag-le-waiter (Waits Flagged) = omega arith
flag-le-waiter (Waits Done) = omega arith

-- the waiter's flag is the only one, since there is one waiter
total-flag : (count : ℕ) (s : BarrierState) (id : ℕ) (phase : Phase)
    → IsCounted count s
    → get_elem? s.views id ≡ some (Waits phase)
    → total flag_in s.views ≡ flag_of phase
total-flag count s id phase rule at =
    let one = rule.one_waiter in
    let upper = total_mono_but flag_in waiter_in flag-le-waiter s.views id (Waits phase) at in
    let lower = le_total flag_in s.views id (Waits phase) at in
    omega arith

-- a waiter that looked has set its flag
flag_of-found : (b : Bool) → flag_of (if b then Done else Flagged) ≡ 1
flag_of-found true = refl
flag_of-found false = refl

-- a waiter that is done found no notice
done_below : (b : Bool) (found : ℕ) → nat_lt found 2 ≡ b
    → Waits (if b then Done else Flagged) ≡ Waits Done
    → found < 2
done_below true found is done = grind (arith, nat_tests)
done_below false found is done = absurd (cc)

-- what setting the flag asks
abbrev MaySet : ℕ → ℕ → ℕ → Sat → Type 0
MaySet count slots id me =
    Allows (IsCounted count) slots id me STATE (λ word. bit_or word 1)
    (sets_flag (step slots STATE 1 0 none) me)

sets : (count slots id : ℕ) (phase : Phase) → MaySet count slots id (Waits phase, [])
sets count slots id phase s rule _ at small =
    let v = Waits phase in
    let found = slice_index s.words STATE in
    let w = after_flag found in
    let left = total notices_in s.views in
    let was = total-flag count s id phase rule at in
    let low : flag_of phase ≤ 1 = flag-le-waiter v in
    let word : found ≡ 2 * left + flag_of phase = rule.word ∙ ap (λ (n : ℕ). 2 * left + n) was in
    let new_word : bit_or found 1 ≡ 2 * left + 1 =
    ap (λ (n : ℕ). bit_or n 1) word ∙ or-flag left (flag_of phase) low in
    let notices = total-set notices_in s.views id v w at in
    let flags = total-set flag_in s.views id v w at in
    let now : flag_in w ≡ 1 = flag_of-found (nat_lt found 2) in
    let account = rule.account in
    let few = rule.few in (
      w,
      keeps,
      tt,
      moves_on count s id v w (bit_or found 1) rule at refl (omega arith) refl
          (λ e. let below = done_below (nat_lt found 2) found refl e in omega arith) (omega arith),
      (refl, refl, omega arith),
    )

-- the waiter sets its flag
pub flag_keeps : (count slots id : ℕ) (phase : Phase) (me : Sat)
    → me.0 ≡ Waits phase
    → me.1 ≡ []
    → MaySet count slots id me
flag_keeps count slots id phase me view slotless =
    subst (λ (m : Sat). MaySet count slots id m) (λ i. (sym view i, sym slotless i))
    (sets count slots id phase)

-- no notice is left where a waiter is done
pub All-notices : NoNoticeIsLeft IsCounted
All-notices count s rule there = All-total notices_in s.views (rule.done there)

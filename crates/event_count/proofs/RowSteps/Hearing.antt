-- A load of the state word at a count with rows: where the seat is to notify, and nobody is to be
-- notified, all are.
use Rattle.std.proofs.Common.{◌≡◌, ◌↔◌, ℕ, ◌==◌, ◌&&◌, if◌then◌else◌, Bool, true, false, List, []}
use Rattle.std.proofs.Common.{None, ◌∷◌, sym, ap, refl, ◌∙◌, ⊎_elim, arith, eq-eqb, ne_eqb}
use Rattle.std.proofs.lemmas.Bool.{cases_eq, cond-true, cond-false, eqb-true, and_from, and_parts}
use Rattle.std.proofs.lemmas.Bool.{true≢false}
use Rattle.event_word.specs.declared.phase.Phase.{Phase}
use Rattle.event_word.specs.declared.phase.Phase.TheVariants.{Running, Pre, Stacked, Ended}
use Rattle.event_word.specs.declared.event.Event.TheVariants.{NotifyAll}
use Rattle.event_word.specs.declared.word.Fields.{Fields}
use Rattle.event_word.specs.Fields.{fields_of}
use Rattle.event_word.specs.Word.{nobody, IsSettled}
use Rattle.event_word.specs.World.{World}
use Rattle.event_word.specs.Step.{effect}
use Rattle.event_count.specs.declared.view.Card.{Card}
use Rattle.event_count.specs.Gains.{is_settled, is_running, is_none, may_notify, loading_by}
use Rattle.event_count.specs.Gains.{loading, looking, IsHeard}
use Rattle.event_count.proofs.Words.{SameRows}

pub settled_is : (f : Fields) → is_settled f ≡ true → IsSettled f
settled_is f is = let both = and_parts (f.top == nobody) (f.signals == f.pre) is in
    record { empty = eqb-true f.top nobody both.0; answered = eqb-true f.signals f.pre both.1 }

pub is_settled-true : (f : Fields) → IsSettled f → is_settled f ≡ true
is_settled-true f is = and_from (f.top == nobody) (f.signals == f.pre)
    (eq-eqb f.top nobody is.empty) (eq-eqb f.signals f.pre is.answered)

pub running_is : (p : Phase) → is_running p ≡ true → p ≡ Running
running_is Running is = refl
running_is Pre is = absurd (true≢false (sym is))
running_is Stacked is = absurd (true≢false (sym is))
running_is Ended is = absurd (true≢false (sym is))

pub none_is : (xs : List ℕ) → is_none xs ≡ true → xs ≡ []
none_is [] is = refl
none_is (x ∷ xs) is = absurd (true≢false (sym is))

-- what a seat is that is to notify, and may
pub may_is : (c : Card) → may_notify c ≡ true
    → (c.announcing ≡ true) × (c.phase ≡ Running) × (c.owing ≡ [])
may_is c is = let both = and_parts c.announcing (is_running c.phase && is_none c.owing) is in
    let free = and_parts (is_running c.phase) (is_none c.owing) both.1 in
    (both.0, running_is c.phase free.0, none_is c.owing free.1)

pub may_notify-true : (c : Card) → c.announcing ≡ true → c.phase ≡ Running → c.owing ≡ []
    → may_notify c ≡ true
may_notify-true c announces running none =
    and_from c.announcing (is_running c.phase && is_none c.owing) announces
    (and_from (is_running c.phase) (is_none c.owing) (ap is_running running) (ap is_none none))

-- whether a load of this word ends an announcement
abbrev pub hears : Card → ℕ → Bool
hears c word = may_notify c && is_settled (fields_of word)

by_announcing : (c : Card) (word : ℕ) (b : Bool) → c.announcing ≡ b → hears c word ≡ false
    → IsSettled (fields_of word) → c.phase ≡ Running → c.owing ≡ [] → c.announcing ≡ false
by_announcing c word false is deaf settled running none = is
by_announcing c word true is deaf settled running none =
    absurd (true≢false (sym (and_from (may_notify c) (is_settled (fields_of word))
    (may_notify-true c is running none) (is_settled-true (fields_of word) settled)) ∙ deaf))

-- a load that is not heard shows nothing to a free seat that announces
pub heard_not : (c : Card) (word : ℕ) → hears c word ≡ false → IsHeard (looking c word) word
heard_not c word deaf settled running none =
    by_announcing c word c.announcing refl deaf settled running none

-- a seat that may not notify hears nothing
hears-none : (c : Card) (word : ℕ) (b : Bool) → hears c word ≡ b
    → (c.phase ≡ Running → IsSettled (fields_of word) → ⊥) → loading_by b c word ≡ looking c word
hears-none c word false is never = refl
hears-none c word true is never =
    let both = and_parts (may_notify c) (is_settled (fields_of word)) is in
    absurd (never (may_is c both.0).1 (settled_is (fields_of word) both.1))

-- so where the seat doesn't run, or there is somebody to notify, a load is a look at either kind
pub loading-looking : (rowed : Bool) (c : Card) (word : ℕ)
    → (c.phase ≡ Running → IsSettled (fields_of word) → ⊥) → loading rowed c word ≡ looking c word
loading-looking true c word never = hears-none c word (hears c word) refl never
loading-looking false c word never = refl

zero_all : (m : ℕ) → ((if m == 1 then 2 else m) ≡ 0) ↔ (m ≡ 0)
zero_all m = ⊎_elim
    (λ is. let e = cond-true (m == 1) 2 m (eq-eqb m 1 is) in
    (λ z. absurd (omega arith), λ z. absurd (omega arith)))
    (λ ne. let e = cond-false (m == 1) 2 m (ne_eqb m 1 ne) in (λ z. sym e ∙ z, λ z. e ∙ z))
    (cases_eq m 1)

-- a notification of all leaves the rows, and the stop word 0 where it was
pub same_all : (w : World) (actor : ℕ) → SameRows w (effect w (NotifyAll actor))
same_all w actor = record { lengths = refl; stop = zero_all w.stop }

-- a load of the state word leaves all of the seat but what it announces, and its events
pub record KeepsSeat (c d : Card) (word : ℕ) : Type 0 where
  pub waiters : d.waiters ≡ c.waiters
  pub rows : d.rows ≡ c.rows
  pub number : d.number ≡ c.number
  pub phase : d.phase ≡ c.phase
  pub owing : d.owing ≡ c.owing
  pub linked : d.linked ≡ c.linked
  pub epoch : d.epoch ≡ c.epoch
  pub looked : d.looked ≡ word
  pub next : d.next ≡ None
  pub credits : d.credits ≡ c.credits
  pub book : d.book ≡ c.book
  pub flag : d.passed_flag ≡ c.passed_flag
  pub passed : d.passed ≡ c.passed

keeps_by : (b : Bool) (c : Card) (word : ℕ) → KeepsSeat c (loading_by b c word) word
keeps_by true c word = record {
  waiters = refl;
  rows = refl;
  number = refl;
  phase = refl;
  owing = refl;
  linked = refl;
  epoch = refl;
  looked = refl;
  next = refl;
  credits = refl;
  book = refl;
  flag = refl;
  passed = refl;
}
keeps_by false c word = record {
  waiters = refl;
  rows = refl;
  number = refl;
  phase = refl;
  owing = refl;
  linked = refl;
  epoch = refl;
  looked = refl;
  next = refl;
  credits = refl;
  book = refl;
  flag = refl;
  passed = refl;
}

pub loading_keeps : (rowed : Bool) (c : Card) (word : ℕ) → KeepsSeat c (loading rowed c word) word
loading_keeps true c word = keeps_by (hears c word) c word
loading_keeps false c word = keeps_by false c word

-- A try whose exchange found another word leaves a later seat.
use Rattle.std.proofs.Common.{◌≡◌, ◌↔◌, ◌⊎◌, ℕ, ◌==◌, Bool, true, false, List, [], ◌∷◌, ◌++◌, Option}
use Rattle.std.proofs.Common.{Some, None, IfSome, refl, length}
use Rattle.std.specs.Option.{ForSome}
use Rattle.std.proofs.Common.{subst, sym, ap, ◌∙◌, inl, inr, arith, MatchBool, slice_index_or}
use Rattle.event_word.specs.declared.phase.Phase.TheVariants.{Running, Pre}
use Rattle.event_word.specs.Fields.{fields_of}
use Rattle.event_word.specs.Word.{nobody, IsSettled}
use Rattle.event_count.specs.declared.rule.RowSizes.{RowSizes}
use Rattle.event_count.specs.declared.view.Card.{Card}
use Rattle.event_count.specs.Gains.{looking, loading, reading, storing, unparking, IsLoad}
use Rattle.event_count.specs.Gains.{IsLook}
use Rattle.event_count.specs.Kinds.{MayCommit}
use Rattle.event_count.specs.Tries.{OffersConsume, OffersPush, OffersSpent, OffersSignal}
use Rattle.event_count.specs.Tries.{OffersPop, Misses, IsTryCommit, IsTryCancel, IsTryNotify}
use Rattle.event_count.specs.Tries.{IsTryNotifyAll}
use Rattle.event_count.specs.Waits.{IsLater, RestsOnCancel, RestsOnNotify}
use Rattle.event_count.specs.declared.answers.TryNotify.TheVariants as notify
use Rattle.event_count.specs.declared.answers.TryNotifyAll.TheVariants as notify_all
use Rattle.event_count.specs.declared.answers.TryCommit.TheVariants as commit
use Rattle.event_count.specs.declared.answers.TryCancel.TheVariants as cancel
use Rattle.event_count.proofs.RowSteps.Hearing.{loading-looking, loading_keeps}

module _ (a b : Card) (later : IsLater a b) where
  later_looking : (word : ℕ) → IsLater a (looking b word)
  later_looking word = record {
    waiters = later.waiters;
    rows = later.rows;
    number = later.number;
    phase = later.phase;
    owing = later.owing;
    events = later.events;
    epoch = later.epoch;
    polls = later.polls;
    flag = later.flag;
    passed = later.passed;
    announcing = later.announcing;
    credits = later.credits;
    book = later.book;
    found = later.found;
    loads = omega arith;
    exchanges = later.exchanges;
  }

  later_load : (word : ℕ) (x : Card) → x ≡ looking b word → IsLater a x
  later_load word x is = subst (IsLater a) (sym is) (later_looking word)

  later_missed : (word offered : ℕ) (d : Card) → Misses b word offered d → IsLater a d
  later_missed word offered d (found, other, is) = subst (IsLater a) (sym is) (record {
    waiters = later.waiters;
    rows = later.rows;
    number = later.number;
    phase = later.phase;
    owing = later.owing;
    events = later.events;
    epoch = later.epoch;
    polls = later.polls;
    flag = later.flag;
    passed = later.passed;
    announcing = later.announcing;
    credits = later.credits;
    book = later.book;
    found = later.found;
    loads = later.loads;
    exchanges = omega arith;
  })

module _ (a b : Card) (later : IsLater a b) (word : ℕ) (x : Card) where
  later_read : (next : ℕ) → IsLater a (reading (looking b word) next)
  later_read next = let l = later_load a b later word (looking b word) (λ _. looking b word) in
      record {
        waiters = l.waiters;
        rows = l.rows;
        number = l.number;
        phase = l.phase;
        owing = l.owing;
        events = l.events;
        epoch = l.epoch;
        polls = l.polls;
        flag = l.flag;
        passed = l.passed;
        announcing = l.announcing;
        credits = l.credits;
        book = l.book;
        found = l.found;
        loads = l.loads;
        exchanges = l.exchanges;
      }

  looked : (empty : Bool) → MatchBool empty (x ≡ looking b word)
      ((next : ℕ) × (x ≡ reading (looking b word) next)) → IsLater a x
  looked true is = later_load a b later word x is
  looked false (next, is) = subst (IsLater a) (sym is) (later_read next)

  module _ (rowed : Bool) where
    -- a load that ends no announcement
    pub later_load_in : (b.phase ≡ Running → IsSettled (fields_of word) → ⊥)
        → IsLoad rowed b word x → IsLater a x
    later_load_in never load =
        later_load a b later word x (load ∙ loading-looking rowed b word never)

    pub later_look : (b.phase ≡ Running → IsSettled (fields_of word) → ⊥)
        → IsLook rowed b word x → IsLater a x
    later_look never look = looked _
        (subst (λ d. MatchBool ((fields_of word).top == nobody) (x ≡ d)
        ((next : ℕ) × (x ≡ reading d next))) (loading-looking rowed b word never) look)

-- a seat is later than itself, and than one that is later than a later one
pub later_same : (c : Card) → IsLater c c
later_same c = record {
  waiters = refl;
  rows = refl;
  number = refl;
  phase = refl;
  owing = refl;
  events = refl;
  epoch = refl;
  polls = refl;
  flag = refl;
  passed = refl;
  announcing = refl;
  credits = refl;
  book = refl;
  found = refl;
  loads = omega arith;
  exchanges = omega arith;
}

pub later_then : (a b c : Card) → IsLater a b → IsLater b c → IsLater a c
later_then a b c first next = record {
  waiters = next.waiters ∙ first.waiters;
  rows = next.rows ∙ first.rows;
  number = next.number ∙ first.number;
  phase = next.phase ∙ first.phase;
  owing = next.owing ∙ first.owing;
  events = next.events ∙ first.events;
  epoch = next.epoch ∙ first.epoch;
  polls = next.polls ∙ first.polls;
  flag = next.flag ∙ first.flag;
  passed = next.passed ∙ first.passed;
  announcing = next.announcing ∙ first.announcing;
  credits = next.credits ∙ first.credits;
  book = next.book ∙ first.book;
  found = next.found ∙ first.found;
  loads = omega (arith, first.loads, next.loads);
  exchanges = omega (arith, first.exchanges, next.exchanges);
}

-- a cancel, or a notification, of a later seat is one of the seat
pub rests_cancel : (rowed : Bool) (a b d : Card) → IsLater a b → RestsOnCancel rowed b d
    → RestsOnCancel rowed a d
rests_cancel rowed a b d later (before, after, more, rest) =
    (before, after, later_then a b before later more, rest)

pub rests_notify : (rowed : Bool) (a b d : Card) → IsLater a b → RestsOnNotify rowed b d
    → RestsOnNotify rowed a d
rests_notify rowed a b d later (before, after, more, rest) =
    (before, after, later_then a b before later more, rest)

-- a later seat after a store in its own next word
later_stored : (a b : Card) → IsLater a b → (next : ℕ) → IsLater a (storing b next)
later_stored a b later next = record {
  waiters = later.waiters;
  rows = later.rows;
  number = later.number;
  phase = later.phase;
  owing = later.owing;
  events = later.events;
  epoch = later.epoch;
  polls = later.polls;
  flag = later.flag;
  passed = later.passed;
  announcing = later.announcing;
  credits = later.credits;
  book = later.book;
  found = later.found;
  loads = later.loads;
  exchanges = later.exchanges;
}

-- what a commit asks for is so of a later seat too
pub may_later : (rowed : Bool) (k : RowSizes) (a b : Card) → IsLater a b → MayCommit rowed k a
    → MayCommit rowed k b
may_later true k a b later may = record {
  flag = later.flag ∙ may.flag;
  each = λ row less. ap (λ (xs : List Bool). slice_index_or xs row false) later.passed
      ∙ may.each row less;
}
may_later false k a b later may = tt

pub may_stored : (rowed : Bool) (k : RowSizes) (c : Card) (next : ℕ) → MayCommit rowed k c
    → MayCommit rowed k (storing c next)
may_stored true k c next may = record { flag = may.flag; each = may.each }
may_stored false k c next may = tt

-- a pre-waiter doesn't run
never_pre : (c : Card) → c.phase ≡ Pre → (word : ℕ) → c.phase ≡ Running
    → IsSettled (fields_of word) → ⊥
never_pre c pre word running settled = absurd (let both = sym running ∙ pre in cc)

module _ (rowed : Bool) (a b x d : Card) (word : ℕ) (later : IsLater a b)
    (load : IsLoad rowed b word x) where
  module _ (pre : a.phase ≡ Pre) where
    pub later_pre : IsLater a x
    later_pre = later_load_in a b later word x rowed (never_pre b (later.phase ∙ pre) word) load

    pub lost_cancel : IsTryCancel x word cancel.Contended d → IsLater a d
    lost_cancel (offered, offers, misses) = later_missed a x later_pre word offered d misses

    pub lost_commit : IsTryCommit rowed x word commit.Contended d → IsLater a d
    lost_commit (offered, next, lost) = by_lost lost
      where
        by_lost : (OffersConsume x word offered × Misses x word offered d)
            ⊎ ((OffersPush x word offered next × Misses (storing x next) word offered d)
            ⊎ (OffersSpent x word offered × Misses x word offered d)) → IsLater a d
        by_lost (inl took) = later_missed a x later_pre word offered d took.1
        by_lost (inr (inl pushed)) =
            later_missed a (storing x next) (later_stored a x later_pre next) word offered d pushed.1
        by_lost (inr (inr spent)) = later_missed a x later_pre word offered d spent.1

  pub lost_all : IsTryNotifyAll x word notify_all.Contended d → IsLater a d
  lost_all (offered, offers, misses) = later_missed a x
      (later_load_in a b later word x rowed (λ _ settled. offers.0 settled) load) word offered d
      misses

-- a word that offers a notification has somebody to notify
unsettled : (c : Card) (word offered seat : ℕ)
    → OffersSignal word offered ⊎ OffersPop c word seat offered → IsSettled (fields_of word) → ⊥
unsettled c word offered seat (inl signal) settled =
    let less = signal.0 in let even = settled.answered in omega arith
unsettled c word offered seat (inr pop) settled = pop.0.1 settled.empty

-- a notification that looked and lost its exchange
pub lost_notify : (rowed : Bool) (a b x d : Card) (o : Option ℕ) (word : ℕ) → IsLater a b
    → IsLook rowed b word x → o ≡ Some word
    → IfSome o (λ m. IsTryNotify x m notify.Contended d) → IsLater a d
lost_notify rowed a b x d (Some m) word later look is (offered, seat, offers, misses) =
    let same : m ≡ word = cc in
    later_missed a x (later_look a b later word x rowed
    (λ _ settled. unsettled x m offered seat offers
    (subst (λ n. IsSettled (fields_of n)) (sym same) settled)) look) m offered d misses
lost_notify rowed a b x d None word later look is lost = absurd (cc)

-- a look leaves what the seat owes
look_owing : (rowed : Bool) (c x : Card) (word : ℕ) → IsLook rowed c word x → x.owing ≡ c.owing
look_owing rowed c x word look = by_top ((fields_of word).top == nobody) look
  where
    by_top : (empty : Bool) → MatchBool empty (x ≡ loading rowed c word)
        ((next : ℕ) × (x ≡ reading (loading rowed c word) next)) → x.owing ≡ c.owing
    by_top true is = ap (λ (d : Card). d.owing) is ∙ (loading_keeps rowed c word).owing
    by_top false (next, is) = ap (λ (d : Card). d.owing) is ∙ (loading_keeps rowed c word).owing

-- the unpark of the one seat that is owed
unparked_one : (o : Option ℕ) (t d : Card) (seat : ℕ) → ((o ≡ None) ↔ (t.owing ≡ []))
    → ForSome o (λ _. d ≡ unparking t) → t.owing ≡ seat ∷ [] → d ≡ unparking t
unparked_one None t d seat none_there unparks owing =
    let some_there = ap length (sym owing ∙ none_there.0 refl) in absurd (omega arith)
unparked_one (Some n) t d seat none_there unparks owing = unparks n refl

-- a notification that popped a seat, and unparked it
pub rests_popped : (rowed : Bool) (a b x t d : Card) (looked_word answer : Option ℕ) (word seat : ℕ)
    → IsLater a b → IsLook rowed b word x → looked_word ≡ Some word
    → IfSome looked_word (λ m. IsTryNotify x m (notify.Popped seat) t) → a.owing ≡ []
    → ((answer ≡ None) ↔ (t.owing ≡ [])) → ForSome answer (λ _. d ≡ unparking t)
    → RestsOnNotify rowed a d
rests_popped rowed a b x t d None answer word seat later look is try owes_none none_there unparks =
    absurd (cc)
rests_popped rowed a b x t d (Some m) answer word seat later look is (offered, offers, hits)
    owes_none none_there unparks =
    let same : m ≡ word = cc in
    let owed : x.owing ≡ [] = look_owing rowed b x word look ∙ (later.owing ∙ owes_none) in
    let owing : t.owing ≡ seat ∷ [] = ap (λ (e : Card). e.owing) hits
    ∙ (ap (λ xs. xs ++ (fields_of m).top ∷ []) owed ∙ ap (λ n. n ∷ []) (sym offers.0.2)) in (
      b,
      x,
      later,
      (
        m,
        subst (λ n. IsLook rowed b n x) (sym same) look,
        (
          notify.Popped seat,
          t,
          (offered, offers, hits),
          (owing, unparked_one answer t d seat none_there unparks owing),
        ),
      ),
    )

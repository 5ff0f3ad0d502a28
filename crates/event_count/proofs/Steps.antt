-- A step by one seat, with its events or with none, keeps the rule.
use Rattle.std.proofs.Common.{◌≡◌, ◌≢◌, ℕ, ◌+◌, ◌≤◌, ◌<◌, List, [], ◌∷◌, ◌++◌, sym, ap, refl, ◌∙◌}
use Rattle.std.proofs.Common.{arith, append-nil, slice_set, subst, get_or-set_other}
use mathlib.Core.Option.{some}
use lib.ListN.{get_elem?}
use Rattle.atomic_table.specs.Table.{stepped, keeps}
use Rattle.event_word.specs.declared.phase.Phase.TheVariants.{Running}
use Rattle.event_word.specs.declared.event.Event.{Event}
use Rattle.event_word.specs.Step.{effect}
use Rattle.event_word.specs.World.{World, phase_of, owed_by, has_passed_flag, rows_passed_by}
use Rattle.event_word.specs.World.{is_announcing}
use Rattle.event_word.specs.Runs.{Runs}
use Rattle.event_word.specs.Balance.{push_of, over}
use Rattle.event_word.proofs.Histories.{Runs-append}
use Rattle.event_word.proofs.Balancing.{over-append, no_push}
use Rattle.event_count.specs.declared.rule.TheConstants.{BANK}
use Rattle.event_count.specs.declared.rule.RowSizes.{RowSizes}
use Rattle.event_count.specs.declared.view.Card.{Card}
use Rattle.event_count.specs.declared.view.View.{View}
use Rattle.event_count.specs.Cards.{only}
use Rattle.event_count.specs.Shown.{CountState, HasNoRows, Shows}
use Rattle.event_count.specs.Steps.{Adds}
use Rattle.event_count.specs.Known.{world_at_first, events_of, Agrees, next_epoch}
use Rattle.event_count.specs.Kept.{Knows, Links}
use Rattle.event_count.specs.Written.{Written}
use Rattle.event_count.specs.Tickets.{credits_for, banked, AreCounted}
use Rattle.event_count.proofs.RowSteps.Counting.{counted_still}
use Rattle.event_count.proofs.Acting.{AreBy, left_alone, events_of-mine, events_of-theirs}
use Rattle.event_count.proofs.Cards.{of_only, each_set, dealt_set}

-- what events of a seat do to history and World, and what the seat's card c becomes by them
pub record Fitting (k : RowSizes) (w u : World) (events : List Event) (c d : Card) : Type 0 where
  pub runs : Runs w events u
  pub by : AreBy c.number events
  pub waiters : d.waiters ≡ c.waiters
  pub number : d.number ≡ c.number
  pub gains : d.events ≡ c.events ++ events
  pub waits : c.number < k.waiters → d.phase ≡ phase_of u c.number
  pub notifies : k.waiters ≤ c.number → d.phase ≡ Running
  pub owing : d.owing ≡ owed_by u c.number
  pub epoch : d.epoch ≡ c.epoch + over (push_of c.number) w events
  pub rows : d.rows ≡ c.rows
  pub flag : d.passed_flag ≡ has_passed_flag u c.number
  pub passed : d.passed ≡ rows_passed_by u c.number
  pub announcing : d.announcing ≡ is_announcing u c.number
  pub plain : k.rows ≡ 0 → HasNoRows u

-- what the step does to the words, and to what cards know of them
pub record Wording (k : RowSizes) (words words' : List ℕ) (w u : World) (es es' : ℕ → ℕ) (c d : Card)
    : Type 0 where
  pub written : Written k words' u es'
  pub mine : Knows words w es c → Knows words' u es' d
  pub others : (x : Card) → x.number ≢ c.number → Knows words w es x → Knows words' u es' x
  pub links : Links words c → Links words' d
  pub others_links : (x : Card) → x.number ≢ c.number → x.owing ≡ owed_by w x.number
      → Links words x → Links words' x

-- events of one seat push no other
pub pushes_none : (actor n : ℕ) → n ≢ actor → (w : World) (events : List Event)
    → AreBy actor events → over (push_of n) w events ≡ 0
pushes_none actor n ne w [] by = refl
pushes_none actor n ne w (e ∷ events) by =
    let here = no_push n w e (λ is. ne (is ∙ by.0)) in
    let rest = pushes_none actor n ne (effect w e) events by.1 in omega arith

-- a step on another word leaves the bank
pub still_banked : (words : List ℕ) (place n : ℕ) → BANK ≢ place
    → banked words ≡ banked (slice_set words place n)
still_banked words place n other = sym (get_or-set_other words place BANK n 0 other)

module _ (k : RowSizes) (s : CountState) (history : List Event) (w : World)
    (r : Shows k s history w) (id : ℕ) (v : View) (c : Card)
    (at : get_elem? s.views id ≡ some v) (is : v.cards ≡ c ∷ []) where
  -- what the card says agrees
  pub truth : Agrees k history w c
  truth = of_only (Agrees k history w) v c is (r.known id v at)

  -- and what it knows of words
  pub knowledge : Knows s.words w (next_epoch k history) c
  knowledge = of_only (Knows s.words w (next_epoch k history)) v c is (r.kept id v at)

  -- and how the seats that it owes are linked
  pub linkage : Links s.words c
  linkage = of_only (Links s.words) v c is (r.linked id v at)

  -- how many pushes there are after the events
  pub epochs_after : (events : List Event) (n : ℕ)
      → next_epoch k (history ++ events) n ≡ next_epoch k history n + over (push_of n) w events
  epochs_after events n =
      let more = over-append (push_of n) (world_at_first k) history w events r.runs in omega arith

  -- the card after the events agrees too
  true_after : (events : List Event) (u : World) (d : Card) → Fitting k w u events c d
      → Agrees k (history ++ events) u d
  true_after events u d f = let number = f.number in record {
    waiters = f.waiters ∙ truth.waiters;
    waits = λ less. f.waits (omega arith) ∙ ap (λ n. phase_of u n) (sym f.number);
    notifies = λ le. f.notifies (omega arith);
    owing = f.owing ∙ ap (λ n. owed_by u n) (sym f.number);
    events = f.gains ∙ (ap (λ es. es ++ events) truth.events
        ∙ (sym (events_of-mine c.number history events f.by)
        ∙ ap (λ n. events_of n (history ++ events)) (sym f.number)));
    epoch = f.epoch ∙ (ap (λ e. e + over (push_of c.number) w events) truth.epoch
        ∙ (sym (epochs_after events c.number)
        ∙ ap (λ n. next_epoch k (history ++ events) n) (sym f.number)));
    rows = f.rows ∙ truth.rows;
    flag = f.flag ∙ ap (λ n. has_passed_flag u n) (sym f.number);
    passed = f.passed ∙ ap (λ n. rows_passed_by u n) (sym f.number);
    announcing = f.announcing ∙ ap (λ n. is_announcing u n) (sym f.number);
  }

  -- and so is each other seat's
  others_after : (events : List Event) (u : World) → AreBy c.number events → Runs w events u
      → (x : Card) → x.number ≢ c.number → Agrees k history w x
      → Agrees k (history ++ events) u x
  others_after events u by runs x ne was =
      let alone = left_alone c.number x.number ne w events u by runs in record {
        waiters = was.waiters;
        rows = was.rows;
        waits = λ less. was.waits less ∙ sym alone.phase;
        notifies = was.notifies;
        owing = was.owing ∙ sym alone.owed;
        flag = was.flag ∙ sym alone.flag;
        passed = was.passed ∙ sym alone.rows;
        announcing = was.announcing ∙ sym alone.announcing;
        events = was.events ∙ sym (events_of-theirs c.number x.number history events ne by);
        epoch = let e = was.epoch in let more = epochs_after events x.number in
            let none = pushes_none c.number x.number ne w events by in omega arith;
      }

  -- a step that is these events, and makes this of the word at a place
  pub acts_to : (events : List Event) (u : World) (d : Card) (place n : ℕ)
      (held : List (ℕ × Unit {0})) (new : View) → new.cards ≡ d ∷ []
      → AreCounted (credits_for k) (banked (slice_set s.words place n)) u (slice_set s.views id new)
      → Fitting k w u events c d
      → Wording k s.words (slice_set s.words place n) w u (next_epoch k history)
      (next_epoch k (history ++ events)) c d
      → Adds k history w c d (stepped s place n id held new keeps) events u
  acts_to events u d place n held new cards counted f writes = record {
    gains = f.gains;
    runs = f.runs;
    shows = record {
      runs = Runs-append (world_at_first k) history w events u r.runs f.runs;
      few = r.few;
      written = writes.written;
      known = each_set k s.views id v c r.dealt at is (Agrees k history w)
          (Agrees k (history ++ events) u) new d cards (true_after events u d f)
          (others_after events u f.by f.runs) r.known;
      kept = each_set k s.views id v c r.dealt at is (Knows s.words w (next_epoch k history))
          (Knows (slice_set s.words place n) u (next_epoch k (history ++ events))) new d cards
          (writes.mine knowledge) writes.others r.kept;
      dealt = dealt_set k s.views id v c r.dealt at is new d cards f.number;
      counted = counted;
      few_credits = r.few_credits;
      plain = f.plain;
      linked = each_set k s.views id v c r.dealt at is
          (λ x. (x.owing ≡ owed_by w x.number) × Links s.words x)
          (Links (slice_set s.words place n)) new d cards (writes.links linkage)
          (λ x ne was. writes.others_links x ne was.0 was.1)
          (λ j y there i e less. ((r.known j y there i e less).owing, r.linked j y there i e less));
    };
  }

  -- a step that has to do with no ticket, nor with the bank
  pub acts : (events : List Event) (u : World) (d : Card) (place n : ℕ)
      (held : List (ℕ × Unit {0})) → v ≡ only c → d.credits ≡ c.credits
      → u.lengths ≡ w.lengths → BANK ≢ place → Fitting k w u events c d
      → Wording k s.words (slice_set s.words place n) w u (next_epoch k history)
      (next_epoch k (history ++ events)) c d
      → Adds k history w c d (stepped s place n id held (only d) keeps) events u
  acts events u d place n held whole credits lengths other f writes =
      acts_to events u d place n held (only d) refl
      (subst (λ bank. AreCounted (credits_for k) bank u (slice_set s.views id (only d)))
      (still_banked s.words place n other)
      (counted_still (credits_for k) (banked s.words) w u s.views id v at r.counted c d whole
      credits lengths))
      f writes

  -- a step that is none leaves history and World
  pub fits_none : (d : Card) → d.waiters ≡ c.waiters → d.number ≡ c.number → d.phase ≡ c.phase
      → d.owing ≡ c.owing → d.events ≡ c.events → d.epoch ≡ c.epoch → d.rows ≡ c.rows
      → d.passed_flag ≡ c.passed_flag → d.passed ≡ c.passed → d.announcing ≡ c.announcing
      → Fitting k w w [] c d
  fits_none d waiters number phase owing events epoch rows flag passed announcing = record {
    runs = refl;
    by = tt;
    waiters = waiters;
    number = number;
    gains = events ∙ sym (append-nil c.events);
    waits = λ less. phase ∙ truth.waits less;
    notifies = λ le. phase ∙ truth.notifies le;
    owing = owing ∙ truth.owing;
    epoch = omega arith;
    rows = rows;
    flag = flag ∙ truth.flag;
    passed = passed ∙ truth.passed;
    announcing = announcing ∙ truth.announcing;
    plain = r.plain;
  }

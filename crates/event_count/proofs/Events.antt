-- What each kind of event does to the World that a count shows, and to its word.
use Rattle.std.proofs.Common.{◌≡◌, ℕ, ◌+◌, ◌≤◌, ◌<◌, ◌==◌, ◌++◌, if◌then◌else◌, nat_lt, true}
use Rattle.std.proofs.Common.{false, List, [], ◌∷◌, length, sym, ap, refl, ◌∙◌, ⊎_elim, arith}
use Rattle.std.proofs.Common.{Bool, append-nil, replicate, get_or-set_same, get_or-set_other, get_or}
use Rattle.std.proofs.lemmas.Bool.{cases_eq, cases_lt, cond-true, lt-ltb}
use mathlib.Core.Option.{some}
use lib.ListN.{get_elem?}
use Rattle.event_word.specs.declared.phase.Phase.TheVariants.{Running, Pre, Stacked, Ended}
use Rattle.event_word.specs.declared.event.Event.{Event}
use Rattle.event_word.specs.declared.event.Event.TheVariants.{Prewait, Cancel}
use Rattle.event_word.specs.declared.event.Event.TheVariants.{Notify, NotifyAll, Unpark, Wake}
use Rattle.event_word.specs.declared.word.Fields.{Fields}
use Rattle.event_word.specs.Word.{prewaited, cancelled, signalled, popped}
use Rattle.event_word.specs.Word.{all_notified}
use Rattle.event_word.specs.Shown.{shown, top_of}
use Rattle.event_word.specs.World.{World, phase_of, owed_by, has_token, is_announcing}
use Rattle.event_word.specs.Step.{IsFree, effect, announced, signal, pop}
use Rattle.event_word.specs.Step.{unpark}
use Rattle.event_word.specs.Lawful.{Lawful, HasSizes}
use Rattle.event_word.proofs.Keeps.{pre_known, stacked_known, owed_is_stacked}
use Rattle.event_word.proofs.Lists.{get_or-set_default}
use Rattle.event_word.proofs.Rooms.{length-pre}
use Rattle.event_word.proofs.Histories.{lawful_history}
use Rattle.event_word.proofs.Following.{word_follows, notify-pop}
use Rattle.event_word.specs.Fields.{fields_of}
use Rattle.event_count.specs.declared.rule.RowSizes.{RowSizes}
use Rattle.event_count.specs.declared.view.Exchange.{Exchange}
use Rattle.event_count.specs.declared.view.Card.{Card}
use Rattle.event_count.specs.declared.view.View.{View}
use Rattle.event_count.specs.Cards.{exchange_of}
use Rattle.event_count.specs.Gains.{polling, prewaiting, cancelling, signalling, popping, unparking}
use Rattle.event_count.specs.Gains.{waking, behind, taking, loading_by}
use Rattle.event_count.specs.Shown.{HasNoRows, CountState, Shows}
use Rattle.event_count.specs.Known.{Agrees}
use Rattle.event_count.specs.Kinds.{IsKind, MayPrewait}
use Rattle.event_count.proofs.Cards.{is_seat}
use Rattle.event_count.proofs.Steps.{Fitting, truth}

-- the World after a notification that gives one
abbrev pub answered : World → ℕ → World
answered w actor = signal (announced w actor)

module _ (k : RowSizes) (s : CountState) (history : List Event) (w : World)
    (r : Shows k s history w) (id : ℕ) (v : View) (c : Card)
    (at : get_elem? s.views id ≡ some v) (is : v.cards ≡ c ∷ []) where
  pub law : Lawful w
  law = (lawful_history k.waiters k.notifiers k.rows history w r.runs).0

  pub sizes : HasSizes k.waiters (k.waiters + k.notifiers) k.rows w
  sizes = (lawful_history k.waiters k.notifiers k.rows history w r.runs).1

  -- what its card says
  pub told : Agrees k history w c
  told = truth k s history w r id v c at is

  -- a count has at most 16,382 pre-waiters
  pub few_pre : length w.pre ≤ 16382
  few_pre = let pre = length-pre w law in let phases = sizes.phases in let few = r.few in
      omega arith

  -- a seat whose card says that it is a pre-waiter is one
  pub is_pre : c.phase ≡ Pre → phase_of w c.number ≡ Pre
  is_pre pre = ⊎_elim (λ less. sym (told.waits less) ∙ pre)
      (λ le. absurd (let runs = sym (told.notifies le) ∙ pre in cc))
      (cases_lt c.number k.waiters)

  -- a seat that runs and owes nothing is free
  pub free : c.phase ≡ Running → c.owing ≡ [] → IsFree w c.number
  free running owes_none = record {
    known = let here = is_seat k s.views id v c r.dealt at is in let actors = sizes.owed in
        omega arith;
    owes_none = sym told.owing ∙ owes_none;
    runs = λ less. let phases = sizes.phases in sym (told.waits (omega arith)) ∙ running;
  }

  -- where nobody's stop and announcements change, at a count alone
  pub rowless_on : (u : World) → u.stop ≡ w.stop → u.announcing ≡ w.announcing
      → k.rows ≡ 0 → HasNoRows u
  rowless_on u stop announcing none = let plain = r.plain none in record {
    stop = stop ∙ plain.stop;
    silent = λ actor. ap (λ xs. get_or xs actor false) announcing ∙ plain.silent actor;
  }

  -- a seat that may prewait announces nothing
  pub silent_in : (rowed : Bool) → IsKind rowed k → MayPrewait rowed c
      → is_announcing w c.number ≡ false
  silent_in true kind silent = sym told.announcing ∙ silent
  silent_in false kind silent = (r.plain kind).silent c.number

  pub prewait_fits : is_announcing w c.number ≡ false → c.number < k.waiters
      → c.phase ≡ Running → c.owing ≡ []
      → Fitting k w (effect w (Prewait c.number)) (Prewait c.number ∷ []) c (prewaiting c)
  prewait_fits silent waiter running none =
      let phases = sizes.phases in let flags = sizes.flags in let lists = sizes.passed in
      let each = sizes.passed_rows c.number waiter in let lengths = sizes.lengths in
      let as_many : length c.passed ≡ length w.lengths = ap length told.passed ∙ (each ∙ sym lengths) in
      record {
        runs = ((omega arith, (free running none, silent)), refl);
        by = (refl, tt);
        waiters = refl;
        number = refl;
        gains = refl;
        waits = λ less. sym (get_or-set_same w.phases c.number Pre Ended (omega arith));
        notifies = λ le. absurd (omega arith);
        owing = told.owing;
        epoch = omega arith;
        rows = refl;
        flag = sym (get_or-set_same w.flags c.number false false (omega arith));
        passed = ap (λ n. replicate n false) as_many
            ∙ sym (get_or-set_same w.passed c.number (replicate (length w.lengths) false) []
            (omega arith));
        announcing = told.announcing;
        plain = rowless_on (effect w (Prewait c.number)) refl refl;
      }

  pub prewait_shows : (f : Fields) (e : ℕ) → f ≡ shown w e
      → prewaited f ≡ shown (effect w (Prewait c.number)) e
  prewait_shows f e here = ap prewaited here ∙ (word_follows w e law).prewait c.number

  pub cancel_fits : (x : Exchange) → c.phase ≡ Pre
      → Fitting k w (effect w (Cancel c.number)) (Cancel c.number ∷ []) c (cancelling c x)
  cancel_fits x pre = let known = pre_known w c.number (is_pre pre) in record {
    runs = (is_pre pre, refl);
    by = (refl, tt);
    waiters = refl;
    number = refl;
    gains = refl;
    waits = λ less. sym (get_or-set_same w.phases c.number Running Ended known);
    notifies = λ le. refl;
    owing = told.owing;
    epoch = omega arith;
    rows = refl;
    flag = told.flag;
    passed = told.passed;
    announcing = told.announcing;
    plain = rowless_on (effect w (Cancel c.number)) refl refl;
  }

  pub cancel_shows : (f : Fields) (e : ℕ) → f ≡ shown w e → c.phase ≡ Pre
      → cancelled f ≡ shown (effect w (Cancel c.number)) e
  cancel_shows f e here pre =
      ap cancelled here ∙ (word_follows w e law).cancel c.number (is_pre pre)

  -- a notification with a pre-waiter that has no signal gives it one
  gives : w.signals < length w.pre → effect w (Notify c.number) ≡ answered w c.number
  gives less = let h = announced w c.number in
      cond-true (nat_lt w.signals (length w.pre)) (answered w c.number) (pop h c.number h.stack)
      (lt-ltb w.signals (length w.pre) less)

  -- and then nobody announces anything
  pub still_silent : k.rows ≡ 0 → (actor : ℕ) → is_announcing (answered w c.number) actor ≡ false
  still_silent none_there actor = ⊎_elim
      (λ same. ap (λ n. is_announcing (answered w c.number) n) same
      ∙ get_or-set_default w.announcing c.number false)
      (λ ne. get_or-set_other w.announcing c.number actor false false ne
      ∙ (r.plain none_there).silent actor)
      (cases_eq actor c.number)

  pub signal_fits : (x : Exchange) → c.phase ≡ Running → c.owing ≡ [] → w.signals < length w.pre
      → Fitting k w (answered w c.number) (Notify c.number ∷ []) c (signalling c x)
  signal_fits x running none less = record {
    runs = (free running none, gives less);
    by = (refl, tt);
    waiters = refl;
    number = refl;
    gains = refl;
    waits = told.waits;
    notifies = told.notifies;
    owing = told.owing;
    epoch = omega arith;
    rows = refl;
    flag = told.flag;
    passed = told.passed;
    announcing = sym (get_or-set_default w.announcing c.number false);
    plain = λ none_there. record { stop = (r.plain none_there).stop; silent = still_silent none_there };
  }

  pub signal_shows : (f : Fields) (e : ℕ) → f ≡ shown w e → w.signals < length w.pre
      → signalled f ≡ shown (answered w c.number) e
  signal_shows f e here less = ap signalled here
      ∙ ((word_follows w e law).signal c.number less ∙ ap (λ u. shown u e) (gives less))

  -- a notification without a pre-waiter to answer pops
  abbrev pub taken_off : ℕ → List ℕ → World
  taken_off top rest = pop (announced w c.number) c.number (top ∷ rest)

  pub pop_fits : (x : Exchange) (top : ℕ) (rest : List ℕ) → c.phase ≡ Running → c.owing ≡ []
      → w.signals ≡ length w.pre → w.stack ≡ top ∷ rest → (fields_of x.expected).top ≡ top
      → Fitting k w (taken_off top rest) (Notify c.number ∷ []) c (popping c x)
  pop_fits x top rest running none full stack looked =
      let here = is_seat k s.views id v c r.dealt at is in let actors = sizes.owed in
      let mine = get_or-set_same w.owed c.number (owed_by w c.number ++ top ∷ []) []
      (omega arith) in record {
        runs = (free running none, notify-pop w c.number (top ∷ rest) full stack);
        by = (refl, tt);
        waiters = refl;
        number = refl;
        gains = refl;
        waits = told.waits;
        notifies = told.notifies;
        owing = ap (λ xs. xs ++ (fields_of x.expected).top ∷ []) told.owing
            ∙ (ap (λ n. owed_by w c.number ++ n ∷ []) looked ∙ sym mine);
        epoch = omega arith;
        rows = refl;
        flag = told.flag;
        passed = told.passed;
        announcing = sym (get_or-set_default w.announcing c.number false);
        plain = λ none_there. record { stop = (r.plain none_there).stop; silent = still_silent none_there };
      }

  pub pop_shows : (f next : Fields) (e top : ℕ) (rest : List ℕ) → f ≡ shown w e
      → w.signals ≡ length w.pre → w.stack ≡ top ∷ rest → next.top ≡ top_of rest
      → popped f next ≡ shown (taken_off top rest) next.epoch
  pop_shows f next e top rest here full stack below = ap (λ g. popped g next) here
      ∙ ((word_follows w e law).pop c.number top rest next full stack below
      ∙ ap (λ u. shown u next.epoch) (notify-pop w c.number (top ∷ rest) full stack))

  -- the seat that is owed gets its token
  abbrev pub unparked : ℕ → List ℕ → World
  unparked seat rest = unpark w c.number (seat ∷ rest)

  owes : (seat : ℕ) (rest : List ℕ) → c.owing ≡ seat ∷ rest → owed_by w c.number ≡ seat ∷ rest
  owes seat rest owing = sym told.owing ∙ owing

  pub owed_known : (seat : ℕ) (rest : List ℕ) → c.owing ≡ seat ∷ rest → seat < k.waiters
  owed_known seat rest owing = let phases = sizes.phases in
      let is_known = owed_is_stacked w law c.number seat rest (owes seat rest owing) in
      let known = is_known.1 in omega arith

  pub unpark_fits : (seat : ℕ) (rest : List ℕ) → c.owing ≡ seat ∷ rest
      → Fitting k w (unparked seat rest) (Unpark c.number ∷ []) c (unparking c)
  unpark_fits seat rest owing =
      let here = is_seat k s.views id v c r.dealt at is in let actors = sizes.owed in record {
        runs = (
          let one = ap length (owes seat rest owing) in omega arith,
          ap (λ xs. unpark w c.number xs) (owes seat rest owing),
        );
        by = (refl, tt);
        waiters = refl;
        number = refl;
        gains = refl;
        waits = told.waits;
        notifies = told.notifies;
        owing = ap behind owing ∙ sym (get_or-set_same w.owed c.number rest [] (omega arith));
        epoch = omega arith;
        rows = refl;
        flag = told.flag;
        passed = told.passed;
        announcing = told.announcing;
        plain = rowless_on (unparked seat rest) refl refl;
      }

  -- a seat whose card says that it is stacked is
  pub is_stacked : c.phase ≡ Stacked → phase_of w c.number ≡ Stacked
  is_stacked stacked = ⊎_elim (λ less. sym (told.waits less) ∙ stacked)
      (λ le. absurd (let runs = sym (told.notifies le) ∙ stacked in cc))
      (cases_lt c.number k.waiters)

  pub wake_fits : c.phase ≡ Stacked → has_token w c.number ≡ true
      → Fitting k w (effect w (Wake c.number)) (Wake c.number ∷ []) c (waking (polling c))
  wake_fits stacked there = let known = stacked_known w c.number (is_stacked stacked) in record {
    runs = ((is_stacked stacked, there), refl);
    by = (refl, tt);
    waiters = refl;
    number = refl;
    gains = refl;
    waits = λ less. sym (get_or-set_same w.phases c.number Running Ended known);
    notifies = λ le. refl;
    owing = told.owing;
    epoch = omega arith;
    rows = refl;
    flag = told.flag;
    passed = told.passed;
    announcing = told.announcing;
    plain = rowless_on (effect w (Wake c.number)) refl refl;
  }

  -- a notification of all, which nobody stops
  abbrev pub emptied : World
  emptied = effect w (NotifyAll c.number)

  pub all_fits : (x : Exchange) → c.phase ≡ Running → c.owing ≡ []
      → Fitting k w emptied (NotifyAll c.number ∷ []) c (taking w.stack c x)
  all_fits x running none =
      let here = is_seat k s.views id v c r.dealt at is in let actors = sizes.owed in record {
        runs = (free running none, refl);
        by = (refl, tt);
        waiters = refl;
        number = refl;
        gains = refl;
        waits = told.waits;
        notifies = told.notifies;
        owing = ap (λ xs. xs ++ w.stack) told.owing
            ∙ sym (get_or-set_same w.owed c.number (owed_by w c.number ++ w.stack) []
            (omega arith));
        epoch = omega arith;
        rows = refl;
        flag = told.flag;
        passed = told.passed;
        announcing = sym (get_or-set_default w.announcing c.number false);
        plain = λ none_there. record {
          stop = ap (λ m. if m == 1 then 2 else m) (r.plain none_there).stop;
          silent = still_silent none_there;
        };
      }

  pub all_shows : (f : Fields) (e : ℕ) → f ≡ shown w e → all_notified f ≡ shown emptied 0
  all_shows f e here = ap all_notified here ∙ (word_follows w e law).all c.number

  -- a load that found nobody to notify fits the event, too
  pub hear_fits : (word : ℕ) → c.phase ≡ Running → c.owing ≡ [] → w.stack ≡ []
      → Fitting k w emptied (NotifyAll c.number ∷ []) c (loading_by true c word)
  hear_fits word running none empty =
      let f = all_fits (exchange_of 0 0 0) running none in record {
        runs = f.runs;
        by = f.by;
        waiters = refl;
        number = refl;
        gains = refl;
        waits = f.waits;
        notifies = f.notifies;
        owing = sym (append-nil c.owing) ∙ (ap (λ xs. c.owing ++ xs) (sym empty) ∙ f.owing);
        epoch = f.epoch;
        rows = refl;
        flag = f.flag;
        passed = f.passed;
        announcing = f.announcing;
        plain = f.plain;
      }

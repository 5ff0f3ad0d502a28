-- The laws of rows and of the stop, from those of the event model.
use Rattle.std.proofs.Common.{◌≡◌, ℕ, zero, suc, ◌+◌, ◌≤◌, ◌<◌, ◌==◌, Bool, true, false, List, []}
use Rattle.std.proofs.Common.{◌∷◌, length, sym, ap, refl, ◌∙◌, ⊎_elim, arith, eq-eqb}
use Rattle.std.proofs.Common.{ne_eqb}
use Rattle.std.specs.List.{AllPass}
use Rattle.std.proofs.lemmas.Bool.{cases_eq, cases_lt, lt-ltb, cond-true, cond-false}
use Rattle.std.proofs.lemmas.List.{get_or_past}
use Rattle.event_word.specs.declared.event.Event.{Event}
use Rattle.event_word.specs.declared.event.Event.TheVariants.{Publish, Prewait, Pass, PassFlag}
use Rattle.event_word.specs.declared.event.Event.TheVariants.{Cancel, Commit, Notify, NotifyAll}
use Rattle.event_word.specs.declared.event.Event.TheVariants.{Unpark, Wake, Take, Stop, End}
use Rattle.event_word.specs.Lists.{one_if, times}
use Rattle.event_word.specs.World.{World}
use Rattle.event_word.specs.Step.{Possible, effect, actor_of}
use Rattle.event_word.specs.Lawful.{HasSizes}
use Rattle.event_word.specs.Runs.{Runs}
use Rattle.event_word.specs.Shown.{top_of}
use Rattle.event_word.proofs.Keeps.{pre_known, stacked_known}
use Rattle.event_word.proofs.Sizes.{sizes_effect, sizes_opening}
use Rattle.event_word.proofs.Parking.{stay_awake_by_present}
use Rattle.event_word.proofs.Stopping.{wake_all}
use Rattle.event_count.specs.declared.rule.RowSizes.{RowSizes}
use Rattle.event_count.specs.declared.view.View.{View}
use Rattle.event_count.specs.Written.{shown_fields}
use Rattle.event_count.specs.Known.{world_at_first, next_epoch, events_of, numbers_in, Agrees, Each}
use Rattle.event_count.specs.Shown.{CountState, Shows, ShowsWorld}
use Rattle.event_count.specs.Rows.Laws.{RowsStayAwake, StopWakesAll, LengthsAreTickets}
use Rattle.event_count.specs.Rows.Laws.{TicketsShowJobs}
use Rattle.event_count.proofs.Closing.{card_there, is_lawful}
use Rattle.event_count.proofs.Totals.{le_total, total_some}
use Rattle.event_count.proofs.Words.{leads_top}

-- an actor of a possible event is one of the actors
actor_known : (workers actors rows : ℕ) (w : World) (e : Event) → HasSizes workers actors rows w
    → workers ≤ actors → Possible w e → actor_of e < actors
actor_known workers actors rows w (Publish actor row) z le may =
    let a = may.0.0.known in let b = z.owed in omega arith
actor_known workers actors rows w (Prewait seat) z le may =
    let a = may.0 in let b = z.phases in omega arith
actor_known workers actors rows w (Pass seat row) z le may =
    let a = pre_known w seat may.0 in let b = z.phases in omega arith
actor_known workers actors rows w (PassFlag seat) z le may =
    let a = pre_known w seat may.0 in let b = z.phases in omega arith
actor_known workers actors rows w (Cancel seat) z le may =
    let a = pre_known w seat may in let b = z.phases in omega arith
actor_known workers actors rows w (Commit seat) z le may =
    let a = pre_known w seat may.0 in let b = z.phases in omega arith
actor_known workers actors rows w (Notify actor) z le may =
    let a = may.known in let b = z.owed in omega arith
actor_known workers actors rows w (NotifyAll actor) z le may =
    let a = may.known in let b = z.owed in omega arith
actor_known workers actors rows w (Unpark actor) z le may = ⊎_elim
    (λ less. let b = z.owed in omega arith)
    (λ past. let none_owed = ap length (get_or_past w.owed actor [] past) in
    let some_owed = may in absurd (omega arith))
    (cases_lt actor (length w.owed))
actor_known workers actors rows w (Wake seat) z le may =
    let a = stacked_known w seat may.0 in let b = z.phases in omega arith
actor_known workers actors rows w (Take actor row) z le may =
    let a = may.0.known in let b = z.owed in omega arith
actor_known workers actors rows w (Stop actor) z le may =
    let a = may.0.0.known in let b = z.owed in omega arith
actor_known workers actors rows w (End seat) z le may =
    let a = may.0 in let b = z.phases in omega arith

-- an event among others is its actor's
events_of-here : (n : ℕ) (e : Event) (events : List Event) → actor_of e ≡ n
    → events_of n (e ∷ events) ≡ e ∷ events_of n events
events_of-here n e events is = cond-true (actor_of e == n) (e ∷ events_of n events)
    (events_of n events) (eq-eqb (actor_of e) n is)

events_of-rest : (n : ℕ) (e : Event) (events : List Event) → events_of n (e ∷ events) ≡ []
    → events_of n events ≡ []
events_of-rest n e events none_there = ⊎_elim
    (λ is. let some_there = ap length (sym (events_of-here n e events is) ∙ none_there) in
    absurd (omega arith))
    (λ ne. sym (cond-false (actor_of e == n) (e ∷ events_of n events) (events_of n events)
    (ne_eqb (actor_of e) n ne)) ∙ none_there)
    (cases_eq (actor_of e) n)

-- where the absent actors have done nothing, an actor that has done something is present
all_present : (is_present : ℕ → Bool) (workers actors rows : ℕ) (first : World)
    (events : List Event) (last : World) → HasSizes workers actors rows first → workers ≤ actors
    → Runs first events last
    → ((n : ℕ) → n < actors → is_present n ≡ false → events_of n events ≡ [])
    → AllPass (λ e. is_present (actor_of e)) events
all_present is_present workers actors rows first [] last z le runs idle k d less =
    absurd (omega arith)
all_present is_present workers actors rows first (e ∷ events) last z le runs idle zero d less =
    by_present (is_present (actor_of e)) refl
  where
    by_present : (b : Bool) → is_present (actor_of e) ≡ b → is_present (actor_of e) ≡ true
    by_present true is = is
    by_present false is =
        let none_there = idle (actor_of e) (actor_known workers actors rows first e z le runs.0) is in
        let some_there = ap length (sym (events_of-here (actor_of e) e events refl) ∙ none_there) in
        absurd (omega arith)
all_present is_present workers actors rows first (e ∷ events) last z le runs idle (suc k) d less =
    all_present is_present workers actors rows (effect first e) events last
    (sizes_effect workers actors rows first e z) le runs.1
    (λ n known away. events_of-rest n e events (idle n known away)) k d (omega arith)

module _ (k : RowSizes) (s : CountState) (history : List Event) (w : World)
    (r : Shows k s history w) where
  -- each actor has a card, which tells its events
  idle_by_card : (is_present : ℕ → Bool)
      → Each (λ c. is_present c.number ≡ false → c.events ≡ []) s.views
      → (n : ℕ) → n < k.waiters + k.notifiers → is_present n ≡ false → events_of n history ≡ []
  idle_by_card is_present absent n known away =
      let once = r.dealt.once n
      ∙ ap one_if (lt-ltb n (k.waiters + k.notifiers) known) in
      let there = total_some (λ y. times n (numbers_in y)) s.views (omega arith) in
      let card = card_there
      (λ c. (is_present c.number ≡ false → c.events ≡ []) × Agrees k history w c) n there.1.cards
      (λ j d less. (absent there.0 there.1 there.2 j d less, r.known there.0 there.1 there.2 j d less))
      there.3 in
      let c = card.0 in
      ap (λ m. events_of m history) (sym card.1)
      ∙ (sym card.2.1.events ∙ card.2.0 (ap is_present card.1 ∙ away))

pub rows_awake : RowsStayAwake
rows_awake k s history w r is_present waiter less here absent going row known jobs =
    let all = all_present is_present k.waiters (k.waiters + k.notifiers) k.rows (world_at_first k)
    history w (sizes_opening k.waiters k.notifiers k.rows) (omega arith) r.runs
    (idle_by_card k s history w r is_present absent) in
    let stays = stay_awake_by_present k.waiters k.notifiers k.rows is_present waiter history w less
    here all r.runs in
    (stays.awake (r.written.stop.0 going)).support row
    (let is = r.written.rows row known in omega arith)

pub stop_wakes : StopWakesAll
stop_wakes k s history w r two =
    let woken = wake_all k.waiters k.notifiers k.rows history w r.runs two in (
      leads_top s.words (next_epoch k history) w.stack (shown_fields s.words) r.written.stack
          ∙ ap top_of woken.stack,
      woken,
    )

pub lengths_tickets : LengthsAreTickets ShowsWorld
lengths_tickets k s shows row known =
    shows.2.written.rows row known ∙ sym (shows.2.counted.tickets row)

pub tickets_show : TicketsShowJobs ShowsWorld
tickets_show k s shows id v at row some_held =
    let w = shows.1 in let r = shows.2 in
    let part = le_total (λ (y : View). times row y.tickets) s.views id v at in
    let sum = r.counted.tickets row in let lengths = (is_lawful k s shows).1.lengths in
    let known : row < k.rows = ⊎_elim (λ lt. lt)
    (λ le. let past = get_or_past w.lengths row 0 (let e = lengths in omega arith) in
    absurd (omega arith))
    (cases_lt row k.rows) in
    (known, (let is = r.written.rows row known in omega arith))

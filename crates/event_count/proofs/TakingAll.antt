-- A notification of all adds its event: the stack is owed as it is linked.
use Rattle.std.proofs.Common.{◌≡◌, ℕ, ◌<◌, List, [], ◌∷◌, sym, ap, refl, ◌∙◌, subst}
use Rattle.std.proofs.Common.{arith, ◌++◌, slice_set}
use mathlib.Core.Option.{some}
use lib.ListN.{get_elem?}
use Rattle.event_word.specs.declared.phase.Phase.TheVariants.{Running}
use Rattle.event_word.specs.declared.event.Event.{Event}
use Rattle.event_word.specs.declared.event.Event.TheVariants.{NotifyAll}
use Rattle.event_word.specs.Fields.{fields_of}
use Rattle.event_word.specs.Word.{nobody, all_notified}
use Rattle.event_word.specs.Lists.{times}
use Rattle.event_word.specs.Shown.{shown}
use Rattle.event_count.specs.declared.rule.TheConstants.{STATE}
use Rattle.event_count.specs.declared.rule.RowSizes.{RowSizes}
use Rattle.event_count.specs.declared.view.Card.{Card}
use Rattle.event_count.specs.Cards.{exchange_of, only, card_in}
use Rattle.event_count.specs.Gains.{taking}
use Rattle.event_count.specs.Plays.{Sat, takes_all}
use Rattle.event_count.specs.Shown.{CountState, ShowsWorld}
use Rattle.event_count.specs.Written.{shown_fields}
use Rattle.event_count.specs.Known.{next_epoch}
use Rattle.event_count.specs.Kept.{Chain}
use Rattle.event_count.proofs.Words.{word_shows, knows_on, frame_same, next_state, written_state}
use Rattle.event_count.proofs.Words.{links_on, chain_on, chain_of}
use Rattle.event_count.proofs.Steps.{acts, truth}
use Rattle.event_count.proofs.Events.{law, sizes, emptied, all_fits, all_shows}
use Rattle.event_count.proofs.Stepping.{Exchanging, ExchangeAllowed, same_epochs, gain_adds}
use Rattle.event_count.proofs.Stepping.{exchange_allowed}
use Rattle.event_count.proofs.RowSteps.Hearing.{same_all}
use Rattle.event_count.proofs.Looking.{sleeps_known}
use Rattle.event_count.proofs.Unparking.{names_first}

module _ (k : RowSizes) (slots id : ℕ) (me : Sat) (is : me.0 ≡ only (card_in me.0)) where
  -- the card of the seat that steps
  abbrev c : Card
  c = card_in me.0

  -- its view has this one card
  has : me.0.cards ≡ c ∷ []
  has = ap (λ v. v.cards) is

  stack_waiter : (s : CountState) (shows : ShowsWorld k s) (at : get_elem? s.views id ≡ some me.0)
      → (n : ℕ) → 0 < times n shows.1.stack → (n < c.waiters) × (c.waiters < nobody)
  stack_waiter s shows at n more = let history = shows.0 in let w = shows.1 in let r = shows.2 in
      let stands = (law k s history w r id me.0 c at has).standing n in
      let waiters = (truth k s history w r id me.0 c at has).waiters in let few = r.few in
      let known = sleeps_known w n (omega arith) in
      let phases = (sizes k s history w r id me.0 c at has).phases in (omega arith, omega arith)

  -- a notification of all takes the stack, linked as it is
  pub all_adds : (old new : ℕ) → c.phase ≡ Running → c.owing ≡ []
      → fields_of new ≡ all_notified (fields_of old)
      → Exchanging k slots id me is takes_all old new
  all_adds old new running none_owed offered =
      gain_adds k slots id me is takes_all old new (λ s shows at hit.
      let history = shows.0 in let w = shows.1 in let r = shows.2 in
      let x = exchange_of old new old in let d = taking w.stack c x in
      let here = ap fields_of (sym hit) ∙ word_shows k s shows in
      let e = (shown_fields s.words).epoch in
      let events : List Event = NotifyAll c.number ∷ [] in
      let u = emptied k s history w r id me.0 c at has in
      let es = next_epoch k history in let es' = next_epoch k (history ++ events) in
      let words' = slice_set s.words STATE new in
      let f = all_fits k s history w r id me.0 c at has x running none_owed in
      let epochs = same_epochs k s history w r id me.0 c at has events u d f refl in
      let shows_new : fields_of new ≡ shown u 0 =
      offered ∙ all_shows k s history w r id me.0 c at has (fields_of old) e here in
      let frame = frame_same s.words words' w u es es' epochs
      (λ m there. absurd (omega arith)) in (
        d,
        (
          events,
          u,
          acts k s history w r id me.0 c at has events u d STATE new me.1 is refl refl
              (λ e. absurd (omega arith)) f record {
                written = written_state k s.words es w r.written u es' new (same_all w c.number) refl 0
                    shows_new
                    (ap (λ g. g.top) shows_new, ap (λ g. g.epoch) shows_new);
                mine = λ was.
                    knows_on s.words words' w u es es' c.number c.stored c.stored c.looked c.next frame
                    (next_state s.words new c.number ∙ was.stores) was;
                others = λ y _ was.
                    knows_on s.words words' w u es es' y.number y.stored y.stored y.looked y.next frame
                    (next_state s.words new y.number ∙ was.stores) was;
                links = λ _. subst (λ xs. Chain words' (xs ++ w.stack)) (sym none_owed)
                    (chain_on s.words words' w.stack (λ m _. next_state s.words new m)
                    (chain_of s.words es w.stack (shown_fields s.words) r.written.stack));
                others_links = λ y _ _ was.
                    links_on s.words words' y.linked y.owing (λ m _. next_state s.words new m) was;
              },
        ),
        (
          w.stack,
          names_first k slots id me is s shows at old w.stack (ap (λ g. g.top) here)
              (stack_waiter s shows at),
          refl,
        ),
      ))

  pub all_keeps : (old new : ℕ) → c.phase ≡ Running → c.owing ≡ []
      → fields_of new ≡ all_notified (fields_of old)
      → ExchangeAllowed k slots id me is takes_all old new
  all_keeps old new running none_owed offered =
      exchange_allowed k slots id me is takes_all old new
      (all_adds old new running none_owed offered)

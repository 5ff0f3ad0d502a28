-- Each step of a seat adds its events to the history that the table shows.
use Rattle.std.proofs.Common.{◌≡◌, ℕ, ◌==◌, ◌%◌, ◌+◌, ◌^◌}
use mathlib.Core.Option.{none}
use prog.Atomic.{either}
use Rattle.atomic_table.specs.Table.{step}
use Rattle.event_count.specs.declared.rule.TheConstants.{STATE}
use Rattle.event_count.specs.declared.rule.RowSizes.{RowSizes}
use Rattle.event_count.specs.Places.{next_place, parker_place}
use Rattle.event_count.specs.Cards.{only, card_in}
use Rattle.event_count.specs.Plays.{Sat, Told, Gain, exchanges, looks, reads, follows, stores}
use Rattle.event_count.specs.Plays.{prewaits, consumes, pushes, cancels, signals, pops, takes_all}
use Rattle.event_count.specs.Plays.{unparks, wakes}
use Rattle.event_count.specs.Steps.{AddsEvents, Exchanges, StepsOf, StepsAddTheirEvents}
use Rattle.event_count.proofs.Stepping.{Advances, Exchanging}
use Rattle.event_count.proofs.Keeps.{look_adds, prewait_adds, consume_adds, cancel_adds, signal_adds}
use Rattle.event_count.proofs.Stacking.{store_adds, push_adds, read_adds, pop_adds}
use Rattle.event_count.proofs.Unparking.{unpark_adds, wake_adds, follow_adds}
use Rattle.event_count.proofs.TakingAll.{all_adds}

module _ (k : RowSizes) (slots : ℕ) (me : Sat) (is : me.0 ≡ only (card_in me.0)) where
  -- a step of the seat, whichever number its view has
  pub adds : (place a b : ℕ) (f : ℕ → ℕ) (told : Told)
      → ((id : ℕ) → Advances k slots id me is place a b f told)
      → AddsEvents k slots me (step slots place a b none) f told
  adds place a b f told advances s history w r id at small =
      let done = advances id s (history, w, r) at small in
      let after = done.1 in (done.0, after.0, after.1, after.2, done.2)

  exchange : (gain : Gain) (old new : ℕ)
      → ((id : ℕ) → Exchanging k slots id me is gain old new)
      → Exchanges k slots me old new gain
  exchange gain old new advances =
      adds STATE old new (λ n. either (n == old) new n) (exchanges gain) advances

  steps : StepsOf k slots me (card_in me.0)
  steps = record {
    look = λ rowed kind. adds STATE 0 0 (λ n. n) (looks rowed)
        (λ id. look_adds k slots id me is rowed kind);
    read = λ there. adds _ 0 0 (λ n. n) reads (λ id. read_adds k slots id me is there);
    follow = λ seat rest owing. adds (next_place seat) 0 0 (λ n. n) follows
        (λ id. follow_adds k slots id me is seat rest owing);
    store = λ word pre waiter. adds _ word 0 (λ _. word) stores
        (λ id. store_adds k slots id me is word pre waiter);
    prewait = λ rowed kind silent waiter running none_owed. adds STATE (2 ^ 14) 0 (λ n. (n + 2 ^ 14) % 2 ^ 64)
        prewaits (λ id. prewait_adds k slots id me is rowed kind silent waiter running none_owed);
    consume = λ rowed old new kind may pre there offered. exchange (consumes rowed) old new
        (λ id. consume_adds k slots id me is rowed old new kind may pre there offered);
    push = λ rowed old new kind may pre none_given offered stored. exchange (pushes rowed) old new
        (λ id. push_adds k slots id me is rowed old new kind may pre none_given offered stored);
    cancel = λ old new pre offered. exchange cancels old new
        (λ id. cancel_adds k slots id me is old new pre offered);
    signal = λ old new running none_owed room offered. exchange signals old new
        (λ id. signal_adds k slots id me is old new running none_owed room offered);
    pop = λ old new next running none_owed looked read there full offered. exchange pops old new
        (λ id. pop_adds k slots id me is old new next running none_owed looked read there full
        offered);
    take_all = λ old new running none_owed offered. exchange takes_all old new
        (λ id. all_adds k slots id me is old new running none_owed offered);
    unpark = λ seat rest owing. adds (parker_place seat) 1 0 (λ _. 1) unparks
        (λ id. unpark_adds k slots id me is seat rest owing);
    wake = λ stacked. adds _ 0 0 (λ _. 0) wakes (λ id. wake_adds k slots id me is stacked);
  }

pub steps_add : StepsAddTheirEvents
steps_add = steps

-- The steps on the state word that leave the stack add their events, and so keep the rule.
use Rattle.std.proofs.Common.{◌≡◌, ℕ, ◌+◌, ◌<◌, ◌%◌, ◌^◌, Bool, true, false, [], ◌∷◌, sym, ap, refl}
use Rattle.std.proofs.Common.{◌∙◌, slice_index, arith, subst, length}
use Rattle.std.proofs.lemmas.Bool.{and_parts}
use mathlib.Core.Option.{some, none}
use lib.ListN.{get_elem?}
use Rattle.atomic_table.specs.Table.{step, Allows}
use Rattle.event_word.specs.declared.phase.Phase.TheVariants.{Running, Pre}
use Rattle.event_word.specs.declared.event.Event.TheVariants.{Prewait, Cancel, Notify, NotifyAll}
use Rattle.event_word.specs.Fields.{fields, fields_of}
use Rattle.event_word.specs.Word.{cancelled, consumed, signalled, IsSettled}
use Rattle.event_word.specs.Shown.{top_of}
use Rattle.event_word.specs.Step.{effect}
use Rattle.event_count.specs.declared.rule.TheConstants.{STATE}
use Rattle.event_count.specs.declared.rule.RowSizes.{RowSizes}
use Rattle.event_count.specs.declared.view.Card.{Card}
use Rattle.event_count.specs.Cards.{exchange_of, only, card_in}
use Rattle.event_count.specs.Gains.{looking, loading_by, hearing, may_notify, is_settled, prewaiting}
use Rattle.event_count.specs.Gains.{commit_events, consuming, cancelling, signalling, Fits, IsHeard}
use Rattle.event_count.specs.Kinds.{IsKind, MayCommit, MayPrewait}
use Rattle.event_count.specs.Plays.{Sat, looks, prewaits, consumes, cancels, signals}
use Rattle.event_count.specs.Shown.{CountState, ShowsWorld}
use Rattle.event_count.specs.Written.{shown_fields}
use Rattle.event_count.specs.Known.{next_epoch}
use Rattle.event_count.proofs.Words.{fields_of-prewait, word_shows, same_rows}
use Rattle.event_count.proofs.Steps.{fits_none, epochs_after}
use Rattle.event_count.proofs.Events.{told, few_pre, silent_in, prewait_fits, prewait_shows}
use Rattle.event_count.proofs.Events.{cancel_fits, cancel_shows, answered, signal_fits, signal_shows}
use Rattle.event_count.proofs.Events.{emptied, hear_fits}
use Rattle.event_count.proofs.RowSteps.Committing.{alike, taken, consume_fits, consume_shows, rows_stay}
use Rattle.event_count.proofs.RowSteps.Hearing.{hears, heard_not, may_is, settled_is, same_all}
use Rattle.event_count.proofs.Stepping.{After, Advances, Exchanging, ExchangeAllowed, allowed, acted}
use Rattle.event_count.proofs.Stepping.{exchange_adds, exchange_allowed}
use Rattle.event_count.proofs.Looking.{look_fits, look_past, stack_none}

module _ (k : RowSizes) (slots id : ℕ) (me : Sat) (is : me.0 ≡ only (card_in me.0)) where
  -- the card of the seat that steps
  abbrev c : Card
  c = card_in me.0

  -- its view has this one card
  has : me.0.cards ≡ c ∷ []
  has = ap (λ v. v.cards) is

  -- a load that is no event
  pub look_adds_none : (s : CountState) (shows : ShowsWorld k s)
      (at : get_elem? s.views id ≡ some me.0) (word : ℕ) → slice_index s.words STATE ≡ word
      → After k slots id me is s shows STATE word (looking c word)
  look_adds_none s shows at word here =
      let history = shows.0 in let w = shows.1 in let r = shows.2 in
      acted k slots id me is s shows at (looking c word) (λ ws was. was) [] w word
      (fits_none k s history w r id me.0 c at has (looking c word)
      refl refl refl refl refl refl refl refl refl refl)
      (same_rows w w refl refl) refl refl refl refl (ap fields_of (sym here) ∙ word_shows k s shows)
      (λ was. record {
        stores = was.stores;
        past = λ ne. (
          let more = look_past s.words (next_epoch k history) w.stack r.written.stack
              (λ e. ne (ap (λ n. (fields_of n).top) (sym here) ∙ e)) in
              let top = ap (λ n. (fields_of n).top) here in
              let epoch = ap (λ n. (fields_of n).epoch) here in
              let at_top = ap (next_epoch k history) top in
              let same = epochs_after k s history w r id me.0 c at has []
              (fields_of word).top in omega arith,
          tt,
        );
      })

  -- one that ends an announcement
  look_adds_all : (s : CountState) (shows : ShowsWorld k s)
      (at : get_elem? s.views id ≡ some me.0) (word : ℕ) → slice_index s.words STATE ≡ word
      → c.phase ≡ Running → c.owing ≡ [] → IsSettled (fields_of word)
      → After k slots id me is s shows STATE word (loading_by true c word)
  look_adds_all s shows at word here running owes_none settled =
      let history = shows.0 in let w = shows.1 in let r = shows.2 in
      let d = loading_by true c word in let e = (shown_fields s.words).epoch in
      let shown_here = ap fields_of (sym here) ∙ word_shows k s shows in
      let empty : w.stack ≡ [] = stack_none k s shows id me.0 c at has
      (ap (λ n. (fields_of n).top) here ∙ settled.empty) in
      let stack : [] ≡ w.stack = sym empty in
      let full : w.signals ≡ length w.pre =
      let a = ap (λ f. f.signals) shown_here in let b = ap (λ f. f.pre) shown_here in
      let c' = settled.answered in omega arith in
      acted k slots id me is s shows at d (λ ws was. was) (NotifyAll c.number ∷ [])
      (emptied k s history w r id me.0 c at has) word
      (hear_fits k s history w r id me.0 c at has word running owes_none empty)
      (same_all w c.number) refl refl stack refl
      (shown_here ∙ (λ i. fields (top_of (empty i)) (length w.pre) (full i) e))
      (λ was. record {
        stores = was.stores;
        past = λ ne. absurd (ne settled.empty);
      })

  -- a load of the state word, at a count of either kind
  pub look_adds : (rowed : Bool) → IsKind rowed k
      → Advances k slots id me is STATE 0 0 (λ n. n) (looks rowed)
  look_adds false kind s shows at _ =
      let word = slice_index s.words STATE in let d = looking c word in
      let r = shows.2 in (
        d,
        look_adds_none s shows at word refl,
        (
          refl,
          refl,
          look_fits k s id me.0 c shows at has,
          λ _ _ _. (told k s shows.0 shows.1 r id me.0 c at has).announcing
              ∙ (r.plain kind).silent c.number,
        ),
      )
  look_adds true kind s shows at _ =
      let word = slice_index s.words STATE in by_hearing word refl (hears c word) refl
    where
      by_hearing : (word : ℕ) → slice_index s.words STATE ≡ word → (b : Bool) → hears c word ≡ b
          → (d : Card) × After k slots id me is s shows STATE word d
          × looks true (step slots STATE 0 0 none) me word (only d, me.1)
      by_hearing word here false deaf =
          let same : looking c word ≡ hearing c word = ap (λ b. loading_by b c word) (sym deaf) in (
            looking c word,
            look_adds_none s shows at word here,
            (
              refl,
              (λ i. (only (same i), me.1)),
              subst (λ d. Fits d word) same
                  (subst (λ n. Fits (looking c n) n) here (look_fits k s id me.0 c shows at has)),
              subst (λ d. IsHeard d word) same (heard_not c word deaf),
            ),
          )
      by_hearing word here true heard =
          let both = and_parts (may_notify c) (is_settled (fields_of word)) heard in
          let may = may_is c both.0 in let d = loading_by true c word in
          let same : d ≡ hearing c word = ap (λ b. loading_by b c word) (sym heard) in
          let fits : Fits d word =
          subst (λ n. Fits (looking c n) n) here (look_fits k s id me.0 c shows at has) in (
            d,
            look_adds_all s shows at word here may.1 may.2 (settled_is (fields_of word) both.1),
            (
              refl,
              (λ i. (only (same i), me.1)),
              subst (λ x. Fits x word) same fits,
              subst (λ x. IsHeard x word) same (λ _ _ _. refl),
            ),
          )

  pub prewait_adds : (rowed : Bool) → IsKind rowed k → MayPrewait rowed c → c.number < k.waiters
      → c.phase ≡ Running → c.owing ≡ []
      → Advances k slots id me is STATE 16384 0 (λ n. (n + 16384) % 2 ^ 64) prewaits
  prewait_adds rowed kind silent waiter running none_owed s shows at small =
      let history = shows.0 in let w = shows.1 in let r = shows.2 in
      let word = slice_index s.words STATE in let here = word_shows k s shows in
      let pre = ap (λ f. f.pre) here in
      let few = few_pre k s history w r id me.0 c at has in (
        prewaiting c,
        acted k slots id me is s shows at (prewaiting c) (λ ws was. was) (Prewait c.number ∷ [])
            (effect w (Prewait c.number))
            ((word + 16384) % 2 ^ 64)
            (prewait_fits k s history w r id me.0 c at has
            (silent_in k s history w r id me.0 c at has rowed kind silent) waiter running
            none_owed)
            (same_rows w (effect w (Prewait c.number)) refl refl) refl refl refl refl
            (fields_of-prewait word small (omega arith)
            ∙ prewait_shows k s history w r id me.0 c at has (fields_of word)
            (fields_of word).epoch here) (λ was. was),
        (refl, refl),
      )

  pub consume_adds : (rowed : Bool) (old new : ℕ) → IsKind rowed k → MayCommit rowed k c
      → c.phase ≡ Pre → 0 < (fields_of old).signals → fields_of new ≡ consumed (fields_of old)
      → Exchanging k slots id me is (consumes rowed) old new
  consume_adds rowed old new kind may pre there offered =
      exchange_adds k slots id me is (consuming rowed) old new (λ s shows at hit.
      let history = shows.0 in let w = shows.1 in let r = shows.2 in
      let x = exchange_of old new old in let e = (shown_fields s.words).epoch in
      let here = ap fields_of (sym hit) ∙ word_shows k s shows in
      let given = ap (λ f. f.signals) here in
      let same = alike k s history w r id me.0 c at has rowed in
      acted k slots id me is s shows at (consuming rowed c x) (λ ws was. was)
      (commit_events rowed c.number)
      (taken k s history w r id me.0 c at has rowed kind may pre) new
      (consume_fits k s history w r id me.0 c at has rowed kind may pre x (omega arith))
      (rows_stay k s history w r id me.0 c at has rowed kind may pre) refl refl same.stack
      same.tokens
      (offered ∙ consume_shows k s history w r id me.0 c at has rowed kind may pre (fields_of old)
      e here (omega arith)) (λ was. was))

  pub cancel_adds : (old new : ℕ) → c.phase ≡ Pre → fields_of new ≡ cancelled (fields_of old)
      → Exchanging k slots id me is cancels old new
  cancel_adds old new pre offered = exchange_adds k slots id me is cancelling old new
      (λ s shows at hit.
      let history = shows.0 in let w = shows.1 in let r = shows.2 in
      let x = exchange_of old new old in let e = (shown_fields s.words).epoch in
      let here = ap fields_of (sym hit) ∙ word_shows k s shows in
      acted k slots id me is s shows at (cancelling c x) (λ ws was. was) (Cancel c.number ∷ [])
      (effect w (Cancel c.number)) new
      (cancel_fits k s history w r id me.0 c at has x pre)
      (same_rows w (effect w (Cancel c.number)) refl refl) refl refl refl refl
      (offered ∙ cancel_shows k s history w r id me.0 c at has (fields_of old) e here pre)
      (λ was. was))

  pub signal_adds : (old new : ℕ) → c.phase ≡ Running → c.owing ≡ []
      → (fields_of old).signals < (fields_of old).pre → fields_of new ≡ signalled (fields_of old)
      → Exchanging k slots id me is signals old new
  signal_adds old new running none_owed room offered =
      exchange_adds k slots id me is signalling old new
      (λ s shows at hit.
      let history = shows.0 in let w = shows.1 in let r = shows.2 in
      let x = exchange_of old new old in let e = (shown_fields s.words).epoch in
      let here = ap fields_of (sym hit) ∙ word_shows k s shows in
      let pre = ap (λ f. f.pre) here in let given = ap (λ f. f.signals) here in
      acted k slots id me is s shows at (signalling c x) (λ ws was. was) (Notify c.number ∷ [])
      (answered w c.number) new
      (signal_fits k s history w r id me.0 c at has x running none_owed (omega arith))
      (same_rows w (answered w c.number) refl refl) refl refl refl refl
      (offered ∙ signal_shows k s history w r id me.0 c at has (fields_of old) e here
      (omega arith)) (λ was. was))

  pub look_keeps : (rowed : Bool) → IsKind rowed k
      → Allows (ShowsWorld k) slots id me STATE (λ n. n)
      (looks rowed (step slots STATE 0 0 none) me)
  look_keeps rowed kind =
      allowed k slots id me is STATE 0 0 (λ n. n) (looks rowed) (look_adds rowed kind)

  pub prewait_keeps : (rowed : Bool) → IsKind rowed k → MayPrewait rowed c → c.number < k.waiters
      → c.phase ≡ Running → c.owing ≡ []
      → Allows (ShowsWorld k) slots id me STATE (λ n. (n + 16384) % 2 ^ 64)
      (prewaits (step slots STATE 16384 0 none) me)
  prewait_keeps rowed kind silent waiter running none_owed =
      allowed k slots id me is STATE 16384 0 (λ n. (n + 16384) % 2 ^ 64) prewaits
      (prewait_adds rowed kind silent waiter running none_owed)

  pub consume_keeps : (rowed : Bool) (old new : ℕ) → IsKind rowed k → MayCommit rowed k c
      → c.phase ≡ Pre → 0 < (fields_of old).signals → fields_of new ≡ consumed (fields_of old)
      → ExchangeAllowed k slots id me is (consumes rowed) old new
  consume_keeps rowed old new kind may pre there offered =
      exchange_allowed k slots id me is (consumes rowed) old new
      (consume_adds rowed old new kind may pre there offered)

  pub cancel_keeps : (old new : ℕ) → c.phase ≡ Pre → fields_of new ≡ cancelled (fields_of old)
      → ExchangeAllowed k slots id me is cancels old new
  cancel_keeps old new pre offered = exchange_allowed k slots id me is cancels old new
      (cancel_adds old new pre offered)

  pub signal_keeps : (old new : ℕ) → c.phase ≡ Running → c.owing ≡ []
      → (fields_of old).signals < (fields_of old).pre → fields_of new ≡ signalled (fields_of old)
      → ExchangeAllowed k slots id me is signals old new
  signal_keeps old new running none_owed room offered =
      exchange_allowed k slots id me is signals old new
      (signal_adds old new running none_owed room offered)

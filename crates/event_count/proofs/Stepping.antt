-- A step on the state word, by the seat of a table, that finds what it expects or misses it.
use Rattle.std.proofs.Common.{◌≢◌, ◌≡◌, ℕ, ◌==◌, List, [], ◌∷◌, sym, ap, refl, ◌∙◌, subst}
use Rattle.std.proofs.Common.{slice_index, arith, MatchBool, eq-eqb, ne_eqb, ◌++◌, slice_set}
use Rattle.std.proofs.Common.{◌<◌, ◌^◌}
use Rattle.std.proofs.Common.{⊎_elim}
use Rattle.std.proofs.lemmas.Bool.{cases_eq}
use mathlib.Core.Option.{some, none}
use lib.ListN.{get_elem?}
use prog.Atomic.{either}
use Rattle.atomic_table.specs.Table.{stepped, step, keeps, Allows}
use Rattle.atomic_table.proofs.Lists.{exchanged}
use Rattle.event_word.specs.declared.event.Event.{Event}
use Rattle.event_word.specs.Fields.{fields_of}
use Rattle.event_word.specs.Lists.{times}
use Rattle.event_word.specs.Balance.{push_of, over}
use Rattle.event_word.specs.Shown.{shown}
use Rattle.event_word.specs.World.{World}
use Rattle.event_count.specs.declared.rule.TheConstants.{STATE}
use Rattle.event_count.specs.declared.rule.RowSizes.{RowSizes}
use Rattle.event_count.specs.declared.view.Exchange.{Exchange}
use Rattle.event_count.specs.declared.view.Card.{Card}
use Rattle.event_count.specs.declared.view.View.{View}
use Rattle.event_count.specs.Cards.{exchange_of, only, card_in}
use Rattle.event_count.specs.Gains.{exchanging}
use Rattle.event_count.specs.Plays.{Sat, Told, Gain, exchanges, becomes}
use Rattle.event_count.specs.Shown.{CountState, ShowsWorld, Shows}
use Rattle.event_count.specs.Steps.{Adds}
use Rattle.event_count.specs.Kept.{Knows, Links}
use Rattle.event_count.specs.Written.{shown_fields}
use Rattle.event_count.specs.Known.{next_epoch}
use Rattle.event_count.proofs.Words.{word_shows, knows_on, frame_same, next_state, written_still}
use Rattle.event_count.proofs.Words.{links_on, SameRows, same_rows}
use Rattle.event_count.proofs.Steps.{Fitting, Wording, acts, fits_none, epochs_after, pushes_none}

module _ (k : RowSizes) (s : CountState) (history : List Event) (w : World)
    (r : Shows k s history w) (id : ℕ) (v : View) (c : Card)
    (at : get_elem? s.views id ≡ some v) (is : v.cards ≡ c ∷ []) where
  -- the epochs before
  abbrev es : ℕ → ℕ
  es = next_epoch k history

  -- events that push nobody leave the epochs
  pub same_epochs : (events : List Event) (u : World) (d : Card) → Fitting k w u events c d
      → d.epoch ≡ c.epoch → (n : ℕ) → next_epoch k (history ++ events) n ≡ es n
  same_epochs events u d f still n =
      let more = epochs_after k s history w r id v c at is events n in ⊎_elim
      (λ eq. let mine = f.epoch in
      let same = ap (λ m. over (push_of m) w events) eq in omega arith)
      (λ ne. let none = pushes_none c.number n ne w events f.by in omega arith)
      (cases_eq n c.number)

  -- a new state word with the stack as it was
  pub state_still : (events : List Event) (u : World) (d : Card) (n : ℕ)
      → Fitting k w u events c d → SameRows w u → d.epoch ≡ c.epoch → u.stack ≡ w.stack
      → u.tokens ≡ w.tokens
      → fields_of n ≡ shown u (shown_fields s.words).epoch
      → (Knows (slice_set s.words STATE n) u (next_epoch k (history ++ events)) c
      → Knows (slice_set s.words STATE n) u (next_epoch k (history ++ events)) d)
      → (Links s.words c → Links (slice_set s.words STATE n) d)
      → Wording k s.words (slice_set s.words STATE n) w u es (next_epoch k (history ++ events)) c d
  state_still events u d n f same still stack tokens shows reads links =
      let words' = slice_set s.words STATE n in let es' = next_epoch k (history ++ events) in
      let epochs = same_epochs events u d f still in
      let frame = frame_same s.words words' w u es es' epochs
      (λ m there. (let e = ap (times m) stack in omega arith, next_state s.words n m)) in
      let on : (x : Card) → Knows s.words w es x → Knows words' u es' x = λ x was.
      knows_on s.words words' w u es es' x.number x.stored x.stored x.looked x.next frame
      (next_state s.words n x.number ∙ was.stores) was in record {
        written = written_still k s.words es w r.written u es' n same stack tokens epochs shows;
        mine = λ was. reads (on c was);
        others = λ x _ was. on x was;
        links = λ was. links was;
        others_links = λ x _ _ was.
            links_on s.words words' x.linked x.owing (λ m _. next_state s.words n m) was;
      }

module _ (k : RowSizes) (slots id : ℕ) (me : Sat) (is : me.0 ≡ only (card_in me.0)) where
  -- the card of the seat that steps
  abbrev pub c : Card
  c = card_in me.0

  -- its view has this one card
  pub has : me.0.cards ≡ c ∷ []
  has = ap (λ v. v.cards) is

  -- what the step adds, after which the word at a place is n and the card is d, and no slot is taken
  abbrev pub After : (s : CountState) → ShowsWorld k s → ℕ → ℕ → Card → Type 0
  After s shows place n d = (events : List Event) × (u : World)
      × Adds k shows.0 shows.1 c d (stepped s place n id me.1 (only d) keeps) events u

  -- whenever the seat takes the step, it adds its events, and its play is so
  abbrev pub Advances : ℕ → ℕ → ℕ → (ℕ → ℕ) → Told → Type 0
  Advances place a b f told =
      (s : CountState) (shows : ShowsWorld k s) → get_elem? s.views id ≡ some me.0
      → slice_index s.words place < 2 ^ 64
      → (d : Card) × After s shows place (f (slice_index s.words place)) d
      × told (step slots place a b none) me (slice_index s.words place) (only d, me.1)

  -- and so the rule allows it
  pub allowed : (place a b : ℕ) (f : ℕ → ℕ) (told : Told) → Advances place a b f told
      → Allows (ShowsWorld k) slots id me place f (told (step slots place a b none) me)
  allowed place a b f told advances s shows _ at small =
      let done = advances s shows at small in
      let after = done.1 in (
        only done.0,
        keeps,
        tt,
        (shows.0 ++ after.0, after.1, after.2.shows),
        done.2,
      )

  module _ (s : CountState) (shows : ShowsWorld k s) (at : get_elem? s.views id ≡ some me.0) where
    -- a step on the state word that is these events, and leaves the stack
    pub acted : (d : Card) → ((ws : List ℕ) → Links ws c → Links ws d)
        → (events : List Event) (u : World) (n : ℕ)
        → Fitting k shows.1 u events c d → SameRows shows.1 u → d.credits ≡ c.credits
        → d.epoch ≡ c.epoch → u.stack ≡ shows.1.stack
        → u.tokens ≡ shows.1.tokens → fields_of n ≡ shown u (shown_fields s.words).epoch
        → (Knows (slice_set s.words STATE n) u (next_epoch k (shows.0 ++ events)) c
        → Knows (slice_set s.words STATE n) u (next_epoch k (shows.0 ++ events)) d)
        → After s shows STATE n d
    acted d same events u n f rows credits still stack tokens is' reads = (
      events,
      u,
      acts k s shows.0 shows.1 shows.2 id me.0 c at has events u d STATE n me.1 is credits
          rows.lengths (λ e. absurd (omega arith)) f
          (state_still k s shows.0 shows.1 shows.2 id me.0 c at has events u d n f rows still stack
          tokens
          is' reads
          (λ was. same (slice_set s.words STATE n)
          (links_on s.words (slice_set s.words STATE n) c.linked c.owing
          (λ m _. next_state s.words n m) was))),
    )

    -- an exchange that found another word
    pub missed : (x : Exchange) → After s shows STATE (slice_index s.words STATE) (exchanging c x)
    missed x = acted (exchanging c x) (λ ws was. was) [] shows.1 (slice_index s.words STATE)
        (fits_none k s shows.0 shows.1 shows.2 id me.0 c at has (exchanging c x)
        refl refl refl refl refl refl refl refl refl refl)
        (same_rows shows.1 shows.1 refl refl) refl refl refl refl (word_shows k s shows)
        (λ was. was)

  -- an exchange of the state word
  abbrev pub Exchanging : Gain → ℕ → ℕ → Type 0
  Exchanging gain old new =
      Advances STATE old new (λ n. either (n == old) new n) (exchanges gain)

  -- one that finds the expected word is what the seat gains by it, and another is no event
  pub gain_adds : (gain : Gain) (old new : ℕ)
      → ((s : CountState) (shows : ShowsWorld k s) → get_elem? s.views id ≡ some me.0
      → slice_index s.words STATE ≡ old
      → (d : Card) × After s shows STATE new d × gain c (exchange_of old new old) (only d))
      → Exchanging gain old new
  gain_adds gain old new wins s shows at _ =
      let word = slice_index s.words STATE in
      let Won : View → Type 0 = gain c (exchange_of old new old) in
      let lost : Card = exchanging c (exchange_of old new word) in
      exchanged word old new
      (λ x. (d : Card) × After s shows STATE x d
      × exchanges gain (step slots STATE old new none) me word (only d, me.1))
      (λ hit. let won = wins s shows at hit in (
        won.0,
        won.1,
        (
          refl,
          refl,
          subst (λ b. MatchBool b (Won (only won.0)) ((word ≢ old) × (only won.0 ≡ only lost)))
              (sym (eq-eqb word old hit)) won.2,
        ),
      ))
      (λ miss. (
        lost,
        missed s shows at (exchange_of old new word),
        (
          refl,
          refl,
          subst (λ b. MatchBool b (Won (only lost)) ((word ≢ old) × (only lost ≡ only lost)))
              (sym (ne_eqb word old miss)) (miss, refl),
        ),
      ))

  -- an exchange whose gain is one card
  pub exchange_adds : (gains : Card → Exchange → Card) (old new : ℕ)
      → ((s : CountState) (shows : ShowsWorld k s) → get_elem? s.views id ≡ some me.0
      → slice_index s.words STATE ≡ old → After s shows STATE new (gains c (exchange_of old new old)))
      → Exchanging (becomes gains) old new
  exchange_adds gains old new wins = gain_adds (becomes gains) old new (λ s shows at hit.
      (gains c (exchange_of old new old), wins s shows at hit, refl))

  -- the rule allows it
  abbrev pub ExchangeAllowed : Gain → ℕ → ℕ → Type 0
  ExchangeAllowed gain old new =
      Allows (ShowsWorld k) slots id me STATE (λ n. either (n == old) new n)
      (exchanges gain (step slots STATE old new none) me)

  pub exchange_allowed : (gain : Gain) (old new : ℕ) → Exchanging gain old new
      → ExchangeAllowed gain old new
  exchange_allowed gain old new adds =
      allowed STATE old new (λ n. either (n == old) new n) (exchanges gain) adds

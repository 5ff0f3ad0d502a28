-- Unparks, tokens, and loads of the next words of seats that are owed: they add their events, and
-- so keep the rule.
use Rattle.std.proofs.Common.{◌≡◌, ℕ, ◌<◌, ◌==◌, List, [], ◌∷◌, sym, ap, refl, ◌∙◌, subst}
use Rattle.std.proofs.Common.{slice_index, arith, MatchBool, ◌≤◌, ◌++◌, append-nil, slice_set}
use Rattle.std.proofs.Common.{length, true, false, Bool, get_or, zero, suc, ⊎_elim}
use Rattle.std.proofs.lemmas.Bool.{cases_lt}
use Rattle.std.proofs.lemmas.List.{get_or_past}
use mathlib.Core.Option.{some, none}
use lib.ListN.{get_elem?}
use Rattle.atomic_table.specs.Table.{step, Allows}
use Rattle.event_word.specs.declared.phase.Phase.TheVariants.{Stacked}
use Rattle.event_word.specs.declared.event.Event.{Event}
use Rattle.event_word.specs.declared.event.Event.TheVariants.{Unpark, Wake}
use Rattle.event_word.specs.Fields.{fields_of}
use Rattle.event_word.specs.Word.{nobody}
use Rattle.event_word.specs.Lists.{one_if, times, total}
use Rattle.event_word.proofs.Lists.{one_if-same, at-le-total}
use Rattle.event_word.specs.Shown.{top_of}
use Rattle.event_word.specs.World.{World, phase_of, has_token, owed_by}
use Rattle.event_word.specs.Step.{effect}
use Rattle.event_word.proofs.Keeps.{stacked_known}
use Rattle.event_count.specs.declared.rule.RowSizes.{RowSizes}
use Rattle.event_count.specs.declared.view.Card.{Card}
use Rattle.event_count.specs.Places.{next_place, parker_place}
use Rattle.event_count.specs.Cards.{only, card_in}
use Rattle.event_count.specs.Gains.{polling, unparking, waking, foremost, behind, NamesFirst}
use Rattle.event_count.specs.Plays.{Sat, unparks, wakes, follows}
use Rattle.event_count.specs.Shown.{CountState, ShowsWorld}
use Rattle.event_count.specs.Kept.{Knows, Links, AreLinked, Chain}
use Rattle.event_count.specs.Known.{next_epoch}
use Rattle.event_count.specs.Written.{Written}
use Rattle.event_count.proofs.Words.{knows_on, frame_same, next_parker, written_parker, links_on}
use Rattle.event_count.proofs.Words.{links_behind, SameRows, same_rows}
use Rattle.event_count.proofs.Steps.{Fitting, acts, fits_none, truth, linkage}
use Rattle.event_count.proofs.Events.{law, sizes, unparked, owed_known, unpark_fits}
use Rattle.event_count.proofs.Events.{is_stacked, wake_fits}
use Rattle.event_count.proofs.Stepping.{After, Advances, allowed, same_epochs}
use Rattle.event_count.proofs.Looking.{sleeps_known}
use Rattle.event_count.proofs.Stacking.{set_same}

set_token : (l : List Bool) (i : ℕ) → get_or l i false ≡ false → slice_set l i false ≡ l
set_token [] i e = refl
set_token (x ∷ xs) zero e = ap (λ y. y ∷ xs) (sym e)
set_token (x ∷ xs) (suc i) e = ap (λ ys. x ∷ ys) (set_token xs i e)

module _ (k : RowSizes) (slots id : ℕ) (me : Sat) (is : me.0 ≡ only (card_in me.0)) where
  -- the card of the seat that steps
  abbrev c : Card
  c = card_in me.0

  -- its view has this one card
  has : me.0.cards ≡ c ∷ []
  has = ap (λ v. v.cards) is

  -- a parker word of a seat, with its token
  parked : (s : CountState) (shows : ShowsWorld k s) (at : get_elem? s.views id ≡ some me.0)
      → (events : List Event) (u : World) (d : Card) (seat : ℕ) (b : Bool)
      → Fitting k shows.1 u events c d → SameRows shows.1 u → d.credits ≡ c.credits
      → d.epoch ≡ c.epoch → u.stack ≡ shows.1.stack
      → u.pre ≡ shows.1.pre → u.signals ≡ shows.1.signals
      → u.tokens ≡ slice_set shows.1.tokens seat b → seat < k.waiters
      → ((words : List ℕ) (es : ℕ → ℕ) → Knows words u es c → Knows words u es d)
      → ((words : List ℕ) → Links words c → Links words d)
      → After k slots id me is s shows (parker_place seat) (one_if b) d
  parked s shows at events u d seat b f rows credits still stack pre signals tokens known reads linked =
      let history = shows.0 in let w = shows.1 in let r = shows.2 in
      let es = next_epoch k history in let es' = next_epoch k (history ++ events) in
      let n = one_if b in
      let words' = slice_set s.words (parker_place seat) n in
      let epochs = same_epochs k s history w r id me.0 c at has events u d f still in
      let frame = frame_same s.words words' w u es es' epochs
      (λ m there. (let e = ap (times m) stack in omega arith, next_parker s.words n seat m)) in
      let on : (x : Card) → Knows s.words w es x → Knows words' u es' x = λ x was.
      knows_on s.words words' w u es es' x.number x.stored x.stored x.looked x.next frame
      (next_parker s.words n seat x.number ∙ was.stores) was in (
        events,
        u,
        acts k s history w r id me.0 c at has events u d (parker_place seat) n me.1 is credits
            rows.lengths (λ e. absurd (omega arith)) f record {
              written = written_parker k s.words es w r.written u es' seat b rows stack (ap length pre) signals
                  tokens known (sizes k s history w r id me.0 c at has).tokens epochs;
              mine = λ was. reads words' es' (on c was);
              others = λ x _ was. on x was;
              links = λ was. linked words'
                  (links_on s.words words' c.linked c.owing (λ m _. next_parker s.words n seat m) was);
              others_links = λ x _ _ was.
                  links_on s.words words' x.linked x.owing (λ m _. next_parker s.words n seat m) was;
            },
      )

  -- the first seat owed gets its token
  pub unpark_adds : (seat : ℕ) (rest : List ℕ) → c.owing ≡ seat ∷ rest
      → Advances k slots id me is (parker_place seat) 1 0 (λ _. 1) unparks
  unpark_adds seat rest owing s shows at _ =
      let history = shows.0 in let w = shows.1 in let r = shows.2 in (
        unparking c,
        parked s shows at (Unpark c.number ∷ [])
            (unparked k s history w r id me.0 c at has seat rest) (unparking c) seat true
            (unpark_fits k s history w r id me.0 c at has seat rest owing)
            (same_rows w (unparked k s history w r id me.0 c at has seat rest) refl refl) refl refl
            refl refl refl refl (owed_known k s history w r id me.0 c at has seat rest owing)
            (λ words es was. was) (λ words was. links_behind words c.linked c.owing was),
        (ap (λ xs. parker_place (foremost xs)) (sym owing), refl),
      )

  -- a stacked seat takes its token, where it is there
  pub wake_adds : c.phase ≡ Stacked
      → Advances k slots id me is (parker_place c.number) 0 0 (λ _. 0) wakes
  wake_adds stacked s shows at _ =
      let history = shows.0 in let w = shows.1 in let r = shows.2 in
      let place = parker_place c.number in let word = slice_index s.words place in
      let phase = is_stacked k s history w r id me.0 c at has stacked in
      let waiter : c.number < k.waiters = let known = stacked_known w c.number phase in
      let phases = (sizes k s history w r id me.0 c at has).phases in omega arith in
      let token = r.written.tokens c.number waiter in
      by_token s shows at phase waiter token (has_token w c.number) refl
    where
      by_token : (s : CountState) (shows : ShowsWorld k s) (at : get_elem? s.views id ≡ some me.0)
          → phase_of shows.1 c.number ≡ Stacked → c.number < k.waiters
          → slice_index s.words (parker_place c.number) ≡ one_if (has_token shows.1 c.number)
          → (b : Bool) → has_token shows.1 c.number ≡ b
          → (d : Card) × After k slots id me is s shows (parker_place c.number) 0 d
          × wakes (step slots (parker_place c.number) 0 0 none) me
          (slice_index s.words (parker_place c.number)) (only d, me.1)
      by_token s shows at phase waiter token true there =
          let history = shows.0 in let w = shows.1 in let r = shows.2 in
          let d = polling c in let won = only (waking d) in let one = token ∙ ap one_if there in (
            waking d,
            parked s shows at (Wake c.number ∷ []) (effect w (Wake c.number)) (waking d) c.number
                false (wake_fits k s history w r id me.0 c at has stacked there)
                (same_rows w (effect w (Wake c.number)) refl refl) refl refl
                refl refl refl refl waiter (λ words es was. was) (λ words was. was),
            (refl, refl, subst (λ m. MatchBool (m == 0) (won ≡ only d) (won ≡ won)) (sym one) refl),
          )
      by_token s shows at phase waiter token false there =
          let history = shows.0 in let w = shows.1 in let r = shows.2 in
          let d = polling c in let lost = only d in
          let none_there = token ∙ ap one_if there in (
            d,
            parked s shows at [] w d c.number false
                (fits_none k s history w r id me.0 c at has d refl refl refl refl refl refl refl refl refl refl)
                (same_rows w w refl refl) refl refl refl refl refl (sym (set_token w.tokens c.number there)) waiter
                (λ words es was. was) (λ words was. was),
            (
              refl,
              refl,
              subst (λ m. MatchBool (m == 0) (lost ≡ lost) (lost ≡ only (waking d)))
                  (sym none_there) refl,
            ),
          )

  -- an unpark, where the place was found from the seat that is owed
  pub unpark_keeps_at : (place seat : ℕ) (rest : List ℕ) → c.owing ≡ seat ∷ rest
      → place ≡ parker_place seat
      → Allows (ShowsWorld k) slots id me place (λ _. 1)
      (λ _. unparks (step slots place 1 0 none) me 1)
  unpark_keeps_at place seat rest owing at =
      subst (λ p. Allows (ShowsWorld k) slots id me p (λ _. 1)
      (λ _. unparks (step slots p 1 0 none) me 1)) (sym at)
      (allowed k slots id me is (parker_place seat) 1 0 (λ _. 1) unparks
      (unpark_adds seat rest owing))

  pub wake_keeps_at : (place : ℕ) → c.phase ≡ Stacked → place ≡ parker_place c.number
      → Allows (ShowsWorld k) slots id me place (λ _. 0) (wakes (step slots place 0 0 none) me)
  wake_keeps_at place stacked at =
      subst (λ p. Allows (ShowsWorld k) slots id me p (λ _. 0) (wakes (step slots p 0 0 none) me))
      (sym at) (allowed k slots id me is (parker_place c.number) 0 0 (λ _. 0) wakes
      (wake_adds stacked))

  -- a seat that is owed has a waiter's number
  owed_waiter : (s : CountState) (shows : ShowsWorld k s) (at : get_elem? s.views id ≡ some me.0)
      → (n : ℕ) → 0 < times n c.owing → (n < c.waiters) × (c.waiters < nobody)
  owed_waiter s shows at n more = let history = shows.0 in let w = shows.1 in let r = shows.2 in
      let stands = (law k s history w r id me.0 c at has).standing n in
      let mine = truth k s history w r id me.0 c at has in
      let owed = ap (times n) mine.owing in let waiters = mine.waiters in let few = r.few in
      let among : times n (owed_by w c.number) ≤ total (times n) w.owed = ⊎_elim
      (λ less. at-le-total (times n) w.owed c.number [] less)
      (λ le. let none_there = ap (times n) (get_or_past w.owed c.number [] le) in omega arith)
      (cases_lt c.number (length w.owed)) in
      let known = sleeps_known w n (omega arith) in
      let phases = (sizes k s history w r id me.0 c at has).phases in (omega arith, omega arith)

  pub names_first : (s : CountState) (shows : ShowsWorld k s)
      (at : get_elem? s.views id ≡ some me.0)
      → (word : ℕ) (rest : List ℕ) → (fields_of word).top ≡ top_of rest
      → ((n : ℕ) → 0 < times n rest → (n < c.waiters) × (c.waiters < nobody))
      → NamesFirst c.waiters word rest
  names_first s shows at word [] top known = top
  names_first s shows at word (seat ∷ rest) top known = let one = one_if-same seat seat refl in
      let here = known seat (omega arith) in (top, here.0, here.1)

  -- a load of the next word of the first seat owed
  pub follow_adds : (seat : ℕ) (rest : List ℕ) → c.owing ≡ seat ∷ rest
      → Advances k slots id me is (next_place seat) 0 0 (λ n. n) follows
  follow_adds seat rest owing s shows at _ =
      let history = shows.0 in let w = shows.1 in let r = shows.2 in
      let place = next_place seat in let n = slice_index s.words place in
      let words' = slice_set s.words place n in
      let same : words' ≡ s.words = set_same s.words place in
      let es' = next_epoch k (history ++ []) in
      let f = fits_none k s history w r id me.0 c at has c refl refl refl refl refl refl refl refl refl refl in
      let again : history ++ [] ≡ history = append-nil history in
      let on : (x : Card) → Knows s.words w (next_epoch k history) x → Knows words' w es' x =
      λ x was. subst (λ ws. Knows ws w es' x) (sym same)
      (subst (λ h. Knows s.words w (next_epoch k h) x) (sym again) was) in
      let links = linkage k s history w r id me.0 c at has in (
        c,
        (
          [],
          w,
          acts k s history w r id me.0 c at has [] w c place n me.1 is refl refl
              (λ e. absurd (omega arith)) f record {
                written = subst (λ ws. Written k ws w es') (sym same)
                    (subst (λ h. Written k s.words w (next_epoch k h)) (sym again) r.written);
                mine = λ was. on c was;
                others = λ x _ was. on x was;
                links = λ was. subst (λ ws. Links ws c) (sym same) was;
                others_links = λ x _ _ was. subst (λ ws. Links ws x) (sym same) was;
              },
        ),
        (
          ap (λ xs. next_place (foremost xs)) (sym owing),
          (λ i. (sym is i, me.1)),
          λ chained. let chain = subst (Chain s.words) owing
              (subst (λ b. AreLinked s.words b c.owing) chained links) in
              subst (λ xs. NamesFirst c.waiters n (behind xs)) (sym owing)
              (names_first s shows at n rest chain.0 (λ m more. owed_waiter s shows at m
              (let e = ap (times m) owing in omega arith))),
        ),
      )

  -- a load of the next word, where the place was found from the seat that is owed
  pub follow_keeps_at : (place seat : ℕ) (rest : List ℕ) → c.owing ≡ seat ∷ rest
      → place ≡ next_place seat
      → Allows (ShowsWorld k) slots id me place (λ n. n) (follows (step slots place 0 0 none) me)
  follow_keeps_at place seat rest owing at =
      subst (λ p. Allows (ShowsWorld k) slots id me p (λ n. n) (follows (step slots p 0 0 none) me))
      (sym at) (allowed k slots id me is (next_place seat) 0 0 (λ n. n) follows
      (follow_adds seat rest owing))

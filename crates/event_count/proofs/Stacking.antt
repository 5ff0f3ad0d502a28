-- The steps that make the stack add their events, and so keep the rule: a store below it, a push, a read and a pop.
use Rattle.std.proofs.Common.{◌≢◌, ◌≡◌, ℕ, ◌+◌, ◌<◌, ◌==◌, Bool, List, [], ◌∷◌, sym, ap, refl, ◌∙◌, subst}
use Rattle.std.proofs.Common.{slice_index, arith, ◌++◌, append-nil, slice_set, Some, IfSome, length}
use Rattle.std.proofs.Common.{zero, suc, ⊎_elim, get_or-set_same}
use Rattle.std.proofs.lemmas.Bool.{cases_eq, cases_lt}
use Rattle.std.proofs.lemmas.List.{get_or_past}
use mathlib.Core.Option.{some, none}
use lib.ListN.{get_elem?}
use Rattle.atomic_table.specs.Table.{step, Allows}
use Rattle.event_word.specs.declared.phase.Phase.TheVariants.{Running, Pre}
use Rattle.event_word.specs.declared.event.Event.{Event}
use Rattle.event_word.specs.declared.event.Event.TheVariants.{Notify}
use Rattle.event_word.specs.Fields.{fields_of}
use Rattle.event_word.specs.Word.{pushed, popped, below, nobody}
use Rattle.event_word.specs.Lists.{one_if, times}
use Rattle.event_word.specs.Balance.{push_of, over}
use Rattle.event_word.proofs.Lists.{one_if-same, one_if-other, at-le-total}
use Rattle.event_word.specs.Shown.{top_of, shown}
use Rattle.event_word.specs.World.{owed_by}
use Rattle.event_word.specs.Step.{park}
use Rattle.event_word.specs.Lawful.{sleeps}
use Rattle.event_count.specs.declared.rule.TheConstants.{STATE}
use Rattle.event_count.specs.declared.rule.RowSizes.{RowSizes}
use Rattle.event_count.specs.declared.view.Card.{Card}
use Rattle.event_count.specs.Places.{next_place}
use Rattle.event_count.specs.Cards.{exchange_of, only, card_in}
use Rattle.event_count.specs.Gains.{commit_events, pushing, popping, reading, storing}
use Rattle.event_count.specs.Kinds.{IsKind, MayCommit}
use Rattle.event_count.specs.Plays.{Sat, pushes, pops, reads, stores}
use Rattle.event_count.specs.Shown.{CountState, ShowsWorld}
use Rattle.event_count.specs.Kept.{Knows, IsKept, Links}
use Rattle.event_count.specs.Written.{Leads, shown_fields, next_fields, Written}
use Rattle.event_count.specs.Known.{next_epoch}
use Rattle.event_count.proofs.Words.{word_shows, knows_on, frame_same, frame_push, next_state}
use Rattle.event_count.proofs.Words.{next_next, leads_top, written_push, written_pop, written_next}
use Rattle.event_count.proofs.Words.{links_on, same_rows}
use Rattle.event_count.proofs.Steps.{acts, fits_none, epochs_after, pushes_none, truth, knowledge}
use Rattle.event_count.proofs.Events.{law, is_pre, taken_off, pop_fits, pop_shows}
use Rattle.event_count.proofs.RowSteps.Committing.{alike, ready, push_fits, push_shows}
use Rattle.event_count.proofs.Stepping.{After, Advances, Exchanging, ExchangeAllowed, allowed}
use Rattle.event_count.proofs.Stepping.{same_epochs, exchange_adds, exchange_allowed}

-- a word that is stored where it stands
pub set_same : (l : List ℕ) (i : ℕ) → slice_set l i (slice_index l i) ≡ l
set_same [] i = refl
set_same (x ∷ xs) zero = refl
set_same (x ∷ xs) (suc i) = ap (λ ys. x ∷ ys) (set_same xs i)

module _ (k : RowSizes) (slots id : ℕ) (me : Sat) (is : me.0 ≡ only (card_in me.0)) where
  -- the card of the seat that steps
  abbrev c : Card
  c = card_in me.0

  -- its view has this one card
  has : me.0.cards ≡ c ∷ []
  has = ap (λ v. v.cards) is

  -- a seat that is no stacked one is not on the stack
  off_stack : (s : CountState) (shows : ShowsWorld k s) (at : get_elem? s.views id ≡ some me.0)
      → c.phase ≡ Pre → times c.number shows.1.stack ≡ 0
  off_stack s shows at pre = let history = shows.0 in let w = shows.1 in let r = shows.2 in
      let stands = (law k s history w r id me.0 c at has).standing c.number in
      let phase = ap sleeps (is_pre k s history w r id me.0 c at has pre) in omega arith

  -- nor does anybody owe it
  off_owed : (s : CountState) (shows : ShowsWorld k s) (at : get_elem? s.views id ≡ some me.0)
      → c.phase ≡ Pre → (actor : ℕ) → times c.number (owed_by shows.1 actor) ≡ 0
  off_owed s shows at pre actor = let history = shows.0 in let w = shows.1 in let r = shows.2 in
      let stands = (law k s history w r id me.0 c at has).standing c.number in
      let phase = ap sleeps (is_pre k s history w r id me.0 c at has pre) in ⊎_elim
      (λ less. let among = at-le-total (times c.number) w.owed actor [] less in omega arith)
      (λ le. ap (times c.number) (get_or_past w.owed actor [] le))
      (cases_lt actor (length w.owed))

  -- the store of a pre-waiter's own next word
  pub store_adds : (n : ℕ) → c.phase ≡ Pre → c.number < k.waiters
      → Advances k slots id me is (next_place c.number) n 0 (λ _. n) stores
  store_adds n pre waiter s shows at _ =
      let history = shows.0 in let w = shows.1 in let r = shows.2 in
      let d = storing c n in let place = next_place c.number in
      let es = next_epoch k history in let es' = next_epoch k (history ++ []) in
      let words' = slice_set s.words place n in
      let f = fits_none k s history w r id me.0 c at has d refl refl refl refl refl refl refl refl refl refl in
      let epochs = same_epochs k s history w r id me.0 c at has [] w d f refl in
      let off = off_stack s shows at pre in
      let room = r.written.room in
      let frame = frame_same s.words words' w w es es' epochs
      (λ m there. (
        there,
        next_next s.words n c.number m
            (λ eq. let e = ap (λ j. times j w.stack) eq in absurd (omega arith)),
      )) in (
        d,
        (
          [],
          w,
          acts k s history w r id me.0 c at has [] w d place n me.1 is refl refl
              (λ e. absurd (omega arith)) f record {
                written = written_next k s.words es w r.written w es' c.number n waiter refl epochs
                    off;
                mine = λ was. knows_on s.words words' w w es es' c.number c.stored n c.looked c.next frame
                    (get_or-set_same s.words place n 0 (omega arith)) was;
                others = λ x ne was.
                    knows_on s.words words' w w es es' x.number x.stored x.stored x.looked x.next frame
                    (next_next s.words n c.number x.number ne ∙ was.stores) was;
                links = λ was. links_on s.words words' c.linked c.owing
                    (λ m owed. next_next s.words n c.number m (λ eq.
                    let mine = truth k s history w r id me.0 c at has in
                    let off_list = off_owed s shows at pre c.number in
                    let a = ap (λ j. times j c.owing) eq in let b = ap (times c.number) mine.owing in
                    absurd (omega arith))) was;
                others_links = λ x _ owing was. links_on s.words words' x.linked x.owing
                    (λ m owed. next_next s.words n c.number m (λ eq.
                    let off_list = off_owed s shows at pre x.number in
                    let a = ap (λ j. times j x.owing) eq in let b = ap (times c.number) owing in
                    absurd (omega arith))) was;
              },
        ),
        (refl, refl),
      )

  -- a store, where the place was found from the seat's own number
  pub store_keeps_at : (place n : ℕ) → c.phase ≡ Pre → c.number < c.waiters
      → place ≡ next_place c.number
      → Allows (ShowsWorld k) slots id me place (λ _. n)
      (λ _. stores (step slots place n 0 none) me n)
  store_keeps_at place n pre waiter at =
      subst (λ p. Allows (ShowsWorld k) slots id me p (λ _. n)
      (λ _. stores (step slots p n 0 none) me n)) (sym at)
      (allowed k slots id me is (next_place c.number) n 0 (λ _. n) stores
      (λ s shows there small. store_adds n pre
      (let t = (truth k s shows.0 shows.1 shows.2 id me.0 c there has).waiters in omega arith)
      s shows there small))

  -- a commit that pushes: the next word has the looked stack and epoch
  pub push_adds : (rowed : Bool) (old new : ℕ) → IsKind rowed k → MayCommit rowed k c
      → c.phase ≡ Pre → (fields_of old).signals ≡ 0
      → fields_of new ≡ pushed (fields_of old) c.number c.epoch
      → fields_of c.stored ≡ below (fields_of old)
      → Exchanging k slots id me is (pushes rowed) old new
  push_adds rowed old new kind may pre none_given offered stored =
      exchange_adds k slots id me is (pushing rowed) old new (λ s shows at hit.
      let history = shows.0 in let w = shows.1 in let r = shows.2 in
      let x = exchange_of old new old in let e = (shown_fields s.words).epoch in
      let here = ap fields_of (sym hit) ∙ word_shows k s shows in
      let given = ap (λ f. f.signals) here in
      let events : List Event = commit_events rowed c.number in
      let same = alike k s history w r id me.0 c at has rowed in
      let u = park (ready k s history w r id me.0 c at has rowed) c.number in
      let stack : u.stack ≡ c.number ∷ w.stack = ap (λ xs. c.number ∷ xs) same.stack in
      let d = pushing rowed c x in
      let es = next_epoch k history in let es' = next_epoch k (history ++ events) in
      let words' = slice_set s.words STATE new in
      let f = push_fits k s history w r id me.0 c at has rowed kind may pre x (omega arith) in
      let mine = truth k s history w r id me.0 c at has in
      let epochs : (m : ℕ) → es' m ≡ es m + one_if (c.number == m) = λ m.
      let more = epochs_after k s history w r id me.0 c at has events m in ⊎_elim
      (λ eq. let once = f.epoch in let one = one_if-same c.number m eq in
      let alike_here = ap (λ j. over (push_of j) w events) eq in omega arith)
      (λ ne. let none_more = pushes_none c.number m (λ eq. ne (sym eq)) w events f.by in
      let none_here = one_if-other c.number m ne in omega arith)
      (cases_eq c.number m) in
      let knows = knowledge k s history w r id me.0 c at has in
      let under : next_fields s.words c.number ≡ below (shown_fields s.words) =
      ap fields_of knows.stores ∙ (stored ∙ ap (λ m. below (fields_of m)) (sym hit)) in
      let frame = frame_push s.words words' w u es es' c.number epochs stack
      (λ m. next_state s.words new m) in (
        events,
        u,
        acts k s history w r id me.0 c at has events u d STATE new me.1 is refl same.lengths
            (λ e. absurd (omega arith)) f record {
              written = written_push k s.words es w r.written u es' new c.number
                  (same_rows w u same.lengths same.stop) stack same.tokens epochs
                  (off_stack s shows at pre)
                  (offered ∙ (push_shows k s history w r id me.0 c at has rowed kind may pre
                  (fields_of old) e c.epoch here (omega arith) ∙ ap (λ m. shown u m) mine.epoch))
                  (ap (λ g. g.top) under) (ap (λ g. g.epoch) under);
              mine = λ was.
                  knows_on s.words words' w u es es' c.number c.stored c.stored c.looked c.next frame
                  (next_state s.words new c.number ∙ was.stores) was;
              others = λ y _ was.
                  knows_on s.words words' w u es es' y.number y.stored y.stored y.looked y.next frame
                  (next_state s.words new y.number ∙ was.stores) was;
              links = λ was.
                  links_on s.words words' c.linked c.owing (λ m _. next_state s.words new m) was;
              others_links = λ y _ _ was.
                  links_on s.words words' y.linked y.owing (λ m _. next_state s.words new m) was;
            },
      ))

  -- a load of the looked top's next word
  pub read_adds : (fields_of c.looked).top ≢ nobody
      → Advances k slots id me is (next_place (fields_of c.looked).top) 0 0 (λ n. n) reads
  read_adds there s shows at _ =
      let history = shows.0 in let w = shows.1 in let r = shows.2 in
      let top = (fields_of c.looked).top in
      let place = next_place top in let n = slice_index s.words place in
      let d = reading c n in
      let es = next_epoch k history in let es' = next_epoch k (history ++ []) in
      let words' = slice_set s.words place n in
      let same : words' ≡ s.words = set_same s.words place in
      let f = fits_none k s history w r id me.0 c at has d refl refl refl refl refl refl refl refl refl refl in
      let epochs = same_epochs k s history w r id me.0 c at has [] w d f refl in
      let again : history ++ [] ≡ history = append-nil history in (
        d,
        (
          [],
          w,
          acts k s history w r id me.0 c at has [] w d place n me.1 is refl refl
              (λ e. absurd (omega arith)) f record {
                written = subst (λ ws. Written k ws w es') (sym same)
                    (subst (λ h. Written k s.words w (next_epoch k h)) (sym again) r.written);
                mine = λ was. subst (λ ws. Knows ws w es' d) (sym same)
                    (subst (λ h. Knows s.words w (next_epoch k h) d) (sym again) record {
                      stores = was.stores;
                      past = λ ne. ((was.past ne).0, λ _ _. refl);
                    });
                others = λ x _ was. subst (λ ws. Knows ws w es' x) (sym same)
                    (subst (λ h. Knows s.words w (next_epoch k h) x) (sym again) was);
                links = λ was. subst (λ ws. Links ws c) (sym same) was;
                others_links = λ x _ _ was. subst (λ ws. Links ws x) (sym same) was;
              },
        ),
        (refl, refl),
      )

  -- a load, where the place was found from the looked word
  pub read_keeps_at : (place word : ℕ) → c.looked ≡ word → (fields_of word).top ≢ nobody
      → place ≡ next_place (fields_of word).top
      → Allows (ShowsWorld k) slots id me place (λ n. n) (reads (step slots place 0 0 none) me)
  read_keeps_at place word looked there at =
      subst (λ p. Allows (ShowsWorld k) slots id me p (λ n. n) (reads (step slots p 0 0 none) me))
      (ap (λ m. next_place (fields_of m).top) looked ∙ sym at)
      (allowed k slots id me is (next_place (fields_of c.looked).top) 0 0 (λ n. n) reads
      (read_adds (λ e. there (ap (λ m. (fields_of m).top) (sym looked) ∙ e))))

  -- a notification that pops the looked top, whose next word was read
  pub pop_adds : (old new next : ℕ) → c.phase ≡ Running → c.owing ≡ [] → c.looked ≡ old
      → c.next ≡ Some next → (fields_of old).top ≢ nobody
      → (fields_of old).signals ≡ (fields_of old).pre
      → fields_of new ≡ popped (fields_of old) (fields_of next)
      → Exchanging k slots id me is pops old new
  pop_adds old new next running none_owed looked read there full offered =
      exchange_adds k slots id me is popping old new (λ s shows at hit.
      popped_from s shows at hit shows.1.stack refl)
    where
      popped_from : (s : CountState) (shows : ShowsWorld k s)
          (at : get_elem? s.views id ≡ some me.0)
          → slice_index s.words STATE ≡ old → (stack : List ℕ) → shows.1.stack ≡ stack
          → After k slots id me is s shows STATE new (popping c (exchange_of old new old))
      popped_from s shows at hit [] empty = absurd (there (ap (λ m. (fields_of m).top) (sym hit)
          ∙ (leads_top s.words (next_epoch k shows.0) shows.1.stack (shown_fields s.words)
          shows.2.written.stack ∙ ap top_of empty)))
      popped_from s shows at hit (top ∷ rest) stack =
          let history = shows.0 in let w = shows.1 in let r = shows.2 in
          let x = exchange_of old new old in let e = (shown_fields s.words).epoch in
          let here = ap fields_of (sym hit) ∙ word_shows k s shows in
          let pre = ap (λ f. f.pre) here in let given = ap (λ f. f.signals) here in
          let events : List Event = Notify c.number ∷ [] in
          let u = taken_off k s history w r id me.0 c at has top rest in
          let d = popping c x in
          let es = next_epoch k history in let es' = next_epoch k (history ++ events) in
          let words' = slice_set s.words STATE new in
          let is_top : (fields_of old).top ≡ top =
          ap (λ f. f.top) here ∙ ap top_of stack in
          let f = pop_fits k s history w r id me.0 c at has x top rest running none_owed
          (omega arith) stack is_top in
          let epochs = same_epochs k s history w r id me.0 c at has events u d f refl in
          let leads = subst (λ xs. Leads s.words es xs (shown_fields s.words)) stack
          r.written.stack in
          let knows = knowledge k s history w r id me.0 c at has in
          let was_top : (fields_of c.looked).top ≡ top =
          ap (λ m. (fields_of m).top) looked ∙ is_top in
          let was_epoch : (fields_of c.looked).epoch ≡ (shown_fields s.words).epoch =
          ap (λ m. (fields_of m).epoch) (looked ∙ sym hit) in
          let kept = subst (λ o. IfSome o (IsKept s.words w es (fields_of c.looked).top
          (fields_of c.looked).epoch)) read
          (knows.past (λ eq. there (ap (λ m. (fields_of m).top) (sym looked) ∙ eq))).1 in
          let on_it = one_if-same top top refl in
          let among : 0 < times (fields_of c.looked).top w.stack =
          let a = ap (λ j. times j w.stack) was_top in
          let b = ap (times top) stack in omega arith in
          let last : es (fields_of c.looked).top ≡ (fields_of c.looked).epoch + 1 =
          ap es was_top ∙ (sym leads.1 ∙ ap (λ m. m + 1) (sym was_epoch)) in
          let right : slice_index s.words (next_place top) ≡ next =
          ap (λ j. slice_index s.words (next_place j)) (sym was_top) ∙ kept among last in
          let frame = frame_same s.words words' w u es es' epochs
          (λ m more. (let a = ap (times m) stack in omega arith, next_state s.words new m)) in (
            events,
            u,
            acts k s history w r id me.0 c at has events u d STATE new me.1 is refl refl
                (λ e. absurd (omega arith)) f record {
                  written = written_pop k s.words es w r.written u es' new top rest
                      (same_rows w u refl refl) stack refl refl epochs
                      (offered ∙ (ap (λ m. popped (fields_of old) (fields_of m)) (sym right)
                      ∙ pop_shows k s history w r id me.0 c at has (fields_of old)
                      (next_fields s.words top) e top rest here (omega arith) stack
                      (leads_top s.words es rest (next_fields s.words top) leads.2)));
                  mine = λ was.
                      knows_on s.words words' w u es es' c.number c.stored c.stored c.looked c.next frame
                      (next_state s.words new c.number ∙ was.stores) was;
                  others = λ y _ was.
                      knows_on s.words words' w u es es' y.number y.stored y.stored y.looked y.next frame
                      (next_state s.words new y.number ∙ was.stores) was;
                  links = λ _. let e = ap (λ xs. length (xs ++ (fields_of old).top ∷ [])) none_owed in
                      omega arith;
                  others_links = λ y _ _ was.
                      links_on s.words words' y.linked y.owing (λ m _. next_state s.words new m) was;
                },
          )

  pub push_keeps : (rowed : Bool) (old new : ℕ) → IsKind rowed k → MayCommit rowed k c
      → c.phase ≡ Pre → (fields_of old).signals ≡ 0
      → fields_of new ≡ pushed (fields_of old) c.number c.epoch
      → fields_of c.stored ≡ below (fields_of old)
      → ExchangeAllowed k slots id me is (pushes rowed) old new
  push_keeps rowed old new kind may pre none_given offered stored =
      exchange_allowed k slots id me is (pushes rowed) old new
      (push_adds rowed old new kind may pre none_given offered stored)

  pub pop_keeps : (old new next : ℕ) → c.phase ≡ Running → c.owing ≡ [] → c.looked ≡ old
      → c.next ≡ Some next → (fields_of old).top ≢ nobody
      → (fields_of old).signals ≡ (fields_of old).pre
      → fields_of new ≡ popped (fields_of old) (fields_of next)
      → ExchangeAllowed k slots id me is pops old new
  pop_keeps old new next running none_owed looked read there full offered =
      exchange_allowed k slots id me is pops old new
      (pop_adds old new next running none_owed looked read there full offered)

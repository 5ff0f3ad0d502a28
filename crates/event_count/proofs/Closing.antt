-- What the rule says at any moment, and once one seat has all cards.
use Rattle.std.proofs.Common.{◌≡◌, ℕ, zero, suc, ◌+◌, ◌≤◌, ◌<◌, ◌^◌, nat_lt, List, [], ◌∷◌, length}
use Rattle.std.proofs.Common.{◌++◌, map, reverse, slice_index, sym, ap, refl, ◌∙◌, subst, ⊎_elim}
use Rattle.std.proofs.Common.{arith, All, true}
use Rattle.std.proofs.lemmas.Bool.{cases_eq, lt-ltb}
use Rattle.std.proofs.lemmas.List.Elements.{All-nil, All-head, All-tail, All-append, All-same}
use Rattle.std.proofs.lemmas.List.Elements.{All-map, All-weaker}
use Rattle.std.proofs.lemmas.List.{length-map, length-reverse, reverse-append, reverse-reverse}
use mathlib.Core.Option.{some, some-injective, some-ne-none}
use lib.ListN.{get_elem?}
use Rattle.event_word.specs.declared.phase.Phase.{Phase}
use Rattle.event_word.specs.declared.phase.Phase.TheVariants.{Running, Pre, Stacked, Ended}
use Rattle.event_word.specs.Lists.{one_if, times}
use Rattle.event_word.specs.World.{phase_of}
use Rattle.event_word.specs.Lawful.{waits, sleeps, Lawful, HasSizes}
use Rattle.event_word.proofs.Keeps.{pre_known, stacked_known}
use Rattle.event_word.proofs.Lists.{one_if-same, one_if-other, times-le-length}
use Rattle.event_word.proofs.Histories.{lawful_history}
use Rattle.event_word.proofs.Balancing.{balance}
use Rattle.event_count.specs.declared.rule.TheConstants.{STATE}
use Rattle.event_count.specs.declared.rule.RowSizes.{RowSizes}
use Rattle.event_count.specs.declared.view.Card.{Card}
use Rattle.event_count.specs.declared.view.View.{View}
use Rattle.event_count.specs.declared.seat.Seat.{Seat}
use Rattle.event_count.specs.Shown.{CountState, ShowsWorld}
use Rattle.event_count.specs.Known.{numbers_in, Agrees, next_epoch}
use Rattle.event_count.specs.Written.{Leads, shown_fields}
use Rattle.event_count.specs.Laws.{ShowsLawfulWorld, SignalsAreAnswered}
use Rattle.event_count.specs.Seats.{card_of, IsIdle}
use Rattle.event_count.specs.Counts.{AreEven}
use Rattle.event_count.specs.Tickets.{card_credits}
use Rattle.event_count.specs.Rows.Ending.{EndsRows}
use Rattle.event_count.proofs.RowSteps.Counting.{some_of_all, card_credits-reverse}
use Rattle.event_count.proofs.Cards.{numbers, All-only}
use Rattle.event_count.proofs.Totals.{two_le_total, total_some}
use Rattle.event_count.proofs.Words.{word_shows}

-- the World that is shown is lawful
pub is_lawful : (k : RowSizes) (s : CountState) (shows : ShowsWorld k s)
    → Lawful shows.1 × HasSizes k.waiters (k.waiters + k.notifiers) k.rows shows.1
is_lawful k s shows = lawful_history k.waiters k.notifiers k.rows shows.0 shows.1 shows.2.runs

pub shows_lawful : ShowsLawfulWorld ShowsWorld
shows_lawful k s shows =
    let law = is_lawful k s shows in (shows.0, shows.1, shows.2, law.0, law.1)

pub signals_answered : SignalsAreAnswered ShowsWorld
signals_answered k s shows =
    let r = shows.2 in
    let here = word_shows k s shows in
    let pre = ap (λ f. f.pre) here in let signals = ap (λ f. f.signals) here in
    let answered = (is_lawful k s shows).0.answered in omega arith

pub waits-cases : (p : Phase) → (waits p ≤ 1) × (0 < waits p → p ≡ Pre)
waits-cases Running = (omega arith, λ more. absurd (omega arith))
waits-cases Pre = (omega arith, λ more. refl)
waits-cases Stacked = (omega arith, λ more. absurd (omega arith))
waits-cases Ended = (omega arith, λ more. absurd (omega arith))

pub sleeps-cases : (p : Phase) → (sleeps p ≤ 1) × (0 < sleeps p → p ≡ Stacked)
sleeps-cases Running = (omega arith, λ more. absurd (omega arith))
sleeps-cases Pre = (omega arith, λ more. absurd (omega arith))
sleeps-cases Stacked = (omega arith, λ more. refl)
sleeps-cases Ended = (omega arith, λ more. absurd (omega arith))

-- a number that stands among cards is one card's
pub card_there : (P : Card → Type 0) (n : ℕ) (cards : List Card) → All P cards
    → 0 < times n (numbers cards) → (c : Card) × (c.number ≡ n) × P c
card_there P n [] all more = absurd (omega arith)
card_there P n (c ∷ cards) all more = ⊎_elim
    (λ is. (c, is, All-head P c cards all))
    (λ ne. let other = one_if-other c.number n ne in
    card_there P n cards (All-tail P c cards all) (omega arith))
    (cases_eq c.number n)

nobody_there : (xs : List ℕ) → ((n : ℕ) → 0 < times n xs → ⊥) → xs ≡ []
nobody_there [] none = refl
nobody_there (x ∷ xs) none = let here = one_if-same x x refl in absurd (none x (omega arith))

-- while the seat that has all cards runs, so does each worker
all_run : (k : RowSizes) (s : CountState) (id : ℕ) (v : View) → (shows : ShowsWorld k s)
    → get_elem? s.views id ≡ some v → length v.cards ≡ k.waiters + k.notifiers
    → All (λ c. c.phase ≡ Running) v.cards → (n : ℕ) → n < k.waiters
    → phase_of shows.1 n ≡ Running
all_run k s id v shows at whole running n less =
    let w = shows.1 in let r = shows.2 in
    let here : nat_lt n (k.waiters + k.notifiers) ≡ true =
    lt-ltb n (k.waiters + k.notifiers) (omega arith) in
    let once = r.dealt.once n ∙ ap one_if here in
    let there = total_some (λ y. times n (numbers_in y)) s.views (omega arith) in
    ⊎_elim
    (λ same. let is = some-injective v there.1
    (sym at ∙ ap (λ j. get_elem? s.views j) (sym same) ∙ there.2) in
    let cards = card_there
    (λ c. (c.phase ≡ Running) × Agrees k shows.0 w c) n v.cards
    (λ j d less. (running j d less, r.known id v at j d less))
    (subst (λ y. 0 < times n (numbers_in y)) (sym is) there.3) in
    ap (λ m. phase_of w m) (sym cards.1) ∙ (sym (cards.2.1.waits (let e = cards.1 in omega arith))
    ∙ cards.2.0))
    (λ ne. let both =
    two_le_total (λ y. length y.cards) s.views id there.0 v there.1 ne at there.2 in
    let sum = r.dealt.all in let few = times-le-length n (numbers_in there.1) in
    let as_many = length-map there.1.cards (λ c. c.number) in let more_there = there.3 in
    absurd (omega arith))
    (cases_eq there.0 id)

-- and then nobody waits, and nobody stands on the stack
nobody_waits : (k : RowSizes) (s : CountState) (id : ℕ) (v : View) → (shows : ShowsWorld k s)
    → get_elem? s.views id ≡ some v → length v.cards ≡ k.waiters + k.notifiers
    → All (λ c. c.phase ≡ Running) v.cards → (shows.1.pre ≡ []) × (shows.1.stack ≡ [])
nobody_waits k s id v shows at whole running =
    let w = shows.1 in let law = is_lawful k s shows in let phases = law.1.phases in (
      nobody_there w.pre (λ n more.
          let phase = (waits-cases (phase_of w n)).1 (let is = law.0.waiting n in omega arith) in
          let known = pre_known w n phase in
          let runs = all_run k s id v shows at whole running n (omega arith) in
          absurd (let both = sym runs ∙ phase in cc)),
      nobody_there w.stack (λ n more.
          let phase = (sleeps-cases (phase_of w n)).1 (let is = law.0.standing n in omega arith) in
          let known = stacked_known w n phase in
          let runs = all_run k s id v shows at whole running n (omega arith) in
          absurd (let both = sym runs ∙ phase in cc)),
    )

-- and the seats were all taken off the stack, unparked and woken as often as they were pushed
pub all_even : (k : RowSizes) (s : CountState) (id : ℕ) (v : View) → (shows : ShowsWorld k s)
    → get_elem? s.views id ≡ some v → length v.cards ≡ k.waiters + k.notifiers
    → All (λ c. c.phase ≡ Running) v.cards → (seat : ℕ) → seat < k.waiters
    → AreEven k shows.0 seat
all_even k s id v shows at whole running seat less =
    let runs = all_run k s id v shows at whole running seat less in
    let nowhere = (is_lawful k s shows).0.standing seat ∙ ap sleeps runs in
    let counts = balance k.waiters k.notifiers k.rows shows.0 shows.1 shows.2.runs seat in
    let p = counts.pushes in let t = counts.takings in let u = counts.unparks in
    record { taken = omega arith; unparked = omega arith; woken = omega arith }

All-reverse : (P : Card → Type 0) (cards : List Card) → All P cards → All P (reverse cards)
All-reverse P [] all = All-nil P
All-reverse P (c ∷ cards) all =
    All-same P (reverse (c ∷ cards)) (reverse cards ++ c ∷ []) (reverse-append (c ∷ []) cards)
    (All-append P (reverse cards) (c ∷ []) (All-reverse P cards (All-tail P c cards all))
    (All-only P c (All-head P c cards all)))

-- once all cards came back, their seats have one history, and no row has more jobs than credits
-- haven't come back
pub has_ended : (k : RowSizes) (s : CountState) (id : ℕ) (v : View) (cards : List Card)
    → ShowsWorld k s → get_elem? s.views id ≡ some v → v.cards ≡ reverse cards
    → length v.cards ≡ k.waiters + k.notifiers → All (λ c. c.phase ≡ Running) v.cards
    → EndsRows k cards
has_ended k s id v cards shows at back whole running =
    let P : Card → Type 0 = Agrees k shows.0 shows.1 in (
      shows.0,
      shows.1,
      record {
        ended = record {
          runs = shows.2.runs;
          known = All-same P cards (reverse (reverse cards)) (sym (reverse-reverse cards))
              (All-reverse P (reverse cards) (All-same P (reverse cards) v.cards (sym back)
              (shows.2.known id v at)));
          even = all_even k s id v shows at whole running;
        };
        left = λ row. let jobs = shows.2.counted.tickets row in let all = shows.2.counted.credits in
            let some_there = some_of_all row s.views id v at in
            let here = ap card_credits back ∙ card_credits-reverse cards in omega arith;
      },
    )

-- the cards that came back are those of the seats, which are idle
pub came_back : (seats : List Seat) (cards : List Card) → cards ≡ reverse (map card_of seats)
    → All IsIdle seats → (length cards ≡ length seats) × All (λ c. c.phase ≡ Running) cards
came_back seats cards back idle = let P : Card → Type 0 = λ c. c.phase ≡ Running in (
  ap length back ∙ (length-reverse (map card_of seats) ∙ length-map seats card_of),
  All-same P cards (reverse (map card_of seats)) back (All-reverse P (map card_of seats)
      (All-map P card_of seats
      (All-weaker IsIdle (λ seat. P (card_of seat)) (λ _ is. is.running) seats idle))),
)

at_index : (words : List ℕ) (i word : ℕ) → get_elem? words i ≡ some word
    → slice_index words i ≡ word
at_index [] i word at = absurd (some-ne-none word (sym at))
at_index (x ∷ words) zero word at = some-injective x word at
at_index (x ∷ words) (suc i) word at = at_index words i word at

-- and then the word is the first one again
pub last_word : (k : RowSizes) (s : CountState) (id : ℕ) (v : View) (words : List ℕ) (word : ℕ)
    → ShowsWorld k s → get_elem? s.views id ≡ some v → length v.cards ≡ k.waiters + k.notifiers
    → All (λ c. c.phase ≡ Running) v.cards → s.words ≡ words → get_elem? words STATE ≡ some word
    → word < 2 ^ 64 → word ≡ 16383
last_word k s id v words word shows at whole running same there small =
    let r = shows.2 in
    let here = word_shows k s shows in
    let is = ap (λ ws. slice_index ws STATE) same ∙ at_index words STATE word there in
    let nobody_there = nobody_waits k s id v shows at whole running in
    let none = ap length nobody_there.0 in
    let ends = subst (λ xs. Leads s.words (next_epoch k shows.0) xs (shown_fields s.words))
    nobody_there.1 r.written.stack in
    let answered = (is_lawful k s shows).0.answered in
    let top = ends.0 in
    let pre = ap (λ f. f.pre) here in let signals = ap (λ f. f.signals) here in
    let epoch = ends.1 in omega arith

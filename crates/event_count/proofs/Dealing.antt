-- Cards that move from one view to another keep the rule.
use Rattle.std.proofs.Common.{◌≡◌, ℕ, ◌+◌, ◌<◌, List, [], ◌∷◌, ◌++◌, length, set, ap, ◌∙◌, subst}
use Rattle.std.proofs.Common.{⊎_elim, arith, All, length-append}
use Rattle.std.proofs.lemmas.List.{map-append}
use Rattle.std.proofs.lemmas.List.Elements.{All-nil, All-cons, All-head, All-tail, All-append}
use mathlib.Core.Option.{none}
use Rattle.atomic_table.specs.Table.{Splits, Joins, Enters, step}
use Rattle.atomic_table.proofs.Lists.{at_set, at_snoc}
use Rattle.event_word.specs.Lists.{times}
use Rattle.event_word.proofs.Lists.{times-append, total-append}
use Rattle.event_count.specs.declared.rule.RowSizes.{RowSizes}
use Rattle.event_count.specs.declared.view.Card.{Card}
use Rattle.event_count.specs.declared.view.View.{View}
use Rattle.event_count.specs.Cards.{first_card, other_cards, after_deal, dealt, together, spent}
use Rattle.event_count.specs.declared.rule.TheConstants.{STATE}
use Rattle.event_count.specs.Plays.{Sat, arrives}
use Rattle.event_count.specs.Shown.{CountState, ShowsWorld}
use Rattle.event_count.specs.Known.{numbers_in, Agrees, AreDealt, Each, next_epoch}
use Rattle.event_count.specs.Kept.{Knows, Links}
use Rattle.event_word.specs.declared.event.Event.{Event}
use Rattle.event_word.specs.World.{World}
use Rattle.event_count.specs.Tickets.{card_credits, credits_for, banked, AreCounted}
use Rattle.event_count.proofs.RowSteps.Counting.{counted_split, counted_join, counted_spent}
use Rattle.event_count.proofs.RowSteps.Counting.{card_credits-append}
use Rattle.event_count.proofs.Cards.{numbers}
use Rattle.event_count.proofs.Totals.{total-set_at}

-- what a card says of the World has nothing to do with its credits
agrees-credits : (k : RowSizes) (history : List Event) (w : World) (c : Card) (n : ℕ)
    → Agrees k history w c → Agrees k history w record c { credits = n }
agrees-credits k history w c n a = record {
  waiters = a.waiters;
  rows = a.rows;
  waits = a.waits;
  notifies = a.notifies;
  owing = a.owing;
  events = a.events;
  epoch = a.epoch;
  flag = a.flag;
  passed = a.passed;
  announcing = a.announcing;
}

-- other views with the same cards, whatever their credits, keep the rule
pub reseated : (k : RowSizes) (s : CountState) (views : List View)
    → ((P : Card → Type 0) → ((c : Card) (n : ℕ) → P c → P record c { credits = n })
    → Each P s.views → Each P views)
    → (AreDealt k s.views → AreDealt k views)
    → ((all bank : ℕ) (w : World) → AreCounted all bank w s.views → AreCounted all bank w views)
    → ShowsWorld k s → ShowsWorld k record { words = s.words; homes = s.homes; views = views }
reseated k s views each deals counts shows =
    let history = shows.0 in let w = shows.1 in let r = shows.2 in (
      history,
      w,
      record {
        runs = r.runs;
        few = r.few;
        written = r.written;
        known = each (Agrees k history w) (agrees-credits k history w) r.known;
        kept = each (Knows s.words w (next_epoch k history)) (λ c n was. was) r.kept;
        dealt = deals r.dealt;
        counted = counts (credits_for k) (banked s.words) w r.counted;
        few_credits = r.few_credits;
        plain = r.plain;
        linked = each (Links s.words) (λ c n was. was) r.linked;
      },
    )

first_and_others : (P : Card → Type 0) (cards : List Card) → 0 < length cards → All P cards
    → All P (first_card cards ∷ []) × All P (other_cards cards)
first_and_others P [] more all = absurd (omega arith)
first_and_others P (c ∷ cards) more all =
    (All-cons P c [] (All-head P c cards all) (All-nil P), All-tail P c cards all)

times-deal : (n : ℕ) (cards : List Card) → 0 < length cards
    → times n (numbers (other_cards cards)) + times n (numbers (first_card cards ∷ []))
    ≡ times n (numbers cards)
times-deal n [] more = absurd (omega arith)
times-deal n (c ∷ cards) more = omega arith

length-deal : (cards : List Card) → 0 < length cards → length (other_cards cards) + 1 ≡ length cards
length-deal [] more = absurd (omega arith)
length-deal (c ∷ cards) more = omega arith

credits-deal : (cards : List Card) → 0 < length cards
    → card_credits (other_cards cards) + card_credits (first_card cards ∷ []) ≡ card_credits cards
credits-deal [] more = absurd (omega arith)
credits-deal (c ∷ cards) more = omega arith

pub deal_keeps : (k : RowSizes) (id : ℕ) (v : View) → 0 < length v.cards
    → Splits (ShowsWorld k) id v (after_deal v) (dealt v)
deal_keeps k id v more s shows at =
    let left = after_deal v in let right = dealt v in
    let views = set s.views id left in
    reseated k s (views ++ right ∷ [])
    (λ P _ each j x there.
    let both = first_and_others P v.cards more (each id v at) in ⊎_elim
    (λ t. ⊎_elim
    (λ here. subst (λ y. All P y.cards) here.1 both.1)
    (λ other. each j x other.1)
    (at_set s.views id j left x t))
    (λ e. subst (λ y. All P y.cards) e both.0)
    (at_snoc views right x j there))
    (λ deals. record {
      once = λ n. let f : View → ℕ = λ y. times n (numbers_in y) in
          let moved = total-set_at f s.views id v left at in
          let longer = total-append f views (right ∷ []) in
          let parts = times-deal n v.cards more in let sum = deals.once n in omega arith;
      all = let f : View → ℕ = λ y. length y.cards in
          let moved = total-set_at f s.views id v left at in
          let longer = total-append f views (right ∷ []) in
          let parts = length-deal v.cards more in let sum = deals.all in omega arith;
    })
    (λ all bank w counts. counted_split all bank w s.views counts id v left right at
    (let parts = credits-deal v.cards more in omega arith) (λ row. omega arith))
    shows

pub join_keeps : (k : RowSizes) (id : ℕ) (v : View) (other : ℕ) (x : View)
    → Joins (ShowsWorld k) id v other x (together v x) spent
join_keeps k id v other x s shows at ne at' =
    let both = together v x in let views = set s.views id both in
    reseated k s (set views other spent)
    (λ P _ each j y there. ⊎_elim
    (λ here. subst (λ z. All P z.cards) here.1 (All-nil P))
    (λ t. ⊎_elim
    (λ here. subst (λ z. All P z.cards) here.1 (All-append P v.cards x.cards (each id v at)
    (⊎_elim (λ same. absurd (ne same.0)) (λ there. each other x there.1)
    (at_set s.views id other both x at'))))
    (λ old. each j y old.1)
    (at_set s.views id j both y t.1))
    (at_set views other j spent y there))
    (λ deals. record {
      once = λ n. let f : View → ℕ = λ y. times n (numbers_in y) in
          let moved = total-set_at f s.views id v both at in
          let gone = total-set_at f views other x spent at' in
          let parts = ap (times n) (map-append (λ (c : Card). c.number) v.cards x.cards)
          ∙ times-append n (numbers v.cards) (numbers x.cards) in
          let sum = deals.once n in omega arith;
      all = let f : View → ℕ = λ y. length y.cards in
          let moved = total-set_at f s.views id v both at in
          let gone = total-set_at f views other x spent at' in
          let parts = length-append v.cards x.cards in let sum = deals.all in omega arith;
    })
    (λ all bank w counts. counted_join all bank w s.views counts id v other x both at at'
    (let parts = card_credits-append v.cards x.cards in
    let longer = length-append v.tickets x.tickets in omega arith)
    (λ row. times-append row v.tickets x.tickets))
    shows

-- a seat that arrives has no card
pub arrive_keeps : (k : RowSizes) (slots : ℕ) (before : Sat)
    → Enters (ShowsWorld k) slots STATE
    (λ n w. arrives (step slots STATE 0 0 none) before n (w, []))
arrive_keeps k slots before s shows _ _ = (
  spent,
  reseated k s (s.views ++ spent ∷ [])
      (λ P _ each j x there. ⊎_elim
      (λ t. each j x t)
      (λ e. subst (λ y. All P y.cards) e (All-nil P))
      (at_snoc s.views spent x j there))
      (λ deals. record {
        once = λ n. let f : View → ℕ = λ y. times n (numbers_in y) in
            let longer = total-append f s.views (spent ∷ []) in let sum = deals.once n in
            omega arith;
        all = let f : View → ℕ = λ y. length y.cards in
            let longer = total-append f s.views (spent ∷ []) in let sum = deals.all in
            omega arith;
      })
      (λ all bank w counts. counted_spent all bank w s.views counts)
      shows,
  (λ i. (spent, [])),
)

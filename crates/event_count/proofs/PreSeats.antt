-- The pre-waiters are the seats whose phase says so.
use Rattle.std.proofs.Common.{◌≡◌, ℕ, suc, ◌+◌, ◌≤◌, ◌<◌, ◌==◌, List, [], ◌∷◌, filter, sym, ap}
use Rattle.std.proofs.Common.{refl, ◌∙◌, ⊎_elim, arith, All, length, get_or, ◌*◌, if◌then◌else◌}
use Rattle.std.proofs.lemmas.Bool.{cases_eq, cases_lt, lt-ltb}
use Rattle.std.proofs.lemmas.List.Elements.{All-head, All-tail}
use Rattle.std.proofs.lemmas.List.{get_or_past}
use mathlib.Core.Option.{some}
use lib.ListN.{get_elem?}
use Rattle.event_word.specs.declared.phase.Phase.{Phase}
use Rattle.event_word.specs.declared.phase.Phase.TheVariants.{Running, Pre, Stacked, Ended}
use Rattle.event_word.specs.Lists.{one_if, total, times}
use Rattle.event_word.specs.World.{World, phase_of}
use Rattle.event_word.specs.Lawful.{waits}
use Rattle.event_word.proofs.Keeps.{pre_known}
use Rattle.event_word.proofs.Lists.{one_if-same, one_if-other}
use Rattle.event_count.specs.declared.rule.RowSizes.{RowSizes}
use Rattle.event_count.specs.declared.view.Card.{Card}
use Rattle.event_count.specs.declared.view.View.{View}
use Rattle.event_count.specs.Known.{numbers_in}
use Rattle.event_count.specs.Laws.{is_pre, pre_numbers_in, PreSeatsWait}
use Rattle.event_count.proofs.Cards.{numbers}
use Rattle.event_count.proofs.Closing.{is_lawful, waits-cases}

-- how often the number is that of a pre-waiter among the cards
abbrev pre_times : ℕ → List Card → ℕ
pre_times n cards = times n (numbers (filter (λ c. is_pre c.phase) cards))

-- where each card of the number waits, as often as there are cards; where none does, never
module _ (n : ℕ) where
  pre_card : (c : Card) (cards : List Card)
      → pre_times n (c ∷ cards) ≡ waits c.phase * one_if (c.number == n) + pre_times n cards
  pre_card c cards = by_phase c.phase
    where
      by_phase : (p : Phase)
          → times n (numbers (if is_pre p then c ∷ filter (λ x. is_pre x.phase) cards
          else filter (λ x. is_pre x.phase) cards))
          ≡ waits p * one_if (c.number == n) + pre_times n cards
      by_phase Running = omega arith
      by_phase Pre = omega arith
      by_phase Stacked = omega arith
      by_phase Ended = omega arith

  pre_times-all : (p : ℕ) (cards : List Card) → (p ≤ 1)
      → All (λ c. c.number ≡ n → waits c.phase ≡ p) cards
      → (p ≡ 0 → pre_times n cards ≡ 0) × (p ≡ 1 → pre_times n cards ≡ times n (numbers cards))
  pre_times-all p [] few all = (λ _. refl, λ _. refl)
  pre_times-all p (c ∷ cards) few all =
      let rest = pre_times-all p cards few
      (All-tail (λ x. x.number ≡ n → waits x.phase ≡ p) c cards all) in
      let step = pre_card c cards in
      let here = All-head (λ x. x.number ≡ n → waits x.phase ≡ p) c cards all in ⊎_elim
      (λ is. let one = one_if-same c.number n is in let phase = here is in
      let part = ap (λ b. waits c.phase * b) one in
      (λ e. let r = rest.0 e in omega arith, λ e. let r = rest.1 e in omega arith))
      (λ ne. let none = one_if-other c.number n ne in
      let part = ap (λ b. waits c.phase * b) none in
      (λ e. let r = rest.0 e in omega arith, λ e. let r = rest.1 e in omega arith))
      (cases_eq c.number n)

  pre_total : (p : ℕ) (views : List View) → p ≤ 1
      → ((id : ℕ) (v : View) → get_elem? views id ≡ some v
      → All (λ c. c.number ≡ n → waits c.phase ≡ p) v.cards)
      → (p ≡ 0 → total (λ v. times n (pre_numbers_in v)) views ≡ 0)
      × (p ≡ 1 → total (λ v. times n (pre_numbers_in v)) views
      ≡ total (λ v. times n (numbers_in v)) views)
  pre_total p [] few each = (λ _. refl, λ _. refl)
  pre_total p (v ∷ views) few each =
      let here = pre_times-all p v.cards few (each 0 v refl) in
      let rest = pre_total p views few (λ id x at. each (suc id) x at) in (
        λ e. let a = here.0 e in let b = rest.0 e in omega arith,
        λ e. let a = here.1 e in let b = rest.1 e in omega arith,
      )

-- a card's phase is that of the World, where it counts
waits-card : (k : RowSizes) (w : World) (c : Card) (n : ℕ)
    → (c.number < k.waiters → c.phase ≡ phase_of w c.number)
    → (k.waiters ≤ c.number → c.phase ≡ Running) → length w.phases ≡ k.waiters → c.number ≡ n
    → waits c.phase ≡ waits (phase_of w n)
waits-card k w c n waiter notifier phases is = ⊎_elim
    (λ less. ap waits (waiter less) ∙ ap (λ m. waits (phase_of w m)) is)
    (λ le. ap waits (notifier le)
    ∙ sym (ap waits (get_or_past w.phases n Ended (omega arith))))
    (cases_lt c.number k.waiters)

pub pre_seats : PreSeatsWait
pre_seats k s history w r n =
    let law = is_lawful k s (history, w, r) in
    let waiting = law.0.waiting n in let p = waits-cases (phase_of w n) in
    let sum = pre_total n (waits (phase_of w n)) s.views p.0 (λ id v at i d less.
    waits-card k w (get_or v.cards i d) n (r.known id v at i d less).waits
    (r.known id v at i d less).notifies law.1.phases) in (
      omega arith,
      ⊎_elim
          (λ none. let none_there = sum.0 none in omega arith)
          (λ ne. let one : waits (phase_of w n) ≡ 1 = let few = p.0 in omega arith in
          let all = sum.1 one in let once = r.dealt.once n in
          let known = pre_known w n (p.1 (omega arith)) in let phases = law.1.phases in
          let here = ap one_if (lt-ltb n (k.waiters + k.notifiers) (omega arith)) in omega arith)
          (cases_eq (waits (phase_of w n)) 0),
    )

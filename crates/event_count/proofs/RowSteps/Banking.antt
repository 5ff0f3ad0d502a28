-- Credits go into the bank and come out of it, and the rule is kept: nothing else changes.
use Rattle.std.proofs.Common.{◌≡◌, ℕ, ◌+◌, ◌%◌, ◌^◌, ◌≤◌, List, [], ◌∷◌, set, slice_index, sym, ap}
use Rattle.std.proofs.Common.{refl, ◌∙◌, subst, arith, get_or-set_same, get_or-set_other}
use mathlib.Core.Option.{some, none}
use lib.ListN.{get_elem?}
use Rattle.atomic_table.specs.Table.{step, Allows}
use Rattle.event_word.specs.Lists.{times}
use Rattle.event_word.specs.World.{World}
use Rattle.event_count.specs.declared.rule.TheConstants.{STOP, BANK}
use Rattle.event_count.specs.declared.rule.RowSizes.{RowSizes}
use Rattle.event_count.specs.declared.view.Card.{Card}
use Rattle.event_count.specs.declared.view.View.{View}
use Rattle.event_count.specs.Places.{row_place}
use Rattle.event_count.specs.Cards.{only, card_in}
use Rattle.event_count.specs.Plays.{Sat}
use Rattle.event_count.specs.Kept.{Knows, Links}
use Rattle.event_count.specs.Tickets.{credits_for, banked, weight, AreCounted}
use Rattle.event_count.specs.Shown.{CountState, ShowsWorld}
use Rattle.event_count.specs.Rows.Gains.{depositing, withdrawing}
use Rattle.event_count.specs.Rows.Plays.{deposits, withdraws}
use Rattle.event_count.proofs.Totals.{total-set_at, le_total}
use Rattle.event_count.proofs.Steps.{acts_to, fits_none}
use Rattle.event_count.proofs.Stepping.{After, Advances, allowed}
use Rattle.event_count.proofs.RowSteps.Aside.{IsAside, wording_aside}

aside_bank : IsAside BANK
aside_bank = record {
  state = λ e. absurd (omega arith);
  next = λ n e. absurd (omega arith);
  parker = λ n e. absurd (omega arith);
}

-- what one view gets the bank loses, and the other way round
pub counted_moved : (all bank bank' : ℕ) (w : World) (views : List View) (id : ℕ) (v new : View)
    → get_elem? views id ≡ some v → AreCounted all bank w views
    → weight new + bank' ≡ weight v + bank
    → ((row : ℕ) → times row new.tickets ≡ times row v.tickets)
    → AreCounted all bank' w (set views id new)
counted_moved all bank bank' w views id v new at counts moves same = record {
  tickets = λ row. let moved = total-set_at (λ y. times row y.tickets) views id v new at in
      let sum = counts.tickets row in let here = same row in omega arith;
  credits = let moved = total-set_at weight views id v new at in
      let sum = counts.credits in omega arith;
}

module _ (k : RowSizes) (slots id : ℕ) (me : Sat) (is : me.0 ≡ only (card_in me.0)) where
  -- the card of the seat that steps
  abbrev c : Card
  c = card_in me.0

  -- its view has this one card
  has : me.0.cards ≡ c ∷ []
  has = ap (λ v. v.cards) is

  module _ (s : CountState) (shows : ShowsWorld k s) (at : get_elem? s.views id ≡ some me.0) where
    -- what the seat has and what is in the bank are at most what there is
    few_there : c.credits + banked s.words ≤ credits_for k
    few_there = let part = le_total weight s.views id me.0 at in
        let mine = ap weight is in let sum = shows.2.counted.credits in omega arith

    -- the bank changes, and the seat's credits as much the other way
    moved : (n : ℕ) (d : Card) → d ≡ record c {
      credits = d.credits;
      book = d.book;
    }
        → d.credits + n ≡ c.credits + banked s.words
        → After k slots id me is s shows BANK n d
    moved n d same moves =
        let history = shows.0 in let w = shows.1 in let r = shows.2 in
        let room = r.written.room in
        let there : banked (set s.words BANK n) ≡ n =
        get_or-set_same s.words BANK n 0 (omega arith) in
        let stop : slice_index (set s.words BANK n) STOP ≡ slice_index s.words STOP =
        get_or-set_other s.words BANK STOP n 0 (λ e. absurd (omega arith)) in
        let f = fits_none k s history w r id me.0 c at has d (ap (λ x. x.waiters) same)
        (ap (λ x. x.number) same) (ap (λ x. x.phase) same) (ap (λ x. x.owing) same)
        (ap (λ x. x.events) same) (ap (λ x. x.epoch) same) (ap (λ x. x.rows) same)
        (ap (λ x. x.passed_flag) same) (ap (λ x. x.passed) same) (ap (λ x. x.announcing) same) in (
          [],
          w,
          acts_to k s history w r id me.0 c at has [] w d BANK n me.1 (only d) refl
              (counted_moved (credits_for k) (banked s.words) (banked (set s.words BANK n)) w s.views
              id me.0 (only d) at r.counted
              (let before = ap weight is in omega arith)
              (λ row. let before = ap (λ (v : View). times row v.tickets) is in omega arith))
              f
              (wording_aside k s history w r id me.0 c at has [] w d BANK n aside_bank f
              (ap (λ x. x.epoch) same)
              (record { pre = refl; signals = refl; stack = refl; tokens = refl })
              (λ z. r.written.stop.0 (sym stop ∙ z), λ z. stop ∙ r.written.stop.1 z)
              (λ row less. get_or-set_other s.words BANK (row_place (k.waiters + k.rows) row) n 0
              (λ e. absurd (omega arith)) ∙ r.written.rows row less)
              (λ ws es was. subst (λ x. Knows ws w es x) (sym same) was)
              (λ ws was. subst (λ x. Links ws x) (sym same) was)),
        )

  -- credits go in
  pub deposit_adds : (credits : ℕ) → credits ≤ c.credits
      → Advances k slots id me is BANK credits 0 (λ n. (n + credits) % 2 ^ 64) deposits
  deposit_adds credits enough s shows at small =
      let few = few_there s shows at in let limit = shows.2.few_credits in
      let word = slice_index s.words BANK in (
        depositing c credits,
        moved s shows at ((word + credits) % 2 ^ 64) (depositing c credits) refl (omega arith),
        (refl, refl),
      )

  pub deposit_keeps : (credits : ℕ) → credits ≤ c.credits
      → Allows (ShowsWorld k) slots id me BANK (λ n. (n + credits) % 2 ^ 64)
      (deposits (step slots BANK credits 0 none) me)
  deposit_keeps credits enough =
      allowed k slots id me is BANK credits 0 (λ n. (n + credits) % 2 ^ 64) deposits
      (deposit_adds credits enough)

  -- all come out that are there
  pub withdraw_adds : Advances k slots id me is BANK 0 0 (λ _. 0) withdraws
  withdraw_adds s shows at _ =
      let few = few_there s shows at in let limit = shows.2.few_credits in
      let word = slice_index s.words BANK in (
        withdrawing c word,
        moved s shows at 0 (withdrawing c word) refl (omega arith),
        (refl, refl, omega arith),
      )

  pub withdraw_keeps : Allows (ShowsWorld k) slots id me BANK (λ _. 0)
      (withdraws (step slots BANK 0 0 none) me)
  withdraw_keeps = allowed k slots id me is BANK 0 0 (λ _. 0) withdraws withdraw_adds

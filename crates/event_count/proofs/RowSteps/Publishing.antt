-- A publish and a take add their events, and so keep the rule.
use Rattle.std.proofs.Common.{◌≡◌, ℕ, ◌+◌, ◌-◌, ◌%◌, ◌^◌, ◌<◌, false, List, [], ◌∷◌, ◌++◌, length}
use Rattle.std.proofs.Common.{slice_index, slice_set, sym, ap, refl, ◌∙◌, subst, ⊎_elim, arith}
use Rattle.std.proofs.Common.{get_or-set_same, get_or-set_other}
use Rattle.std.proofs.lemmas.Bool.{cases_eq, cases_lt}
use Rattle.std.proofs.lemmas.List.{get_or_past}
use mathlib.Core.Option.{some, none}
use lib.ListN.{get_elem?}
use Rattle.atomic_table.specs.Table.{step, stepped, keeps, Allows}
use Rattle.event_word.specs.declared.phase.Phase.TheVariants.{Running}
use Rattle.event_word.specs.declared.event.Event.{Event}
use Rattle.event_word.specs.declared.event.Event.TheVariants.{Publish, Take}
use Rattle.event_word.specs.Lists.{times}
use Rattle.event_word.specs.World.{World, length_of}
use Rattle.event_word.specs.Step.{row_limit, effect}
use Rattle.event_word.proofs.Lists.{one_if-same, one_if-other}
use Rattle.event_count.specs.declared.rule.RowSizes.{RowSizes}
use Rattle.event_count.specs.declared.view.Card.{Card}
use Rattle.event_count.specs.declared.view.View.{View}
use Rattle.event_count.specs.Places.{row_place}
use Rattle.event_count.specs.Cards.{holding, only, card_in}
use Rattle.event_count.specs.Gains.{foremost}
use Rattle.event_count.specs.Plays.{Sat, Told}
use Rattle.event_count.specs.Tickets.{card_credits, credits_for, banked, weight, AreCounted}
use Rattle.event_count.specs.Shown.{CountState, ShowsWorld}
use Rattle.event_count.specs.Steps.{Adds}
use Rattle.event_count.specs.Rows.Gains.{publishing, redeeming}
use Rattle.event_count.specs.Rows.Plays.{publishes, redeems}
use Rattle.event_count.proofs.Totals.{le_total}
use Rattle.event_count.proofs.Steps.{acts_to, still_banked, truth}
use Rattle.event_count.proofs.Events.{sizes}
use Rattle.event_count.proofs.RowSteps.Counting.{counted_set, some_of_all}
use Rattle.event_count.proofs.RowSteps.Aside.{aside_row, wording_aside, stop_other, rows_moved}
use Rattle.event_count.proofs.RowSteps.Events.{publish_fits, take_fits}

-- one job more, or less, in the row
module _ (w u : World) (row jobs : ℕ) (known : row < length w.lengths)
    (is : u.lengths ≡ slice_set w.lengths row jobs) where
  length_there : length_of u row ≡ jobs
  length_there =
      ap (λ ls. slice_index ls row) is ∙ get_or-set_same w.lengths row jobs 0 known

  length_elsewhere : (at : ℕ) → (at ≡ row → ⊥) → length_of u at ≡ length_of w at
  length_elsewhere at ne =
      ap (λ ls. slice_index ls at) is ∙ get_or-set_other w.lengths row at jobs 0 ne

  pub ticket_more : jobs ≡ length_of w row + 1 → (at : ℕ)
      → times at (row ∷ []) + length_of w at ≡ length_of u at
  ticket_more more at = ⊎_elim
      (λ same. let one = one_if-same row at (sym same) in
      let a = ap (λ m. length_of w m) same in let b = ap (λ m. length_of u m) same in
      let there = length_there in omega arith)
      (λ ne. let none_here = one_if-other row at (λ e. ne (sym e)) in
      let there = length_elsewhere at ne in omega arith)
      (cases_eq at row)

  pub ticket_fewer : jobs + 1 ≡ length_of w row → (at : ℕ)
      → length_of w at ≡ times at (row ∷ []) + length_of u at
  ticket_fewer fewer at = ⊎_elim
      (λ same. let one = one_if-same row at (sym same) in
      let a = ap (λ m. length_of w m) same in let b = ap (λ m. length_of u m) same in
      let there = length_there in omega arith)
      (λ ne. let none_here = one_if-other row at (λ e. ne (sym e)) in
      let there = length_elsewhere at ne in omega arith)
      (cases_eq at row)

module _ (k : RowSizes) (slots id : ℕ) (me : Sat) where
  abbrev c : Card
  c = card_in me.0

  -- what the step adds, which leaves the seat these tickets
  abbrev pub AfterWith : (s : CountState) → ShowsWorld k s → ℕ → ℕ → List ℕ → Card → Type 0
  AfterWith s shows place n tickets d = (events : List Event) × (u : World)
      × Adds k shows.0 shows.1 c d (stepped s place n id me.1 (holding tickets d) keeps) events u

  -- whenever the seat takes the step, it adds its events, and its play is so
  abbrev pub AdvancesWith : List ℕ → ℕ → ℕ → ℕ → (ℕ → ℕ) → Told → Type 0
  AdvancesWith tickets place a b f told =
      (s : CountState) (shows : ShowsWorld k s) → get_elem? s.views id ≡ some me.0
      → slice_index s.words place < 2 ^ 64
      → (d : Card) × AfterWith s shows place (f (slice_index s.words place)) tickets d
      × told (step slots place a b none) me (slice_index s.words place) (holding tickets d, me.1)

  -- and so the rule allows it
  pub allowed_with : (tickets : List ℕ) (place a b : ℕ) (f : ℕ → ℕ) (told : Told)
      → AdvancesWith tickets place a b f told
      → Allows (ShowsWorld k) slots id me place f (told (step slots place a b none) me)
  allowed_with tickets place a b f told advances s shows _ at small =
      let done = advances s shows at small in
      let after = done.1 in (
        holding tickets done.0,
        keeps,
        tt,
        (shows.0 ++ after.0, after.1, after.2.shows),
        done.2,
      )

  module _ (is : me.0 ≡ only c) (row : ℕ) (less : row < k.rows) (running : c.phase ≡ Running)
      (owes_none : c.owing ≡ []) (silent : c.announcing ≡ false) (credit : 0 < c.credits) where
    pub publish_adds : AdvancesWith (row ∷ []) (row_place (k.waiters + k.rows) row) 1 0
        (λ n. (n + 1) % 2 ^ 64) publishes
    publish_adds s shows at small =
        let history = shows.0 in let w = shows.1 in let r = shows.2 in
        let has = ap (λ v. v.cards) is in
        let z = sizes k s history w r id me.0 c at has in
        let t = truth k s history w r id me.0 c at has in
        let place = row_place (k.waiters + k.rows) row in
        let word = slice_index s.words place in
        let d = publishing c row in let u = effect w (Publish c.number row) in
        let jobs = length_of w row + 1 in
        let all = some_of_all row s.views id me.0 at in let limit = r.few_credits in
        let sum = r.counted.credits in let tickets = r.counted.tickets row in
        let mine = ap (λ v. card_credits v.cards) is in
        let here = r.written.rows row less in
        let few : length_of w row < row_limit = omega arith in
        let n = (word + 1) % 2 ^ 64 in let n_is : n ≡ jobs = omega arith in
        let long = z.lengths in let known : row < length w.lengths = omega arith in
        let f = publish_fits k s history w r id me.0 c at has row less running owes_none silent few in
        let events : List Event = Publish c.number row ∷ [] in
        let weighs : weight (holding (row ∷ []) d) ≡ weight me.0 =
        let before = ap weight is in omega arith in (
          d,
          (
            events,
            u,
            acts_to k s history w r id me.0 c at has events u d place n me.1 (holding (row ∷ []) d) refl
                (subst (λ bank. AreCounted (credits_for k) bank u
                (slice_set s.views id (holding (row ∷ []) d)))
                (still_banked s.words place n (λ e. absurd (omega arith)))
                (counted_set (credits_for k) (banked s.words) w u s.views id me.0 at r.counted
                (holding (row ∷ []) d) weighs
                (λ m. let none_here = ap (λ (v : View). times m v.tickets) is in
                let more = ticket_more w u row jobs known refl refl m in omega arith)))
                f
                (wording_aside k s history w r id me.0 c at has events u d place n
                (aside_row (k.waiters + k.rows) row) f refl
                (record { pre = refl; signals = refl; stack = refl; tokens = refl })
                (stop_other k s.words _ w r.written row jobs less long n)
                (rows_moved k s.words _ w r.written row jobs less long n n_is u refl)
                (λ ws es was. was) (λ ws was. was)),
          ),
          (
            row,
            (let rows = t.rows in omega arith, place_of k c row t.waiters t.rows),
            refl,
          ),
        )
      where
        place_of : (k : RowSizes) (c : Card) (row : ℕ) → c.waiters ≡ k.waiters → c.rows ≡ k.rows
            → row_place (k.waiters + k.rows) row ≡ row_place (c.waiters + c.rows) row
        place_of k c row waiters rows = omega arith

    -- a publish, where the place was found from the count's own sizes
    pub publish_keeps_at : (place : ℕ) → place ≡ row_place (k.waiters + k.rows) row
        → Allows (ShowsWorld k) slots id me place (λ n. (n + 1) % 2 ^ 64)
        (publishes (step slots place 1 0 none) me)
    publish_keeps_at place at =
        subst (λ p. Allows (ShowsWorld k) slots id me p (λ n. (n + 1) % 2 ^ 64)
        (publishes (step slots p 1 0 none) me)) (sym at)
        (allowed_with (row ∷ []) (row_place (k.waiters + k.rows) row) 1 0 (λ n. (n + 1) % 2 ^ 64)
        publishes publish_adds)

  module _ (row : ℕ) (is : me.0 ≡ holding (row ∷ []) c) (running : c.phase ≡ Running)
      (owes_none : c.owing ≡ []) where
    pub take_adds : AdvancesWith [] (row_place (k.waiters + k.rows) row) 1 0
        (λ n. (n + (2 ^ 64 - 1)) % 2 ^ 64) redeems
    take_adds s shows at small =
        let history = shows.0 in let w = shows.1 in let r = shows.2 in
        let has = ap (λ v. v.cards) is in
        let z = sizes k s history w r id me.0 c at has in
        let t = truth k s history w r id me.0 c at has in
        let place = row_place (k.waiters + k.rows) row in
        let word = slice_index s.words place in
        let d = redeeming c row in let u = effect w (Take c.number row) in
        let jobs = length_of w row - 1 in
        let part = le_total (λ (v : View). times row v.tickets) s.views id me.0 at in
        let one_of = ap (λ (v : View). times row v.tickets) is in
        let one = one_if-same row row refl in
        let tickets = r.counted.tickets row in
        let more : 0 < length_of w row = omega arith in
        let long = z.lengths in
        let known : row < length w.lengths = ⊎_elim (λ lt. lt)
        (λ le. let past = get_or_past w.lengths row 0 le in absurd (omega arith))
        (cases_lt row (length w.lengths)) in
        let less : row < k.rows = omega arith in
        let all = some_of_all row s.views id me.0 at in let limit = r.few_credits in
        let sum = r.counted.credits in
        let mine = ap (λ v. card_credits v.cards) is in
        let here = r.written.rows row less in
        let n = (word + (2 ^ 64 - 1)) % 2 ^ 64 in let n_is : n ≡ jobs = omega arith in
        let f = take_fits k s history w r id me.0 c at has row less running owes_none more in
        let events : List Event = Take c.number row ∷ [] in
        let weighs : weight (only d) ≡ weight me.0 = let before = ap weight is in omega arith in
        let first : foremost me.0.tickets ≡ row = ap (λ (v : View). foremost v.tickets) is in (
          d,
          (
            events,
            u,
            acts_to k s history w r id me.0 c at has events u d place n me.1 (only d) refl
                (subst (λ bank. AreCounted (credits_for k) bank u (slice_set s.views id (only d)))
                (still_banked s.words place n (λ e. absurd (omega arith)))
                (counted_set (credits_for k) (banked s.words) w u s.views id me.0 at r.counted
                (only d) weighs
                (λ m. let some_here = ap (λ (v : View). times m v.tickets) is in
                let fewer = ticket_fewer w u row jobs known refl (omega arith) m in omega arith)))
                f
                (wording_aside k s history w r id me.0 c at has events u d place n
                (aside_row (k.waiters + k.rows) row) f refl
                (record { pre = refl; signals = refl; stack = refl; tokens = refl })
                (stop_other k s.words _ w r.written row jobs less long n)
                (rows_moved k s.words _ w r.written row jobs less long n n_is u refl)
                (λ ws es was. was) (λ ws was. was)),
          ),
          (
            (
              let rows = t.rows in omega arith,
              let waiters = t.waiters in let rows = t.rows in omega arith,
            ),
            ap (λ m. (only (redeeming c m), me.1)) (sym first),
            omega arith,
          ),
        )

    pub take_keeps_at : (place : ℕ) → place ≡ row_place (k.waiters + k.rows) row
        → Allows (ShowsWorld k) slots id me place (λ n. (n + (2 ^ 64 - 1)) % 2 ^ 64)
        (redeems (step slots place 1 0 none) me)
    take_keeps_at place at =
        subst (λ p. Allows (ShowsWorld k) slots id me p (λ n. (n + (2 ^ 64 - 1)) % 2 ^ 64)
        (redeems (step slots p 1 0 none) me)) (sym at)
        (allowed_with [] (row_place (k.waiters + k.rows) row) 1 0
        (λ n. (n + (2 ^ 64 - 1)) % 2 ^ 64) redeems take_adds)

-- Looks at rows and at the stop word, and a stop, add their events, and so keep the rule.
use Rattle.std.proofs.Common.{◌≡◌, ◌≢◌, ℕ, ◌+◌, ◌<◌, ◌==◌, Bool, true, false, List, [], ◌∷◌}
use Rattle.std.proofs.Common.{slice_index, length, sym, ap, refl, ◌∙◌, subst, arith}
use Rattle.std.proofs.Common.{◌↔◌, set, get_or-set_same, get_or-set_other, eq-eqb, ne_eqb}
use Rattle.std.proofs.lemmas.Bool.{eqb-true}
use mathlib.Core.Option.{some, none}
use lib.ListN.{get_elem?}
use prog.Atomic.{either}
use Rattle.atomic_table.specs.Table.{step, Allows}
use Rattle.atomic_table.proofs.Lists.{exchanged}
use Rattle.event_word.specs.declared.phase.Phase.TheVariants.{Running, Pre}
use Rattle.event_word.specs.declared.event.Event.{Event}
use Rattle.event_word.specs.declared.event.Event.TheVariants.{Pass, PassFlag, Stop}
use Rattle.event_word.specs.World.{World, length_of}
use Rattle.event_word.specs.Step.{effect}
use Rattle.event_word.proofs.Keeps.{pre_known}
use Rattle.event_count.specs.declared.rule.TheConstants.{STOP, BANK}
use Rattle.event_count.specs.declared.rule.RowSizes.{RowSizes}
use Rattle.event_count.specs.declared.view.Finding.{Finding}
use Rattle.event_count.specs.declared.view.Card.{Card}
use Rattle.event_count.specs.Places.{row_place}
use Rattle.event_count.specs.Cards.{found_in, found_at_stop, only, card_in}
use Rattle.event_count.specs.Kinds.{has_passed_row}
use Rattle.event_count.specs.Plays.{Sat}
use Rattle.event_count.specs.Kept.{Knows, Links}
use Rattle.event_count.specs.Shown.{CountState, ShowsWorld}
use Rattle.event_count.specs.Tickets.{card_credits}
use Rattle.event_count.specs.Rows.Gains.{passing, passing_by, measuring, passing_flag_by}
use Rattle.event_count.specs.Rows.Gains.{stopping_by}
use Rattle.event_count.specs.Rows.Plays.{passes, passes_flag, stops, weighs, measures}
use Rattle.event_count.proofs.Words.{SameRows, same_rows}
use Rattle.event_count.proofs.Steps.{Fitting, acts, fits_none, truth}
use Rattle.event_count.proofs.Events.{sizes, is_pre}
use Rattle.event_count.proofs.Stepping.{After, Advances, allowed}
use Rattle.event_count.proofs.RowSteps.Counting.{some_of_all}
use Rattle.event_count.proofs.RowSteps.Aside.{IsAside, SameWaits, aside_row, aside_stop}
use Rattle.event_count.proofs.RowSteps.Aside.{wording_aside, stop_same, rows_same}
use Rattle.event_count.proofs.RowSteps.Events.{pass_fits, pass_flag_fits, stop_fits}

-- once the stop word is 1 a stop has come
module _ (k : RowSizes) (s : CountState) (shows : ShowsWorld k s) (actor : ℕ) where
  stopped : (slice_index (set s.words STOP 1) STOP ≡ 0) ↔ ((effect shows.1 (Stop actor)).stop ≡ 0)
  stopped = let room = shows.2.written.room in
      let there = get_or-set_same s.words STOP 1 0 (omega arith) in
      (λ e. absurd (omega arith), λ e. absurd (omega arith))

  rows_stopped : (row : ℕ) → row < k.rows
      → slice_index (set s.words STOP 1) (row_place (k.waiters + k.rows) row)
      ≡ length_of (effect shows.1 (Stop actor)) row
  rows_stopped row less =
      get_or-set_other s.words STOP (row_place (k.waiters + k.rows) row) 1 0
      (λ e. absurd (omega arith)) ∙ shows.2.written.rows row less

module _ (k : RowSizes) (slots id : ℕ) (me : Sat) (is : me.0 ≡ only (card_in me.0)) where
  -- the card of the seat that steps
  abbrev c : Card
  c = card_in me.0

  -- its view has this one card
  has : me.0.cards ≡ c ∷ []
  has = ap (λ v. v.cards) is

  module _ (s : CountState) (shows : ShowsWorld k s) (at : get_elem? s.views id ≡ some me.0)
      (place : ℕ) (aside : IsAside place) (other : BANK ≢ place) where
    -- a load of such a word is these events
    loaded : (events : List Event) (u : World) (d : Card) → Fitting k shows.1 u events c d
        → d.credits ≡ c.credits → d.epoch ≡ c.epoch → SameRows shows.1 u → SameWaits shows.1 u
        → ((ws : List ℕ) (es : ℕ → ℕ) → Knows ws u es c → Knows ws u es d)
        → ((ws : List ℕ) → Links ws c → Links ws d)
        → After k slots id me is s shows place (slice_index s.words place) d
    loaded events u d f credits still rows same reads links =
        let history = shows.0 in let w = shows.1 in let r = shows.2 in
        let n = slice_index s.words place in (
          events,
          u,
          acts k s history w r id me.0 c at has events u d place n me.1 is credits rows.lengths other f
              (wording_aside k s history w r id me.0 c at has events u d place n aside f still same
              (stop_same k s.words _ w r.written u place rows)
              (rows_same k s.words _ w r.written u place rows) reads links),
        )

    -- or none
    loaded_none : (found : Finding)
        → After k slots id me is s shows place (slice_index s.words place)
        (record c { found = found })
    loaded_none found =
        let w = shows.1 in
        loaded [] w (record c { found = found })
        (fits_none k s shows.0 w shows.2 id me.0 c at has (record c { found = found })
        refl refl refl refl refl refl refl refl refl refl)
        refl refl (same_rows w w refl refl)
        (record { pre = refl; signals = refl; stack = refl; tokens = refl })
        (λ ws es was. was) (λ ws was. was)

  module _ (row : ℕ) (less : row < k.rows) (pre : c.phase ≡ Pre) where
    -- a load of a row's length
    pub pass_adds :
        Advances k slots id me is (row_place (k.waiters + k.rows) row) 0 0 (λ n. n) passes
    pass_adds s shows at _ =
        by_found s shows at (slice_index s.words (row_place (k.waiters + k.rows) row) == 0) refl
      where
        by_found : (s : CountState) (shows : ShowsWorld k s)
            (at : get_elem? s.views id ≡ some me.0) (b : Bool)
            → (slice_index s.words (row_place (k.waiters + k.rows) row) == 0) ≡ b
            → (d : Card) × After k slots id me is s shows (row_place (k.waiters + k.rows) row)
            (slice_index s.words (row_place (k.waiters + k.rows) row)) d
            × passes (step slots (row_place (k.waiters + k.rows) row) 0 0 none) me
            (slice_index s.words (row_place (k.waiters + k.rows) row)) (only d, me.1)
        by_found s shows at b is_b =
            let history = shows.0 in let w = shows.1 in let r = shows.2 in
            let place = row_place (k.waiters + k.rows) row in
            let word = slice_index s.words place in
            let t = truth k s history w r id me.0 c at has in
            let z = sizes k s history w r id me.0 c at has in
            let same : record (passing_by b c row) { found = found_in row word } ≡ passing c row word =
            ap (λ x. record (passing_by x c row) { found = found_in row word }) (sym is_b) in
            let waits = is_pre k s history w r id me.0 c at has pre in
            let known = pre_known w c.number waits in let phases = z.phases in
            let many = ap length t.passed ∙ z.passed_rows c.number (omega arith) in (
              record (passing_by b c row) { found = found_in row word },
              taken s shows at b is_b,
              (
                row,
                (
                  let rows = t.rows in omega arith,
                  let waiters = t.waiters in let rows = t.rows in omega arith,
                ),
                ap (λ d. (only d, me.1)) same,
                λ zero_found. ap (λ x. has_passed_row (record (passing_by x c row) { found = found_in row word })
                    row) (eq-eqb word 0 zero_found)
                    ∙ get_or-set_same c.passed row true false (omega arith),
              ),
            )
          where
            taken : (s : CountState) (shows : ShowsWorld k s)
                (at : get_elem? s.views id ≡ some me.0) (b : Bool)
                → (slice_index s.words (row_place (k.waiters + k.rows) row) == 0) ≡ b
                → After k slots id me is s shows (row_place (k.waiters + k.rows) row)
                (slice_index s.words (row_place (k.waiters + k.rows) row))
                (record (passing_by b c row) {
                  found = found_in row (slice_index s.words (row_place (k.waiters + k.rows) row));
                })
            taken s shows at true zero_found =
                let history = shows.0 in let w = shows.1 in let r = shows.2 in
                let place = row_place (k.waiters + k.rows) row in
                let word = slice_index s.words place in
                let none_there = eqb-true word 0 zero_found in
                let here = r.written.rows row less in
                loaded s shows at place (aside_row (k.waiters + k.rows) row)
                (λ e. absurd (omega arith)) (Pass c.number row ∷ []) (effect w (Pass c.number row))
                (record (passing_by true c row) { found = found_in row word })
                (pass_fits k s history w r id me.0 c at has row (found_in row word) less pre
                (omega arith))
                refl refl (same_rows w (effect w (Pass c.number row)) refl refl)
                (record { pre = refl; signals = refl; stack = refl; tokens = refl })
                (λ ws es was. was) (λ ws was. was)
            taken s shows at false some_found =
                loaded_none s shows at (row_place (k.waiters + k.rows) row)
                (aside_row (k.waiters + k.rows) row) (λ e. absurd (omega arith))
                (found_in row (slice_index s.words (row_place (k.waiters + k.rows) row)))

    pub pass_keeps_at : (place : ℕ) → place ≡ row_place (k.waiters + k.rows) row
        → Allows (ShowsWorld k) slots id me place (λ n. n) (passes (step slots place 0 0 none) me)
    pass_keeps_at place at =
        subst (λ p. Allows (ShowsWorld k) slots id me p (λ n. n)
        (passes (step slots p 0 0 none) me)) (sym at)
        (allowed k slots id me is (row_place (k.waiters + k.rows) row) 0 0 (λ n. n) passes
        pass_adds)

  -- a load of the stop word
  pub pass_flag_adds : c.phase ≡ Pre → Advances k slots id me is STOP 0 0 (λ n. n) passes_flag
  pass_flag_adds pre s shows at _ =
      let word = slice_index s.words STOP in by_found (word == 0) refl
    where
      by_found : (b : Bool) → (slice_index s.words STOP == 0) ≡ b
          → (d : Card) × After k slots id me is s shows STOP (slice_index s.words STOP) d
          × passes_flag (step slots STOP 0 0 none) me (slice_index s.words STOP) (only d, me.1)
      by_found true zero_found =
          let history = shows.0 in let w = shows.1 in let r = shows.2 in
          let word = slice_index s.words STOP in
          let going = r.written.stop.0 (eqb-true word 0 zero_found) in
          let d = record (passing_flag_by true c) { found = found_at_stop word } in (
            d,
            loaded s shows at STOP aside_stop (λ e. absurd (omega arith)) (PassFlag c.number ∷ [])
                (effect w (PassFlag c.number)) d
                (pass_flag_fits k s history w r id me.0 c at has (found_at_stop word) pre going) refl refl
                (same_rows w (effect w (PassFlag c.number)) refl refl)
                (record { pre = refl; signals = refl; stack = refl; tokens = refl })
                (λ ws es was. was) (λ ws was. was),
            (
              refl,
              ap (λ x. (only (record (passing_flag_by x c) { found = found_at_stop word }), me.1))
                  (sym zero_found),
            ),
          )
      by_found false some_found = let word = slice_index s.words STOP in (
        record c { found = found_at_stop word },
        loaded_none s shows at STOP aside_stop (λ e. absurd (omega arith)) (found_at_stop word),
        (
          refl,
          ap (λ x. (only (record (passing_flag_by x c) { found = found_at_stop word }), me.1)) (sym some_found),
        ),
      )

  pub pass_flag_keeps : c.phase ≡ Pre
      → Allows (ShowsWorld k) slots id me STOP (λ n. n)
      (passes_flag (step slots STOP 0 0 none) me)
  pass_flag_keeps pre =
      allowed k slots id me is STOP 0 0 (λ n. n) passes_flag (pass_flag_adds pre)

  -- an exchange of the stop word
  pub stop_adds : 0 < k.rows → c.phase ≡ Running → c.owing ≡ [] → c.announcing ≡ false
      → Advances k slots id me is STOP 0 1 (λ n. either (n == 0) 1 n) stops
  stop_adds some_rows running owes_none silent s shows at _ =
      let history = shows.0 in let w = shows.1 in let r = shows.2 in
      let word = slice_index s.words STOP in
      exchanged word 0 1
      (λ x. (d : Card) × After k slots id me is s shows STOP x d
      × stops (step slots STOP 0 1 none) me word (only d, me.1))
      (λ hit. let d = record (stopping_by true c) { found = found_at_stop word } in
      let u = effect w (Stop c.number) in let events : List Event = Stop c.number ∷ [] in
      let f = stop_fits k s history w r id me.0 c at has (found_at_stop word) some_rows running
      owes_none silent (r.written.stop.0 hit) in (
        d,
        (
          events,
          u,
          acts k s history w r id me.0 c at has events u d STOP 1 me.1 is refl refl
              (λ e. absurd (omega arith)) f
              (wording_aside k s history w r id me.0 c at has events u d STOP 1 aside_stop f refl
              (record { pre = refl; signals = refl; stack = refl; tokens = refl })
              (stopped k s shows c.number) (rows_stopped k s shows c.number) (λ ws es was. was) (λ ws was. was)),
        ),
        (
          refl,
          ap (λ x. (only (record (stopping_by x c) { found = found_at_stop word }), me.1))
              (sym (eq-eqb word 0 hit)),
        ),
      ))
      (λ miss. (
        record c { found = found_at_stop word },
        loaded_none s shows at STOP aside_stop (λ e. absurd (omega arith)) (found_at_stop word),
        (
          refl,
          ap (λ x. (only (record (stopping_by x c) { found = found_at_stop word }), me.1))
              (sym (ne_eqb word 0 miss)),
        ),
      ))

  pub stop_keeps : 0 < k.rows → c.phase ≡ Running → c.owing ≡ [] → c.announcing ≡ false
      → Allows (ShowsWorld k) slots id me STOP (λ n. either (n == 0) 1 n)
      (stops (step slots STOP 0 1 none) me)
  stop_keeps some_rows running owes_none silent =
      allowed k slots id me is STOP 0 1 (λ n. either (n == 0) 1 n) stops
      (stop_adds some_rows running owes_none silent)

  module _ (row : ℕ) (less : row < k.rows) where
    -- a load of a row's length that passes nothing
    pub measure_adds :
        Advances k slots id me is (row_place (k.waiters + k.rows) row) 0 0 (λ n. n) measures
    measure_adds s shows at _ =
        let t = truth k s shows.0 shows.1 shows.2 id me.0 c at has in
        let place = row_place (k.waiters + k.rows) row in
        let word = slice_index s.words place in (
          measuring c row word,
          loaded_none s shows at place (aside_row (k.waiters + k.rows) row)
              (λ e. absurd (omega arith)) (found_in row word),
          (
            row,
            (
              let rows = t.rows in omega arith,
              let waiters = t.waiters in let rows = t.rows in omega arith,
            ),
            refl,
          ),
        )

    pub measure_keeps_at : (place : ℕ) → place ≡ row_place (k.waiters + k.rows) row
        → Allows (ShowsWorld k) slots id me place (λ n. n) (measures (step slots place 0 0 none) me)
    measure_keeps_at place at =
        subst (λ p. Allows (ShowsWorld k) slots id me p (λ n. n)
        (measures (step slots p 0 0 none) me)) (sym at)
        (allowed k slots id me is (row_place (k.waiters + k.rows) row) 0 0 (λ n. n) measures
        measure_adds)

  -- a load that tells how few credits there are
  pub weigh_adds : Advances k slots id me is STOP 0 0 (λ n. n) weighs
  weigh_adds s shows at _ =
      let all = some_of_all 0 s.views id me.0 at in let limit = shows.2.few_credits in
      let sum = shows.2.counted.credits in
      let mine = ap (λ v. card_credits v.cards) is in (
        c,
        loaded_none s shows at STOP aside_stop (λ e. absurd (omega arith)) c.found,
        (refl, (λ i. (sym is i, me.1)), omega arith),
      )

  pub weigh_keeps : Allows (ShowsWorld k) slots id me STOP (λ n. n)
      (weighs (step slots STOP 0 0 none) me)
  weigh_keeps = allowed k slots id me is STOP 0 0 (λ n. n) weighs weigh_adds

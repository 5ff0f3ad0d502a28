-- What the events of rows and of the stop do to the World that a count shows.
use Rattle.std.proofs.Common.{◌≡◌, ℕ, ◌<◌, false, true, [], ◌∷◌, slice_set, sym, ap}
use Rattle.std.proofs.Common.{refl, ◌∙◌, arith, get_or-set_same}
use mathlib.Core.Option.{some}
use lib.ListN.{get_elem?}
use Rattle.event_word.specs.declared.phase.Phase.TheVariants.{Running, Pre}
use Rattle.event_word.specs.declared.event.Event.{Event}
use Rattle.event_word.specs.declared.event.Event.TheVariants.{Publish, Take, Pass, PassFlag, Stop}
use Rattle.event_word.specs.World.{World, length_of, rows_passed_by, is_announcing}
use Rattle.event_word.specs.Step.{row_limit, effect}
use Rattle.event_word.proofs.Keeps.{pre_known}
use Rattle.event_count.specs.declared.rule.RowSizes.{RowSizes}
use Rattle.event_count.specs.declared.view.Finding.{Finding}
use Rattle.event_count.specs.declared.view.Card.{Card}
use Rattle.event_count.specs.declared.view.View.{View}
use Rattle.event_count.specs.Rows.Gains.{publishing, redeeming, passing_by, passing_flag_by}
use Rattle.event_count.specs.Rows.Gains.{stopping_by}
use Rattle.event_count.specs.Shown.{CountState, Shows}
use Rattle.event_count.proofs.Cards.{is_seat}
use Rattle.event_count.proofs.Steps.{Fitting}
use Rattle.event_count.proofs.Events.{sizes, told, free, is_pre, rowless_on}
use Rattle.std.proofs.Common.{List}

module _ (k : RowSizes) (s : CountState) (history : List Event) (w : World)
    (r : Shows k s history w) (id : ℕ) (v : View) (c : Card)
    (at : get_elem? s.views id ≡ some v) (is : v.cards ≡ c ∷ []) where
  -- a seat that announces is to be found among those that do
  announces : is_announcing (effect w (Stop c.number)) c.number ≡ true
  announces =
      let here = is_seat k s.views id v c r.dealt at is in
      let actors = (sizes k s history w r id v c at is).announcing in
      get_or-set_same w.announcing c.number true false (omega arith)

  pub publish_fits : (row : ℕ) → row < k.rows → c.phase ≡ Running → c.owing ≡ []
      → c.announcing ≡ false → length_of w row < row_limit
      → Fitting k w (effect w (Publish c.number row)) (Publish c.number row ∷ []) c
      (publishing c row)
  publish_fits row less running owes_none silent few =
      let t = told k s history w r id v c at is in
      let lengths = (sizes k s history w r id v c at is).lengths in record {
        runs = (
          (
            (free k s history w r id v c at is running owes_none, sym t.announcing ∙ silent),
            omega arith,
            few,
          ),
          refl,
        );
        by = (refl, tt);
        waiters = refl;
        number = refl;
        gains = refl;
        waits = t.waits;
        notifies = t.notifies;
        owing = t.owing;
        epoch = omega arith;
        rows = refl;
        flag = t.flag;
        passed = t.passed;
        announcing = sym announces;
        plain = λ none_there. absurd (omega arith);
      }

  pub take_fits : (row : ℕ) → row < k.rows → c.phase ≡ Running → c.owing ≡ []
      → 0 < length_of w row
      → Fitting k w (effect w (Take c.number row)) (Take c.number row ∷ []) c (redeeming c row)
  take_fits row less running owes_none more =
      let t = told k s history w r id v c at is in record {
        runs = ((free k s history w r id v c at is running owes_none, more), refl);
        by = (refl, tt);
        waiters = refl;
        number = refl;
        gains = refl;
        waits = t.waits;
        notifies = t.notifies;
        owing = t.owing;
        epoch = omega arith;
        rows = refl;
        flag = t.flag;
        passed = t.passed;
        announcing = t.announcing;
        plain = λ none_there. absurd (omega arith);
      }

  pub pass_fits : (row : ℕ) (found : Finding) → row < k.rows → c.phase ≡ Pre → length_of w row ≡ 0
      → Fitting k w (effect w (Pass c.number row)) (Pass c.number row ∷ []) c
      (record (passing_by true c row) { found = found })
  pass_fits row found less pre empty =
      let t = told k s history w r id v c at is in let z = sizes k s history w r id v c at is in
      let waits = is_pre k s history w r id v c at is pre in
      let known = pre_known w c.number waits in let lengths = z.lengths in
      let lists = z.passed in let phases = z.phases in record {
        runs = ((waits, omega arith, empty), refl);
        by = (refl, tt);
        waiters = refl;
        number = refl;
        gains = refl;
        waits = t.waits;
        notifies = t.notifies;
        owing = t.owing;
        epoch = omega arith;
        rows = refl;
        flag = t.flag;
        passed = ap (λ l. slice_set l row true) t.passed
            ∙ sym (get_or-set_same w.passed c.number
            (slice_set (rows_passed_by w c.number) row true) [] (omega arith));
        announcing = t.announcing;
        plain = λ none_there. absurd (omega arith);
      }

  pub pass_flag_fits : (found : Finding) → c.phase ≡ Pre → w.stop ≡ 0
      → Fitting k w (effect w (PassFlag c.number)) (PassFlag c.number ∷ []) c
      (record (passing_flag_by true c) { found = found })
  pass_flag_fits found pre going =
      let t = told k s history w r id v c at is in let z = sizes k s history w r id v c at is in
      let waits = is_pre k s history w r id v c at is pre in
      let known = pre_known w c.number waits in let flags = z.flags in
      let phases = z.phases in record {
        runs = ((waits, going), refl);
        by = (refl, tt);
        waiters = refl;
        number = refl;
        gains = refl;
        waits = t.waits;
        notifies = t.notifies;
        owing = t.owing;
        epoch = omega arith;
        rows = refl;
        flag = sym (get_or-set_same w.flags c.number true false (omega arith));
        passed = t.passed;
        announcing = t.announcing;
        plain = rowless_on k s history w r id v c at is (effect w (PassFlag c.number)) refl refl;
      }

  pub stop_fits : (found : Finding) → 0 < k.rows → c.phase ≡ Running → c.owing ≡ []
      → c.announcing ≡ false → w.stop ≡ 0
      → Fitting k w (effect w (Stop c.number)) (Stop c.number ∷ []) c
      (record (stopping_by true c) { found = found })
  stop_fits found some_rows running owes_none silent going =
      let t = told k s history w r id v c at is in record {
        runs = (
          ((free k s history w r id v c at is running owes_none, sym t.announcing ∙ silent), going),
          refl,
        );
        by = (refl, tt);
        waiters = refl;
        number = refl;
        gains = refl;
        waits = t.waits;
        notifies = t.notifies;
        owing = t.owing;
        epoch = omega arith;
        rows = refl;
        flag = t.flag;
        passed = t.passed;
        announcing = sym announces;
        plain = λ none_there. absurd (omega arith);
      }

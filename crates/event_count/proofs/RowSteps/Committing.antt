-- What a commit does to the World that a count shows, and to its word, at a count of either kind.
use Rattle.std.proofs.Common.{◌≡◌, ℕ, ◌-◌, ◌<◌, ◌==◌, nat_lt, Bool, true, false, List, []}
use Rattle.std.proofs.Common.{◌∷◌, length, sym, ap, refl, ◌∙◌, arith, get_or, get_or-set_same}
use Rattle.std.proofs.lemmas.Bool.{cond-true, cond-false, lt-ltb, le-ltb}
use mathlib.Core.Option.{some}
use lib.ListN.{get_elem?}
use Rattle.event_word.specs.declared.phase.Phase.TheVariants.{Running, Pre, Stacked, Ended}
use Rattle.event_word.specs.declared.event.Event.{Event}
use Rattle.event_word.specs.declared.event.Event.TheVariants.{PassFlag, Commit}
use Rattle.event_word.specs.declared.word.Fields.{Fields}
use Rattle.event_word.specs.Word.{consumed, pushed}
use Rattle.event_word.specs.Fields.{fields}
use Rattle.event_word.specs.Shown.{shown, top_of}
use Rattle.event_word.specs.World.{World, has_passed_flag}
use Rattle.event_word.specs.Step.{Possible, effect, leave, park}
use Rattle.event_word.specs.Lawful.{Lawful}
use Rattle.event_word.specs.Runs.{Runs}
use Rattle.event_word.specs.Balance.{push_of, over}
use Rattle.event_word.specs.Lists.{one_if}
use Rattle.event_word.proofs.Keeps.{lawful_effect, pre_known}
use Rattle.event_word.proofs.Lists.{one_if-same}
use Rattle.event_word.proofs.Following.{word_follows}
use Rattle.event_count.specs.declared.rule.RowSizes.{RowSizes}
use Rattle.event_count.specs.declared.view.Exchange.{Exchange}
use Rattle.event_count.specs.declared.view.Card.{Card}
use Rattle.event_count.specs.declared.view.View.{View}
use Rattle.event_count.specs.Gains.{commit_events, consuming, pushing}
use Rattle.event_count.specs.Kinds.{IsKind, MayCommit}
use Rattle.event_count.specs.Shown.{CountState, Shows}
use Rattle.event_count.proofs.Acting.{AreBy}
use Rattle.event_count.proofs.Steps.{Fitting}
use Rattle.event_count.proofs.Words.{SameRows, same_rows}
use Rattle.event_count.proofs.Events.{law, sizes, told, is_pre, rowless_on}

-- a World that differs from another in what seats have passed
pub record AreAlike (w x : World) : Type 0 where
  pub phases : x.phases ≡ w.phases
  pub passed : x.passed ≡ w.passed
  pub pre : x.pre ≡ w.pre
  pub signals : x.signals ≡ w.signals
  pub stack : x.stack ≡ w.stack
  pub owed : x.owed ≡ w.owed
  pub announcing : x.announcing ≡ w.announcing
  pub tokens : x.tokens ≡ w.tokens
  pub lengths : x.lengths ≡ w.lengths
  pub stop : x.stop ≡ w.stop

-- they show the same
shown_alike : (w x : World) → AreAlike w x → (e : ℕ) → shown w e ≡ shown x e
shown_alike w x same e =
    let stack = sym same.stack in let pre = sym same.pre in let signals = sym same.signals in
    λ i. fields (top_of (stack i)) (length (pre i)) (signals i) e

module _ (k : RowSizes) (s : CountState) (history : List Event) (w : World)
    (r : Shows k s history w) (id : ℕ) (v : View) (c : Card)
    (at : get_elem? s.views id ≡ some v) (is : v.cards ≡ c ∷ []) where
  lawful_here : Lawful w
  lawful_here = law k s history w r id v c at is

  phase_here : c.phase ≡ Pre → Possible w (PassFlag c.number) → Lawful (effect w (PassFlag c.number))
  phase_here pre may = let z = sizes k s history w r id v c at is in
      lawful_effect w (PassFlag c.number) (z.tokens ∙ sym z.phases) lawful_here may

  -- the World in which the seat commits: at a count alone it has passed the flag there
  abbrev pub ready : Bool → World
  ready true = w
  ready false = effect w (PassFlag c.number)

  pub alike : (rowed : Bool) → AreAlike w (ready rowed)
  alike true = record {
    phases = refl;
    passed = refl;
    pre = refl;
    signals = refl;
    stack = refl;
    owed = refl;
    announcing = refl;
    tokens = refl;
    lengths = refl;
    stop = refl;
  }
  alike false = record {
    phases = refl;
    passed = refl;
    pre = refl;
    signals = refl;
    stack = refl;
    owed = refl;
    announcing = refl;
    tokens = refl;
    lengths = refl;
    stop = refl;
  }

  may_pass : k.rows ≡ 0 → c.phase ≡ Pre → Possible w (PassFlag c.number)
  may_pass none pre = (is_pre k s history w r id v c at is pre, (r.plain none).stop)

  may_commit : (rowed : Bool) → IsKind rowed k → MayCommit rowed k c → c.phase ≡ Pre
      → Possible (ready rowed) (Commit c.number)
  may_commit true kind may pre =
      let z = (sizes k s history w r id v c at is).lengths in
      let t = told k s history w r id v c at is in (
        is_pre k s history w r id v c at is pre,
        record {
          flag = sym t.flag ∙ may.flag;
          rows = λ row less. ap (λ (l : List Bool). get_or l row false) (sym t.passed)
              ∙ may.each row (omega arith);
        },
      )
  may_commit false kind may pre =
      let z = sizes k s history w r id v c at is in let flags = z.flags in
      let phases = z.phases in let rows = z.lengths in let none : k.rows ≡ 0 = kind in
      let waits = is_pre k s history w r id v c at is pre in
      let known = pre_known w c.number waits in (
        waits,
        record {
          flag = get_or-set_same w.flags c.number true false (omega arith);
          rows = λ row less. absurd (omega arith);
        },
      )

  lawful_in : (rowed : Bool) → IsKind rowed k → c.phase ≡ Pre → Lawful (ready rowed)
  lawful_in true kind pre = lawful_here
  lawful_in false kind pre = phase_here pre (may_pass kind pre)

  runs_in : (rowed : Bool) (u : World) → IsKind rowed k → MayCommit rowed k c → c.phase ≡ Pre
      → effect (ready rowed) (Commit c.number) ≡ u → Runs w (commit_events rowed c.number) u
  runs_in true u kind may pre e = (may_commit true kind may pre, e)
  runs_in false u kind may pre e = (may_pass kind pre, (may_commit false kind may pre, e))

  by_in : (rowed : Bool) → AreBy c.number (commit_events rowed c.number)
  by_in true = (refl, tt)
  by_in false = (refl, (refl, tt))

  over_in : (rowed : Bool) → over (push_of c.number) w (commit_events rowed c.number)
      ≡ push_of c.number (ready rowed) (Commit c.number)
  over_in true = omega arith
  over_in false = omega arith

  flag_in : (rowed : Bool) → IsKind rowed k → MayCommit rowed k c → c.phase ≡ Pre
      → has_passed_flag (ready rowed) c.number ≡ true
  flag_in rowed kind may pre = (may_commit rowed kind may pre).1.flag

  module _ (rowed : Bool) (kind : IsKind rowed k) (may : MayCommit rowed k c)
      (pre : c.phase ≡ Pre) where
    abbrev x : World
    x = ready rowed

    known : c.number < length x.phases
    known = pre_known x c.number (may_commit rowed kind may pre).0

    -- the World after a commit that takes a signal
    abbrev pub taken : World
    taken = leave x c.number Running (x.signals - 1)

    takes : 0 < x.signals → effect x (Commit c.number) ≡ taken
    takes there = cond-true (nat_lt 0 x.signals) taken (park x c.number)
        (lt-ltb 0 x.signals there)

    pub consume_fits : (e : Exchange) → 0 < w.signals
        → Fitting k w taken (commit_events rowed c.number) c (consuming rowed c e)
    consume_fits e there =
        let same = alike rowed in let signals = same.signals in
        let t = told k s history w r id v c at is in
        let here : 0 < x.signals = omega arith in record {
          runs = runs_in rowed taken kind may pre (takes here);
          by = by_in rowed;
          waiters = refl;
          number = refl;
          gains = refl;
          waits = λ less. sym (get_or-set_same x.phases c.number Running Ended known);
          notifies = λ le. refl;
          owing = t.owing ∙ ap (λ xs. get_or xs c.number []) (sym same.owed);
          epoch = let none = cond-true (nat_lt 0 x.signals) 0 (one_if (c.number == c.number))
              (lt-ltb 0 x.signals here) in let sum = over_in rowed in omega arith;
          rows = refl;
          flag = sym (flag_in rowed kind may pre);
          passed = t.passed ∙ ap (λ xs. get_or xs c.number []) (sym same.passed);
          announcing = t.announcing ∙ ap (λ xs. get_or xs c.number false) (sym same.announcing);
          plain = rowless_on k s history w r id v c at is taken same.stop same.announcing;
        }

    pub consume_shows : (f : Fields) (e : ℕ) → f ≡ shown w e → 0 < w.signals
        → consumed f ≡ shown taken e
    consume_shows f e here there =
        let same = alike rowed in let signals = same.signals in
        let there' : 0 < x.signals = omega arith in
        ap consumed (here ∙ shown_alike w x same e)
        ∙ ((word_follows x e (lawful_in rowed kind pre)).consume c.number
        (may_commit rowed kind may pre) there' ∙ ap (λ u. shown u e) (takes there'))

    parks : x.signals ≡ 0 → effect x (Commit c.number) ≡ park x c.number
    parks none = cond-false (nat_lt 0 x.signals) taken (park x c.number)
        (le-ltb 0 x.signals (omega arith))

    pub push_fits : (e : Exchange) → w.signals ≡ 0
        → Fitting k w (park x c.number) (commit_events rowed c.number) c (pushing rowed c e)
    push_fits e none =
        let same = alike rowed in let signals = same.signals in
        let t = told k s history w r id v c at is in
        let here : x.signals ≡ 0 = omega arith in record {
          runs = runs_in rowed (park x c.number) kind may pre (parks here);
          by = by_in rowed;
          waiters = refl;
          number = refl;
          gains = refl;
          waits = λ less. sym (get_or-set_same x.phases c.number Stacked Ended known);
          notifies = λ le. let phases = (sizes k s history w r id v c at is).phases in
              let there = pre_known w c.number (is_pre k s history w r id v c at is pre) in
              absurd (omega arith);
          owing = t.owing ∙ ap (λ xs. get_or xs c.number []) (sym same.owed);
          epoch = let once = cond-false (nat_lt 0 x.signals) 0 (one_if (c.number == c.number))
              (le-ltb 0 x.signals (omega arith)) ∙ one_if-same c.number c.number refl in
              let sum = over_in rowed in omega arith;
          rows = refl;
          flag = sym (flag_in rowed kind may pre);
          passed = t.passed ∙ ap (λ xs. get_or xs c.number []) (sym same.passed);
          announcing = t.announcing ∙ ap (λ xs. get_or xs c.number false) (sym same.announcing);
          plain = rowless_on k s history w r id v c at is (park x c.number) same.stop
              same.announcing;
        }

    pub push_shows : (f : Fields) (e at : ℕ) → f ≡ shown w e → w.signals ≡ 0
        → pushed f c.number at ≡ shown (park x c.number) at
    push_shows f e at here none =
        let same = alike rowed in let signals = same.signals in
        let none_here : x.signals ≡ 0 = omega arith in
        ap (λ g. pushed g c.number at) (here ∙ shown_alike w x same e)
        ∙ ((word_follows x e (lawful_in rowed kind pre)).push c.number at
        (may_commit rowed kind may pre) none_here ∙ ap (λ u. shown u at) (parks none_here))

    -- rows and the stop word stay
    pub rows_stay : SameRows w taken
    rows_stay = same_rows w taken (alike rowed).lengths (alike rowed).stop

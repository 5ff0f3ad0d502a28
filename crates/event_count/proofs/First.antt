-- The rule holds when nobody has done anything.
use Rattle.std.proofs.Common.{◌≡◌, ◌≢◌, ℕ, zero, suc, ◌+◌, ◌-◌, ◌*◌, ◌++◌, ◌≤◌, ◌<◌, nat_lt, false, List, []}
use Rattle.std.proofs.Common.{◌∷◌, length, map, replicate, slice_index, sym, ap, refl, ◌∙◌, subst}
use Rattle.std.proofs.Common.{⊎_elim, arith, All, length-set, get_or-set_same, get_or-set_other}
use Rattle.std.specs.List.{range_with_len}
use Rattle.std.proofs.Math.Nat.{suc-mul}
use Rattle.std.proofs.lemmas.Bool.{cases_eq, cases_lt, lt-ltb, le-ltb}
use Rattle.std.proofs.lemmas.List.{length-replicate, get_or-replicate}
use Rattle.std.proofs.lemmas.List.FromFn.{length-map-range_with_len}
use Rattle.std.proofs.lemmas.List.Elements.{All-nil, All-cons}
use mathlib.Core.Option.{some-injective, some-ne-none}
use Rattle.atomic_table.specs.Table.{opening}
use Rattle.event_word.specs.declared.phase.Phase.TheVariants.{Running, Ended}
use Rattle.event_word.specs.Fields.{fields_of}
use Rattle.event_word.specs.Word.{nobody}
use Rattle.event_word.specs.Lists.{one_if, times}
use Rattle.event_word.proofs.Lists.{one_if-same, one_if-other, get_or-replicate_same}
use Rattle.event_count.specs.declared.rule.TheConstants.{STOP, BANK, STATE}
use Rattle.event_count.specs.declared.rule.RowSizes.{RowSizes}
use Rattle.event_count.specs.declared.view.Card.{Card}
use Rattle.event_count.specs.declared.view.View.{View}
use Rattle.event_count.specs.Places.{parker_place, next_place, row_place, words_for}
use Rattle.event_count.specs.Places.{words_at_first}
use Rattle.event_count.specs.Cards.{opening_card, view, first_card, other_cards, card_in, undealt}
use Rattle.event_count.specs.Cards.{after_deal}
use Rattle.event_count.specs.Plays.{Sat}
use Rattle.event_count.specs.Written.{Written}
use Rattle.event_count.specs.Known.{world_at_first, next_epoch, Agrees, Each}
use Rattle.event_count.specs.Kept.{Knows, Links}
use Rattle.event_word.specs.Step.{row_limit}
use Rattle.event_count.specs.Tickets.{card_credits, credits_for, banked}
use Rattle.event_count.specs.Shown.{ShowsWorld}
use Rattle.event_count.proofs.Cards.{numbers}

-- the cards from a number on
abbrev pub fresh_from : RowSizes → ℕ → ℕ → List Card
fresh_from k from count = map (opening_card k) (range_with_len from count)

All-fresh : (k : RowSizes) (P : Card → Type 0) → ((n : ℕ) → P (opening_card k n)) → (from count : ℕ)
    → All P (fresh_from k from count)
All-fresh k P each from zero = All-nil P
All-fresh k P each from (suc count) =
    All-cons P (opening_card k from) (fresh_from k (from + 1) count) (each from)
    (All-fresh k P each (from + 1) count)

module _ (k : RowSizes) (n : ℕ) where
  times-below : (from count : ℕ) → n < from → times n (numbers (fresh_from k from count)) ≡ 0
  times-below from zero less = refl
  times-below from (suc count) less = let other = one_if-other from n (λ e. absurd (omega arith)) in
      let rest = times-below (from + 1) count (omega arith) in omega arith

  times-within : (from count : ℕ) → from ≤ n → n < from + count
      → times n (numbers (fresh_from k from count)) ≡ 1
  times-within from zero le less = absurd (omega arith)
  times-within from (suc count) le less = ⊎_elim
      (λ is. let here = one_if-same from n is in
      let rest = times-below (from + 1) count (omega arith) in omega arith)
      (λ ne. let other = one_if-other from n ne in
      let rest = times-within (from + 1) count (omega arith) (omega arith) in omega arith)
      (cases_eq from n)

  times-past : (from count : ℕ) → from + count ≤ n
      → times n (numbers (fresh_from k from count)) ≡ 0
  times-past from zero le = refl
  times-past from (suc count) le = let other = one_if-other from n (λ e. absurd (omega arith)) in
      let rest = times-past (from + 1) count (omega arith) in omega arith

  times-fresh : (count : ℕ) → times n (numbers (fresh_from k 0 count)) ≡ one_if (nat_lt n count)
  times-fresh count = ⊎_elim
      (λ less. times-within 0 count (omega arith) (omega arith)
      ∙ sym (ap one_if (lt-ltb n count less)))
      (λ le. times-past 0 count (omega arith) ∙ sym (ap one_if (le-ltb n count le)))
      (cases_lt n count)

-- a list of one element
each_one : (P : Card → Type 0) (v : View) → All P v.cards → Each P (v ∷ [])
each_one P v all zero x at = subst (λ y. All P y.cards) (some-injective v x at) all
each_one P v all (suc id) x at = absurd (some-ne-none x (sym at))

abbrev no_words : ℕ → List ℕ
no_words waiters = replicate (words_for waiters) 0

pub length-words_at_first : (waiters : ℕ) → length (words_at_first waiters) ≡ words_for waiters
length-words_at_first waiters =
    length-set (no_words waiters) STATE nobody ∙ length-replicate (words_for waiters) 0

written_first : (k : RowSizes)
    → Written k (words_at_first (k.waiters + k.rows)) (world_at_first k) (next_epoch k [])
written_first k =
    let lines = k.waiters + k.rows in
    let long : length (no_words lines) ≡ words_for lines = length-replicate (words_for lines) 0 in
    let here : slice_index (words_at_first lines) STATE ≡ nobody =
    get_or-set_same (no_words lines) STATE nobody 0 (omega arith) in
    let elsewhere : (place : ℕ) → STATE ≢ place → slice_index (words_at_first lines) place ≡ 0 =
    λ place ne. get_or-set_other (no_words lines) STATE place nobody 0 (λ e. ne (sym e))
    ∙ get_or-replicate_same (words_for lines) 0 place in
    record {
      room = length-words_at_first lines;
      pre = ap (λ n. (fields_of n).pre) here;
      signals = ap (λ n. (fields_of n).signals) here;
      stack = (ap (λ n. (fields_of n).top) here, ap (λ n. (fields_of n).epoch) here);
      tokens = λ seat less. elsewhere (parker_place seat) (λ e. absurd (omega arith))
          ∙ sym (ap one_if (get_or-replicate_same k.waiters false seat));
      stop = (λ _. refl, λ _. elsewhere STOP (λ e. absurd (omega arith)));
      rows = λ row less. elsewhere (row_place lines row) (λ e. absurd (omega arith))
          ∙ sym (get_or-replicate_same k.rows 0 row);
    }

true_first : (k : RowSizes) (n : ℕ)
    → Agrees k [] (world_at_first k) (opening_card k n)
true_first k n = record {
  waiters = refl;
  rows = refl;
  waits = λ less. sym (get_or-replicate k.waiters n Running Ended less);
  notifies = λ le. refl;
  owing = sym (get_or-replicate_same (k.waiters + k.notifiers) [] n);
  events = refl;
  epoch = omega arith;
  flag = sym (get_or-replicate_same k.waiters false n);
  passed = refl;
  announcing = sym (get_or-replicate_same (k.waiters + k.notifiers) false n);
}

known_first : (k : RowSizes) (n : ℕ) → Knows (words_at_first (k.waiters + k.rows))
    (world_at_first k) (next_epoch k []) (opening_card k n)
known_first k n = let lines = k.waiters + k.rows in record {
  stores = get_or-set_other (no_words lines) STATE (next_place n) nobody 0
      (λ e. absurd (omega arith))
      ∙ get_or-replicate_same (words_for lines) 0 (next_place n);
  past = λ ne. absurd (ne refl);
}

-- the credits of fresh cards
credits_first : (k : RowSizes) (from count : ℕ)
    → card_credits (fresh_from k from count) ≡ count * k.credits
credits_first k from zero = omega arith
credits_first k from (suc count) = let rest = credits_first k (from + 1) count in
    let more = suc-mul count k.credits in omega arith

-- nothing is in the bank
banked_first : (k : RowSizes) → banked (words_at_first (k.waiters + k.rows)) ≡ 0
banked_first k = let lines = k.waiters + k.rows in
    get_or-set_other (no_words lines) STATE BANK nobody 0 (λ e. absurd (omega arith))
    ∙ get_or-replicate_same (words_for lines) 0 BANK

pub opens : (k : RowSizes) → k.waiters ≤ 16382 → credits_for k ≤ row_limit
    → ShowsWorld k (opening (words_at_first (k.waiters + k.rows)) [] (undealt k))
opens k few few_credits =
    let w = world_at_first k in
    let words = words_at_first (k.waiters + k.rows) in
    let count = k.waiters + k.notifiers in (
      [],
      w,
      record {
        runs = refl;
        few = few;
        written = written_first k;
        known = each_one (Agrees k [] w) (undealt k)
            (All-fresh k (Agrees k [] w) (true_first k) 0 count);
        kept = each_one (Knows words w (next_epoch k [])) (undealt k)
            (All-fresh k (Knows words w (next_epoch k [])) (known_first k) 0 count);
        dealt = record {
          once = λ n. let all = times-fresh k n count in omega arith;
          all = let all = length-map-range_with_len (opening_card k) 0 count in omega arith;
        };
        counted = record {
          tickets = λ row. sym (get_or-replicate_same k.rows 0 row);
          credits = let sum = credits_first k 0 count in let none = banked_first k in omega arith;
        };
        few_credits = few_credits;
        plain = λ none. record { stop = refl; silent = get_or-replicate_same count false };
        linked = each_one (Links words) (undealt k)
            (All-fresh k (Links words) (λ n. omega arith) 0 count);
      },
    )

-- the first of the cards that are left, and the others
fresh_from-first : (k : RowSizes) (from count : ℕ) → 0 < count
    → fresh_from k from count ≡ opening_card k from ∷ fresh_from k (from + 1) (count - 1)
fresh_from-first k from zero more = absurd (omega arith)
fresh_from-first k from (suc count) more =
    let same : count ≡ suc count - 1 = omega arith in
    ap (λ n. opening_card k from ∷ fresh_from k (from + 1) n) same

-- one card more
pub fresh_from-more : (k : RowSizes) (from count : ℕ)
    → fresh_from k from (count + 1) ≡ fresh_from k from count ++ opening_card k (from + count) ∷ []
fresh_from-more k from zero =
    let same : from ≡ from + 0 = omega arith in ap (λ n. opening_card k n ∷ []) same
fresh_from-more k from (suc count) =
    let same : from + 1 + count ≡ from + suc count = omega arith in
    let one_more : suc count + 1 ≡ suc (count + 1) = omega arith in
    ap (λ n. fresh_from k from n) one_more
    ∙ ap (λ cards. opening_card k from ∷ cards) (fresh_from-more k (from + 1) count
    ∙ ap (λ n. fresh_from k (from + 1) count ++ opening_card k n ∷ []) same)

module _ (k : RowSizes) (me : Sat) (from count : ℕ) (is : me ≡ (view (fresh_from k from count), []))
    (more : 0 < count) where
  pub some_left : 0 < length me.0.cards
  some_left = let same = ap (λ x. length x.0.cards) is in
      let all = length-map-range_with_len (opening_card k) from count in omega arith

  pub next_card : card_in me.0 ≡ opening_card k from
  next_card = ap (λ x. card_in x.0) is ∙ ap first_card (fresh_from-first k from count more)

  pub others_left : (after : Sat) → after ≡ (after_deal me.0, me.1)
      → after ≡ (view (fresh_from k (from + 1) (count - 1)), [])
  others_left after dealt = dealt ∙ (ap (λ x. (after_deal x.0, x.1)) is
      ∙ ap (λ cards. (view (other_cards cards), [])) (fresh_from-first k from count more))

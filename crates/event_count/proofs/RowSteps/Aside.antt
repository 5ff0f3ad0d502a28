-- A step on a word that is a row's, or the stop word, leaves all that waiters know of words.
use Rattle.std.proofs.Common.{◌≡◌, ◌≢◌, ◌↔◌, ℕ, ◌+◌, ◌<◌, ◌++◌, List, [], ◌∷◌, length, set, slice_set}
use Rattle.std.proofs.Common.{slice_index, sym, ap, ◌∙◌, subst, ⊎_elim, arith, length-set, get_or}
use Rattle.std.proofs.Common.{false, get_or-set_same, get_or-set_other}
use Rattle.std.proofs.lemmas.Bool.{cases_eq}
use mathlib.Core.Option.{some}
use lib.ListN.{get_elem?}
use Rattle.event_word.specs.declared.event.Event.{Event}
use Rattle.event_word.specs.Lists.{one_if, times}
use Rattle.event_word.specs.Fields.{fields_of}
use Rattle.event_word.specs.World.{World, length_of}
use Rattle.event_count.specs.declared.rule.TheConstants.{STOP, STATE}
use Rattle.event_count.specs.declared.rule.RowSizes.{RowSizes}
use Rattle.event_count.specs.declared.view.Card.{Card}
use Rattle.event_count.specs.declared.view.View.{View}
use Rattle.event_count.specs.Places.{next_place, parker_place, row_place}
use Rattle.event_count.specs.Written.{Written, Leads, shown_fields}
use Rattle.event_count.specs.Known.{next_epoch}
use Rattle.event_count.specs.Kept.{Knows, Links}
use Rattle.event_count.specs.Shown.{CountState, Shows}
use Rattle.event_count.proofs.Words.{SameRows, leads_on, knows_on, frame_same, links_on}
use Rattle.event_count.proofs.Steps.{Fitting, Wording}
use Rattle.event_count.proofs.Stacking.{set_same}
use Rattle.event_count.proofs.Stepping.{same_epochs}

-- the place is neither the state word's nor that of a waiter's word
pub record IsAside (place : ℕ) : Type 0 where
  pub state : STATE ≢ place
  pub next : (n : ℕ) → next_place n ≢ place
  pub parker : (n : ℕ) → parker_place n ≢ place

pub aside_row : (lines row : ℕ) → IsAside (row_place lines row)
aside_row lines row = record {
  state = λ e. absurd (omega arith);
  next = λ n e. absurd (omega arith);
  parker = λ n e. absurd (omega arith);
}

pub aside_stop : IsAside STOP
aside_stop = record {
  state = λ e. absurd (omega arith);
  next = λ n e. absurd (omega arith);
  parker = λ n e. absurd (omega arith);
}

-- an event leaves stack, pre-waiters and tokens
pub record SameWaits (w u : World) : Type 0 where
  pub pre : u.pre ≡ w.pre
  pub signals : u.signals ≡ w.signals
  pub stack : u.stack ≡ w.stack
  pub tokens : u.tokens ≡ w.tokens

module _ (k : RowSizes) (words : List ℕ) (es : ℕ → ℕ) (w : World) (r : Written k words w es)
    (u : World) (place n : ℕ) (aside : IsAside place) where
  other : (at : ℕ) → at ≢ place → slice_index (set words place n) at ≡ slice_index words at
  other at ne = get_or-set_other words place at n 0 ne

  -- another word of a row, or another stop word
  pub written_aside : (es' : ℕ → ℕ) → SameWaits w u → ((m : ℕ) → es' m ≡ es m)
      → ((slice_index (set words place n) STOP ≡ 0) ↔ (u.stop ≡ 0))
      → ((row : ℕ) → row < k.rows → slice_index (set words place n)
      (row_place (k.waiters + k.rows) row) ≡ length_of u row)
      → Written k (set words place n) u es'
  written_aside es' same epochs stop rows =
      let here = ap fields_of (other STATE aside.state) in
      let words' = set words place n in record {
        room = length-set words place n ∙ r.room;
        pre = ap (λ f. f.pre) here ∙ (r.pre ∙ ap length (sym same.pre));
        signals = ap (λ f. f.signals) here ∙ (r.signals ∙ sym same.signals);
        stack = subst (λ xs. Leads words' es' xs (shown_fields words')) (sym same.stack)
            (subst (λ f. Leads words' es' w.stack f) (sym here)
            (leads_on words words' es es' w.stack (shown_fields words)
            (λ m there. (epochs m, other (next_place m) (aside.next m))) r.stack));
        tokens = λ seat less. other (parker_place seat) (aside.parker seat)
            ∙ (r.tokens seat less ∙ ap (λ ts. one_if (get_or ts seat false)) (sym same.tokens));
        stop = stop;
        rows = rows;
      }

-- a word that stays as it is leaves all rows and the stop word
module _ (k : RowSizes) (words : List ℕ) (es : ℕ → ℕ) (w : World) (r : Written k words w es)
    (u : World) (place : ℕ) (same : SameRows w u) where
  here : set words place (slice_index words place) ≡ words
  here = set_same words place

  pub stop_same : (slice_index (set words place (slice_index words place)) STOP ≡ 0) ↔ (u.stop ≡ 0)
  stop_same = let e = ap (λ ws. slice_index ws STOP) here in
      (λ z. same.stop.1 (r.stop.0 (sym e ∙ z)), λ z. e ∙ r.stop.1 (same.stop.0 z))

  pub rows_same : (row : ℕ) → row < k.rows
      → slice_index (set words place (slice_index words place))
      (row_place (k.waiters + k.rows) row) ≡ length_of u row
  rows_same row less = ap (λ ws. slice_index ws (row_place (k.waiters + k.rows) row)) here
      ∙ (r.rows row less ∙ ap (λ ls. slice_index ls row) (sym same.lengths))

-- a word of a row that changes as the row does
module _ (k : RowSizes) (words : List ℕ) (es : ℕ → ℕ) (w : World) (r : Written k words w es)
    (row jobs : ℕ) (known : row < k.rows) (long : length w.lengths ≡ k.rows) where
  pub stop_other : (n : ℕ) → (slice_index (set words (row_place (k.waiters + k.rows) row) n) STOP ≡ 0)
      ↔ (w.stop ≡ 0)
  stop_other n = let e = get_or-set_other words (row_place (k.waiters + k.rows) row) STOP n 0
      (λ e. absurd (omega arith)) in (λ z. r.stop.0 (sym e ∙ z), λ z. e ∙ r.stop.1 z)

  pub rows_moved : (n : ℕ) → n ≡ jobs → (u : World) → u.lengths ≡ slice_set w.lengths row jobs
      → (at : ℕ) → at < k.rows
      → slice_index (set words (row_place (k.waiters + k.rows) row) n)
      (row_place (k.waiters + k.rows) at) ≡ length_of u at
  rows_moved n is u lengths at less =
      let room = r.room in ⊎_elim
      (λ same. ap (λ m. slice_index (set words (row_place (k.waiters + k.rows) row) n)
      (row_place (k.waiters + k.rows) m)) same
      ∙ (get_or-set_same words (row_place (k.waiters + k.rows) row) n 0 (omega arith)
      ∙ (is ∙ (sym (get_or-set_same w.lengths row jobs 0 (omega arith))
      ∙ (ap (λ ls. slice_index ls row) (sym lengths) ∙ ap (λ m. length_of u m) (sym same))))))
      (λ ne. get_or-set_other words (row_place (k.waiters + k.rows) row)
      (row_place (k.waiters + k.rows) at) n 0 (λ e. ne (omega arith))
      ∙ (r.rows at less ∙ (sym (get_or-set_other w.lengths row at jobs 0 ne)
      ∙ ap (λ ls. slice_index ls at) (sym lengths))))
      (cases_eq at row)

module _ (k : RowSizes) (s : CountState) (history : List Event) (w : World)
    (r : Shows k s history w) (id : ℕ) (v : View) (c : Card)
    (at : get_elem? s.views id ≡ some v) (is : v.cards ≡ c ∷ []) where
  -- and so all cards know of words what they did
  pub wording_aside : (events : List Event) (u : World) (d : Card) (place n : ℕ) → IsAside place
      → Fitting k w u events c d → d.epoch ≡ c.epoch → SameWaits w u
      → ((slice_index (set s.words place n) STOP ≡ 0) ↔ (u.stop ≡ 0))
      → ((row : ℕ) → row < k.rows → slice_index (set s.words place n)
      (row_place (k.waiters + k.rows) row) ≡ length_of u row)
      → ((ws : List ℕ) (es : ℕ → ℕ) → Knows ws u es c → Knows ws u es d)
      → ((ws : List ℕ) → Links ws c → Links ws d)
      → Wording k s.words (set s.words place n) w u (next_epoch k history)
      (next_epoch k (history ++ events)) c d
  wording_aside events u d place n aside f still same stop rows reads links =
      let words' = set s.words place n in let es = next_epoch k history in
      let es' = next_epoch k (history ++ events) in
      let epochs = same_epochs k s history w r id v c at is events u d f still in
      let next : (m : ℕ) → slice_index words' (next_place m) ≡ slice_index s.words (next_place m) =
      λ m. get_or-set_other s.words place (next_place m) n 0 (aside.next m) in
      let frame = frame_same s.words words' w u es es' epochs
      (λ m there. (let e = ap (times m) same.stack in omega arith, next m)) in
      let on : (x : Card) → Knows s.words w es x → Knows words' u es' x = λ x was.
      knows_on s.words words' w u es es' x.number x.stored x.stored x.looked x.next frame
      (next x.number ∙ was.stores) was in record {
        written = written_aside k s.words es w r.written u place n aside es' same epochs stop rows;
        mine = λ was. reads words' es' (on c was);
        others = λ x _ was. on x was;
        links = λ was. links words' (links_on s.words words' c.linked c.owing (λ m _. next m) was);
        others_links = λ x _ _ was. links_on s.words words' x.linked x.owing (λ m _. next m) was;
      }

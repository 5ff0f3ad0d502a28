-- What a loaded word shows.
use Rattle.std.proofs.Common.{◌≢◌, ◌≡◌, ℕ, ◌<◌, List, [], ◌∷◌, ap, refl, ◌∙◌, slice_index, arith}
use Rattle.std.proofs.Common.{length, Option, Some, None, IsSome, MatchBool, subst, sym, ne_eqb}
use Rattle.std.specs.Option.{ForSome}
use Rattle.event_word.specs.Fields.{fields_of}
use mathlib.Core.Option.{some}
use lib.ListN.{get_elem?}
use Rattle.event_word.specs.Word.{nobody}
use Rattle.event_word.specs.Lists.{times}
use Rattle.event_word.proofs.Lists.{one_if-same, times-le-length}
use Rattle.event_word.specs.Shown.{top_of}
use Rattle.event_word.specs.World.{World, phase_of}
use Rattle.event_word.proofs.Keeps.{pre_known, is_waiting, seat_known}
use Rattle.event_word.specs.Lawful.{sleeps}
use Rattle.event_count.specs.declared.rule.TheConstants.{STATE}
use Rattle.event_count.specs.declared.rule.RowSizes.{RowSizes}
use Rattle.event_count.specs.declared.view.Card.{Card}
use Rattle.event_count.specs.declared.view.View.{View}
use Rattle.event_count.specs.Gains.{looking, reading, IsRead, Fits}
use Rattle.event_count.specs.Shown.{CountState, ShowsWorld}
use Rattle.event_count.specs.Written.{Leads, shown_fields}
use Rattle.event_count.specs.Known.{next_epoch}
use Rattle.event_count.proofs.Words.{word_shows, leads_top}
use Rattle.event_count.proofs.Steps.{truth}
use Rattle.event_count.proofs.Events.{law, sizes, is_pre}

-- a seat that sleeps is a worker
pub sleeps_known : (w : World) (n : ℕ) → 0 < sleeps (phase_of w n) → n < length w.phases
sleeps_known w n more = seat_known w n (λ e. let none_there = ap sleeps e in absurd (omega arith))

-- what a loaded word shows
pub look_fits : (k : RowSizes) (s : CountState) (id : ℕ) (v : View) (c : Card) → ShowsWorld k s
    → get_elem? s.views id ≡ some v → v.cards ≡ c ∷ []
    → Fits (looking c (slice_index s.words STATE)) (slice_index s.words STATE)
look_fits k s id v c shows at is =
    let history = shows.0 in let w = shows.1 in let r = shows.2 in
    let lawful = law k s history w r id v c at is in
    let here = word_shows k s shows in
    let pre = ap (λ f. f.pre) here in let given = ap (λ f. f.signals) here in
    let told = truth k s history w r id v c at is in let waiters = told.waiters in
    let seats = (sizes k s history w r id v c at is).phases in let few = r.few in
    record {
      answered = let answered = lawful.answered in omega arith;
      counted = λ waits. let phase = is_pre k s history w r id v c at is waits in
          let one = is_waiting w lawful c.number phase in
          let among = times-le-length c.number w.pre in omega arith;
      waits = λ waits. let phase = is_pre k s history w r id v c at is waits in
          let known = pre_known w c.number phase in omega arith;
      stacked = λ ne. top_known w.stack refl r.written.stack ne;
      few = omega arith;
    }
  where
    top_known : (stack : List ℕ) → shows.1.stack ≡ stack
        → Leads s.words (next_epoch k shows.0) shows.1.stack (shown_fields s.words)
        → (shown_fields s.words).top ≢ nobody → (shown_fields s.words).top < c.waiters
    top_known [] e leads ne = absurd (ne (leads_top s.words (next_epoch k shows.0) shows.1.stack
        (shown_fields s.words) leads ∙ ap top_of e))
    top_known (seat ∷ rest) e leads ne =
        let w = shows.1 in let r = shows.2 in
        let top = leads_top s.words (next_epoch k shows.0) w.stack (shown_fields s.words) leads
        ∙ ap top_of e in
        let stands = (law k s shows.0 w r id v c at is).standing seat in
        let among = ap (times seat) e in let one = one_if-same seat seat refl in
        let known = sleeps_known w seat (omega arith) in
        let phases = (sizes k s shows.0 w r id v c at is).phases in
        let waiters = (truth k s shows.0 w r id v c at is).waiters in omega arith

-- a word that names nobody shows an empty stack
pub stack_none : (k : RowSizes) (s : CountState) (shows : ShowsWorld k s) (id : ℕ) (v : View)
    (c : Card) → get_elem? s.views id ≡ some v → v.cards ≡ c ∷ []
    → (shown_fields s.words).top ≡ nobody → shows.1.stack ≡ []
stack_none k s shows id v c at is top =
    let w = shows.1 in let r = shows.2 in by_stack w.stack refl r.written.stack
  where
    by_stack : (stack : List ℕ) → shows.1.stack ≡ stack
        → Leads s.words (next_epoch k shows.0) shows.1.stack (shown_fields s.words)
        → shows.1.stack ≡ []
    by_stack [] e leads = e
    by_stack (seat ∷ rest) e leads =
        let w = shows.1 in let r = shows.2 in
        let here = leads_top s.words (next_epoch k shows.0) w.stack (shown_fields s.words) leads
        ∙ ap top_of e in
        let stands = (law k s shows.0 w r id v c at is).standing seat in
        let among = ap (times seat) e in let one = one_if-same seat seat refl in
        let known = sleeps_known w seat (omega arith) in let few = r.few in
        let phases = (sizes k s shows.0 w r id v c at is).phases in absurd (omega arith)

-- a word that is loaded has a top that was pushed
pub look_past : (words : List ℕ) (es : ℕ → ℕ) (stack : List ℕ)
    → Leads words es stack (shown_fields words)
    → (shown_fields words).top ≢ nobody
    → (shown_fields words).epoch < es (shown_fields words).top
look_past words es [] leads ne = absurd (ne leads.0)
look_past words es (seat ∷ rest) leads ne = let e = ap es leads.0 in let f = leads.1 in omega arith

-- a next word that was loaded
pub read_some : (o : Option ℕ) (c d : Card) → IsSome o → ForSome o (λ n. d ≡ reading c n)
    → (n : ℕ) × (d ≡ reading c n)
read_some None c d there reads = absurd (cc)
read_some (Some n) c d there reads = (n, reads n refl)

pub read_of : (word : ℕ) (c d : Card) → (fields_of word).top ≢ nobody
    → (n : ℕ) × (d ≡ reading c n) → IsRead c word d
read_of word c d there reads =
    subst (λ b. MatchBool b (d ≡ c) ((n : ℕ) × (d ≡ reading c n)))
    (sym (ne_eqb (fields_of word).top nobody there)) reads

-- What each kind of step does to the words, and to what cards know of them.
use Rattle.std.proofs.Common.{◌≡◌, ◌≢◌, ◌↔◌, ℕ, ◌+◌, ◌%◌, ◌/◌, ◌^◌, ◌<◌, ◌≤◌, ◌==◌, List, []}
use Rattle.std.proofs.Common.{◌∷◌, set}
use Rattle.std.proofs.Common.{sym, ap, ◌∙◌, refl, slice_index, Option, Some, None, IfSome, Bool}
use Rattle.std.proofs.Common.{true, false, subst, arith, length-set, get_or-set_same}
use Rattle.std.proofs.Common.{get_or-set_other, length, get_or, ⊎_elim}
use Rattle.std.proofs.lemmas.Bool.{cases_eq}
use Rattle.event_word.specs.declared.word.Fields.{Fields}
use Rattle.event_word.specs.Fields.{fields, fields_of}
use Rattle.event_word.specs.Word.{prewaited}
use Rattle.event_word.specs.Lists.{one_if, times}
use Rattle.event_word.specs.Shown.{top_of, shown}
use Rattle.event_word.specs.World.{World, has_token, length_of}
use Rattle.event_word.proofs.Lists.{one_if-same, one_if-other}
use Rattle.event_count.specs.declared.rule.TheConstants.{STOP, STATE}
use Rattle.event_count.specs.declared.rule.RowSizes.{RowSizes}
use Rattle.event_count.specs.Places.{next_place, parker_place, row_place}
use Rattle.event_count.specs.Shown.{CountState, ShowsWorld}
use Rattle.event_count.specs.Written.{shown_fields, next_fields, Leads, Written}
use Rattle.event_count.specs.Kept.{IsKept, KnowsWords, Chain, AreLinked}
use Rattle.event_count.specs.Known.{next_epoch}
use Rattle.event_count.specs.Gains.{behind}

-- a prewait adds one pre-waiter, where there is room
pub fields_of-prewait : (word : ℕ) → word < 2 ^ 64 → (fields_of word).pre < 16383
    → fields_of ((word + 16384) % 2 ^ 64) ≡ prewaited (fields_of word)
fields_of-prewait word small room =
    let same : ((word + 16384) % 2 ^ 64) ≡ word + 16384 = omega arith in
    let top : (word + 16384) % 2 ^ 14 ≡ word % 2 ^ 14 = omega arith in
    let pre : (word + 16384) / 2 ^ 14 % 2 ^ 14 ≡ word / 2 ^ 14 % 2 ^ 14 + 1 = omega arith in
    let signals : (word + 16384) / 2 ^ 28 % 2 ^ 14 ≡ word / 2 ^ 28 % 2 ^ 14 = omega arith in
    let epoch : (word + 16384) / 2 ^ 42 % 2 ^ 22 ≡ word / 2 ^ 42 % 2 ^ 22 = omega arith in
    ap fields_of same ∙ (λ i. fields (top i) (pre i) (signals i) (epoch i))

-- the top of the fields is that of the stack that they lead down
pub leads_top : (words : List ℕ) (es : ℕ → ℕ) (stack : List ℕ) (f : Fields)
    → Leads words es stack f → f.top ≡ top_of stack
leads_top words es [] f l = l.0
leads_top words es (seat ∷ rest) f l = l.0

-- other fields with the same top and epoch lead down it too
pub leads_fields : (words : List ℕ) (es : ℕ → ℕ) (stack : List ℕ) (f g : Fields)
    → g.top ≡ f.top → g.epoch ≡ f.epoch → Leads words es stack f → Leads words es stack g
leads_fields words es [] f g top epoch l = (top ∙ l.0, epoch ∙ l.1)
leads_fields words es (seat ∷ rest) f g top epoch l =
    (top ∙ l.0, ap (λ e. e + 1) epoch ∙ l.1, l.2)

-- and other words, where the seats on it have the same epochs and next words
pub leads_on : (words words' : List ℕ) (es es' : ℕ → ℕ) (stack : List ℕ) (f : Fields)
    → ((n : ℕ) → 0 < times n stack → (es' n ≡ es n)
    × (slice_index words' (next_place n) ≡ slice_index words (next_place n)))
    → Leads words es stack f → Leads words' es' stack f
leads_on words words' es es' [] f same l = l
leads_on words words' es es' (seat ∷ rest) f same l =
    let one = one_if-same seat seat refl in
    let here = same seat (omega arith) in (
      l.0,
      l.1 ∙ sym here.0,
      subst (λ m. Leads words' es' rest (fields_of m)) (sym here.1)
          (leads_on words words' es es' rest (next_fields words seat)
          (λ n more. same n (omega arith)) l.2),
    )

-- the stack that words lead down is linked
pub chain_of : (words : List ℕ) (es : ℕ → ℕ) (stack : List ℕ) (f : Fields)
    → Leads words es stack f → Chain words stack
chain_of words es [] f l = tt
chain_of words es (seat ∷ rest) f l = (
  leads_top words es rest (next_fields words seat) l.2,
  chain_of words es rest (next_fields words seat) l.2,
)

-- other words link the same seats, where their next words are the same
pub chain_on : (words words' : List ℕ) (seats : List ℕ)
    → ((n : ℕ) → 0 < times n seats
    → slice_index words' (next_place n) ≡ slice_index words (next_place n))
    → Chain words seats → Chain words' seats
chain_on words words' [] same c = tt
chain_on words words' (seat ∷ rest) same c = let one = one_if-same seat seat refl in (
  ap (λ m. (fields_of m).top) (same seat (omega arith)) ∙ c.0,
  chain_on words words' rest (λ n more. same n (omega arith)) c.1,
)

pub links_on : (words words' : List ℕ) (linked : Bool) (seats : List ℕ)
    → ((n : ℕ) → 0 < times n seats
    → slice_index words' (next_place n) ≡ slice_index words (next_place n))
    → AreLinked words linked seats → AreLinked words' linked seats
links_on words words' true seats same c = chain_on words words' seats same c
links_on words words' false seats same c = c

-- without the first they are still linked
pub links_behind : (words : List ℕ) (linked : Bool) (seats : List ℕ)
    → AreLinked words linked seats → AreLinked words linked (behind seats)
links_behind words true [] c = tt
links_behind words true (seat ∷ rest) c = c.1
links_behind words false [] c = omega arith
links_behind words false (seat ∷ rest) c = omega arith

-- what stands on the stack at a past epoch stood there before, with the same next word
abbrev pub Stays : List ℕ → List ℕ → World → World → (ℕ → ℕ) → (ℕ → ℕ) → Type 0
Stays words words' w u es es' =
    (n e : ℕ) → e < es n → 0 < times n u.stack → es' n ≡ e + 1
    → (0 < times n w.stack) × (es n ≡ e + 1)
    × (slice_index words' (next_place n) ≡ slice_index words (next_place n))

-- then what was read is still right
pub kept_on : (words words' : List ℕ) (w u : World) (es es' : ℕ → ℕ) (seat epoch : ℕ)
    (next : Option ℕ) → epoch < es seat → Stays words words' w u es es'
    → IfSome next (IsKept words w es seat epoch) → IfSome next (IsKept words' u es' seat epoch)
kept_on words words' w u es es' seat epoch None past stays was = tt
kept_on words words' w u es es' seat epoch (Some next) past stays was = λ there is.
    let before = stays seat epoch past there is in before.2 ∙ was before.0 before.1

-- what a step leaves of epochs and of the stack
pub record Frame (words words' : List ℕ) (w u : World) (es es' : ℕ → ℕ) : Type 0 where
  pub grows : (n : ℕ) → es n ≤ es' n
  pub stays : Stays words words' w u es es'

pub knows_on : (words words' : List ℕ) (w u : World) (es es' : ℕ → ℕ)
    (number stored stored' looked : ℕ) (next : Option ℕ) → Frame words words' w u es es'
    → slice_index words' (next_place number) ≡ stored'
    → KnowsWords words w es number stored looked next
    → KnowsWords words' u es' number stored' looked next
knows_on words words' w u es es' number stored stored' looked next f here knows = record {
  stores = here;
  past = λ ne. let was = knows.past ne in let more = f.grows (fields_of looked).top in (
    omega arith,
    kept_on words words' w u es es' (fields_of looked).top (fields_of looked).epoch next was.0
        f.stays was.1,
  );
}

-- where no seat comes onto the stack, and those on it keep epoch and next word
pub frame_same : (words words' : List ℕ) (w u : World) (es es' : ℕ → ℕ)
    → ((n : ℕ) → es' n ≡ es n)
    → ((n : ℕ) → 0 < times n u.stack → (0 < times n w.stack)
    × (slice_index words' (next_place n) ≡ slice_index words (next_place n)))
    → Frame words words' w u es es'
frame_same words words' w u es es' epochs same = record {
  grows = λ n. let e = epochs n in omega arith;
  stays = λ n e past there is. let s = same n there in (s.0, sym (epochs n) ∙ is, s.1);
}

-- a push of this seat
pub frame_push : (words words' : List ℕ) (w u : World) (es es' : ℕ → ℕ) (seat : ℕ)
    → ((n : ℕ) → es' n ≡ es n + one_if (seat == n)) → u.stack ≡ seat ∷ w.stack
    → ((n : ℕ) → slice_index words' (next_place n) ≡ slice_index words (next_place n))
    → Frame words words' w u es es'
frame_push words words' w u es es' seat epochs stack same = record {
  grows = λ n. let e = epochs n in omega arith;
  stays = λ n e past there is. let more = epochs n in let s = ap (times n) stack in ⊎_elim
      (λ eq. let one = one_if-same seat n eq in absurd (omega arith))
      (λ ne. let none = one_if-other seat n ne in (omega arith, omega arith, same n))
      (cases_eq seat n);
}

module _ (words : List ℕ) (n : ℕ) where
  -- a new state word leaves the next words
  pub next_state : (seat : ℕ)
      → slice_index (set words STATE n) (next_place seat) ≡ slice_index words (next_place seat)
  next_state seat =
      get_or-set_other words STATE (next_place seat) n 0 (λ e. absurd (omega arith))

  -- a new next word leaves the others, the state word and the parker words
  pub next_next : (seat other : ℕ) → other ≢ seat
      → slice_index (set words (next_place seat) n) (next_place other)
      ≡ slice_index words (next_place other)
  next_next seat other ne = get_or-set_other words (next_place seat) (next_place other) n 0
      (λ e. ne (omega arith))

  pub state_next : (seat : ℕ)
      → slice_index (set words (next_place seat) n) STATE ≡ slice_index words STATE
  state_next seat =
      get_or-set_other words (next_place seat) STATE n 0 (λ e. absurd (omega arith))

  -- and so does a parker word
  pub next_parker : (seat other : ℕ)
      → slice_index (set words (parker_place seat) n) (next_place other)
      ≡ slice_index words (next_place other)
  next_parker seat other = get_or-set_other words (parker_place seat) (next_place other) n 0
      (λ e. absurd (omega arith))

  pub state_parker : (seat : ℕ)
      → slice_index (set words (parker_place seat) n) STATE ≡ slice_index words STATE
  state_parker seat =
      get_or-set_other words (parker_place seat) STATE n 0 (λ e. absurd (omega arith))

-- an event leaves the rows and the stop word
pub record SameRows (w u : World) : Type 0 where
  pub lengths : u.lengths ≡ w.lengths
  pub stop : (u.stop ≡ 0) ↔ (w.stop ≡ 0)

pub same_rows : (w u : World) → u.lengths ≡ w.lengths → u.stop ≡ w.stop → SameRows w u
same_rows w u lengths stop =
    record { lengths = lengths; stop = (λ e. sym stop ∙ e, λ e. stop ∙ e) }

module _ (k : RowSizes) (words : List ℕ) (es : ℕ → ℕ) (w : World) (r : Written k words w es) where
  module _ (u : World) (same : SameRows w u) (place n : ℕ) where
    -- so do other words than the stop word and those of rows
    pub stop_kept : place ≢ STOP
        → (slice_index (set words place n) STOP ≡ 0) ↔ (u.stop ≡ 0)
    stop_kept ne = let other = get_or-set_other words place STOP n 0 (λ e. ne (sym e)) in (
      λ e. same.stop.1 (r.stop.0 (sym other ∙ e)),
      λ e. other ∙ r.stop.1 (same.stop.0 e),
    )

    pub rows_kept : ((row : ℕ) → row < k.rows → row_place (k.waiters + k.rows) row ≢ place)
        → (row : ℕ) → row < k.rows
        → slice_index (set words place n) (row_place (k.waiters + k.rows) row) ≡ length_of u row
    rows_kept apart row less =
        get_or-set_other words place (row_place (k.waiters + k.rows) row) n 0 (apart row less)
        ∙ (r.rows row less ∙ ap (λ ls. slice_index ls row) (sym same.lengths))

  -- the epoch of the top
  abbrev pub top_epoch : ℕ
  top_epoch = (shown_fields words).epoch

  -- the word is that of the World
  pub shown_fields-shown : shown_fields words ≡ shown w top_epoch
  shown_fields-shown = let top = leads_top words es w.stack (shown_fields words) r.stack in
      λ i. fields (top i) (r.pre i) (r.signals i) top_epoch

  module _ (u : World) (es' : ℕ → ℕ) (n : ℕ) where
    -- another state word, whose fields lead down the stack of another World
    pub written_state : SameRows w u → u.tokens ≡ w.tokens → (e : ℕ) → fields_of n ≡ shown u e
        → Leads (set words STATE n) es' u.stack (fields_of n) → Written k (set words STATE n) u es'
    written_state same tokens e is leads =
        let room = r.room in
        let placed = get_or-set_same words STATE n 0 (omega arith) in
        let here = ap fields_of placed ∙ is in
        record {
          room = length-set words STATE n ∙ r.room;
          pre = ap (λ f. f.pre) here;
          signals = ap (λ f. f.signals) here;
          stack = subst (λ m. Leads (set words STATE n) es' u.stack (fields_of m)) (sym placed)
              leads;
          tokens = λ seat less.
              get_or-set_other words STATE (parker_place seat) n 0 (λ e. absurd (omega arith))
              ∙ (r.tokens seat less
              ∙ ap (λ ts. one_if (get_or ts seat false)) (sym tokens));
          stop = stop_kept u same STATE n (λ e. absurd (omega arith));
          rows = rows_kept u same STATE n (λ row less e. absurd (omega arith));
        }

    -- the words after a step that leaves the stack as it was
    pub written_still : SameRows w u → u.stack ≡ w.stack → u.tokens ≡ w.tokens → ((m : ℕ) → es' m ≡ es m)
        → fields_of n ≡ shown u top_epoch → Written k (set words STATE n) u es'
    written_still same stack tokens epochs is = written_state same tokens top_epoch is
        (subst (λ xs. Leads (set words STATE n) es' xs (fields_of n)) (sym stack)
        (leads_fields (set words STATE n) es' w.stack (shown_fields words) (fields_of n)
        (ap (λ f. f.top) is ∙ (ap top_of stack
        ∙ sym (leads_top words es w.stack (shown_fields words) r.stack)))
        (ap (λ f. f.epoch) is)
        (leads_on words (set words STATE n) es es' w.stack (shown_fields words)
        (λ m _. (epochs m, next_state words n m)) r.stack)))

    -- a push, whose next word has the stack and epoch that were there
    pub written_push : (seat : ℕ) → SameRows w u → u.stack ≡ seat ∷ w.stack → u.tokens ≡ w.tokens
        → ((m : ℕ) → es' m ≡ es m + one_if (seat == m)) → times seat w.stack ≡ 0
        → fields_of n ≡ shown u (es seat)
        → (next_fields words seat).top ≡ (shown_fields words).top
        → (next_fields words seat).epoch ≡ (shown_fields words).epoch
        → Written k (set words STATE n) u es'
    written_push seat kept stack tokens epochs apart is top epoch =
        let more = epochs seat in let one = one_if-same seat seat refl in
        written_state kept tokens (es seat) is
        (subst (λ xs. Leads (set words STATE n) es' xs (fields_of n)) (sym stack) (
          ap (λ f. f.top) is ∙ ap top_of stack,
          let at = ap (λ f. f.epoch) is in omega arith,
          subst (λ m. Leads (set words STATE n) es' w.stack (fields_of m))
              (sym (next_state words n seat))
              (leads_fields (set words STATE n) es' w.stack (shown_fields words)
              (next_fields words seat) top epoch
              (leads_on words (set words STATE n) es es' w.stack (shown_fields words)
              (λ m more_there. (
                ⊎_elim
                    (λ eq. let same = ap (λ j. times j w.stack) eq in absurd (omega arith))
                    (λ ne. let e = epochs m in let none = one_if-other seat m ne in omega arith)
                    (cases_eq seat m),
                next_state words n m,
              )) r.stack)),
        ))

    -- a pop, where the word is made of the next word of the top
    pub written_pop : (seat : ℕ) (rest : List ℕ) → SameRows w u → w.stack ≡ seat ∷ rest → u.stack ≡ rest
        → u.tokens ≡ w.tokens → ((m : ℕ) → es' m ≡ es m)
        → fields_of n ≡ shown u (next_fields words seat).epoch → Written k (set words STATE n) u es'
    written_pop seat rest same was stack tokens epochs is =
        let old = subst (λ xs. Leads words es xs (shown_fields words)) was r.stack in
        written_state same tokens (next_fields words seat).epoch is
        (subst (λ xs. Leads (set words STATE n) es' xs (fields_of n)) (sym stack)
        (leads_fields (set words STATE n) es' rest (next_fields words seat) (fields_of n)
        (ap (λ f. f.top) is ∙ (ap top_of stack
        ∙ sym (leads_top words es rest (next_fields words seat) old.2)))
        (ap (λ f. f.epoch) is)
        (leads_on words (set words STATE n) es es' rest (next_fields words seat)
        (λ m _. (epochs m, next_state words n m)) old.2)))

  -- the next word of a seat that is not on the stack
  pub written_next : (u : World) (es' : ℕ → ℕ) (seat n : ℕ) → seat < k.waiters → u ≡ w → ((m : ℕ) → es' m ≡ es m)
      → times seat w.stack ≡ 0 → Written k (set words (next_place seat) n) u es'
  written_next u es' seat n waiter same epochs apart =
      let here = ap fields_of (state_next words n seat) in
      let words' = set words (next_place seat) n in subst (λ x. Written k words' x es') (sym same)
      record {
        room = length-set words (next_place seat) n ∙ r.room;
        pre = ap (λ f. f.pre) here ∙ r.pre;
        signals = ap (λ f. f.signals) here ∙ r.signals;
        stack = subst (λ f. Leads words' es' w.stack f) (sym here)
            (leads_on words words' es es' w.stack (shown_fields words)
            (λ m there. (
              epochs m,
              next_next words n seat m (λ eq.
                  let e = ap (λ j. times j w.stack) eq in absurd (omega arith)),
            )) r.stack);
        tokens = λ other less.
            get_or-set_other words (next_place seat) (parker_place other) n 0
            (λ e. absurd (omega arith)) ∙ r.tokens other less;
        stop = stop_kept w (same_rows w w refl refl) (next_place seat) n
            (λ e. absurd (omega arith));
        rows = rows_kept w (same_rows w w refl refl) (next_place seat) n
            (λ row less e. absurd (omega arith));
      }

  -- the parker word of a seat, with its token
  pub written_parker : (u : World) (es' : ℕ → ℕ) (seat : ℕ) (b : Bool) → SameRows w u → u.stack ≡ w.stack
      → length u.pre ≡ length w.pre → u.signals ≡ w.signals → u.tokens ≡ set w.tokens seat b
      → seat < k.waiters → length w.tokens ≡ k.waiters → ((m : ℕ) → es' m ≡ es m)
      → Written k (set words (parker_place seat) (one_if b)) u es'
  written_parker u es' seat b same stack pre signals tokens known sized epochs =
      let n = one_if b in
      let here = ap fields_of (state_parker words n seat) in
      let words' = set words (parker_place seat) n in
      let room = r.room in record {
        room = length-set words (parker_place seat) n ∙ r.room;
        pre = ap (λ f. f.pre) here ∙ (r.pre ∙ sym pre);
        signals = ap (λ f. f.signals) here ∙ (r.signals ∙ sym signals);
        stack = subst (λ xs. Leads words' es' xs (shown_fields words')) (sym stack)
            (subst (λ f. Leads words' es' w.stack f) (sym here)
            (leads_on words words' es es' w.stack (shown_fields words)
            (λ m there. (epochs m, next_parker words n seat m)) r.stack));
        tokens = λ other less. ⊎_elim
            (λ eq. ap (λ j. slice_index words' (parker_place j)) eq
            ∙ (get_or-set_same words (parker_place seat) n 0 (omega arith)
            ∙ (sym (ap one_if (get_or-set_same w.tokens seat b false (omega arith)))
            ∙ (ap (λ ts. one_if (get_or ts seat false)) (sym tokens)
            ∙ ap (λ j. one_if (has_token u j)) (sym eq)))))
            (λ ne. get_or-set_other words (parker_place seat) (parker_place other) n 0
            (λ e. ne (omega arith))
            ∙ (r.tokens other less
            ∙ (sym (ap one_if (get_or-set_other w.tokens seat other b false ne))
            ∙ ap (λ ts. one_if (get_or ts other false)) (sym tokens))))
            (cases_eq other seat);
        stop = stop_kept u same (parker_place seat) n (λ e. absurd (omega arith));
        rows = rows_kept u same (parker_place seat) n (λ row less e. absurd (omega arith));
      }

-- the state word of a table shows its World
pub word_shows : (k : RowSizes) (s : CountState) (shows : ShowsWorld k s)
    → shown_fields s.words ≡ shown shows.1 (shown_fields s.words).epoch
word_shows k s shows = shown_fields-shown k s.words (next_epoch k shows.0) shows.1 shows.2.written

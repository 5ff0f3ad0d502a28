-- Each event leaves support for every row with jobs, or somebody has ended.
use Rattle.std.proofs.Common.{◌≡◌, ◌≢◌, ℕ, ◌+◌, ◌-◌, ◌≤◌, ◌<◌, ◌==◌, if◌then◌else◌}
use Rattle.std.proofs.Common.{nat_lt, Bool, true, false, List, [], ◌∷◌, ◌++◌, length, get_or, set}
use Rattle.std.proofs.Common.{replicate, suc, ◌⊎◌, inl, inr, sym, ap, refl, ◌∙◌, subst, ⊎_elim}
use Rattle.std.proofs.Common.{arith}
use Rattle.std.proofs.Common.{length-set, length-append, get_or-set_same, get_or-set_other}
use Rattle.std.specs.List.{AllPass}
use Rattle.std.proofs.lemmas.Bool.{cases_eq, cases_lt, cond_both, ltb-false, true≢false}
use Rattle.std.proofs.lemmas.List.{get_or_past, set_past, length-replicate, get_or-replicate}
use Rattle.event_word.specs.declared.phase.Phase.{Phase}
use Rattle.event_word.specs.declared.phase.Phase.TheVariants.{Running, Pre, Stacked, Ended}
use Rattle.event_word.specs.declared.event.Event.{Event}
use Rattle.event_word.specs.declared.event.Event.TheVariants.{Publish, Prewait, Pass, PassFlag}
use Rattle.event_word.specs.declared.event.Event.TheVariants.{Cancel, Commit, Notify}
use Rattle.event_word.specs.declared.event.Event.TheVariants.{NotifyAll, Unpark, Wake, Take, Stop}
use Rattle.event_word.specs.declared.event.Event.TheVariants.{End}
use Rattle.event_word.specs.Lists.{total, times}
use Rattle.event_word.specs.World.{World, phase_of, has_passed, owed_by}
use Rattle.event_word.specs.World.{is_announcing, has_token, length_of, opening_world}
use Rattle.event_word.specs.Step.{IsFree, Possible, effect, leave, park, announced, signal, pop}
use Rattle.event_word.specs.Step.{unpark, actor_of}
use Rattle.event_word.specs.Lawful.{sleeps, Lawful, HasSizes}
use Rattle.event_word.specs.Runs.{Runs}
use Rattle.event_word.specs.Waking.{Support, by_announcement, by_runner, by_looker, by_signal}
use Rattle.event_word.specs.Waking.{by_debt, by_token}
use Rattle.event_word.proofs.Lists.{one_if-true, times-le-length}
use Rattle.event_word.proofs.Lists.{owed_somewhere, each-set}
use Rattle.event_word.proofs.Lists.{get_or-replicate_same}
use Rattle.event_word.proofs.Keeps.{pre_known, stacked_known, is_waiting}
use Rattle.event_word.proofs.Keeps.{owed_is_stacked, lawful_announced, lawful_effect}
use Rattle.event_word.proofs.Sizes.{sizes_effect}

-- a worker has ended
abbrev pub HasEnded : World → Type 0
HasEnded w = (seat : ℕ) × (seat < length w.phases) × (phase_of w seat ≡ Ended)

-- a worker that is a support because it runs is present
abbrev pub RunsPresent : (ℕ → Bool) → {w : World} → {row : ℕ} → Support w row → Type 0
RunsPresent is_present (by_runner seat runs) = is_present seat ≡ true
RunsPresent is_present support = Unit {0}

-- a row has such support, or the workers are ending
abbrev pub Reason : (ℕ → Bool) → World → ℕ → Type 0
Reason is_present w row = ((support : Support w row) × RunsPresent is_present support) ⊎ HasEnded w

-- a worker is present, before a stop none has ended, and each row with jobs has a reason
pub record Wakes (is_present : ℕ → Bool) (w : World) : Type 0 where
  pub some : (worker : ℕ) × (worker < length w.phases) × (is_present worker ≡ true)
  pub going : w.stop ≡ 0 → (seat : ℕ) → seat < length w.phases → phase_of w seat ≢ Ended
  pub reason : (row : ℕ) → 0 < length_of w row → Reason is_present w row

-- stop 0 after a notification of all was stop 0 before it
not_stopped : (stop : ℕ) → (if stop == 1 then 2 else stop) ≡ 0 → stop ≡ 0
not_stopped stop = cond_both (stop == 1) 2 stop (λ s. s ≡ 0 → stop ≡ 0)
    (λ _ e. absurd (omega arith)) (λ _ e. e)

-- what supports a row in one World, or has ended there, does so in another
record Carries (w u : World) (row : ℕ) : Type 0 where
  pub announcing : (actor : ℕ) → is_announcing w actor ≡ true → is_announcing u actor ≡ true
  pub running : (seat : ℕ) → phase_of w seat ≡ Running → phase_of u seat ≡ Running
  pub looking : (seat : ℕ) → phase_of w seat ≡ Pre → has_passed w seat row ≡ false
      → (phase_of u seat ≡ Pre) × (has_passed u seat row ≡ false)
  pub signals : 0 < w.signals → 0 < u.signals
  pub owing : (actor : ℕ) → 0 < length (owed_by w actor) → 0 < length (owed_by u actor)
  pub tokens : (seat : ℕ) → has_token w seat ≡ true → has_token u seat ≡ true
  pub ended : HasEnded w → HasEnded u

-- flags and lengths are no part of any support
carries_all : (w : World) (row : ℕ) (flags : List Bool) (lengths : List ℕ)
    → Carries w record w { flags = flags; lengths = lengths } row
carries_all w row flags lengths = record {
  announcing = λ _ h. h;
  running = λ _ h. h;
  looking = λ _ e past. (e, past);
  signals = λ h. h;
  owing = λ _ h. h;
  tokens = λ _ h. h;
  ended = λ h. h;
}

carried : (is_present : ℕ → Bool) (w u : World) (row : ℕ) → Carries w u row
    → (support : Support w row) → RunsPresent is_present support
    → (support : Support u row) × RunsPresent is_present support
carried is_present w u row c (by_announcement actor h) here =
    (by_announcement actor (c.announcing actor h), tt)
carried is_present w u row c (by_runner seat h) here = (by_runner seat (c.running seat h), here)
carried is_present w u row c (by_looker seat h past) here =
    let l = c.looking seat h past in (by_looker seat l.0 l.1, tt)
carried is_present w u row c (by_signal h) here = (by_signal (c.signals h), tt)
carried is_present w u row c (by_debt actor h) here = (by_debt actor (c.owing actor h), tt)
carried is_present w u row c (by_token seat h) here = (by_token seat (c.tokens seat h), tt)

carry : (is_present : ℕ → Bool) (w u : World) (row : ℕ) → Carries w u row
    → Reason is_present w row → Reason is_present u row
carry is_present w u row c (inl s) = inl (carried is_present w u row c s.0 s.1)
carry is_present w u row c (inr h) = inr (c.ended h)

-- a row with jobs is one of the rows
row_known : (w : World) (row : ℕ) → 0 < length_of w row → row < length w.lengths
row_known w row some = ⊎_elim (λ h. h)
    (λ le. let none = get_or_past w.lengths row 0 le in absurd (omega arith))
    (cases_lt row (length w.lengths))

-- a pass of one row passes no other
pass_only : (xss : List (List Bool)) (n row m k : ℕ) → k ≢ row
    → get_or (get_or (set xss n (set (get_or xss n []) row true)) m []) k false ≡ get_or
    (get_or xss m []) k false
pass_only xss n row m k ne = let ys = set (get_or xss n []) row true in ⊎_elim
    (λ e. ⊎_elim
    (λ h. ap (λ j. get_or (get_or (set xss n ys) j []) k false) e
    ∙ (ap (λ (zs : List Bool). get_or zs k false) (get_or-set_same xss n ys [] h)
    ∙ (get_or-set_other (get_or xss n []) row k true false ne
    ∙ ap (λ j. get_or (get_or xss j []) k false) (sym e))))
    (λ le. ap (λ (zss : List (List Bool)). get_or (get_or zss m []) k false) (set_past xss n ys le))
    (cases_lt n (length xss)))
    (λ d. ap (λ (zs : List Bool). get_or zs k false) (get_or-set_other xss n m ys [] d))
    (cases_eq m n)

-- where the stack is empty and each pre-waiter is answered, each worker that is present is a reason
-- to look at the row, or has ended
settled : (is_present : ℕ → Bool) (u : World) (row : ℕ) → Lawful u → u.stack ≡ []
    → length u.pre ≤ u.signals
    → (worker : ℕ) × (worker < length u.phases) × (is_present worker ≡ true)
    → Reason is_present u row
settled is_present u row r none full some = by_phase (phase_of u seat) refl
  where
    seat : ℕ
    seat = some.0

    by_phase : (p : Phase) → phase_of u seat ≡ p → Reason is_present u row
    by_phase Running e = inl (by_runner seat e, some.2)
    by_phase Pre e = let a = is_waiting u r seat e in let b = times-le-length seat u.pre in
        inl (by_signal (omega arith), tt)
    by_phase Stacked e = let a = r.standing seat ∙ ap sleeps e in let b = ap (times seat) none in
        ⊎_elim
        (λ some. let f = owed_somewhere seat u.owed some in
        let c = times-le-length seat (owed_by u f.0) in inl (by_debt f.0 (omega (arith, f.1)), tt))
        (λ none. inl (by_token seat (one_if-true (has_token u seat) (omega arith)), tt))
        (cases_lt 0 (total (times seat) u.owed))
    by_phase Ended e = inr (seat, some.1, e)

module _ (is_present : ℕ → Bool) (w : World) (r : Lawful w) (k : Wakes is_present w) where
  going_set : (n : ℕ) (p : Phase) → n < length w.phases → p ≢ Ended → w.stop ≡ 0 → (seat : ℕ)
      → seat < length (set w.phases n p) → get_or (set w.phases n p) seat Ended ≢ Ended
  going_set n p h ne at seat lt = let same = length-set w.phases n p in
      each-set w.phases n p Ended (λ j ph. j < length w.phases → ph ≢ Ended)
      (λ j ph. j < length w.phases → ph ≢ Ended) h (λ _. ne) (λ j _ q. q) (k.going at) seat
      (omega arith)

  still_some : (n : ℕ) (p : Phase) → (worker : ℕ)
      × (worker < length (set w.phases n p)) × (is_present worker ≡ true)
  still_some n p = (
    k.some.0,
    let same = length-set w.phases n p in omega (arith, k.some.1),
    k.some.2,
  )

  -- whoever has ended stays so
  still_ended : (n : ℕ) (p : Phase) → phase_of w n ≢ Ended → HasEnded w
      → (seat : ℕ) × (seat < length (set w.phases n p))
      × (get_or (set w.phases n p) seat Ended ≡ Ended)
  still_ended n p ne h = (
    h.0,
    let same = length-set w.phases n p in omega (arith, h.1),
    get_or-set_other w.phases n h.0 p Ended (λ is. ne (ap (phase_of w) (sym is) ∙ h.2)) ∙ h.2,
  )

  -- a seat that is present and runs from now on supports each row
  wakes_running : (u : World) (n : ℕ) → is_present n ≡ true → n < length w.phases
      → u.phases ≡ set w.phases n Running → u.stop ≡ w.stop → Wakes is_present u
  wakes_running u n here h is same = record {
    some = subst
        (λ (ps : List Phase). (worker : ℕ) × (worker < length ps) × (is_present worker ≡ true))
        (sym is) (still_some n Running);
    going = λ at. subst
        (λ (ps : List Phase). (seat : ℕ) → seat < length ps → get_or ps seat Ended ≢ Ended) (sym is)
        (going_set n Running h (λ e. cc) (sym same ∙ at));
    reason = λ row _. inl (
      by_runner n
          (ap (λ ps. get_or ps n Ended) is ∙ get_or-set_same w.phases n Running Ended h),
      here,
    );
  }

  wakes_publish : (actor row : ℕ) → actor < length w.announcing
      → Wakes is_present (effect w (Publish actor row))
  wakes_publish actor row h = record {
    some = k.some;
    going = k.going;
    reason = λ _ _.
        inl (by_announcement actor (get_or-set_same w.announcing actor true false h), tt);
  }

  wakes_prewait : (n : ℕ) → n < length w.phases → n < length w.passed
      → Wakes is_present (effect w (Prewait n))
  wakes_prewait n h h2 = record {
    some = still_some n Pre;
    going = going_set n Pre h (λ e. cc);
    reason = λ row _. inl (
      by_looker n (get_or-set_same w.phases n Pre Ended h)
          (ap (λ (ys : List Bool). get_or ys row false)
          (get_or-set_same w.passed n (replicate (length w.lengths) false) [] h2)
          ∙ get_or-replicate_same (length w.lengths) false row),
      tt,
    );
  }

  wakes_pass : (n row : ℕ) → Possible w (Pass n row) → Wakes is_present (effect w (Pass n row))
  wakes_pass n row p = record {
    some = k.some;
    going = k.going;
    reason = λ other some. carry is_present w (effect w (Pass n row)) other
        (record {
          announcing = λ _ h. h;
          running = λ _ h. h;
          looking = λ m e past. (
            e,
            pass_only w.passed n row m other
                (λ is. let none = p.2 in let same = ap (length_of w) is in absurd (omega arith))
                ∙ past,
          );
          signals = λ h. h;
          owing = λ _ h. h;
          tokens = λ _ h. h;
          ended = λ h. h;
        })
        (k.reason other some);
  }

  wakes_pass_flag : (n : ℕ) → Wakes is_present (effect w (PassFlag n))
  wakes_pass_flag n = record {
    some = k.some;
    going = k.going;
    reason = λ row some. carry is_present w (effect w (PassFlag n)) row
        (carries_all w row (effect w (PassFlag n)).flags w.lengths)
        (k.reason row some);
  }

  -- one that parks had passed each row, and was no support
  wakes_park : (n : ℕ) → Possible w (Commit n) → w.signals ≡ 0 → Wakes is_present (park w n)
  wakes_park n p none = let h = pre_known w n p.0 in record {
    some = still_some n Stacked;
    going = going_set n Stacked h (λ e. cc);
    reason = λ row some. carry is_present w (park w n) row
        (record {
          announcing = λ _ h. h;
          running = λ m e. get_or-set_other w.phases n m Stacked Ended
              (λ is. let here = ap (phase_of w) is ∙ p.0 in absurd (cc)) ∙ e;
          looking = λ m e past. (
            get_or-set_other w.phases n m Stacked Ended
                (λ is. true≢false (sym (p.1.rows row (row_known w row some))
                ∙ (ap (λ j. has_passed w j row) (sym is) ∙ past))) ∙ e,
            past,
          );
          signals = λ some. absurd (omega arith);
          owing = λ _ h. h;
          tokens = λ _ h. h;
          ended = still_ended n Stacked (λ e. let here = p.0 in cc);
        })
        (k.reason row some);
  }

  wakes_commit : (n : ℕ) → is_present n ≡ true → Possible w (Commit n)
      → Wakes is_present (effect w (Commit n))
  wakes_commit n here p = cond_both (nat_lt 0 w.signals) (leave w n Running (w.signals - 1))
      (park w n) (Wakes is_present)
      (λ _. wakes_running (leave w n Running (w.signals - 1)) n here (pre_known w n p.0) refl refl)
      (λ f. let none = ltb-false 0 w.signals f in wakes_park n p (omega arith))

  wakes_pop : (actor : ℕ) → IsFree w actor → length w.pre ≤ w.signals → (seats : List ℕ)
      → w.stack ≡ seats → Wakes is_present (pop (announced w actor) actor seats)
  wakes_pop actor free full [] e = record {
    some = k.some;
    going = k.going;
    reason = λ row _.
        settled is_present (announced w actor) row (lawful_announced w r actor) e full k.some;
  }
  wakes_pop actor free full (top ∷ rest) e = let seats = owed_by w actor ++ top ∷ [] in record {
    some = k.some;
    going = k.going;
    reason = λ _ _. inl (
      by_debt actor
          (let a = ap length (get_or-set_same w.owed actor seats [] free.known) in
          let b = length-append (owed_by w actor) (top ∷ []) in omega arith),
      tt,
    );
  }

  wakes_notify : (actor : ℕ) → IsFree w actor → Wakes is_present (effect w (Notify actor))
  wakes_notify actor free = cond_both (nat_lt w.signals (length w.pre))
      (signal (announced w actor)) (pop (announced w actor) actor w.stack) (Wakes is_present)
      (λ _.
      record {
        some = k.some;
        going = k.going;
        reason = λ _ _. inl (by_signal (omega arith), tt);
      })
      (λ f. wakes_pop actor free (ltb-false w.signals (length w.pre) f) w.stack refl)

  wakes_notify_all : (actor : ℕ) → length w.tokens ≡ length w.phases → IsFree w actor
      → Wakes is_present (effect w (NotifyAll actor))
  wakes_notify_all actor sized free = record {
    some = k.some;
    going = λ at. k.going (not_stopped w.stop at);
    reason = λ row _. settled is_present (effect w (NotifyAll actor)) row
        (lawful_effect w (NotifyAll actor) sized r free) refl (omega arith) k.some;
  }

  wakes_unpark : (actor : ℕ) → length w.tokens ≡ length w.phases → Possible w (Unpark actor)
      → (seats : List ℕ) → owed_by w actor ≡ seats → Wakes is_present (unpark w actor seats)
  wakes_unpark actor sized p [] e = let none = ap length e in absurd (omega arith)
  wakes_unpark actor sized p (n ∷ rest) e = record {
    some = k.some;
    going = k.going;
    reason = λ _ _. let t = owed_is_stacked w r actor n rest e in
        inl (by_token n (get_or-set_same w.tokens n true false (omega (arith, t.1))), tt);
  }

  wakes_take : (actor row : ℕ) → Possible w (Take actor row)
      → Wakes is_present (effect w (Take actor row))
  wakes_take actor row p = record {
    some = k.some;
    going = k.going;
    reason = λ other some. carry is_present w (effect w (Take actor row)) other
        (carries_all w other w.flags (effect w (Take actor row)).lengths)
        (k.reason other (⊎_elim
        (λ is. subst (λ j. 0 < length_of w j) (sym is) p.1)
        (λ ne. subst (λ j. 0 < j)
        (get_or-set_other w.lengths row other (length_of w row - 1) 0 ne) some)
        (cases_eq other row)));
  }

-- an event by one that is present
wakes_effect : (is_present : ℕ → Bool) (workers actors rows : ℕ) (w : World) (e : Event)
    → HasSizes workers actors rows w → Lawful w → Wakes is_present w
    → is_present (actor_of e) ≡ true → Possible w e → Wakes is_present (effect w e)
wakes_effect is_present workers actors rows w (Publish actor row) s r k here p =
    let known = p.0.0.known in let a = s.owed in let b = s.announcing in
    wakes_publish is_present w r k actor row (omega arith)
wakes_effect is_present workers actors rows w (Prewait n) s r k here p =
    let known = p.0 in let a = s.phases in let b = s.passed in
    wakes_prewait is_present w r k n known (omega arith)
wakes_effect is_present workers actors rows w (Pass n row) s r k here p =
    wakes_pass is_present w r k n row p
wakes_effect is_present workers actors rows w (PassFlag n) s r k here p =
    wakes_pass_flag is_present w r k n
wakes_effect is_present workers actors rows w (Cancel n) s r k here p =
    wakes_running is_present w r k (effect w (Cancel n)) n here (pre_known w n p) refl refl
wakes_effect is_present workers actors rows w (Commit n) s r k here p =
    wakes_commit is_present w r k n here p
wakes_effect is_present workers actors rows w (Notify actor) s r k here p =
    wakes_notify is_present w r k actor p
wakes_effect is_present workers actors rows w (NotifyAll actor) s r k here p =
    wakes_notify_all is_present w r k actor (s.tokens ∙ sym s.phases) p
wakes_effect is_present workers actors rows w (Unpark actor) s r k here p =
    wakes_unpark is_present w r k actor (s.tokens ∙ sym s.phases) p (owed_by w actor) refl
wakes_effect is_present workers actors rows w (Wake n) s r k here p =
    wakes_running is_present w r k (effect w (Wake n)) n here (stacked_known w n p.0) refl refl
wakes_effect is_present workers actors rows w (Take actor row) s r k here p =
    wakes_take is_present w r k actor row p
wakes_effect is_present workers actors rows w (Stop actor) s r k here p = record {
  some = k.some;
  going = λ at. absurd (omega arith);
  reason = λ _ _. let known = p.0.0.known in let a = s.owed in let b = s.announcing in
      inl (by_announcement actor (get_or-set_same w.announcing actor true false (omega arith)), tt);
}
wakes_effect is_present workers actors rows w (End n) s r k here p = record {
  some = still_some is_present w r k n Ended;
  going = λ at. absurd (p.2 at);
  reason = λ _ _. inr (
    n,
    let known = p.0 in let same = length-set w.phases n Ended in omega arith,
    get_or-set_same w.phases n Ended Ended p.0,
  );
}

pub wakes_run : (is_present : ℕ → Bool) (workers actors rows : ℕ) (first : World)
    (history : List Event) (last : World) → Runs first history last
    → AllPass (λ e. is_present (actor_of e)) history → HasSizes workers actors rows first
    → Lawful first → Wakes is_present first → Wakes is_present last
wakes_run is_present workers actors rows first [] last q here s r k =
    subst (Wakes is_present) q k
wakes_run is_present workers actors rows first (e ∷ es) last q here s r k =
    wakes_run is_present workers actors rows (effect first e) es last q.1
    (λ i d lt. here (suc i) d (omega arith)) (sizes_effect workers actors rows first e s)
    (lawful_effect first e (s.tokens ∙ sym s.phases) r q.0)
    (wakes_effect is_present workers actors rows first e s r k (here 0 e (omega arith)) q.0)

pub wakes_opening : (is_present : ℕ → Bool) (workers notifiers rows worker : ℕ)
    → worker < workers → is_present worker ≡ true
    → Wakes is_present (opening_world workers notifiers rows)
wakes_opening is_present workers notifiers rows worker some here =
    let l = length-replicate workers Running in record {
      some = (worker, omega arith, here);
      going = λ _ seat lt ended.
          let runs = get_or-replicate workers seat Running Ended (omega arith) in absurd (cc);
      reason = λ row jobs. let none : length_of (opening_world workers notifiers rows) row ≡ 0 =
          get_or-replicate_same rows 0 row in absurd (omega arith);
    }

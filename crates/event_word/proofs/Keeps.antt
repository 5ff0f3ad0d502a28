-- Each event keeps a World lawful.
use Rattle.std.proofs.Common.{◌≡◌, ◌≢◌, ℕ, ◌+◌, ◌-◌, ◌≤◌, ◌<◌, ◌==◌, if◌then◌else◌, nat_lt, Bool}
use Rattle.std.proofs.Common.{true, false, List, []}
use Rattle.std.proofs.Common.{◌∷◌, ◌++◌, length, get_or, set, sym, ap, refl, ◌∙◌, subst, ⊎_elim}
use Rattle.std.proofs.Common.{arith, length-append}
use Rattle.std.proofs.Common.{length-set, get_or-set_same, get_or-set_other}
use Rattle.std.proofs.lemmas.Bool.{cases_eq, cases_lt, cond_both, ltb-true, ltb-false, eqb-true}
use Rattle.std.proofs.lemmas.Bool.{eqb-false, true≢false}
use Rattle.std.proofs.lemmas.List.{get_or_past}
use Rattle.event_word.specs.declared.phase.Phase.{Phase}
use Rattle.event_word.specs.declared.phase.Phase.TheVariants.{Running, Pre, Stacked, Ended}
use Rattle.event_word.specs.declared.event.Event.{Event}
use Rattle.event_word.specs.declared.event.Event.TheVariants.{Publish, Prewait, Pass, PassFlag}
use Rattle.event_word.specs.declared.event.Event.TheVariants.{Cancel, Commit, Notify}
use Rattle.event_word.specs.declared.event.Event.TheVariants.{NotifyAll, Unpark, Wake, Take, Stop}
use Rattle.event_word.specs.declared.event.Event.TheVariants.{End}
use Rattle.event_word.specs.Lists.{one_if, total, times, without}
use Rattle.event_word.specs.World.{World, phase_of, has_passed_flag, owed_by, is_announcing}
use Rattle.event_word.specs.World.{has_token}
use Rattle.event_word.specs.Step.{IsFree, Possible, effect, leave, announced, notify, pop, unpark}
use Rattle.event_word.specs.Lawful.{waits, sleeps, stands, unstopped, Lawful}
use Rattle.event_word.proofs.Lists.{one_if-le-one, one_if-same, one_if-other, times-append}
use Rattle.event_word.proofs.Lists.{times-one_same}
use Rattle.event_word.proofs.Lists.{times-one_other, length-without, times-without}
use Rattle.event_word.proofs.Lists.{times-without_other, total-without}
use Rattle.event_word.proofs.Lists.{total-elsewhere, total-append, total-set, total-le-length}
use Rattle.event_word.proofs.Lists.{at-le-total, each-set}
use Rattle.event_word.proofs.Lists.{get_or-set_default}

-- a seat that has a phase but Ended is a worker
pub seat_known : (w : World) (n : ℕ) → (phase_of w n ≡ Ended → ⊥) → n < length w.phases
seat_known w n not_ended =
    ⊎_elim (λ h. h) (λ h. absurd (not_ended (get_or_past w.phases n Ended h)))
    (cases_lt n (length w.phases))

pub pre_known : (w : World) (n : ℕ) → phase_of w n ≡ Pre → n < length w.phases
pre_known w n e = seat_known w n (λ d. cc)

pub stacked_known : (w : World) (n : ℕ) → phase_of w n ≡ Stacked → n < length w.phases
stacked_known w n e = seat_known w n (λ d. cc)

-- a count that goes by the phase, where one phase changes
counts_set : (phases : List Phase) (n : ℕ) (p : Phase) (f g : ℕ → ℕ) (t : Phase → ℕ)
    → n < length phases → g n ≡ t p → ((m : ℕ) → m ≢ n → g m ≡ f m)
    → ((m : ℕ) → f m ≡ t (get_or phases m Ended)) → (m : ℕ)
    → g m ≡ t (get_or (set phases n p) m Ended)
counts_set phases n p f g t h here others all =
    each-set phases n p Ended (λ m ph. f m ≡ t ph) (λ m ph. g m ≡ t ph) h here
    (λ m ne e. others m ne ∙ e) all

-- a seat that has to run, where one phase changes
runs_set : (phases : List Phase) (n : ℕ) (p : Phase) (P : ℕ → Type 0) → n < length phases
    → (P n → p ≡ Running)
    → ((m : ℕ) → m < length phases → P m → get_or phases m Ended ≡ Running) → (m : ℕ)
    → m < length (set phases n p) → P m → get_or (set phases n p) m Ended ≡ Running
runs_set phases n p P h here all m lt = let same = length-set phases n p in
    each-set phases n p Ended (λ j ph. j < length phases → P j → ph ≡ Running)
    (λ j ph. j < length phases → P j → ph ≡ Running) h (λ _. here) (λ j ne q. q) all m
    (omega arith)

pub sleeps-le-one : (p : Phase) → sleeps p ≤ 1
sleeps-le-one Running = omega arith
sleeps-le-one Pre = omega arith
sleeps-le-one Stacked = omega arith
sleeps-le-one Ended = omega arith

pub waits-is_pre : (p : Phase) → 0 < waits p → p ≡ Pre
waits-is_pre Running h = absurd (omega arith)
waits-is_pre Pre h = refl
waits-is_pre Stacked h = absurd (omega arith)
waits-is_pre Ended h = absurd (omega arith)

-- no more pre-waiters have found no stop than there are
unstopped-le : (w : World) → unstopped w ≤ length w.pre
unstopped-le w = total-le-length (λ n. one_if (has_passed_flag w n)) w.pre
    (λ n. one_if-le-one (has_passed_flag w n))

-- the tokens after one of them is set
pub token-set : (w : World) (n : ℕ) (b : Bool) → n < length w.tokens
    → one_if (get_or (set w.tokens n b) n false) ≡ one_if b
token-set w n b h = ap one_if (get_or-set_same w.tokens n b false h)

pub token-set_other : (w : World) (n m : ℕ) (b : Bool) → m ≢ n
    → one_if (get_or (set w.tokens n b) m false) ≡ one_if (has_token w m)
token-set_other w n m b ne = ap one_if (get_or-set_other w.tokens n m b false ne)

module _ (w : World) (r : Lawful w) where
  -- a seat that does not run owes nothing and is not to notify
  quiet_else : (n : ℕ) → n < length w.phases → phase_of w n ≢ Running
      → (0 < length (owed_by w n) → ⊥) × (is_announcing w n ≡ true → ⊥)
  quiet_else n h ne = (λ p. ne (r.owing n h p), λ p. ne (r.announcing n h p))

  pub is_waiting : (n : ℕ) → phase_of w n ≡ Pre → times n w.pre ≡ 1
  is_waiting n e = r.waiting n ∙ ap waits e

  -- a fact about the actor and about each other worker is one about every worker
  by_actor : (actor n : ℕ) (b : Bool) → (actor < length w.phases → phase_of w actor ≡ Running)
      → n < length w.phases → get_or (set w.announcing actor b) n false ≡ true
      → phase_of w n ≡ Running
  by_actor actor n b runs h e = ⊎_elim
      (λ is. subst (λ m. phase_of w m ≡ Running) (sym is)
      (runs (subst (λ m. m < length w.phases) is h)))
      (λ ne. r.announcing n h (sym (get_or-set_other w.announcing actor n b false ne) ∙ e))
      (cases_eq n actor)

  still_drained : w.stop ≡ 2 → (w.stack ≡ []) × (unstopped w ≤ w.signals)
  still_drained two = let d = r.stopped two in (d.stack, d.signals)

  lawful_publish : (actor row : ℕ) → Possible w (Publish actor row)
      → Lawful (effect w (Publish actor row))
  lawful_publish actor row p = record {
    answered = r.answered;
    waiting = r.waiting;
    standing = r.standing;
    owing = r.owing;
    announcing = λ n h e. by_actor actor n true p.0.0.runs h e;
    stopped = λ two. let d = still_drained two in record { stack = d.0; signals = d.1 };
  }

  lawful_prewait : (n : ℕ) → Possible w (Prewait n) → Lawful (effect w (Prewait n))
  lawful_prewait n p =
      let running = p.1.0.runs p.0 in let none = r.waiting n ∙ ap waits running in
      let longer = length-append w.pre (n ∷ []) in record {
        answered = let a = r.answered in omega arith;
        waiting = counts_set w.phases n Pre (λ m. times m w.pre)
            (λ m. times m (w.pre ++ n ∷ [])) waits p.0
            (let a = times-append n w.pre (n ∷ []) in let b = times-one_same n n refl in
            omega arith)
            (λ m ne. let a = times-append m w.pre (n ∷ []) in
            let b = times-one_other m n (λ e. ne (sym e)) in omega arith)
            r.waiting;
        standing = counts_set w.phases n Pre (stands w) (stands w) sleeps p.0 (r.standing n
            ∙ ap sleeps running) (λ m ne. refl) r.standing;
        owing = runs_set w.phases n Pre (λ m. 0 < length (owed_by w m)) p.0
            (λ owes. let e = ap length p.1.0.owes_none in absurd (omega arith)) r.owing;
        announcing = runs_set w.phases n Pre (λ m. is_announcing w m ≡ true) p.0
            (λ e. absurd (true≢false (sym e ∙ p.1.1))) r.announcing;
        stopped = λ two. let d = r.stopped two in record {
          stack = d.stack;
          signals = let f = λ (m : ℕ). one_if (get_or (set w.flags n false) m false) in
              let g = λ (m : ℕ). one_if (has_passed_flag w m) in
              let a = total-append f w.pre (n ∷ []) in
              let b = total-elsewhere f g n w.pre
              (λ m ne. ap one_if (get_or-set_other w.flags n m false false ne)) none in
              let c = d.signals in let e = ap one_if (get_or-set_default w.flags n false) in
              omega arith;
        };
      }

  lawful_pass : (n row : ℕ) → Lawful (effect w (Pass n row))
  lawful_pass n row = record {
    answered = r.answered;
    waiting = r.waiting;
    standing = r.standing;
    owing = r.owing;
    announcing = r.announcing;
    stopped = λ two. let d = still_drained two in record { stack = d.0; signals = d.1 };
  }

  lawful_pass_flag : (n : ℕ) → Possible w (PassFlag n) → Lawful (effect w (PassFlag n))
  lawful_pass_flag n p = record {
    answered = r.answered;
    waiting = r.waiting;
    standing = r.standing;
    owing = r.owing;
    announcing = r.announcing;
    stopped = λ two. let zero = p.1 in absurd (omega arith);
  }

  -- a pre-waiter that goes on takes no signal, or one, and no more than are left after it
  lawful_leave : (n signals : ℕ) → phase_of w n ≡ Pre → signals < length w.pre
      → (w.stop ≡ 2 → unstopped w ≤ signals + one_if (has_passed_flag w n))
      → Lawful (leave w n Running signals)
  lawful_leave n signals pre few enough =
      let known = pre_known w n pre in let one = is_waiting n pre in
      let quiet = quiet_else n known (λ e. cc) in
      let shorter = length-without n w.pre (omega arith) in record {
        answered = omega arith;
        waiting = counts_set w.phases n Running (λ m. times m w.pre)
            (λ m. times m (without n w.pre)) waits known
            (let a = times-without n w.pre (omega arith) in omega arith)
            (λ m ne. times-without_other m n w.pre ne)
            r.waiting;
        standing = counts_set w.phases n Running (stands w) (stands w) sleeps known (r.standing n
            ∙ ap sleeps pre) (λ m ne. refl) r.standing;
        owing = runs_set w.phases n Running (λ m. 0 < length (owed_by w m)) known
            (λ _. refl) r.owing;
        announcing = runs_set w.phases n Running (λ m. is_announcing w m ≡ true) known
            (λ _. refl) r.announcing;
        stopped = λ two. let d = r.stopped two in record {
          stack = d.stack;
          signals = let a = total-without (λ m. one_if (has_passed_flag w m)) n w.pre
              (omega arith) in let b = enough two in omega arith;
        };
      }

  lawful_cancel : (n : ℕ) → Possible w (Cancel n) → Lawful (effect w (Cancel n))
  lawful_cancel n pre =
      let one = is_waiting n pre in let shorter = length-without n w.pre (omega arith) in
      let answered = r.answered in let most = unstopped-le w in
      cond_both (w.signals == length w.pre) (w.signals - 1) w.signals
      (λ s. Lawful (leave w n Running s))
      (λ t. let e = eqb-true w.signals (length w.pre) t in
      let a = total-without (λ m. one_if (has_passed_flag w m)) n w.pre (omega arith) in
      let b = total-le-length (λ m. one_if (has_passed_flag w m)) (without n w.pre)
      (λ m. one_if-le-one (has_passed_flag w m)) in
      lawful_leave n (w.signals - 1) pre (omega arith) (λ two. omega arith))
      (λ f. let ne = eqb-false w.signals (length w.pre) f in
      lawful_leave n w.signals pre (omega arith) (λ two. let d = (r.stopped two).signals in
      omega arith))

  lawful_push : (n : ℕ) → phase_of w n ≡ Pre → w.signals ≡ 0 → (w.stop ≡ 2 → ⊥)
      → Lawful record (leave w n Stacked w.signals) { stack = n ∷ w.stack }
  lawful_push n pre none going =
      let known = pre_known w n pre in let one = is_waiting n pre in
      let quiet = quiet_else n known (λ e. cc) in record {
        answered = omega arith;
        waiting = counts_set w.phases n Stacked (λ m. times m w.pre)
            (λ m. times m (without n w.pre)) waits known
            (let a = times-without n w.pre (omega arith) in omega arith)
            (λ m ne. times-without_other m n w.pre ne)
            r.waiting;
        standing = counts_set w.phases n Stacked (stands w)
            (λ m. one_if (n == m) + times m w.stack + total (times m) w.owed + one_if
            (has_token w m)) sleeps known
            (let a = one_if-same n n refl in let b = r.standing n ∙ ap sleeps pre in omega arith)
            (λ m ne. let a = one_if-other n m (λ e. ne (sym e)) in omega arith)
            r.standing;
        owing = runs_set w.phases n Stacked (λ m. 0 < length (owed_by w m)) known
            (λ h. absurd (quiet.0 h)) r.owing;
        announcing = runs_set w.phases n Stacked (λ m. is_announcing w m ≡ true) known
            (λ h. absurd (quiet.1 h)) r.announcing;
        stopped = λ two. absurd (going two);
      }

  lawful_commit : (n : ℕ) → Possible w (Commit n) → Lawful (effect w (Commit n))
  lawful_commit n p =
      let one = is_waiting n p.0 in let shorter = length-without n w.pre (omega arith) in
      let answered = r.answered in
      let flagged = ap one_if p.1.flag in
      cond_both (nat_lt 0 w.signals) (leave w n Running (w.signals - 1))
      (record (leave w n Stacked w.signals) { stack = n ∷ w.stack }) Lawful
      (λ t. let some = ltb-true 0 w.signals t in
      lawful_leave n (w.signals - 1) p.0 (omega arith)
      (λ two. let d = (r.stopped two).signals in omega arith))
      (λ f. let none = ltb-false 0 w.signals f in lawful_push n p.0 (omega arith)
      (λ two. let d = (r.stopped two).signals in
      let a = total-without (λ m. one_if (has_passed_flag w m)) n w.pre (omega arith) in
      omega arith))

  pub lawful_announced : (actor : ℕ) → Lawful (announced w actor)
  lawful_announced actor = record {
    answered = r.answered;
    waiting = r.waiting;
    standing = r.standing;
    owing = r.owing;
    announcing = λ n h e. ⊎_elim
        (λ is. absurd
        (true≢false (sym e ∙ (ap (λ m. get_or (set w.announcing actor false) m false) is
        ∙ get_or-set_default w.announcing actor false))))
        (λ ne. r.announcing n h (sym (get_or-set_other w.announcing actor n false false ne) ∙ e))
        (cases_eq n actor);
    stopped = λ two. let d = still_drained two in record { stack = d.0; signals = d.1 };
  }

  -- an actor that owes has to run, where the list of one actor that runs changes
  owing_set : (actor : ℕ) (seats : List ℕ)
      → (0 < length seats → actor < length w.phases → phase_of w actor ≡ Running)
      → (n : ℕ) → n < length w.phases → 0 < length (get_or (set w.owed actor seats) n [])
      → phase_of w n ≡ Running
  owing_set actor seats runs n h owes = ⊎_elim
      (λ is. subst (λ m. phase_of w m ≡ Running) (sym is)
      (runs
      (⊎_elim
      (λ lt. let e = ap length (get_or-set_same w.owed actor seats [] lt) in
      let f = ap (λ m. length (get_or (set w.owed actor seats) m [])) is in omega arith)
      (λ le. let past =
      ap length
      (get_or_past (set w.owed actor seats) n [] (let s = length-set w.owed actor seats in
      omega arith)) in absurd (omega arith))
      (cases_lt actor (length w.owed)))
      (omega arith)))
      (λ ne. r.owing n h
      (subst (λ xs. 0 < length xs) (get_or-set_other w.owed actor n seats [] ne) owes))
      (cases_eq n actor)

  lawful_signal : w.signals < length w.pre → Lawful record w { signals = w.signals + 1 }
  lawful_signal few = record {
    answered = omega arith;
    waiting = r.waiting;
    standing = r.standing;
    owing = r.owing;
    announcing = r.announcing;
    stopped = λ two. let d = still_drained two in
        record { stack = d.0; signals = omega (arith, d.1) };
  }

  lawful_pop : (actor : ℕ) → IsFree w actor → (seats : List ℕ) → w.stack ≡ seats
      → Lawful (pop w actor seats)
  lawful_pop actor free [] e = r
  lawful_pop actor free (top ∷ rest) e = record {
    answered = r.answered;
    waiting = r.waiting;
    standing = λ n. let a = r.standing n in let b = ap (times n) e in
        let c = times-append n (owed_by w actor) (top ∷ []) in
        let d = total-set (times n) w.owed actor (owed_by w actor ++ top ∷ []) [] free.known in
        omega arith;
    owing = owing_set actor (owed_by w actor ++ top ∷ []) (λ _. free.runs);
    announcing = r.announcing;
    stopped = λ two. let d = still_drained two in let none = d.0 in absurd (cc);
  }

  lawful_notify : (actor : ℕ) → IsFree w actor → Lawful (notify w actor)
  lawful_notify actor free = cond_both (nat_lt w.signals (length w.pre))
      (record w { signals = w.signals + 1 }) (pop w actor w.stack) Lawful
      (λ t. lawful_signal (ltb-true w.signals (length w.pre) t))
      (λ _. lawful_pop actor free w.stack refl)

  lawful_take_stack : (actor stop : ℕ) → IsFree w actor → Lawful record w {
    signals = length w.pre;
    stack = [];
    owed = set w.owed actor (owed_by w actor ++ w.stack);
    stop = stop;
  }
  lawful_take_stack actor stop free = record {
    answered = omega arith;
    waiting = r.waiting;
    standing = λ n. let a = r.standing n in let c = times-append n (owed_by w actor) w.stack in
        let d = total-set (times n) w.owed actor (owed_by w actor ++ w.stack) [] free.known in
        omega arith;
    owing = owing_set actor (owed_by w actor ++ w.stack) (λ _. free.runs);
    announcing = r.announcing;
    stopped = λ _. record { stack = refl; signals = unstopped-le w };
  }

  -- a seat that an actor owes is stacked and has no token
  pub owed_is_stacked : (actor n : ℕ) (rest : List ℕ) → owed_by w actor ≡ n ∷ rest
      → (actor < length w.owed) × (n < length w.phases) × (one_if (has_token w n) ≡ 0)
  owed_is_stacked actor n rest e =
      let known = ⊎_elim {C = actor < length w.owed} (λ h. h)
      (λ le. let past = get_or_past w.owed actor [] le in
      absurd (cc)) (cases_lt actor (length w.owed)) in
      let here = at-le-total (times n) w.owed actor [] known in let one = one_if-same n n refl in
      let b = ap (times n) e in
      let few = one_if-le-one (has_token w n) in let stand = r.standing n in (
        known,
        seat_known w n (λ d. let z = ap sleeps d in absurd (omega arith)),
        let most =
            sleeps-le-one (phase_of w n) in omega arith,
      )

  lawful_unpark : (actor : ℕ) → length w.tokens ≡ length w.phases → (seats : List ℕ)
      → owed_by w actor ≡ seats → Lawful (unpark w actor seats)
  lawful_unpark actor sized [] e = r
  lawful_unpark actor sized (n ∷ rest) e = let k = owed_is_stacked actor n rest e in
      let lt : n < length w.tokens = omega arith in record {
        answered = r.answered;
        waiting = r.waiting;
        standing = λ m. let a = r.standing m in let b = ap (times m) e in
            let d = total-set (times m) w.owed actor rest [] k.0 in ⊎_elim
            (λ is. let t = token-set w n true lt in
            let u = ap (λ j. one_if (get_or (set w.tokens n true) j false)) is in
            let v = ap (λ j. one_if (has_token w j)) is in
            let one = one_if-same n m (sym is) in omega arith)
            (λ ne. let t = token-set_other w n m true ne in
            let one = one_if-other n m (λ q. ne (sym q)) in omega arith)
            (cases_eq m n);
        owing = owing_set actor rest (λ _ h. r.owing actor h (let f = ap length e in omega arith));
        announcing = r.announcing;
        stopped = λ two. let d = still_drained two in record { stack = d.0; signals = d.1 };
      }

  lawful_wake : (n : ℕ) → length w.tokens ≡ length w.phases → Possible w (Wake n)
      → Lawful (effect w (Wake n))
  lawful_wake n sized p = let known = stacked_known w n p.0 in
      let lt : n < length w.tokens = omega arith in let had = ap one_if p.1 in record {
        answered = r.answered;
        waiting = counts_set w.phases n Running (λ m. times m w.pre)
            (λ m. times m w.pre) waits known
            (r.waiting n ∙ ap waits p.0) (λ m ne. refl) r.waiting;
        standing = counts_set w.phases n Running (stands w)
            (λ m. times m w.stack + total (times m) w.owed + one_if
            (get_or (set w.tokens n false) m false)) sleeps known
            (let a = r.standing n ∙ ap sleeps p.0 in let t = token-set w n false lt in omega arith)
            (λ m ne. let t = token-set_other w n m false ne in omega arith)
            r.standing;
        owing = runs_set w.phases n Running (λ m. 0 < length (owed_by w m)) known
            (λ _. refl) r.owing;
        announcing = runs_set w.phases n Running (λ m. is_announcing w m ≡ true) known
            (λ _. refl) r.announcing;
        stopped = λ two. let d = still_drained two in record { stack = d.0; signals = d.1 };
      }

  lawful_take : (actor row : ℕ) → Lawful (effect w (Take actor row))
  lawful_take actor row = record {
    answered = r.answered;
    waiting = r.waiting;
    standing = r.standing;
    owing = r.owing;
    announcing = r.announcing;
    stopped = λ two. let d = still_drained two in record { stack = d.0; signals = d.1 };
  }

  lawful_stop : (actor : ℕ) → Possible w (Stop actor) → Lawful (effect w (Stop actor))
  lawful_stop actor p = record {
    answered = r.answered;
    waiting = r.waiting;
    standing = r.standing;
    owing = r.owing;
    announcing = λ n h e. by_actor actor n true p.0.0.runs h e;
    stopped = λ two. absurd (omega arith);
  }

  lawful_end : (n : ℕ) → Possible w (End n) → Lawful (effect w (End n))
  lawful_end n p = let running = p.1.0.runs p.0 in record {
    answered = r.answered;
    waiting = counts_set w.phases n Ended (λ m. times m w.pre) (λ m. times m w.pre) waits p.0
        (r.waiting n ∙ ap waits running) (λ m ne. refl) r.waiting;
    standing = counts_set w.phases n Ended (stands w) (stands w) sleeps p.0 (r.standing n
        ∙ ap sleeps running) (λ m ne. refl) r.standing;
    owing = runs_set w.phases n Ended (λ m. 0 < length (owed_by w m)) p.0
        (λ owes. let e = ap length p.1.0.owes_none in absurd (omega arith)) r.owing;
    announcing = runs_set w.phases n Ended (λ m. is_announcing w m ≡ true) p.0
        (λ e. absurd (true≢false (sym e ∙ p.1.1))) r.announcing;
    stopped = λ two. let d = still_drained two in record { stack = d.0; signals = d.1 };
  }

-- the actor is free before and after its announcement is off
free_announced : (w : World) (actor : ℕ) → IsFree w actor → IsFree (announced w actor) actor
free_announced w actor p = record { known = p.known; owes_none = p.owes_none; runs = p.runs }

pub lawful_effect : (w : World) (e : Event) → length w.tokens ≡ length w.phases → Lawful w
    → Possible w e → Lawful (effect w e)
lawful_effect w (Publish actor row) sized r p = lawful_publish w r actor row p
lawful_effect w (Prewait n) sized r p = lawful_prewait w r n p
lawful_effect w (Pass n row) sized r p = lawful_pass w r n row
lawful_effect w (PassFlag n) sized r p = lawful_pass_flag w r n p
lawful_effect w (Cancel n) sized r p = lawful_cancel w r n p
lawful_effect w (Commit n) sized r p = lawful_commit w r n p
lawful_effect w (Notify actor) sized r p =
    lawful_notify (announced w actor) (lawful_announced w r actor) actor (free_announced w actor p)
lawful_effect w (NotifyAll actor) sized r p =
    lawful_take_stack (announced w actor) (lawful_announced w r actor) actor
    (if w.stop == 1 then 2 else w.stop) (free_announced w actor p)
lawful_effect w (Unpark actor) sized r p = lawful_unpark w r actor sized (owed_by w actor) refl
lawful_effect w (Wake n) sized r p = lawful_wake w r n sized p
lawful_effect w (Take actor row) sized r p = lawful_take w r actor row
lawful_effect w (Stop actor) sized r p = lawful_stop w r actor p
lawful_effect w (End n) sized r p = lawful_end w r n p

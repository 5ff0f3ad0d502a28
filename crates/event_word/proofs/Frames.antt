-- An event leaves alone what is not its actor's.
use Rattle.std.proofs.Common.{◌≡◌, ◌≢◌, ℕ, ◌+◌, ◌-◌, ◌==◌, if◌then◌else◌, nat_lt, Bool, true, false}
use Rattle.std.proofs.Common.{List, [], ◌∷◌, ◌++◌, length, get_or, set, sym, ap, refl, ◌∙◌, ⊎_elim}
use Rattle.std.proofs.Common.{arith, get_or-set_other, get_or-set_same, replicate}
use Rattle.std.proofs.lemmas.Bool.{cases_eq, cases_lt, cond_both}
use Rattle.std.proofs.lemmas.List.{set_past}
use Rattle.event_word.specs.declared.phase.Phase.{Phase}
use Rattle.event_word.specs.declared.phase.Phase.TheVariants.{Running, Pre, Stacked, Ended}
use Rattle.event_word.specs.declared.event.Event.{Event}
use Rattle.event_word.specs.declared.event.Event.TheVariants.{Publish, Prewait, Pass, PassFlag}
use Rattle.event_word.specs.declared.event.Event.TheVariants.{Cancel, Commit, Notify, NotifyAll}
use Rattle.event_word.specs.declared.event.Event.TheVariants.{Unpark, Wake, Take, Stop, End}
use Rattle.event_word.specs.Lists.{times}
use Rattle.event_word.specs.World.{World, rows_passed_by, owed_by}
use Rattle.event_word.specs.Step.{Possible, effect, actor_of, leave, announced, pop, unpark}
use Rattle.event_word.specs.Lawful.{sleeps, Lawful, HasSizes}
use Rattle.event_word.specs.Frame.{LeavesAlone, stands_by, Frames, EventsLeaveAlone}
use Rattle.event_word.proofs.Lists.{times-append, times-one_other, times-without_other}
use Rattle.event_word.proofs.Lists.{total-one_place}
use Rattle.event_word.proofs.Sizes.{sizes_effect}
use Rattle.event_word.proofs.Keeps.{lawful_effect}

-- a token that is set somewhere is still set
token_kept : (tokens : List Bool) (i n : ℕ) → get_or tokens n false ≡ true
    → get_or (set tokens i true) n false ≡ true
token_kept tokens i n e = ⊎_elim
    (λ h. ⊎_elim
    (λ is. ap (λ j. get_or (set tokens i true) j false) is ∙ get_or-set_same tokens i true false h)
    (λ ne. get_or-set_other tokens i n true false ne ∙ e)
    (cases_eq n i))
    (λ le. ap (λ xs. get_or xs n false) (set_past tokens i true le) ∙ e)
    (cases_lt i (length tokens))

module _ (n : ℕ) where
  alone_leave : (w : World) (seat : ℕ) (p : Phase) (signals : ℕ) → n ≢ seat
      → LeavesAlone w (leave w seat p signals) n
  alone_leave w seat p signals ne = record {
    phase = get_or-set_other w.phases seat n p Ended ne;
    flag = refl;
    rows = refl;
    waiting = times-without_other n seat w.pre ne;
    owed = refl;
    announcing = refl;
    token = λ e. e;
  }

  alone_push : (w : World) (seat : ℕ) → n ≢ seat
      → LeavesAlone w record (leave w seat Stacked w.signals) { stack = seat ∷ w.stack } n
  alone_push w seat ne = record {
    phase = get_or-set_other w.phases seat n Stacked Ended ne;
    flag = refl;
    rows = refl;
    waiting = times-without_other n seat w.pre ne;
    owed = refl;
    announcing = refl;
    token = λ e. e;
  }

  alone_signal : (w : World) (actor signals : ℕ) → n ≢ actor
      → LeavesAlone w record (announced w actor) { signals = signals } n
  alone_signal w actor signals ne = record {
    phase = refl;
    flag = refl;
    rows = refl;
    waiting = refl;
    owed = refl;
    announcing = get_or-set_other w.announcing actor n false false ne;
    token = λ e. e;
  }

  alone_pop : (w : World) (actor : ℕ) (seats : List ℕ) → n ≢ actor
      → LeavesAlone w (pop (announced w actor) actor seats) n
  alone_pop w actor [] ne = record {
    phase = refl;
    flag = refl;
    rows = refl;
    waiting = refl;
    owed = refl;
    announcing = get_or-set_other w.announcing actor n false false ne;
    token = λ e. e;
  }
  alone_pop w actor (top ∷ rest) ne = record {
    phase = refl;
    flag = refl;
    rows = refl;
    waiting = refl;
    owed = get_or-set_other w.owed actor n (owed_by w actor ++ top ∷ []) [] ne;
    announcing = get_or-set_other w.announcing actor n false false ne;
    token = λ e. e;
  }

  alone_unpark : (w : World) (actor : ℕ) (seats : List ℕ) → n ≢ actor
      → LeavesAlone w (unpark w actor seats) n
  alone_unpark w actor [] ne = record {
    phase = refl;
    flag = refl;
    rows = refl;
    waiting = refl;
    owed = refl;
    announcing = refl;
    token = λ e. e;
  }
  alone_unpark w actor (seat ∷ rest) ne = record {
    phase = refl;
    flag = refl;
    rows = refl;
    waiting = refl;
    owed = get_or-set_other w.owed actor n rest [] ne;
    announcing = refl;
    token = token_kept w.tokens seat n;
  }

  pub alone_effect : (w : World) (e : Event) → n ≢ actor_of e → LeavesAlone w (effect w e) n
  alone_effect w (Publish actor row) ne = record {
    phase = refl;
    flag = refl;
    rows = refl;
    waiting = refl;
    owed = refl;
    announcing = get_or-set_other w.announcing actor n true false ne;
    token = λ e. e;
  }
  alone_effect w (Prewait seat) ne = record {
    phase = get_or-set_other w.phases seat n Pre Ended ne;
    flag = get_or-set_other w.flags seat n false false ne;
    rows = get_or-set_other w.passed seat n (replicate (length w.lengths) false) [] ne;
    waiting = let a = times-append n w.pre (seat ∷ []) in
        let b = times-one_other n seat (λ e. ne (sym e)) in omega arith;
    owed = refl;
    announcing = refl;
    token = λ e. e;
  }
  alone_effect w (Pass seat row) ne = record {
    phase = refl;
    flag = refl;
    rows = get_or-set_other w.passed seat n (set (rows_passed_by w seat) row true) [] ne;
    waiting = refl;
    owed = refl;
    announcing = refl;
    token = λ e. e;
  }
  alone_effect w (PassFlag seat) ne = record {
    phase = refl;
    flag = get_or-set_other w.flags seat n true false ne;
    rows = refl;
    waiting = refl;
    owed = refl;
    announcing = refl;
    token = λ e. e;
  }
  alone_effect w (Cancel seat) ne = alone_leave w seat Running
      (if w.signals == length w.pre then w.signals - 1 else w.signals) ne
  alone_effect w (Commit seat) ne = cond_both (nat_lt 0 w.signals)
      (leave w seat Running (w.signals - 1))
      (record (leave w seat Stacked w.signals) { stack = seat ∷ w.stack }) (λ u. LeavesAlone w u n)
      (λ _. alone_leave w seat Running (w.signals - 1) ne) (λ _. alone_push w seat ne)
  alone_effect w (Notify actor) ne = let h = announced w actor in
      cond_both (nat_lt h.signals (length h.pre)) (record h { signals = h.signals + 1 })
      (pop h actor h.stack) (λ u. LeavesAlone w u n)
      (λ _. alone_signal w actor (w.signals + 1) ne) (λ _. alone_pop w actor w.stack ne)
  alone_effect w (NotifyAll actor) ne = record {
    phase = refl;
    flag = refl;
    rows = refl;
    waiting = refl;
    owed = get_or-set_other w.owed actor n (owed_by w actor ++ w.stack) [] ne;
    announcing = get_or-set_other w.announcing actor n false false ne;
    token = λ e. e;
  }
  alone_effect w (Unpark actor) ne = alone_unpark w actor (owed_by w actor) ne
  alone_effect w (Wake seat) ne =
      record {
        phase = get_or-set_other w.phases seat n Running Ended ne;
        flag = refl;
        rows = refl;
        waiting = refl;
        owed = refl;
        announcing = refl;
        token = λ e. get_or-set_other w.tokens seat n false false ne ∙ e;
      }
  alone_effect w (Take actor row) ne = record {
    phase = refl;
    flag = refl;
    rows = refl;
    waiting = refl;
    owed = refl;
    announcing = refl;
    token = λ e. e;
  }
  alone_effect w (Stop actor) ne = record {
    phase = refl;
    flag = refl;
    rows = refl;
    waiting = refl;
    owed = refl;
    announcing = get_or-set_other w.announcing actor n true false ne;
    token = λ e. e;
  }
  alone_effect w (End seat) ne = record {
    phase = get_or-set_other w.phases seat n Ended Ended ne;
    flag = refl;
    rows = refl;
    waiting = refl;
    owed = refl;
    announcing = refl;
    token = λ e. e;
  }

pub frames_effect : (w : World) (e : Event) → Frames w e
frames_effect w e = record {
  sizes = λ workers actors rows. sizes_effect workers actors rows w e;
  alone = λ n ne. alone_effect n w e ne;
}

pub places_effect : (workers actors rows : ℕ) (w : World) (e : Event)
    → HasSizes workers actors rows w → Lawful w → Possible w e
    → (seat : ℕ) → seat ≢ actor_of e → stands_by (effect w e) (actor_of e) seat ≡ stands_by w
    (actor_of e) seat
places_effect workers actors rows w e s r p seat ne =
    let u = effect w e in let t = sizes_effect workers actors rows w e s in
    let q = lawful_effect w e (s.tokens ∙ sym s.phases) r p in
    let was = r.standing seat in let now = q.standing seat in
    let phase = ap sleeps (alone_effect seat w e ne).phase in
    let moved = total-one_place (times seat) [] u.owed w.owed (actor_of e) (t.owed ∙ sym s.owed)
    (λ m other. (alone_effect m w e other).owed) in
    omega arith

pub events_leave_alone : EventsLeaveAlone
events_leave_alone = record { frames = frames_effect; places = places_effect }

-- No event adds or drops an entry of a worker, an actor or a row.
use Rattle.std.proofs.Common.{ℕ, ◌+◌, ◌-◌, ◌==◌, if◌then◌else◌, nat_lt, Bool, true, false, List, []}
use Rattle.std.proofs.Common.{◌∷◌, ◌≡◌, ◌<◌, ◌++◌, length, get_or, set, replicate, ap, ◌∙◌, ⊎_elim}
use Rattle.std.proofs.Common.{arith, length-set, get_or-set_same, get_or-set_other}
use Rattle.std.proofs.lemmas.Bool.{cases_eq, cond_both}
use Rattle.std.proofs.lemmas.List.{length-replicate, get_or-replicate}
use Rattle.event_word.specs.declared.phase.Phase.{Phase}
use Rattle.event_word.specs.declared.phase.Phase.TheVariants.{Running, Pre, Stacked, Ended}
use Rattle.event_word.specs.declared.event.Event.{Event}
use Rattle.event_word.specs.declared.event.Event.TheVariants.{Publish, Prewait, Pass, PassFlag}
use Rattle.event_word.specs.declared.event.Event.TheVariants.{Cancel, Commit, Notify}
use Rattle.event_word.specs.declared.event.Event.TheVariants.{NotifyAll, Unpark, Wake, Take, Stop}
use Rattle.event_word.specs.declared.event.Event.TheVariants.{End}
use Rattle.event_word.specs.World.{World, rows_passed_by, owed_by, length_of, opening_world}
use Rattle.event_word.specs.Step.{effect, leave, announced, pop, unpark}
use Rattle.event_word.specs.Lawful.{HasSizes}

-- where each entry is so long, and so is a new one
each_long : (xss : List (List Bool)) (i : ℕ) (ys : List Bool) (m n : ℕ) → length xss ≡ m
    → (i < m → length ys ≡ n) → ((j : ℕ) → j < m → length (get_or xss j []) ≡ n) → (j : ℕ) → j < m
    → length (get_or (set xss i ys) j []) ≡ n
each_long xss i ys m n all here others j h = ⊎_elim
    (λ e. ap (λ k. length (get_or (set xss i ys) k [])) e
    ∙ (ap length (get_or-set_same xss i ys [] (omega arith)) ∙ here (omega arith)))
    (λ ne. ap length (get_or-set_other xss i j ys [] ne) ∙ others j h)
    (cases_eq j i)

pub sizes_opening : (workers notifiers rows : ℕ)
    → HasSizes workers (workers + notifiers) rows (opening_world workers notifiers rows)
sizes_opening workers notifiers rows = record {
  phases = length-replicate workers Running;
  flags = length-replicate workers false;
  passed = length-replicate workers (replicate rows false);
  passed_rows = λ seat h. ap length (get_or-replicate workers seat (replicate rows false) [] h)
      ∙ length-replicate rows false;
  owed = length-replicate (workers + notifiers) [];
  announcing = length-replicate (workers + notifiers) false;
  tokens = length-replicate workers false;
  lengths = length-replicate rows 0;
}

module _ (workers actors rows : ℕ) where
  sizes_leave : (w : World) (n : ℕ) (p : Phase) (signals : ℕ) → HasSizes workers actors rows w
      → HasSizes workers actors rows (leave w n p signals)
  sizes_leave w n p signals s = record {
    phases = length-set w.phases n p ∙ s.phases;
    flags = s.flags;
    passed = s.passed;
    passed_rows = s.passed_rows;
    owed = s.owed;
    announcing = s.announcing;
    tokens = s.tokens;
    lengths = s.lengths;
  }

  sizes_push : (w : World) (n : ℕ) → HasSizes workers actors rows w
      → HasSizes workers actors rows record (leave w n Stacked w.signals) { stack = n ∷ w.stack }
  sizes_push w n s = record {
    phases = length-set w.phases n Stacked ∙ s.phases;
    flags = s.flags;
    passed = s.passed;
    passed_rows = s.passed_rows;
    owed = s.owed;
    announcing = s.announcing;
    tokens = s.tokens;
    lengths = s.lengths;
  }

  sizes_announced : (w : World) (actor : ℕ) → HasSizes workers actors rows w
      → HasSizes workers actors rows (announced w actor)
  sizes_announced w actor s = record {
    phases = s.phases;
    flags = s.flags;
    passed = s.passed;
    passed_rows = s.passed_rows;
    owed = s.owed;
    announcing = length-set w.announcing actor false ∙ s.announcing;
    tokens = s.tokens;
    lengths = s.lengths;
  }

  sizes_signal : (w : World) (signals : ℕ) → HasSizes workers actors rows w
      → HasSizes workers actors rows record w { signals = signals }
  sizes_signal w signals s = record {
    phases = s.phases;
    flags = s.flags;
    passed = s.passed;
    passed_rows = s.passed_rows;
    owed = s.owed;
    announcing = s.announcing;
    tokens = s.tokens;
    lengths = s.lengths;
  }

  sizes_pop : (w : World) (actor : ℕ) (seats : List ℕ) → HasSizes workers actors rows w
      → HasSizes workers actors rows (pop w actor seats)
  sizes_pop w actor [] s = s
  sizes_pop w actor (top ∷ rest) s = record {
    phases = s.phases;
    flags = s.flags;
    passed = s.passed;
    passed_rows = s.passed_rows;
    owed = length-set w.owed actor (owed_by w actor ++ top ∷ []) ∙ s.owed;
    announcing = s.announcing;
    tokens = s.tokens;
    lengths = s.lengths;
  }

  sizes_unpark : (w : World) (actor : ℕ) (seats : List ℕ) → HasSizes workers actors rows w
      → HasSizes workers actors rows (unpark w actor seats)
  sizes_unpark w actor [] s = s
  sizes_unpark w actor (n ∷ rest) s = record {
    phases = s.phases;
    flags = s.flags;
    passed = s.passed;
    passed_rows = s.passed_rows;
    owed = length-set w.owed actor rest ∙ s.owed;
    announcing = s.announcing;
    tokens = length-set w.tokens n true ∙ s.tokens;
    lengths = s.lengths;
  }

  pub sizes_effect : (w : World) (e : Event) → HasSizes workers actors rows w
      → HasSizes workers actors rows (effect w e)
  sizes_effect w (Publish actor row) s = record {
    phases = s.phases;
    flags = s.flags;
    passed = s.passed;
    passed_rows = s.passed_rows;
    owed = s.owed;
    announcing = length-set w.announcing actor true
        ∙ s.announcing;
    tokens = s.tokens;
    lengths = length-set w.lengths row (length_of w row + 1)
        ∙ s.lengths;
  }
  sizes_effect w (Prewait n) s = record {
    phases = length-set w.phases n Pre ∙ s.phases;
    flags = length-set w.flags n false ∙ s.flags;
    passed = length-set w.passed n (replicate (length w.lengths) false) ∙ s.passed;
    passed_rows = each_long w.passed n (replicate (length w.lengths) false) workers rows s.passed
        (λ _. length-replicate (length w.lengths) false ∙ s.lengths) s.passed_rows;
    owed = s.owed;
    announcing = s.announcing;
    tokens = s.tokens;
    lengths = s.lengths;
  }
  sizes_effect w (Pass n row) s = record {
    phases = s.phases;
    flags = s.flags;
    passed = length-set w.passed n (set (rows_passed_by w n) row true) ∙ s.passed;
    passed_rows = each_long w.passed n (set (rows_passed_by w n) row true) workers rows s.passed
        (λ h. length-set (rows_passed_by w n) row true ∙ s.passed_rows n h) s.passed_rows;
    owed = s.owed;
    announcing = s.announcing;
    tokens = s.tokens;
    lengths = s.lengths;
  }
  sizes_effect w (PassFlag n) s = record {
    phases = s.phases;
    flags = length-set w.flags n true
        ∙ s.flags;
    passed = s.passed;
    passed_rows = s.passed_rows;
    owed = s.owed;
    announcing = s.announcing;
    tokens = s.tokens;
    lengths = s.lengths;
  }
  sizes_effect w (Cancel n) s =
      sizes_leave w n Running (if w.signals == length w.pre then w.signals - 1 else w.signals) s
  sizes_effect w (Commit n) s = cond_both (nat_lt 0 w.signals) (leave w n Running (w.signals - 1))
      (record (leave w n Stacked w.signals) { stack = n ∷ w.stack }) (HasSizes workers actors rows)
      (λ _. sizes_leave w n Running (w.signals - 1) s) (λ _. sizes_push w n s)
  sizes_effect w (Notify actor) s = let h = announced w actor in
      let t = sizes_announced w actor s in
      cond_both (nat_lt h.signals (length h.pre)) (record h { signals = h.signals + 1 })
      (pop h actor h.stack) (HasSizes workers actors rows)
      (λ _. sizes_signal h (h.signals + 1) t) (λ _. sizes_pop h actor h.stack t)
  sizes_effect w (NotifyAll actor) s = record {
    phases = s.phases;
    flags = s.flags;
    passed = s.passed;
    passed_rows = s.passed_rows;
    owed = length-set w.owed actor (owed_by w actor ++ w.stack) ∙ s.owed;
    announcing = length-set w.announcing actor false ∙ s.announcing;
    tokens = s.tokens;
    lengths = s.lengths;
  }
  sizes_effect w (Unpark actor) s = sizes_unpark w actor (owed_by w actor) s
  sizes_effect w (Wake n) s = record {
    phases = length-set w.phases n Running ∙ s.phases;
    flags = s.flags;
    passed = s.passed;
    passed_rows = s.passed_rows;
    owed = s.owed;
    announcing = s.announcing;
    tokens = length-set w.tokens n false ∙ s.tokens;
    lengths = s.lengths;
  }
  sizes_effect w (Take actor row) s = record {
    phases = s.phases;
    flags = s.flags;
    passed = s.passed;
    passed_rows = s.passed_rows;
    owed = s.owed;
    announcing = s.announcing;
    tokens = s.tokens;
    lengths = length-set w.lengths row (length_of w row - 1) ∙ s.lengths;
  }
  sizes_effect w (Stop actor) s = record {
    phases = s.phases;
    flags = s.flags;
    passed = s.passed;
    passed_rows = s.passed_rows;
    owed = s.owed;
    announcing = length-set w.announcing actor true ∙ s.announcing;
    tokens = s.tokens;
    lengths = s.lengths;
  }
  sizes_effect w (End n) s = record {
    phases = length-set w.phases n Ended ∙ s.phases;
    flags = s.flags;
    passed = s.passed;
    passed_rows = s.passed_rows;
    owed = s.owed;
    announcing = s.announcing;
    tokens = s.tokens;
    lengths = s.lengths;
  }

-- No event changes how many workers, actors and rows there are.
use Rattle.std.proofs.Common.{ℕ, ◌+◌, ◌-◌, ◌==◌, if◌then◌else◌, nat_lt, Bool, true, false, List, []}
use Rattle.std.proofs.Common.{◌∷◌, ◌++◌, length, sym, refl, ◌∙◌, subst, length-set}
use Rattle.std.proofs.lemmas.Bool.{cond_both}
use Rattle.event_word.specs.declared.phase.Phase.{Phase}
use Rattle.event_word.specs.declared.phase.Phase.TheVariants.{Running, Pre, Stacked, Ended}
use Rattle.event_word.specs.declared.event.Event.{Event}
use Rattle.event_word.specs.declared.event.Event.TheVariants.{Publish, Prewait, Pass, PassFlag}
use Rattle.event_word.specs.declared.event.Event.TheVariants.{Cancel, Commit, Notify}
use Rattle.event_word.specs.declared.event.Event.TheVariants.{NotifyAll, Unpark, Wake, Take, Stop}
use Rattle.event_word.specs.declared.event.Event.TheVariants.{End}
use Rattle.event_word.specs.World.{World, owed_by, length_of}
use Rattle.event_word.specs.Step.{effect, leave, announced, pop, unpark}
use Rattle.event_word.specs.Play.{IsStep, SameSizes}

SameSizes-refl : (w : World) → SameSizes w w
SameSizes-refl w = record { workers = refl; actors = refl; rows = refl }

pub SameSizes-trans : (u v w : World) → SameSizes u v → SameSizes v w → SameSizes u w
SameSizes-trans u v w a b = record {
  workers = b.workers ∙ a.workers;
  actors = b.actors ∙ a.actors;
  rows = b.rows ∙ a.rows;
}

same_leave : (w : World) (n : ℕ) (p : Phase) (signals : ℕ) → SameSizes w (leave w n p signals)
same_leave w n p signals = record { workers = length-set w.phases n p; actors = refl; rows = refl }

same_push : (w : World) (n : ℕ)
    → SameSizes w record (leave w n Stacked w.signals) { stack = n ∷ w.stack }
same_push w n = record { workers = length-set w.phases n Stacked; actors = refl; rows = refl }

same_signal : (w : World) (actor signals : ℕ)
    → SameSizes w record (announced w actor) { signals = signals }
same_signal w actor signals = record { workers = refl; actors = refl; rows = refl }

same_pop : (w : World) (actor : ℕ) (seats : List ℕ)
    → SameSizes w (pop (announced w actor) actor seats)
same_pop w actor [] = record { workers = refl; actors = refl; rows = refl }
same_pop w actor (top ∷ rest) = record {
  workers = refl;
  actors = length-set w.owed actor (owed_by w actor ++ top ∷ []);
  rows = refl;
}

same_unpark : (w : World) (actor : ℕ) (seats : List ℕ) → SameSizes w (unpark w actor seats)
same_unpark w actor [] = record { workers = refl; actors = refl; rows = refl }
same_unpark w actor (n ∷ rest) = record {
  workers = refl;
  actors = length-set w.owed actor rest;
  rows = refl;
}

pub SameSizes-effect : (w : World) (e : Event) → SameSizes w (effect w e)
SameSizes-effect w (Publish actor row) = record {
  workers = refl;
  actors = refl;
  rows = length-set w.lengths row (length_of w row + 1);
}
SameSizes-effect w (Prewait n) = record {
  workers = length-set w.phases n Pre;
  actors = refl;
  rows = refl;
}
SameSizes-effect w (Pass n row) = record { workers = refl; actors = refl; rows = refl }
SameSizes-effect w (PassFlag n) = record { workers = refl; actors = refl; rows = refl }
SameSizes-effect w (Cancel n) =
    same_leave w n Running (if w.signals == length w.pre then w.signals - 1 else w.signals)
SameSizes-effect w (Commit n) = cond_both (nat_lt 0 w.signals) (leave w n Running (w.signals - 1))
    (record (leave w n Stacked w.signals) { stack = n ∷ w.stack }) (SameSizes w)
    (λ _. same_leave w n Running (w.signals - 1)) (λ _. same_push w n)
SameSizes-effect w (Notify actor) = let h = announced w actor in
    cond_both (nat_lt h.signals (length h.pre)) (record h { signals = h.signals + 1 })
    (pop h actor h.stack) (SameSizes w)
    (λ _. same_signal w actor (w.signals + 1)) (λ _. same_pop w actor w.stack)
SameSizes-effect w (NotifyAll actor) = record {
  workers = refl;
  actors = length-set w.owed actor (owed_by w actor ++ w.stack);
  rows = refl;
}
SameSizes-effect w (Unpark actor) = same_unpark w actor (owed_by w actor)
SameSizes-effect w (Wake n) = record {
  workers = length-set w.phases n Running;
  actors = refl;
  rows = refl;
}
SameSizes-effect w (Take actor row) = record {
  workers = refl;
  actors = refl;
  rows = length-set w.lengths row (length_of w row - 1);
}
SameSizes-effect w (Stop actor) = record { workers = refl; actors = refl; rows = refl }
SameSizes-effect w (End n) = record {
  workers = length-set w.phases n Ended;
  actors = refl;
  rows = refl;
}

-- nor does a step of the program
pub SameSizes-step : (w : World) (e : Event) (b : Bool) (u : World) → IsStep w e b u → SameSizes w u
SameSizes-step w e true u p = subst (SameSizes w) (sym p.1) (SameSizes-effect w e)
SameSizes-step w e false u p = subst (SameSizes w) (sym p.1) (SameSizes-refl w)

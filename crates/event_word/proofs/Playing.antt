-- Events that are played one after the other.
use Rattle.std.proofs.Common.{ℕ, ◌+◌, Bool, true, false, List, [], ◌∷◌, ◌++◌, ◌<◌, length, get_or}
use Rattle.std.proofs.Common.{take, sym, ap, refl, ◌∙◌, subst, inl, inr, ⊎_elim, arith}
use Rattle.std.proofs.lemmas.List.{take_more}
use Rattle.event_word.specs.declared.event.Event.{Event}
use Rattle.event_word.specs.Lists.{one_if}
use Rattle.event_word.specs.World.{World, opening_world}
use Rattle.event_word.specs.Step.{Possible, effect}
use Rattle.event_word.specs.Play.{IsStep, Plays}
use Rattle.event_word.specs.Played.{IsHistory, PlaysAreRuns}
use Rattle.event_word.proofs.Histories.{lawful_history}

-- one event more
pub Plays-push : (w : World) (es : List Event) (n : ℕ) (u : World) (e : Event) (b : Bool)
    (v : World) → Plays w es n u → IsStep u e b v → Plays w (es ++ e ∷ []) (n + one_if b) v
Plays-push w [] n u e true v p q = inl (
  subst (λ x. Possible x e) p.1 q.0,
  (
    0,
    let z = p.0 in
        omega arith,
    (refl, q.1 ∙ ap (λ x. effect x e) p.1),
  ),
)
Plays-push w [] n u e false v p q = inr (
  (λ m. q.0 (subst (λ x. Possible x e) (sym p.1) m)),
  (let z = p.0 in omega arith, q.1 ∙ p.1),
)
Plays-push w (x ∷ xs) n u e b v p q = ⊎_elim
    (λ t. inl (
      t.0,
      (
        t.1.0 + one_if b,
        let z = t.1.1 in
            omega arith,
        Plays-push (effect w x) xs t.1.0 u e b v t.1.2 q,
      ),
    ))
    (λ t. inr (t.0, Plays-push w xs n u e b v t.1 q))
    p

pub Plays-more : (w : World) (es : List Event) (i n : ℕ) (u : World) (d : Event) (b : Bool)
    (v : World) → i < length es → Plays w (take i es) n u → IsStep u (get_or es i d) b v
    → Plays w (take (i + 1) es) (n + one_if b) v
Plays-more w es i n u d b v h p q = subst (λ xs. Plays w xs (n + one_if b) v)
    (sym (take_more es i d h)) (Plays-push w (take i es) n u (get_or es i d) b v p q)

-- the events that were possible
history_of : (first : World) (events : List Event) (count : ℕ) (last : World)
    → Plays first events count last
    → (history : List Event) × IsHistory first events count last history
history_of first [] count last p =
    ([], record { part = refl; count = sym p.0; runs = sym p.1 })
history_of first (e ∷ es) count last p = ⊎_elim
    (λ taken.
    let rest = history_of (effect first e) es taken.1.0 last taken.1.2 in (
      e ∷ rest.0,
      record {
        part = inr (rest.0, refl, rest.1.part);
        count = let n = rest.1.count in let more = taken.1.1 in omega arith;
        runs = (taken.0, rest.1.runs);
      },
    ))
    (λ passed.
    let rest = history_of first es count last passed.1 in (
      rest.0,
      record { part = inl rest.1.part; count = rest.1.count; runs = rest.1.runs },
    ))
    p

pub plays_are_runs : PlaysAreRuns
plays_are_runs = record {
  history = history_of;
  lawful = λ workers notifiers rows events count last p.
      let h = history_of (opening_world workers notifiers rows) events count last p in
      lawful_history workers notifiers rows h.0 last h.1.runs;
}

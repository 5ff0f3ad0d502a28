-- Lists of events that grow at their end, and what every World holds that they lead to.
use Rattle.std.proofs.Common.{◌≡◌, ℕ, zero, suc, ◌+◌, false, List, [], ◌∷◌, ◌++◌, length, get_or}
use Rattle.std.proofs.Common.{replicate, sym, ap, refl, ◌∙◌, subst, arith}
use Rattle.event_word.specs.declared.phase.Phase.TheVariants.{Running, Ended}
use Rattle.event_word.specs.declared.event.Event.{Event}
use Rattle.event_word.specs.Lists.{one_if, total, times}
use Rattle.event_word.specs.World.{World, opening_world}
use Rattle.event_word.specs.Step.{Possible, effect}
use Rattle.event_word.specs.Lawful.{waits, sleeps, Lawful, HasSizes}
use Rattle.event_word.specs.Runs.{Runs}
use Rattle.event_word.proofs.Keeps.{lawful_effect}
use Rattle.event_word.proofs.Sizes.{sizes_opening, sizes_effect}

-- one event more, which is possible at the end
pub Runs-push : (first : World) (history : List Event) (last : World) (e : Event)
    → Runs first history last → Possible last e → Runs first (history ++ e ∷ []) (effect last e)
Runs-push first [] last e r p = (subst (λ w. Possible w e) (sym r) p, ap (λ w. effect w e) r)
Runs-push first (x ∷ xs) last e r p = (r.0, Runs-push (effect first x) xs last e r.1 p)

-- two runs, one after the other
pub Runs-append : (first : World) (history : List Event) (middle : World) (more : List Event)
    (last : World) → Runs first history middle → Runs middle more last
    → Runs first (history ++ more) last
Runs-append first [] middle more last r s = subst (λ w. Runs w more last) (sym r) s
Runs-append first (x ∷ xs) middle more last r s =
    (r.0, Runs-append (effect first x) xs middle more last r.1 s)

pub total-replicate : {A : Type 0} (f : A → ℕ) (x : A) (n : ℕ) → f x ≡ 0
    → total f (replicate n x) ≡ 0
total-replicate f x zero e = refl
total-replicate f x (suc n) e = let r = total-replicate f x n e in omega arith

-- in a list that repeats one value, each fact about the value and the default holds at every place
pub get_or-replicate_either : {A : Type 0} (P : A → Type 0) (x d : A) (n i : ℕ) → P x → P d
    → P (get_or (replicate n x) i d)
get_or-replicate_either P x d zero i p q = q
get_or-replicate_either P x d (suc n) zero p q = p
get_or-replicate_either P x d (suc n) (suc i) p q = get_or-replicate_either P x d n i p q

pub lawful_opening : (workers notifiers rows : ℕ) → Lawful (opening_world workers notifiers rows)
lawful_opening workers notifiers rows = record {
  answered = omega arith;
  waiting = λ n. get_or-replicate_either (λ p. 0 ≡ waits p) Running Ended workers n refl refl;
  standing = λ n. let a = total-replicate (times n) [] (workers + notifiers) refl in
      let b = get_or-replicate_either (λ t. one_if t ≡ 0) false false workers n refl refl in
      get_or-replicate_either
      (λ p. 0 + total (times n) (replicate (workers + notifiers) []) + one_if
      (get_or (replicate workers false) n false) ≡ sleeps p) Running Ended workers n
      (omega arith) (omega arith);
  owing = λ n h owes. let e = get_or-replicate_either (λ (xs : List ℕ). length xs ≡ 0) [] []
      (workers + notifiers) n refl refl in absurd (omega arith);
  announcing = λ n h e. let f = get_or-replicate_either (λ t. t ≡ false) false false
      (workers + notifiers) n refl refl in absurd (cc);
  stopped = λ two. absurd (omega arith);
}

-- a run from a lawful World ends in one, with as many entries
pub lawful_run : (workers actors rows : ℕ) (first : World) (history : List Event) (last : World)
    → Runs first history last → Lawful first → HasSizes workers actors rows first
    → Lawful last × HasSizes workers actors rows last
lawful_run workers actors rows first [] last r l s =
    (subst Lawful r l, subst (HasSizes workers actors rows) r s)
lawful_run workers actors rows first (e ∷ es) last r l s =
    lawful_run workers actors rows (effect first e) es last r.1
    (lawful_effect first e (s.tokens ∙ sym s.phases) l r.0)
    (sizes_effect workers actors rows first e s)

pub lawful_history : (workers notifiers rows : ℕ) (history : List Event) (w : World)
    → Runs (opening_world workers notifiers rows) history w
    → Lawful w × HasSizes workers (workers + notifiers) rows w
lawful_history workers notifiers rows history w r =
    lawful_run workers (workers + notifiers) rows (opening_world workers notifiers rows) history w r
    (lawful_opening workers notifiers rows) (sizes_opening workers notifiers rows)

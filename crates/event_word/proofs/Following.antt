-- The word follows the event model.
use Rattle.std.proofs.Common.{◌≡◌, ℕ, ◌+◌, ◌-◌, ◌==◌, if◌then◌else◌, nat_lt, List, [], ◌∷◌, length}
use Rattle.std.proofs.Common.{sym, ap, refl, ◌∙◌, arith, length-append}
use Rattle.std.proofs.lemmas.Bool.{cond-true, cond-false, lt-ltb, le-ltb}
use Rattle.event_word.specs.declared.phase.Phase.TheVariants.{Running, Stacked}
use Rattle.event_word.specs.declared.event.Event.TheVariants.{Cancel, Notify}
use Rattle.event_word.specs.Fields.{fields}
use Rattle.event_word.specs.Lists.{without}
use Rattle.event_word.specs.Shown.{top_of, shown, WordFollows}
use Rattle.event_word.specs.World.{World}
use Rattle.event_word.specs.Step.{Possible, effect, leave, announced, pop}
use Rattle.event_word.specs.Lawful.{Lawful}
use Rattle.event_word.proofs.Lists.{length-without}
use Rattle.event_word.proofs.Keeps.{is_waiting}

-- a pre-waiter that leaves is one fewer
length-leave : (w : World) (r : Lawful w) (seat : ℕ) → Possible w (Cancel seat)
    → length w.pre - 1 ≡ length (without seat w.pre)
length-leave w r seat p = let one = is_waiting w r seat p in
    let l = length-without seat w.pre (omega arith) in omega arith

-- where no pre-waiter lacks a signal, a notification pops
pub notify-pop : (w : World) (actor : ℕ) (stack : List ℕ) → w.signals ≡ length w.pre
    → w.stack ≡ stack
    → effect w (Notify actor) ≡ pop (announced w actor) actor stack
notify-pop w actor stack full e = let h = announced w actor in
    cond-false (nat_lt w.signals (length w.pre)) (record h { signals = w.signals + 1 })
    (pop h actor w.stack) (le-ltb w.signals (length w.pre) (omega arith))
    ∙ ap (λ xs. pop h actor xs) e

pub word_follows : (w : World) (epoch : ℕ) → Lawful w → WordFollows w epoch
word_follows w epoch r = record {
  prewait = λ seat. ap (λ n. fields (top_of w.stack) n w.signals epoch)
      (sym (length-append w.pre (seat ∷ [])));
  cancel = λ seat p. ap
      (λ n. fields (top_of w.stack) n
      (if w.signals == length w.pre then w.signals - 1 else w.signals) epoch)
      (length-leave w r seat p);
  consume = λ seat p some. ap (λ n. fields (top_of w.stack) n (w.signals - 1) epoch)
      (length-leave w r seat p.0)
      ∙ ap (λ u. shown u epoch)
      (sym (cond-true (nat_lt 0 w.signals) (leave w seat Running (w.signals - 1))
      (record (leave w seat Stacked w.signals) { stack = seat ∷ w.stack })
      (lt-ltb 0 w.signals some)));
  push = λ seat at p none. ap (λ n. fields seat n w.signals at) (length-leave w r seat p.0)
      ∙ ap (λ u. shown u at)
      (sym (cond-false (nat_lt 0 w.signals) (leave w seat Running (w.signals - 1))
      (record (leave w seat Stacked w.signals) { stack = seat ∷ w.stack })
      (le-ltb 0 w.signals (omega arith))));
  signal = λ actor few. let h = announced w actor in
      ap (λ u. shown u epoch)
      (sym (cond-true (nat_lt w.signals (length w.pre)) (record h { signals = w.signals + 1 })
      (pop h actor w.stack) (lt-ltb w.signals (length w.pre) few)));
  pop = λ actor seat rest next full e below. ap (λ n. fields n (length w.pre) w.signals next.epoch)
      below ∙ ap (λ u. shown u next.epoch) (sym (notify-pop w actor (seat ∷ rest) full e));
  nothing = λ actor full none. ap (λ u. shown u epoch) (sym (notify-pop w actor [] full none));
  all = λ actor. refl;
}

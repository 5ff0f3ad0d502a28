-- After a stop of which all were notified nobody sleeps on.
use Rattle.std.proofs.Common.{◌≡◌, ℕ, true, [], length, ap}
use Rattle.std.proofs.Common.{◌∙◌, ◌⊎◌, inl, inr, ⊎_elim, arith}
use Rattle.std.proofs.lemmas.Bool.{cases_lt}
use Rattle.event_word.specs.declared.phase.Phase.TheVariants.{Stacked}
use Rattle.event_word.specs.Lists.{total, times}
use Rattle.event_word.specs.World.{World, phase_of, owed_by, has_token}
use Rattle.event_word.specs.Lawful.{sleeps, Lawful}
use Rattle.event_word.specs.Waking.{IsOwed, IsWoken, RunsWakeAll}
use Rattle.event_word.proofs.Lists.{one_if-true, Contains-times, owed_somewhere}
use Rattle.event_word.proofs.Histories.{lawful_history}

-- a sleeper that is not on the stack is owed its token or has it
sleeper : (w : World) (seat : ℕ) → Lawful w → w.stack ≡ [] → phase_of w seat ≡ Stacked
    → IsOwed w seat ⊎ (has_token w seat ≡ true)
sleeper w seat r none e =
    let a = r.standing seat ∙ ap sleeps e in let b = ap (times seat) none in ⊎_elim
    (λ some. let f = owed_somewhere seat w.owed some in
    inl (f.0, Contains-times seat (owed_by w f.0) f.1))
    (λ none. inr (one_if-true (has_token w seat) (omega arith)))
    (cases_lt 0 (total (times seat) w.owed))

woken : (w : World) → Lawful w → w.stack ≡ [] → IsWoken w
woken w r none = record {
  stack = none;
  sleepers = λ seat e. sleeper w seat r none e;
  tokens = λ paid seat e. ⊎_elim
      (λ o. let h = o.1.1 in let zero = ap length (paid o.0) in absurd (omega arith))
      (λ t. t)
      (sleeper w seat r none e);
}

pub wake_all : RunsWakeAll
wake_all workers notifiers rows history w q two =
    let l = (lawful_history workers notifiers rows history w q).0 in woken w l (l.stopped two).stack

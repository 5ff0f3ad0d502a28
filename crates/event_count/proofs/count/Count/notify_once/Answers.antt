use Rattle.std.proofs.Common.{◌≡◌, ℕ, Option, Some, IfSome, subst}
use Rattle.event_count.proofs.Retrying.{later_same, lost_notify, rests_popped}
use Rattle.event_count.proofs.count.Count.notify_once.Goals as goal

-- what is said of the looked word is said of this one
told : (o : Option ℕ) (word : ℕ) (P : ℕ → Type 0) → o ≡ Some word → IfSome o P → P word
told o word P is = subst (λ o. IfSome o P) is

pub returns-in-Contended-clause-contended : goal.returns-in-Contended-clause-contended
returns-in-Contended-clause-contended g c _ =
    lost_notify _ _ _ _ _ _ _ (later_same _) c.look.ensures.card c.look.ensures.looked
    c.in-Contended.ensures.answer

pub returns-in-Contended-clause-lost : goal.returns-in-Contended-clause-lost
returns-in-Contended-clause-lost g c _ =
    (_, _, c.look.ensures.card, told _ _ _ c.look.ensures.looked c.in-Contended.ensures.answer)

pub returns-in-Popped-clause-done : goal.returns-in-Popped-clause-done
returns-in-Popped-clause-done g c _ = rests_popped _ _ _ _ _ _ _ _ _ _ (later_same _)
    c.look.ensures.card c.look.ensures.looked c.in-Popped.ensures.answer c.requires.owes_none
    c.try_unpark_next.ensures.none c.try_unpark_next.ensures.card

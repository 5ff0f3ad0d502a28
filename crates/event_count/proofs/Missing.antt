-- A commit, or a pop, whose exchange found another word.
use Rattle.std.proofs.Common.{◌≡◌, ℕ, Option, Some, IfSome, subst, sym, inl, inr}
use Rattle.event_word.specs.Fields.{fields_of}
use Rattle.event_word.specs.Word.{popped, IsNotify}
use Rattle.event_count.specs.declared.view.Card.{Card}
use Rattle.event_count.specs.Gains.{storing}
use Rattle.event_count.specs.Kinds.{without_rows}
use Rattle.event_count.specs.Tries.{OffersPush, IsTryCommit, IsTryNotify, Misses}
use Rattle.event_word.specs.declared.after.AfterNotify.TheVariants as after_notify
use Rattle.event_count.specs.declared.answers.TryCommit.TheVariants as commit
use Rattle.event_count.specs.declared.answers.TryNotify.TheVariants as notify

module _ (c d : Card) (word offered : ℕ) where
  pub lost_push : (next : ℕ) (b : Card) → b ≡ storing c next → OffersPush c word offered next
      → Misses b word offered d → IsTryCommit without_rows c word commit.Contended d
  lost_push next b same offers misses =
      (offered, next, inr (inl (offers, subst (λ x. Misses x word offered d) same misses)))

module _ (c d : Card) (o : Option ℕ) (word offered : ℕ) (looked : o ≡ Some word) where
  pub lost_pop : (seat next : ℕ) (b : Card) → b ≡ c
      → IsNotify (fields_of word) (after_notify.Pop seat) → c.next ≡ Some next
      → fields_of offered ≡ popped (fields_of word) (fields_of next) → Misses b word offered d
      → IfSome o (λ m. IsTryNotify c m notify.Contended d)
  lost_pop seat next b same pops read offers misses =
      subst (λ x. IfSome x (λ m. IsTryNotify c m notify.Contended d)) (sym looked) (
        offered,
        seat,
        inr (pops, (next, read, offers)),
        subst (λ x. Misses x word offered d) same misses,
      )

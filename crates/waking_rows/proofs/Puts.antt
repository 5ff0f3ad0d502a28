-- What a put does at the count, and what becomes of its job.
use Rattle.std.proofs.Common.{◌≡◌, ◌∙◌, ◌↔◌, ◌==◌, ℕ, List, Result, Ok, Err, ap, sym, subst, ne_eqb}
use Rattle.std.specs.Prelude.{MatchBool, IfErr, IsErr, is_ok}
use Rattle.std.proofs.lemmas.List.{map_push}
use Rattle.event_count.specs.declared.view.Card.{Card}
use Rattle.event_count.specs.Rows.Gains.{publishing, redeeming}
use Rattle.event_count.specs.Rows.Seats.{row_of}
use Rattle.run_queue.specs.Account.{AddsIfOk}
use Rattle.waking_rows.specs.declared.ticketed.Ticketed.{Ticketed}
use Rattle.waking_rows.specs.Seats.{putting}
use Rattle.waking_rows.specs.Tickets.{jobs_in, job_back, giving_back}

-- the second fact holds of a number that is not 0
pub if-some : (A B : Type 0) (n : ℕ) → (n ≡ 0 → ⊥) → B → MatchBool (n == 0) A B
if-some A B n some b = subst (λ is. MatchBool is A B) (sym (ne_eqb n 0 some)) b

module _ {J : Type 0} where
  -- the account of a push, without tickets
  pub adds-job : (laid : Result (Unit {0}) (Ticketed J)) (answer : Result (Unit {0}) J)
      (it : Ticketed J) (before after : List (Ticketed J)) → answer ≡ job_back laid
      → AddsIfOk laid it before after → AddsIfOk answer it.job (jobs_in before) (jobs_in after)
  adds-job (Ok done) answer it before after same adds =
      subst (λ at. AddsIfOk at it.job (jobs_in before) (jobs_in after)) (sym same)
      (ap jobs_in adds ∙ map_push (λ at. at.job) before it)
  adds-job (Err back) answer it before after same adds =
      subst (λ at. AddsIfOk at it.job (jobs_in before) (jobs_in after)) (sym same)
      (ap jobs_in adds)

  -- a push is refused exactly if its slot was
  pub err-too : (laid : Result (Unit {0}) (Ticketed J)) (answer : Result (Unit {0}) J) (P : Type 0)
      → answer ≡ job_back laid → (IsErr laid ↔ P) → IsErr answer ↔ P
  err-too (Ok done) answer P same means = subst (λ at. IsErr at ↔ P) (sym same) means
  err-too (Err back) answer P same means = subst (λ at. IsErr at ↔ P) (sym same) means

  -- the card after a publish, once the ticket of a refused job was given back
  pub gave_back : (laid : Result (Unit {0}) (Ticketed J)) (answer : Result (Unit {0}) J)
      (it : Ticketed J) (c : Card) (row at : ℕ) → answer ≡ job_back laid
      → IfErr laid (λ back. back ≡ it) → row_of it.ticket ≡ row → row ≡ at
      → giving_back laid (publishing c row) ≡ putting (is_ok answer) c at
  gave_back (Ok done) answer it c row at same back here is =
      ap (λ n. publishing c n) is ∙ ap (λ a. putting (is_ok a) c at) (sym same)
  gave_back (Err it') answer it c row at same back here is =
      ap (λ n. redeeming (publishing c row) n) (ap (λ i. row_of i.ticket) back ∙ here)
      ∙ (ap (λ n. redeeming (publishing c n) n) is ∙ ap (λ a. putting (is_ok a) c at) (sym same))

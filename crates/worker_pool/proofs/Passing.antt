-- The rows that a worker has passed.
use Rattle.std.proofs.Common.{◌≡◌, ℕ, List, [], ◌∷◌, ◌++◌, true, false, All}
use Rattle.std.proofs.Common.{cond, eqb, refl, subst, ◌∙◌, arith, ⊎_elim}
use Rattle.std.specs.Prelude.{◌==◌, count_by}
use Rattle.std.proofs.lemmas.Bool.{cases_eq, ne_eqb}
use Rattle.std.proofs.lemmas.List.{get_or-set_other}
use Rattle.std.proofs.lemmas.List.Elements.{All-head, All-tail, All-weaker}
use Rattle.std.proofs.lemmas.List.Sums.{sum_by-cons}
use Rattle.steal_walk.specs.Walk.{VisitsEachOnce}
use Rattle.worker_pool.specs.declared.queues.job_queue.seen.Seen.{Seen}
use Rattle.worker_pool.specs.Seen.{has_passed, after_look, HasPassedRows}
use Rattle.worker_pool.proofs.Growing.{All-snoc}

-- what holds of each item of a list holds of a number that stands in it once
All-counted : (P : ℕ → Type 0) (xs : List ℕ) (n : ℕ) → All P xs → count_by (λ x. x == n) xs ≡ 1
    → P n
All-counted P [] n all once = absurd (omega arith)
All-counted P (x ∷ xs) n all once =
    ⊎_elim
    (λ is. subst P is (All-head P x xs all))
    (λ (other : x ≡ n → ⊥).
    let miss : eqb x n ≡ false = ne_eqb x n other in
    let none : ◌≡◌ {A = ℕ} (cond (eqb x n) 1 0) 0 = rw miss refl in
    let more = sum_by-cons (λ y. cond (y == n) 1 0) x xs in
    let rest : count_by (λ y. y == n) xs ≡ 1 = omega (arith, none, more, once) in
    All-counted P xs n (All-tail P x xs all) rest)
    (cases_eq x n)

-- a look at a row leaves what is known of the others
passed-other : (seen : Seen) (row count other : ℕ) → has_passed (after_look seen row count) row ≡ true
    → has_passed seen other ≡ true → has_passed (after_look seen row count) other ≡ true
passed-other seen row count other here is =
    ⊎_elim
    (λ (same : other ≡ row). rw same here)
    (λ differs. get_or-set_other seen.rows row other (count == 0) false differs ∙ is)
    (cases_eq other row)

-- one row more is passed
pub passed-snoc : (seen : Seen) (row count : ℕ) (then : Seen) (before rows : List ℕ)
    → then ≡ after_look seen row count → has_passed then row ≡ true → rows ≡ before ++ row ∷ []
    → All (λ other. has_passed seen other ≡ true) before
    → All (λ other. has_passed then other ≡ true) rows
passed-snoc seen row count then before rows looked here is all =
    let is_here = rw looked at here in
    rw looked (All-snoc (λ other. has_passed (after_look seen row count) other ≡ true) before row rows
    is
    (All-weaker (λ other. has_passed seen other ≡ true) _
    (λ other. passed-other seen row count other is_here) before all)
    is_here)

-- a worker that has passed each row of a walk over all of n rows has passed n rows
pub passed-walk : (seen : Seen) (count : ℕ) (walk : List ℕ) → VisitsEachOnce 0 count walk
    → All (λ row. has_passed seen row ≡ true) walk → HasPassedRows count seen
passed-walk seen count walk visits all = λ row below.
    All-counted (λ r. has_passed seen r ≡ true) walk row all (visits.once row (omega arith) below)

-- A walk round some queues, of which those that were seen are empty.
use Rattle.std.proofs.Common.{◌≡◌, ℕ, ◌<◌, ◌≤◌, List, [], ◌∷◌, ◌++◌, length, All, get_or}
use Rattle.std.proofs.Common.{cond, subst, ap, ◌∙◌, ⊎_elim, arith}
use Rattle.std.specs.Prelude.{◌==◌, count_by}
use Rattle.std.proofs.lemmas.Bool.{cases_eq, ne_eqb}
use Rattle.std.proofs.lemmas.List.{append-nil}
use Rattle.std.proofs.lemmas.List.Elements.{All-head, All-tail}
use Rattle.std.proofs.lemmas.List.Elements.{All-from_get_or}
use Rattle.std.proofs.lemmas.List.Sums.{sum_by-cons}
use Rattle.steal_walk.specs.Walk.{VisitsEachOnce}

-- what holds of all numbers of a list holds of one that is counted there
pub All-counted : (P : ℕ → Type 0) (xs : List ℕ) (x : ℕ) → 0 < count_by (λ y. y == x) xs
    → All P xs → P x
All-counted P [] x some all = absurd (omega arith)
All-counted P (y ∷ ys) x some all = ⊎_elim
    (λ same. subst P same (All-head P y ys all))
    (λ other.
    let miss = ne_eqb y x other in
    let count : count_by (λ z. z == x) (y ∷ ys) ≡ count_by (λ z. z == x) ys =
    sum_by-cons (λ z. cond (z == x) 1 0) y ys ∙ rw miss (omega arith) in
    All-counted P ys x (omega (arith, count)) (All-tail P y ys all))
    (cases_eq y x)

-- the queues that were seen, all of them empty, and those that are left are all queues
pub record IsRound (lengths seen left : List ℕ) : Type 0 where
  pub once : VisitsEachOnce 0 (length lengths) (seen ++ left)
  pub empty : All (λ queue. get_or lengths queue 0 ≡ 0) seen

-- the next queue is one of the queues
pub next-inside : (lengths seen left rest : List ℕ) (queue : ℕ) → left ≡ queue ∷ rest
    → IsRound lengths seen left → queue < length lengths
next-inside lengths seen left rest queue is round =
    let all = subst (λ xs. All (λ row. (0 ≤ row) × (row < length lengths)) (seen ++ xs)) is round.once.within in
    (within seen all).1
  where
    within : (before : List ℕ) → All (λ row. (0 ≤ row) × (row < length lengths)) (before ++ queue ∷ rest)
        → (0 ≤ queue) × (queue < length lengths)
    within [] h = All-head (λ row. (0 ≤ row) × (row < length lengths)) queue rest h
    within (x ∷ xs) h = within xs (All-tail (λ row. (0 ≤ row) × (row < length lengths)) x (xs ++ queue ∷ rest) h)

-- once no queue is left, all are empty
pub all-empty : (lengths seen : List ℕ) → IsRound lengths seen [] → All (λ jobs. jobs ≡ 0) lengths
all-empty lengths seen round =
    All-from_get_or (λ jobs. jobs ≡ 0) lengths 0 (λ queue inside.
    let once = round.once.once queue (omega arith) inside in
    let same = ap (count_by (λ x. x == queue)) (append-nil seen) in
    All-counted (λ x. get_or lengths x 0 ≡ 0) seen queue (omega (arith, once, same)) round.empty)

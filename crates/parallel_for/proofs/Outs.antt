-- What holds of the outs that jobs may end in holds of all outs of a pool.
use Rattle.std.proofs.Common.{ℕ, List, [], ◌∷◌, ◌++◌, All, Some, sym, subst}
use Rattle.std.proofs.lemmas.List.Elements.{All-nil, All-cons, All-head, All-tail}
use Rattle.std.specs.List.{flat_map}
use Rattle.worker_pool.specs.declared.job.Progress.TheVariants as progress
use Rattle.worker_pool.specs.Laws.{JobLaw}
use Rattle.worker_pool.specs.Nodes.{Node, Done, Refused, Left, IsLawful, outs_of}
use Rattle.worker_pool.specs.Nodes.{Runs, ends, forks}
use Rattle.worker_pool.specs.Accounts.{Account}
use Rattle.parallel_for.specs.declared.piece.Piece.{Piece}
use Rattle.parallel_for.specs.Leaves.{Range}
use Rattle.parallel_for.specs.Items.{AreItems}
use Rattle.parallel_for.specs.Pieces.{IsRight}
use Rattle.parallel_for.specs.Steps.{IsLeaf}

module _ {J O : Type 0} (law : JobLaw J O) (P : O → Type 0)
    (end : (job : J) (out : O) → law.steps job (progress.Done out) → P out) where
  run-holds : (job : J) (kids : List J) (out : O) → Runs law job kids (Some out) → P out
  run-holds job kids out (ends job' out' may) = end job' out' may
  run-holds job kids out (forks job' kid rest kids' out' may run) = run-holds rest kids' out run

  nodes-hold : (nodes : List (Node J O)) → All (IsLawful law) nodes
      → All P (flat_map outs_of nodes)
  nodes-hold [] lawful = All-nil P
  nodes-hold (Done job out kids ∷ nodes) lawful =
      All-cons P out (flat_map outs_of nodes)
      (run-holds job kids out (All-head (IsLawful law) (Done job out kids) nodes lawful))
      (nodes-hold nodes (All-tail (IsLawful law) (Done job out kids) nodes lawful))
  nodes-hold (Refused job kids ∷ nodes) lawful =
      nodes-hold nodes (All-tail (IsLawful law) (Refused job kids) nodes lawful)
  nodes-hold (Left job ∷ nodes) lawful =
      nodes-hold nodes (All-tail (IsLawful law) (Left job) nodes lawful)

All-front : {X : Type 0} (P : X → Type 0) (xs ys : List X) → All P (xs ++ ys) → All P xs
All-front P [] ys all = All-nil P
All-front P (x ∷ xs) ys all =
    All-cons P x xs (All-head P x (xs ++ ys) all) (All-front P xs ys (All-tail P x (xs ++ ys) all))

All-back : {X : Type 0} (P : X → Type 0) (xs ys : List X) → All P (xs ++ ys) → All P ys
All-back P [] ys all = all
All-back P (x ∷ xs) ys all = All-back P xs ys (All-tail P x (xs ++ ys) all)

All-flat_map : {X V : Type 0} (P : X → Type 0) (items : V → List X) (lists : List V)
    → All P (flat_map items lists)
    → All (λ l. All P (items l)) lists
All-flat_map {X} {V} P items [] all = All-nil (λ (l : V). All P (items l))
All-flat_map {X} {V} P items (l ∷ ls) all =
    All-cons (λ (l : V). All P (items l)) l ls (All-front P (items l) (flat_map items ls) all)
    (All-flat_map P items ls (All-back P (items l) (flat_map items ls) all))

-- the outs of each list of a pool
pub outs-hold : {J O V : Type 0} (P : O → Type 0) (items : V → List O) (lists : List V)
    {keeps : Type 0} {law : JobLaw J O} {came passed left : List J} {refused : ℕ}
    → ((job : J) (out : O) → law.steps job (progress.Done out) → P out)
    → Account keeps law came passed (flat_map items lists) left refused
    → All (λ l. All P (items l)) lists
outs-hold {J} {O} {V} P items lists {keeps} {law} end account =
    All-flat_map P items lists
    (subst (All P) (sym account.outs_are) (nodes-hold law P end account.nodes account.lawful))

-- a leaf's piece has the items of its places
pub IsRight-leaf : {I A : Type 0} (item_at : ℕ → I) (piece : Piece I A) (whole : Range) (block : ℕ)
    → IsLeaf item_at whole (piece.first, piece.last) piece.items.items block
    → IsRight item_at piece
IsRight-leaf item_at piece whole block leaf =
    subst (λ (f : ℕ). AreItems item_at f piece.last piece.items.items) (sym leaf.first)
    (subst (λ (l : ℕ). AreItems item_at whole.0 l piece.items.items) (sym leaf.last) leaf.filled)

-- Where accounts are kept and no job was refused, the pieces are the leaves of the first job.
use Rattle.std.proofs.Common.{◌≡◌, ℕ, ◌+◌, ◌-◌, ◌*◌, ◌/◌, ◌<◌, ◌≤◌, List, [], ◌∷◌, map, All}
use Rattle.std.proofs.Common.{Some, refl, ap, sym, ◌∙◌, arith}
use Rattle.std.specs.Prelude.{sum_by}
use Rattle.std.specs.List.{flat_map}
use Rattle.std.proofs.lemmas.List.Elements.{All-head, All-tail}
use Rattle.std.proofs.lemmas.List.Sums.{sum_by-cons}
use Rattle.std.specs.declared.vec.Vec.{Vec}
use Rattle.run_queue.specs.Bag.{total}
use Rattle.worker_pool.specs.declared.job.Progress.TheVariants as progress
use Rattle.worker_pool.specs.Laws.{JobLaw}
use Rattle.worker_pool.specs.Nodes.{Node, Done, Refused, Left, IsLawful}
use Rattle.worker_pool.specs.Nodes.{job_of, kids_of, outs_of, left_of, refusals_of}
use Rattle.worker_pool.specs.Nodes.{Runs, ends, forks}
use Rattle.worker_pool.specs.Accounts.{Account}
use Rattle.worker_pool.proofs.Bags.{total-append}
use Rattle.parallel_for.specs.declared.piece.Piece.{Piece}
use Rattle.parallel_for.specs.Leaves.{Range, blocks_of, leaves_of}
use Rattle.parallel_for.specs.Pieces.{ranges_of, all_ranges}
use Rattle.parallel_for.specs.Steps.{IsHalved, IsLeaf}
use Rattle.parallel_for.proofs.Cutting.{leaves_of-cut, leaves_of-short}

-- Jobs and outs are weighed so that a fork weighs what its parts do, and an end what its out does.
module _ {J O : Type 0} (law : JobLaw J O) (w : J → ℕ) (v : O → ℕ)
    (forked : (job kid rest : J) → law.steps job (progress.Fork kid rest) → w job ≡ w rest + w kid)
    (ended : (job : J) (out : O) → law.steps job (progress.Done out) → w job ≡ v out) where
  -- then a job weighs what its out and its kids do
  weight-run : (job : J) (kids : List J) (out : O) → Runs law job kids (Some out)
      → w job ≡ v out + total w kids
  weight-run job kids out (ends job' out' may) = let same = ended job' out' may in omega arith
  weight-run job kids out (forks job' kid rest kids' out' may run) =
      let same = forked job' kid rest may in
      let more = weight-run rest kids' out run in
      omega arith

  -- all jobs weigh what all outs and kids do
  weight-nodes : (nodes : List (Node J O)) → All (IsLawful law) nodes
      → flat_map left_of nodes ≡ [] → sum_by refusals_of nodes ≡ 0
      → total w (map job_of nodes)
      ≡ total v (flat_map outs_of nodes) + total w (flat_map kids_of nodes)
  weight-nodes [] lawful none_left none_refused = refl
  weight-nodes (Done job out kids ∷ nodes) lawful none_left none_refused =
      let run = All-head (IsLawful law) (Done job out kids) nodes lawful in
      let one = weight-run job kids out run in
      let rest = weight-nodes nodes (All-tail (IsLawful law) (Done job out kids) nodes lawful)
      none_left none_refused in
      let more = total-append w kids (flat_map kids_of nodes) in
      omega arith
  weight-nodes (Refused job kids ∷ nodes) lawful none_left none_refused =
      let count = sum_by-cons refusals_of (Refused job kids) nodes in
      absurd (omega arith)
  weight-nodes (Left job ∷ nodes) lawful none_left none_refused = absurd (cc)

  -- the jobs that came in weigh what all outs do
  pub weight-accounts : {keeps : Type 0} (jobs : List J) (outs : List O) (left : List J)
      (refused : ℕ) → keeps → left ≡ [] → refused ≡ 0
      → Account keeps law jobs [] outs left refused
      → total w jobs ≡ total v outs
  weight-accounts came outs left refused on none_left none_refused account =
      let nodes = account.nodes in
      let counts = account.refused_are in
      let none : sum_by refusals_of nodes ≡ 0 = omega arith in
      let all = weight-nodes nodes account.lawful (sym account.left_are ∙ none_left) none in
      let balance = account.balance on w in
      let jobs = total-append w (map job_of nodes) [] in
      let roots = total-append w came (flat_map kids_of nodes) in
      let same = ap (total v) account.outs_are in
      omega arith

  -- the job that came in weighs what all outs do
  pub weight-account : {keeps : Type 0} (job : J) (outs : List O) (left : List J) (refused : ℕ)
      → keeps → left ≡ [] → refused ≡ 0
      → Account keeps law (job ∷ []) [] outs left refused
      → w job ≡ total v outs
  weight-account job outs left refused on none_left none_refused account =
      let all = weight-accounts (job ∷ []) outs left refused on none_left none_refused account in
      omega arith

-- the leaves of a range are the leaves of its parts
pub weight-halved : (h : Range → ℕ) (whole kid rest : Range) (b : ℕ) → 0 < b → whole.0 < whole.1
    → kid.0 < kid.1 → IsHalved whole kid rest b
    → total h (leaves_of whole.0 whole.1 b)
    ≡ total h (leaves_of rest.0 rest.1 b) + total h (leaves_of kid.0 kid.1 b)
weight-halved h (a, e) (c, d) (f, g) b some order kid_order halved =
    let m = blocks_of ((e - a) / 2) b in
    let within : a + m * b ≤ e = omega (arith, halved.kid_first, halved.kid_last) in
    let cut = leaves_of-cut a e m b some (omega arith) within in
    let lower : leaves_of a (a + m * b) b ≡ leaves_of f g b =
    rw (halved.rest_first, halved.rest_last) refl in
    let upper : leaves_of (a + m * b) e b ≡ leaves_of c d b =
    rw (halved.kid_first, halved.kid_last) refl in
    ap (total h) cut
    ∙ (total-append h (leaves_of a (a + m * b) b) (leaves_of (a + m * b) e b)
    ∙ rw (lower, upper) refl)

-- a leaf is its piece's range
pub weight-leaf : (h : Range → ℕ) {I : Type 0} (item_at : ℕ → I) (items : List I)
    (whole piece : Range) (b : ℕ) → whole.0 < whole.1 → IsLeaf item_at whole piece items b
    → total h (leaves_of whole.0 whole.1 b) ≡ h piece
weight-leaf h item_at items (a, e) (c, d) b order leaf =
    let same : h (a, e) ≡ h (c, d) = rw (leaf.first, leaf.last) refl in
    let one = ap (total h) (leaves_of-short a e b order leaf.short) in
    omega arith

-- the weights of the ranges of pieces
weight-ranges : {I A : Type 0} (h : Range → ℕ) (pieces : List (Piece I A))
    → total h (ranges_of pieces) ≡ total (λ piece. h (piece.first, piece.last)) pieces
weight-ranges h [] = refl
weight-ranges h (piece ∷ pieces) = let rest = weight-ranges h pieces in omega arith

pub weight-lists : {I A : Type 0} (h : Range → ℕ) (lists : List (Vec (Piece I A) A))
    → total h (all_ranges lists)
    ≡ total (λ piece. h (piece.first, piece.last)) (flat_map (λ pieces. pieces.items) lists)
weight-lists h [] = refl
weight-lists {I} {A} h (list ∷ lists) =
    let v = λ (piece : Piece I A). h (piece.first, piece.last) in
    let one = weight-ranges h list.items in
    let rest = weight-lists h lists in
    let a = total-append h (ranges_of list.items) (all_ranges lists) in
    let b = total-append v list.items (flat_map (λ pieces. pieces.items) lists) in
    omega arith

-- How the run of a job is made up of its steps.
use Rattle.std.proofs.Common.{◌≡◌, ℕ, ◌+◌, List, [], ◌∷◌, ◌++◌, map, All, Option, Some, None}
use Rattle.std.proofs.Common.{option_to_list, refl, sym, ap, ◌∙◌, arith, append_assoc, subst}
use Rattle.std.specs.Prelude.{sum_by}
use Rattle.std.specs.List.{flat_map}
use Rattle.std.proofs.lemmas.List.{append-nil}
use Rattle.std.proofs.lemmas.List.Elements.{All-append, All-nil, All-cons}
use Rattle.std.proofs.lemmas.List.Sums.{sum_by-append}
use Rattle.std.proofs.lemmas.Grind.{flat_map-append}
use Rattle.run_queue.specs.Bag.{total}
use Rattle.worker_pool.specs.Laws.{JobLaw}
use Rattle.worker_pool.specs.declared.job.Progress.TheVariants as progress
use Rattle.worker_pool.specs.Accounts.{counted}
use Rattle.worker_pool.specs.Nodes.{Runs, ends, forks, Node, Done, Refused, IsLawful}
use Rattle.worker_pool.specs.Nodes.{job_of, kids_of, outs_of, left_of, refusals_of}
use Rattle.worker_pool.specs.Ran.{Ran, refusal}
use Rattle.worker_pool.proofs.Bags.{total-append, total-map-append, total-flat_map-append}

-- the job was passed on, or it ran and left these nodes
pub record Went {J O : Type 0} (keeps : Type 0) (law : JobLaw J O) (job : J)
    (puts puts_then : List J) (outs outs_then : List O) (refused : ℕ) : Type 0 where
  pub nodes : List (Node J O)
  pub passed : List J
  pub lawful : All (IsLawful law) nodes
  pub none_left : flat_map left_of nodes ≡ []
  pub outs_are : outs_then ≡ outs ++ flat_map outs_of nodes
  pub puts_are : keeps → puts_then ≡ puts ++ passed
  pub refused_are : refused ≡ counted (sum_by refusals_of nodes)
  pub balance : keeps → (weight : J → ℕ)
      → total weight (map job_of nodes) + total weight passed
      ≡ weight job + total weight (flat_map kids_of nodes)

module _ {J O : Type 0} where
  -- what became of a job that ran
  abbrev node_of : J → List J → Option O → Node J O
  node_of job kids (Some out) = Done job out kids
  node_of job kids None = Refused job kids

  job_of-node : (job : J) (kids : List J) (out : Option O) → job_of (node_of job kids out) ≡ job
  job_of-node job kids (Some out) = refl
  job_of-node job kids None = refl

  kids_of-node : (job : J) (kids : List J) (out : Option O)
      → kids_of (node_of job kids out) ≡ kids
  kids_of-node job kids (Some out) = refl
  kids_of-node job kids None = refl

  outs_of-node : (job : J) (kids : List J) (out : Option O)
      → outs_of (node_of job kids out) ≡ option_to_list out
  outs_of-node job kids (Some out) = refl
  outs_of-node job kids None = refl

  left_of-node : (job : J) (kids : List J) (out : Option O)
      → left_of (node_of job kids out) ≡ []
  left_of-node job kids (Some out) = refl
  left_of-node job kids None = refl

  refusals_of-node : (job : J) (kids : List J) (out : Option O)
      → refusals_of (node_of job kids out) ≡ refusal out
  refusals_of-node job kids (Some out) = refl
  refusals_of-node job kids None = refl

  lawful-node : (law : JobLaw J O) (job : J) (kids : List J) (out : Option O)
      → Runs law job kids out → IsLawful law (node_of job kids out)
  lawful-node law job kids (Some out) runs = runs
  lawful-node law job kids None runs = runs

module _ {J O : Type 0} (keeps : Type 0) (law : JobLaw J O) where
  -- a job that ran out of memory, or was abandoned
  pub ran-refused : (job : J) (p : List J) (k : List O) → Runs law job [] None
      → Ran keeps law job p p k k 1
  ran-refused job p k runs = record {
    others = [];
    kids = [];
    out = None;
    passed = [];
    main = runs;
    lawful = All-nil _;
    none_left = refl;
    outs_are = sym (append-nil k);
    puts_are = λ on. sym (append-nil p);
    refused_are = refl;
    balance = λ on weight. omega arith;
  }

  -- a job that was done at once
  pub ran-ends : (job : J) (out : O) (p : List J) (k l : List O)
      → law.steps job (progress.Done out) → l ≡ k ++ out ∷ [] → Ran keeps law job p p k l 0
  ran-ends job out p k l step is = record {
    others = [];
    kids = [];
    out = Some out;
    passed = [];
    main = ends job out step;
    lawful = All-nil _;
    none_left = refl;
    outs_are = is;
    puts_are = λ on. sym (append-nil p);
    refused_are = refl;
    balance = λ on weight. omega arith;
  }

  -- a fork, whatever became of its kid
  pub ran-forks : (job kid rest : J) (p q r : List J) (k l m : List O) (a b n : ℕ)
      → law.steps job (progress.Fork kid rest) → Went keeps law kid p q k l a
      → Ran keeps law rest q r l m b → n ≡ counted (b + a) → Ran keeps law job p r k m n
  ran-forks job kid rest p q r k l m a b n step went ran is =
      let before = flat_map outs_of went.nodes in
      let after = flat_map outs_of ran.others in
      let own = option_to_list ran.out in
      record {
        others = went.nodes ++ ran.others;
        kids = kid ∷ ran.kids;
        out = ran.out;
        passed = went.passed ++ ran.passed;
        main = forks job kid rest ran.kids ran.out step ran.main;
        lawful = All-append (IsLawful law) went.nodes ran.others went.lawful ran.lawful;
        none_left = flat_map-append left_of went.nodes ran.others
            ∙ (ap (λ x. x ++ flat_map left_of ran.others) went.none_left ∙ ran.none_left);
        outs_are = ran.outs_are ∙ (ap (λ x. x ++ (after ++ own)) went.outs_are
            ∙ (append_assoc k before (after ++ own)
            ∙ ap (λ x. k ++ x) (sym (ap (λ y. y ++ own)
            (flat_map-append outs_of went.nodes ran.others)
            ∙ append_assoc before after own))));
        puts_are = λ on. ran.puts_are on
            ∙ (ap (λ x. x ++ ran.passed) (went.puts_are on)
            ∙ append_assoc p went.passed ran.passed);
        refused_are =
            let first = went.refused_are in let second = ran.refused_are in
            let both = sum_by-append refusals_of went.nodes ran.others in
            omega arith;
        balance = λ on weight.
            let first = went.balance on weight in let second = ran.balance on weight in
            let jobs = total-map-append weight job_of went.nodes ran.others in
            let kids = total-flat_map-append weight kids_of went.nodes ran.others in
            let passed = total-append weight went.passed ran.passed in
            omega arith;
      }

  -- a job that was passed on
  pub went-put : (job : J) (p q : List J) (k l : List O) → (keeps → q ≡ p ++ job ∷ []) → l ≡ k
      → Went keeps law job p q k l 0
  went-put job p q k l put same = record {
    nodes = [];
    passed = job ∷ [];
    lawful = All-nil _;
    none_left = refl;
    outs_are = same ∙ sym (append-nil k);
    puts_are = put;
    refused_are = refl;
    balance = λ on weight. omega arith;
  }

  -- a job that ran
  pub went-ran : (job : J) (p q r : List J) (k l m : List O) (n : ℕ) → (keeps → q ≡ p) → l ≡ k
      → Ran keeps law job q r l m n → Went keeps law job p r k m n
  went-ran job p q r k l m n back same ran =
      let node = node_of job ran.kids ran.out in
      let last = node ∷ [] in
      let outs = outs_of-node job ran.kids ran.out in
      let left = left_of-node job ran.kids ran.out in
      let one = refusals_of-node job ran.kids ran.out in
      record {
        nodes = ran.others ++ last;
        passed = ran.passed;
        lawful = All-append (IsLawful law) ran.others last ran.lawful
            (All-cons (IsLawful law) node [] (lawful-node law job ran.kids ran.out ran.main)
            (All-nil _));
        none_left = flat_map-append left_of ran.others last
            ∙ (ap (λ x. x ++ flat_map left_of last) ran.none_left
            ∙ (append-nil (left_of node) ∙ left));
        outs_are = ran.outs_are
            ∙ (ap (λ x. x ++ (flat_map outs_of ran.others ++ option_to_list ran.out)) same
            ∙ ap (λ x. k ++ x) (sym (flat_map-append outs_of ran.others last
            ∙ ap (λ x. flat_map outs_of ran.others ++ x) (append-nil (outs_of node) ∙ outs))));
        puts_are = λ on. ran.puts_are on ∙ ap (λ x. x ++ ran.passed) (back on);
        refused_are =
            let is = ran.refused_are in
            let both = sum_by-append refusals_of ran.others last in
            omega arith;
        balance = λ on weight.
            let is = ran.balance on weight in
            let jobs = total-map-append weight job_of ran.others last in
            let kids = total-flat_map-append weight kids_of ran.others last in
            let kids_here = total-append weight (kids_of node) [] in
            let job_is = ap weight (job_of-node job ran.kids ran.out) in
            let kids_are = ap (total weight) (kids_of-node job ran.kids ran.out) in
            omega arith;
      }

  -- a job that was given back is the job that was to be passed on
  pub went-returned : (back job : J) (p q : List J) (k l : List O) (n : ℕ) → back ≡ job
      → Went keeps law back p q k l n → Went keeps law job p q k l n
  went-returned back job p q k l n same went =
      subst (λ x. Went keeps law x p q k l n) same went

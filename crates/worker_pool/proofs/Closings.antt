-- How accounts add up to the account of a closed pool.
use Rattle.std.proofs.Common.{◌≡◌, ℕ, ◌+◌, List, [], ◌∷◌, ◌++◌, map, All, length}
use Rattle.std.proofs.Common.{refl, sym, ap, ◌∙◌, arith, subst}
use Rattle.std.specs.Prelude.{sum_by}
use Rattle.std.specs.List.{flat_map}
use Rattle.std.proofs.lemmas.List.{append-nil, flat_map_more}
use Rattle.std.proofs.lemmas.List.Elements.{All-nil, All-cons, All-same}
use Rattle.run_queue.specs.Account.{AccountsFor}
use Rattle.run_queue.specs.Bag.{total, SameBag}
use Rattle.worker_pool.specs.declared.closing.gathered.Gathered.{Gathered}
use Rattle.worker_pool.specs.declared.job.Job as job
use Rattle.worker_pool.specs.declared.queues.queue.Queue as queue
use Rattle.worker_pool.specs.Laws.{JobLaw}
use Rattle.worker_pool.specs.declared.working.pool.Pool.{Pool}
use Rattle.worker_pool.specs.declared.working.worker.WorkerState.{WorkerState}
use Rattle.worker_pool.specs.Accounts.{Account, counted}
use Rattle.worker_pool.specs.Closings.{IsHandedBack}
use Rattle.worker_pool.specs.Gathered.{Adds, HasGathered, IsEmpty}
use Rattle.worker_pool.specs.Nodes.{Node, Left, IsLawful, job_of, kids_of, outs_of}
use Rattle.worker_pool.specs.Nodes.{left_of, refusals_of}
use Rattle.worker_pool.specs.Ran.{Ran, RanToo, AreSettled}
use Rattle.worker_pool.specs.Laws.{law_of}
use Rattle.worker_pool.specs.Works.{IsAtWork}
use Rattle.worker_pool.proofs.Bags.{total-append}
use Rattle.worker_pool.proofs.Growing.{All-snoc, length-snoc}
use Rattle.worker_pool.proofs.Tallies.{account-append, account-more, account-none, account-same}

-- a list that gets one item more at its end
pub flat_map-snoc : {X Y : Type 0} (f : X → List Y) (xs : List X) (x : X) (ys : List X)
    → ys ≡ xs ++ x ∷ [] → flat_map f ys ≡ flat_map f xs ++ f x
flat_map-snoc f xs x ys is = ap (flat_map f) is ∙ sym (flat_map_more f [] xs x)

-- jobs that are left
abbrev lefts : {J : Type 0} → (O : Type 0) → List J → List (Node J O)
lefts O jobs = map Left jobs

module _ {J : Type 0} (O : Type 0) where
  lefts-lawful : (law : JobLaw J O) (jobs : List J)
      → All (IsLawful law) (lefts O jobs)
  lefts-lawful law [] = All-nil _
  lefts-lawful law (job ∷ jobs) = All-cons (IsLawful law) _ _ tt (lefts-lawful law jobs)

  jobs_of-lefts : (jobs : List J) → map job_of (lefts O jobs) ≡ jobs
  jobs_of-lefts [] = refl
  jobs_of-lefts (job ∷ jobs) = ap (λ x. job ∷ x) (jobs_of-lefts jobs)

  kids_of-lefts : (jobs : List J) → flat_map kids_of (lefts O jobs) ≡ []
  kids_of-lefts [] = refl
  kids_of-lefts (job ∷ jobs) = kids_of-lefts jobs

  outs_of-lefts : (jobs : List J) → flat_map outs_of (lefts O jobs) ≡ []
  outs_of-lefts [] = refl
  outs_of-lefts (job ∷ jobs) = outs_of-lefts jobs

  left_of-lefts : (jobs : List J) → flat_map left_of (lefts O jobs) ≡ jobs
  left_of-lefts [] = refl
  left_of-lefts (job ∷ jobs) = ap (λ x. job ∷ x) (left_of-lefts jobs)

  refusals_of-lefts : (jobs : List J) → sum_by refusals_of (lefts O jobs) ≡ 0
  refusals_of-lefts [] = refl
  refusals_of-lefts (job ∷ jobs) = refusals_of-lefts jobs

module _ {J O : Type 0} (keeps : Type 0) (law : JobLaw J O) where
  -- jobs that came in and are left
  account-lefts : (jobs : List J) → Account keeps law jobs [] [] jobs 0
  account-lefts jobs = record {
    nodes = lefts O jobs;
    lawful = lefts-lawful O law jobs;
    outs_are = sym (outs_of-lefts O jobs);
    left_are = sym (left_of-lefts O jobs);
    refused_are = let none = refusals_of-lefts O jobs in omega arith;
    balance = λ on weight.
        let nodes = lefts O jobs in
        let here = total-append weight (map job_of nodes) [] in
        let there = total-append weight jobs (flat_map kids_of nodes) in
        let all = ap (total weight) (jobs_of-lefts O jobs) in
        let none = ap (total weight) (kids_of-lefts O jobs) in
        omega arith;
  }

  -- more jobs came in, and are left
  pub settled-left : (jobs : List J) (outs : List O) (n : ℕ)
      → AreSettled keeps law jobs outs outs jobs n n
  settled-left jobs outs n = record {
    account = λ came passed start.
        let is = start.refused_are in
        account-append keeps law came jobs (came ++ jobs) passed [] passed outs [] outs [] jobs
        jobs n 0 n start (account-lefts jobs) (λ on. refl) (λ on. sym (append-nil passed))
        (sym (append-nil outs)) refl (omega arith);
  }

  -- an account holds of the jobs in another order too
  account-reordered : (t u passed : List J) (outs : List O) (n : ℕ) → SameBag u t
      → Account keeps law t passed outs [] n → Account keeps law u passed outs [] n
  account-reordered t u passed outs n same account = record {
    nodes = account.nodes;
    lawful = account.lawful;
    outs_are = account.outs_are;
    left_are = account.left_are;
    refused_are = account.refused_are;
    balance = λ on weight.
        let kids = flat_map kids_of account.nodes in
        let before = total-append weight t kids in
        let after = total-append weight u kids in
        let as_much = same weight in
        let is = account.balance on weight in
        omega arith;
  }

  -- no job came in
  pub ran_too-none : (jobs : List J) (outs : List O) (n : ℕ) → jobs ≡ []
      → RanToo keeps law jobs outs outs n n
  ran_too-none jobs outs n none = record {
    account = λ came passed start.
        account-same keeps law passed passed came (came ++ jobs) outs [] n start
        (λ on. ap (λ x. came ++ x) none) (λ on. refl);
  }

  -- one that passes nothing on leaves all that was passed on before as it is
  ran-alone : (job : J) (p : List J) (l m : List O) (n : ℕ) → Ran keeps law job [] [] l m n
      → Ran keeps law job p p l m n
  ran-alone job p l m n ran = record {
    others = ran.others;
    kids = ran.kids;
    out = ran.out;
    passed = ran.passed;
    main = ran.main;
    lawful = ran.lawful;
    none_left = ran.none_left;
    outs_are = ran.outs_are;
    puts_are = λ on. sym (append-nil p) ∙ ap (λ x. p ++ x) (ran.puts_are on);
    refused_are = ran.refused_are;
    balance = ran.balance;
  }

  -- the last of the jobs ran first, and then the others
  pub ran_too-last : (job : J) (rest jobs : List J) (k l m : List O) (a b c n : ℕ)
      → jobs ≡ rest ++ job ∷ [] → Ran keeps law job [] [] k l n → b ≡ counted (a + n)
      → RanToo keeps law rest l m b c → RanToo keeps law jobs k m a c
  ran_too-last job rest jobs k l m a b c n are one more ran = record {
    account = λ came passed start.
        let with_one = account-more keeps law job passed passed passed came (came ++ job ∷ []) k k
        l [] a n b start refl (λ on. refl) (λ on. refl) (ran-alone job passed k l n one) more in
        account-reordered ((came ++ job ∷ []) ++ rest) (came ++ jobs) passed m c
        (λ weight.
        let is = ap (total weight) are in
        let here = total-append weight came jobs in
        let last = total-append weight rest (job ∷ []) in
        let there = total-append weight (came ++ job ∷ []) rest in
        let then = total-append weight came (job ∷ []) in
        omega arith)
        (ran.account (came ++ job ∷ []) passed with_one);
  }

  -- more jobs came in and ran, and none is left
  pub settled-ran : (jobs : List J) (k l : List O) (left : List J) (a b : ℕ)
      → RanToo keeps law jobs k l a b → left ≡ [] → AreSettled keeps law jobs k l left a b
  settled-ran jobs k l left a b ran none = record {
    account = λ came passed start.
        subst (λ x. Account keeps law (came ++ jobs) passed l x b) (sym none)
        (ran.account came passed start);
  }

  -- What was put in through all seats was taken out through them or is left. So if one account is
  -- of the taken jobs, and the other is of the roots and of the jobs that were left, then nothing
  -- is passed on any more.
  pub account-closed : {S : Type 0} (puts takes : S → List J) (roots drained : List J)
      (seats : List S) (seat : S) (all : List S) (k l m : List O) (t left : List J) (a b n : ℕ)
      → Account keeps law (flat_map takes seats) (flat_map puts seats) k [] a
      → Account keeps law (roots ++ drained) (puts seat) l t b
      → (keeps → takes seat ≡ []) → all ≡ seats ++ seat ∷ []
      → (keeps → AccountsFor puts takes all drained)
      → m ≡ k ++ l → left ≡ t → n ≡ counted (a + b) → Account keeps law roots [] m left n
  account-closed puts takes roots drained seats seat all k l m t left a b n first second none are
      kept outs same_left is =
      let put = flat_map puts seats in
      let taken = flat_map takes seats in
      let both = account-append keeps law taken (roots ++ drained) (taken ++ (roots ++ drained))
      put (puts seat) (put ++ puts seat) k l m [] t t a b n first second (λ on. refl)
      (λ on. refl) outs refl is in
      record {
        nodes = both.nodes;
        lawful = both.lawful;
        outs_are = both.outs_are;
        left_are = same_left ∙ both.left_are;
        refused_are = both.refused_are;
        balance = λ on weight.
            let jobs = map job_of both.nodes in
            let kids = flat_map kids_of both.nodes in
            let balance = both.balance on weight in
            let settled = kept on weight in
            let put_all = ap (total weight) (flat_map-snoc puts seats seat all are) in
            let taken_all = ap (total weight) (flat_map-snoc takes seats seat all are) in
            let no_more = ap (total weight) (none on) in
            let a1 = total-append weight jobs (put ++ puts seat) in
            let a2 = total-append weight put (puts seat) in
            let b1 = total-append weight (taken ++ (roots ++ drained)) kids in
            let b2 = total-append weight taken (roots ++ drained) in
            let b3 = total-append weight roots drained in
            let c1 = total-append weight (flat_map takes all) drained in
            let c2 = total-append weight taken (takes seat) in
            let d1 = total-append weight jobs [] in
            let d2 = total-append weight roots kids in
            omega arith;
      }

-- Nothing ran since: what was put in through all seats was taken out through the workers' seats or
-- is left.
pub handed-back : {S J O : Type 0} (keeps : Type 0) (law : JobLaw J O) (puts takes : S → List J)
    (drained : List J) (seats : List S) (seat : S) (all : List S) (k l m : List O) (left : List J)
    (a b c n : ℕ) → Account keeps law (flat_map takes seats) (flat_map puts seats) k [] a
    → (keeps → takes seat ≡ []) → all ≡ seats ++ seat ∷ []
    → (keeps → AccountsFor puts takes all drained) → left ≡ drained → m ≡ k ++ l
    → c ≡ b → n ≡ counted (a + c) → IsHandedBack keeps law (puts seat) l b m left n
handed-back keeps law puts takes drained seats seat all k l m left a b c n workers none are kept
    same outs no_more_refused is =
    record {
      taken = flat_map takes seats;
      put = flat_map puts seats;
      workers_outs = k;
      workers_refused = a;
      workers = workers;
      in_rows = λ on weight.
          let settled = kept on weight in
          let put_all = ap (total weight) (flat_map-snoc puts seats seat all are) in
          let taken_all = ap (total weight) (flat_map-snoc takes seats seat all are) in
          let no_more = ap (total weight) (none on) in
          let same_left = ap (total weight) same in
          let taken_two = total-append weight (flat_map takes seats) (takes seat) in
          let before = total-append weight (flat_map takes all) drained in
          let after = total-append weight (flat_map takes seats) left in
          omega arith;
      outs_are = outs;
      refused_are = is ∙ ap (λ refused. counted (a + refused)) no_more_refused;
    }

module _ {J A Q C O N B D S P : Type 0} (at : queue.Ghosts Q J A B D S P)
    (law : job.Ghosts J A C O N) where
  -- one more has come home
  pub gathers-more : (pool : Pool J A Q B D S P) (queue : Q) (ctx : C)
      (state : WorkerState J A Q C O N B D S P) (before after : Gathered J A Q C O N B D S P)
      → IsAtWork at law pool ctx state → Adds at queue state before after
      → HasGathered at queue law ctx before → HasGathered at queue law ctx after
  gathers-more pool queue ctx state before after at_work adds home =
      let rows_long =
      length-snoc before.rows.items (at.row_of state.seat) after.rows.items adds.rows in
      let wakers_long = length-snoc before.wakers.items adds.waker after.wakers.items adds.wakers in
      let lists_long = length-snoc before.lists.items state.outs after.lists.items adds.lists in
      let wakers_many = home.wakers_many in
      let lists_many = home.lists_many in
      record {
        ours = All-snoc (at.is_row queue) _ _ _ adds.rows home.ours adds.ours;
        idle = All-snoc (at.is_waker queue) _ _ _ adds.wakers home.idle adds.idle;
        wakers_many = omega arith;
        lists_many = omega arith;
        account = account-append _ _ _ _ _ _ _ _ _ _ _ [] [] [] _ _ _ home.account
            at_work.account
            (λ on. flat_map-snoc at.takes_of _ _ _ adds.rows)
            (λ on. flat_map-snoc at.puts_of _ _ _ adds.rows)
            (flat_map-snoc (λ list. list.items) _ _ _ adds.lists) refl adds.refused;
      }

  -- no worker has come home yet
  pub gathers-none : (queue : Q) (ctx : C) (gathered : Gathered J A Q C O N B D S P)
      → IsEmpty gathered → HasGathered at queue law ctx gathered
  gathers-none queue ctx gathered none = record {
    ours = All-same (at.is_row queue) _ _ none.no_rows (All-nil _);
    idle = All-same (at.is_waker queue) _ _ none.no_wakers (All-nil _);
    wakers_many = ap length none.no_wakers ∙ sym (ap length none.no_rows);
    lists_many = ap length none.no_lists ∙ sym (ap length none.no_rows);
    account = subst (λ n. Account at.keeps_accounts (law_of law ctx)
        (flat_map at.takes_of gathered.rows.items) (flat_map at.puts_of gathered.rows.items)
        (flat_map (λ list. list.items) gathered.lists.items) [] n)
        (sym none.none_refused)
        (account-none _ _ _ _ _ (λ on. ap (flat_map at.takes_of) none.no_rows)
        (λ on. ap (flat_map at.puts_of) none.no_rows)
        (ap (flat_map (λ list. list.items)) none.no_lists));
  }

-- How accounts of jobs add up.
use Rattle.std.proofs.Common.{◌≡◌, ℕ, ◌+◌, List, [], ◌∷◌, ◌++◌, map}
use Rattle.std.proofs.Common.{refl, sym, ap, ◌∙◌, arith}
use Rattle.std.specs.List.{flat_map}
use Rattle.std.proofs.lemmas.List.{append-nil}
use Rattle.std.proofs.lemmas.List.Elements.{All-append, All-nil}
use Rattle.std.proofs.lemmas.List.Sums.{sum_by-append}
use Rattle.std.proofs.lemmas.Grind.{flat_map-append}
use Rattle.run_queue.specs.Bag.{total}
use Rattle.worker_pool.specs.Laws.{JobLaw}
use Rattle.worker_pool.specs.Accounts.{Account, counted}
use Rattle.worker_pool.specs.Nodes.{IsLawful, job_of, kids_of, outs_of, left_of}
use Rattle.worker_pool.specs.Nodes.{refusals_of}
use Rattle.worker_pool.specs.Ran.{Ran}
use Rattle.worker_pool.proofs.Bags.{total-append, total-map-append, total-flat_map-append}
use Rattle.worker_pool.proofs.Runnings.{Went, went-ran}

module _ {J O : Type 0} (keeps : Type 0) (law : JobLaw J O) where
  -- nothing has come in and nothing was passed on
  pub account-none : (came passed : List J) (outs : List O) → (keeps → came ≡ [])
      → (keeps → passed ≡ []) → outs ≡ [] → Account keeps law came passed outs [] 0
  account-none came passed outs no_came no_passed none = record {
    nodes = [];
    lawful = All-nil _;
    outs_are = none;
    left_are = refl;
    refused_are = refl;
    balance = λ on weight.
        let a = ap (total weight) (no_came on) in
        let b = ap (total weight) (no_passed on) in
        let c = total-append weight came [] in
        omega arith;
  }

  -- two accounts, one after the other
  pub account-append : (c d e p q r : List J) (k l m : List O) (s t u : List J) (a b n : ℕ)
      → Account keeps law c p k s a → Account keeps law d q l t b
      → (keeps → e ≡ c ++ d) → (keeps → r ≡ p ++ q) → m ≡ k ++ l → u ≡ s ++ t
      → n ≡ counted (a + b) → Account keeps law e r m u n
  account-append c d e p q r k l m s t u a b n first second came passed outs left is = record {
    nodes = first.nodes ++ second.nodes;
    lawful = All-append (IsLawful law) first.nodes second.nodes first.lawful second.lawful;
    outs_are = outs ∙ (ap (λ x. x ++ l) first.outs_are
        ∙ (ap (λ x. flat_map outs_of first.nodes ++ x) second.outs_are
        ∙ sym (flat_map-append outs_of first.nodes second.nodes)));
    left_are = left ∙ (ap (λ x. x ++ t) first.left_are
        ∙ (ap (λ x. flat_map left_of first.nodes ++ x) second.left_are
        ∙ sym (flat_map-append left_of first.nodes second.nodes)));
    refused_are =
        let x = first.refused_are in let y = second.refused_are in
        let both = sum_by-append refusals_of first.nodes second.nodes in
        omega arith;
    balance = λ on weight.
        let x = first.balance on weight in let y = second.balance on weight in
        let jobs = total-map-append weight job_of first.nodes second.nodes in
        let kids = total-flat_map-append weight kids_of first.nodes second.nodes in
        let all = first.nodes ++ second.nodes in
        let left_x = total-append weight (map job_of first.nodes) p in
        let left_y = total-append weight (map job_of second.nodes) q in
        let left_z = total-append weight (map job_of all) r in
        let right_x = total-append weight c (flat_map kids_of first.nodes) in
        let right_y = total-append weight d (flat_map kids_of second.nodes) in
        let right_z = total-append weight e (flat_map kids_of all) in
        let e_is = ap (total weight) (came on) ∙ total-append weight c d in
        let r_is = ap (total weight) (passed on) ∙ total-append weight p q in
        omega arith;
  }

  -- the account of a job that came in, and was passed on or ran
  account-went : (job : J) (p q : List J) (k l : List O) (n : ℕ)
      → (went : Went keeps law job p q k l n)
      → Account keeps law (job ∷ []) went.passed (flat_map outs_of went.nodes) [] n
  account-went job p q k l n went = record {
    nodes = went.nodes;
    lawful = went.lawful;
    outs_are = refl;
    left_are = sym went.none_left;
    refused_are = went.refused_are;
    balance = λ on weight.
        let is = went.balance on weight in
        let jobs = total-append weight (map job_of went.nodes) went.passed in
        omega arith;
  }

  -- one more job came in and ran
  pub account-more : (job : J) (p q r t u : List J) (k l m : List O) (left : List J) (a b n : ℕ)
      → Account keeps law t p k left a → l ≡ k → (keeps → q ≡ p) → (keeps → u ≡ t ++ job ∷ [])
      → Ran keeps law job q r l m b → n ≡ counted (a + b) → Account keeps law u r m left n
  account-more job p q r t u k l m left a b n account same back came ran is =
      let went = went-ran keeps law job p q r k l m b back same ran in
      account-append t (job ∷ []) u p went.passed r k (flat_map outs_of went.nodes) m left [] left
      a b n account (account-went job p r k m b went) came went.puts_are went.outs_are
      (sym (append-nil left)) is

  -- one more job came in and was passed on
  pub account-passed : (job : J) (p r t u : List J) (k : List O) (left : List J) (n : ℕ)
      → Account keeps law t p k left n → (keeps → r ≡ p ++ job ∷ []) → (keeps → u ≡ t ++ job ∷ [])
      → Account keeps law u r k left n
  account-passed job p r t u k left n account put came = record {
    nodes = account.nodes;
    lawful = account.lawful;
    outs_are = account.outs_are;
    left_are = account.left_are;
    refused_are = account.refused_are;
    balance = λ on weight.
        let is = account.balance on weight in
        let before = total-append weight (map job_of account.nodes) p in
        let after = total-append weight (map job_of account.nodes) r in
        let more = ap (total weight) (put on) ∙ total-append weight p (job ∷ []) in
        let kids = flat_map kids_of account.nodes in
        let came_before = total-append weight t kids in
        let came_after = total-append weight u kids in
        let came_more = ap (total weight) (came on) ∙ total-append weight t (job ∷ []) in
        omega arith;
  }

  -- an account stays one if nothing more came in or was passed on
  pub account-same : (p r t u : List J) (k : List O) (left : List J) (n : ℕ)
      → Account keeps law t p k left n → (keeps → u ≡ t ++ []) → (keeps → r ≡ p)
      → Account keeps law u r k left n
  account-same p r t u k left n account came put = record {
    nodes = account.nodes;
    lawful = account.lawful;
    outs_are = account.outs_are;
    left_are = account.left_are;
    refused_are = account.refused_are;
    balance = λ on weight.
        let is = account.balance on weight in
        let kids = flat_map kids_of account.nodes in
        let jobs = map job_of account.nodes in
        let same_put = ap (λ x. total weight (jobs ++ x)) (put on) in
        let same_came = ap (λ x. total weight (x ++ kids)) (came on ∙ append-nil t) in
        omega arith;
  }

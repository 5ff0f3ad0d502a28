-- Workers that come home one after the other.
use Rattle.std.proofs.Common.{◌≡◌, ℕ, ◌+◌, ◌≤◌, List, [], ◌∷◌, ◌++◌, All, true, false, cond, length}
use Rattle.std.proofs.Common.{append_assoc, refl, sym, ap, ◌∙◌, add-zero, arith, subst}
use Rattle.std.specs.List.{AllZip}
use Rattle.std.proofs.lemmas.Bool.{true≢false}
use Rattle.std.proofs.lemmas.List.{append-nil}
use Rattle.std.proofs.lemmas.List.Elements.{All-nil, All-cons}
use Rattle.std.proofs.lemmas.List.Sums.{sum_by_push}
use Rattle.worker_pool.specs.declared.opening.start.home.Home.{Home}
use Rattle.worker_pool.specs.declared.opening.start.home.Start.TheVariants.{Joined}
use Rattle.worker_pool.specs.Starts.{was_joined, was_asked, joined_of, AsksFirst, ComesHome}
use Rattle.worker_pool.specs.Starts.{Ends}
use Rattle.worker_pool.proofs.Growing.{All-snoc, length-snoc}

module _ {X : Type 0} (homes : List (Home X)) (home : Home X) (all : List (Home X))
    (are : all ≡ homes ++ home ∷ []) where
  joined-snoc : joined_of all ≡ joined_of homes + cond (was_joined home.start) 1 0
  joined-snoc = ap joined_of are ∙ sum_by_push (λ at. cond (was_joined at.start) 1 0) homes home

  -- one more was joined
  pub joined-more : home.start ≡ Joined → joined_of all ≡ joined_of homes + 1
  joined-more is = joined-snoc ∙ ap (λ start. joined_of homes + cond (was_joined start) 1 0) is

  -- no more were joined
  pub joined-same : was_joined home.start ≡ false → joined_of all ≡ joined_of homes
  joined-same is =
      let none : ◌≡◌ {A = ℕ} (cond (was_joined home.start) 1 0) 0 =
      ap (λ joined. cond joined 1 0) is in
      joined-snoc ∙ ap (λ more. joined_of homes + more) none ∙ add-zero (joined_of homes)

  -- a thread was asked for of the first alone, and so it is with one that comes behind
  pub asks-no_more : (starts : ℕ) → starts ≤ length homes → was_asked home.start ≡ false
      → AsksFirst starts homes → AsksFirst starts all
  asks-no_more starts enough is first = record {
    asked = first.asked;
    others = first.others ++ home ∷ [];
    all = are ∙ (ap (λ xs. xs ++ home ∷ []) first.all
        ∙ append_assoc first.asked first.others (home ∷ []));
    many =
        let many = first.many in
        let long = length-snoc homes home all are in
        omega arith;
    were_asked = first.were_asked;
    were_not = All-snoc (λ at. was_asked at.start ≡ false) first.others home _ refl first.were_not
        is;
  }

-- a thread was asked for of all
pub asks-all : {X : Type 0} (starts : ℕ) (homes : List (Home X)) → length homes ≤ starts
    → All (λ at. was_asked at.start ≡ true) homes → AsksFirst starts homes
asks-all starts homes few asked = record {
  asked = homes;
  others = [];
  all = sym (append-nil homes);
  many = omega arith;
  were_asked = asked;
  were_not = All-nil _;
}

-- those that came home are at work
pub home-at_work : {S X : Type 0} (is_at_work : S → X → Type 0) (has_ended : S → X → X → Type 0)
    (workplace : S) (states : List X) (homes : List (Home X))
    → AllZip (ComesHome is_at_work has_ended workplace) states homes
    → All (λ at. is_at_work workplace at.state) homes
home-at_work is_at_work has_ended workplace [] [] came = All-nil _
home-at_work is_at_work has_ended workplace [] (home ∷ homes) came = absurd came
home-at_work is_at_work has_ended workplace (state ∷ states) [] came = absurd came
home-at_work is_at_work has_ended workplace (state ∷ states) (home ∷ homes) came =
    All-cons (λ at. is_at_work workplace at.state) home homes came.0.at_work
    (home-at_work is_at_work has_ended workplace states homes came.1)

-- two lists that get one item more at their ends
zip-snoc : {X Y : Type 0} (R : X → Y → Type 0) (xs : List X) (ys : List Y) (x : X) (y : Y)
    → AllZip R xs ys → R x y → AllZip R (xs ++ x ∷ []) (ys ++ y ∷ [])
zip-snoc R [] [] x y all one = (one, tt)
zip-snoc R [] (v ∷ ys) x y all one = absurd all
zip-snoc R (u ∷ xs) [] x y all one = absurd all
zip-snoc R (u ∷ xs) (v ∷ ys) x y all one = (all.0, zip-snoc R xs ys x y all.1 one)

-- one more came home
pub comes-snoc : {S X : Type 0} (is_at_work : S → X → Type 0) (has_ended : S → X → X → Type 0)
    (workplace : S) (states : List X) (state : X) (all : List X) (homes : List (Home X))
    (home : Home X) (all_homes : List (Home X)) → all ≡ states ++ state ∷ []
    → all_homes ≡ homes ++ home ∷ []
    → AllZip (ComesHome is_at_work has_ended workplace) states homes
    → ComesHome is_at_work has_ended workplace state home
    → AllZip (ComesHome is_at_work has_ended workplace) all all_homes
comes-snoc is_at_work has_ended workplace states state all homes home all_homes are came before now =
    let comes = ComesHome is_at_work has_ended workplace in
    subst (λ xs. AllZip comes xs all_homes) (sym are)
    (subst (λ ys. AllZip comes (states ++ state ∷ []) ys) (sym came)
    (zip-snoc comes states homes state home before now))

-- one more worker came home, for which a thread was asked for
pub comes-asked : {S X : Type 0} (is_at_work : S → X → Type 0) (has_ended : S → X → X → Type 0)
    (workplace : S) (states : List X) (state : X) (all : List X) (homes : List (Home X))
    (home : Home X) (all_homes : List (Home X)) → all ≡ states ++ state ∷ []
    → all_homes ≡ homes ++ home ∷ []
    → AllZip (ComesHome is_at_work has_ended workplace) states homes
    → Ends is_at_work has_ended workplace state home.state → was_asked home.start ≡ true
    → AllZip (ComesHome is_at_work has_ended workplace) all all_homes
comes-asked is_at_work has_ended workplace states state all homes home all_homes are came before now
    asked =
    comes-snoc is_at_work has_ended workplace states state all homes home all_homes are came before
    (record {
      at_work = now.at_work;
      ended = λ _. now.ended;
      kept = λ not. absurd (true≢false (sym asked ∙ ap was_asked not));
    })

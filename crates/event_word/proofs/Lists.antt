-- Sums over lists, numbers in lists, and lists of one element.
use Rattle.std.proofs.Common.{◌≡◌, ◌≢◌, ℕ, zero, suc, ◌+◌, ◌≤◌, ◌<◌, ◌==◌, Bool, true, false, List}
use Rattle.std.proofs.Common.{[], ◌∷◌, ◌++◌, length, get_or, set, sym, ap, refl, ◌∙◌, subst, ⊎_elim}
use Rattle.std.proofs.Common.{eq-eqb, ne_eqb, arith, length-set, get_or-set_same, get_or-set_other}
use Rattle.std.proofs.Common.{replicate, Contains}
use Rattle.std.specs.List.{remove}
use Rattle.std.proofs.lemmas.Bool.{cases_eq, cases_lt, cond-true, cond-false}
use Rattle.std.proofs.lemmas.List.{get_or_past}
use Rattle.event_word.specs.Lists.{one_if, total, times, without}

pub one_if-le-one : (b : Bool) → one_if b ≤ 1
one_if-le-one true = omega arith
one_if-le-one false = omega arith

pub one_if-true : (b : Bool) → 0 < one_if b → b ≡ true
one_if-true true h = refl
one_if-true false h = absurd (omega arith)

pub one_if-same : (x n : ℕ) → x ≡ n → one_if (x == n) ≡ 1
one_if-same x n e = ap one_if (eq-eqb x n e)

pub one_if-other : (x n : ℕ) → x ≢ n → one_if (x == n) ≡ 0
one_if-other x n ne = ap one_if (ne_eqb x n ne)

pub times-append : (n : ℕ) (xs ys : List ℕ) → times n (xs ++ ys) ≡ times n xs + times n ys
times-append n [] ys = omega arith
times-append n (x ∷ xs) ys = let r = times-append n xs ys in omega arith

pub times-one_same : (n x : ℕ) → x ≡ n → times n (x ∷ []) ≡ 1
times-one_same n x e = let s = one_if-same x n e in omega arith

pub times-one_other : (n x : ℕ) → x ≢ n → times n (x ∷ []) ≡ 0
times-one_other n x ne = let s = one_if-other x n ne in omega arith

pub times-le-length : (n : ℕ) (xs : List ℕ) → times n xs ≤ length xs
times-le-length n [] = omega arith
times-le-length n (x ∷ xs) = let r = times-le-length n xs in let o = one_if-le-one (x == n) in
    omega arith

-- what stands somewhere in the list is counted, and the other way round
pub times-at : (n : ℕ) (xs : List ℕ) (k d : ℕ) → k < length xs → get_or xs k d ≡ n
    → 0 < times n xs
times-at n [] k d h e = absurd (omega arith)
times-at n (x ∷ xs) zero d h e = let s = one_if-same x n e in omega arith
times-at n (x ∷ xs) (suc k) d h e = let r = times-at n xs k d (omega arith) e in omega arith

pub times-Contains : (n : ℕ) (xs : List ℕ) → Contains xs n → 0 < times n xs
times-Contains n xs c = times-at n xs c.0 n c.1 c.2

pub Contains-times : (n : ℕ) (xs : List ℕ) → 0 < times n xs → Contains xs n
Contains-times n [] h = absurd (omega arith)
Contains-times n (x ∷ xs) h = ⊎_elim
    (λ e. (0, omega arith, e))
    (λ ne. let o = one_if-other x n ne in let r = Contains-times n xs (omega arith) in
    (suc r.0, omega (arith, r.1), r.2))
    (cases_eq x n)

-- a seat that is owed is owed by somebody
pub owed_somewhere : (n : ℕ) (xss : List (List ℕ)) → 0 < total (times n) xss
    → (actor : ℕ) × (0 < times n (get_or xss actor []))
owed_somewhere n [] h = absurd (omega arith)
owed_somewhere n (xs ∷ xss) h = ⊎_elim
    (λ some. (0, some))
    (λ none. let r = owed_somewhere n xss (omega arith) in (suc r.0, r.1))
    (cases_lt 0 (times n xs))

pub without-same : (n x : ℕ) (xs : List ℕ) → x ≡ n → without n (x ∷ xs) ≡ xs
without-same n x xs e = cond-true (x == n) xs (x ∷ without n xs) (eq-eqb x n e)

pub without-other : (n x : ℕ) (xs : List ℕ) → x ≢ n → without n (x ∷ xs) ≡ x ∷ without n xs
without-other n x xs ne = cond-false (x == n) xs (x ∷ without n xs) (ne_eqb x n ne)

pub length-without : (n : ℕ) (xs : List ℕ) → 0 < times n xs → length (without n xs) + 1 ≡ length xs
length-without n [] h = absurd (omega arith)
length-without n (x ∷ xs) h = ⊎_elim
    (λ e. let w = ap length (without-same n x xs e) in omega arith)
    (λ ne. let o = one_if-other x n ne in let w = ap length (without-other n x xs ne) in
    let r = length-without n xs (omega arith) in omega arith)
    (cases_eq x n)

pub times-without : (n : ℕ) (xs : List ℕ) → 0 < times n xs → times n (without n xs) + 1 ≡ times n xs
times-without n [] h = absurd (omega arith)
times-without n (x ∷ xs) h = ⊎_elim
    (λ e. let o = one_if-same x n e in let w = ap (times n) (without-same n x xs e) in omega arith)
    (λ ne. let o = one_if-other x n ne in let w = ap (times n) (without-other n x xs ne) in
    let r = times-without n xs (omega arith) in omega arith)
    (cases_eq x n)

pub times-without_other : (m n : ℕ) (xs : List ℕ) → m ≢ n → times m (without n xs) ≡ times m xs
times-without_other m n [] ne = refl
times-without_other m n (x ∷ xs) ne = ⊎_elim
    (λ e. let o = one_if-other x m (λ d. ne (sym d ∙ e)) in
    let w = ap (times m) (without-same n x xs e) in omega arith)
    (λ d. let w = ap (times m) (without-other n x xs d) in let r = times-without_other m n xs ne in
    omega arith)
    (cases_eq x n)

pub total-without : (f : ℕ → ℕ) (n : ℕ) (xs : List ℕ) → 0 < times n xs
    → total f (without n xs) + f n ≡ total f xs
total-without f n [] h = absurd (omega arith)
total-without f n (x ∷ xs) h = ⊎_elim
    (λ e. let v = ap f e in let w = ap (total f) (without-same n x xs e) in omega arith)
    (λ ne. let o = one_if-other x n ne in let w = ap (total f) (without-other n x xs ne) in
    let r = total-without f n xs (omega arith) in omega arith)
    (cases_eq x n)

-- f and g agree but at n, which is not in the list
pub total-elsewhere : (f g : ℕ → ℕ) (n : ℕ) (xs : List ℕ) → ((m : ℕ) → m ≢ n → f m ≡ g m)
    → times n xs ≡ 0 → total f xs ≡ total g xs
total-elsewhere f g n [] same h = refl
total-elsewhere f g n (x ∷ xs) same h = ⊎_elim
    (λ e. let o = one_if-same x n e in absurd (omega arith))
    (λ ne. let v = same x ne in let r = total-elsewhere f g n xs same (omega arith) in omega arith)
    (cases_eq x n)

module _ {A : Type 0} where
  pub total-append : (f : A → ℕ) (xs ys : List A) → total f (xs ++ ys) ≡ total f xs + total f ys
  total-append f [] ys = omega arith
  total-append f (x ∷ xs) ys = let r = total-append f xs ys in omega arith

  pub total-set : (f : A → ℕ) (xs : List A) (i : ℕ) (v d : A) → i < length xs
      → total f (set xs i v) + f (get_or xs i d) ≡ total f xs + f v
  total-set f [] i v d h = absurd (omega arith)
  total-set f (x ∷ xs) zero v d h = omega arith
  total-set f (x ∷ xs) (suc i) v d h = let r = total-set f xs i v d (omega arith) in omega arith

  pub total-le-length : (f : A → ℕ) (xs : List A) → ((x : A) → f x ≤ 1) → total f xs ≤ length xs
  total-le-length f [] few = omega arith
  total-le-length f (x ∷ xs) few = let h = few x in let r = total-le-length f xs few in omega arith

  pub at-le-total : (f : A → ℕ) (xs : List A) (i : ℕ) (d : A) → i < length xs
      → f (get_or xs i d) ≤ total f xs
  at-le-total f [] i d h = absurd (omega arith)
  at-le-total f (x ∷ xs) zero d h = omega arith
  at-le-total f (x ∷ xs) (suc i) d h = let r = at-le-total f xs i d (omega arith) in omega arith

  -- what holds of the new entry and of each other number holds of each number
  pub each-set : (xs : List A) (i : ℕ) (v d : A) (P Q : ℕ → A → Type 0) → i < length xs → Q i v
      → ((j : ℕ) → j ≢ i → P j (get_or xs j d) → Q j (get_or xs j d))
      → ((j : ℕ) → P j (get_or xs j d)) → (j : ℕ) → Q j (get_or (set xs i v) j d)
  each-set xs i v d P Q h here others all j = ⊎_elim
      (λ e. subst (λ k. Q k (get_or (set xs i v) k d)) (sym e)
      (subst (λ y. Q i y) (sym (get_or-set_same xs i v d h)) here))
      (λ ne. subst (λ y. Q j y) (sym (get_or-set_other xs i j v d ne)) (others j ne (all j)))
      (cases_eq j i)

  pub get_or-set_default : (xs : List A) (i : ℕ) (d : A) → get_or (set xs i d) i d ≡ d
  get_or-set_default xs i d = ⊎_elim
      (λ h. get_or-set_same xs i d d h)
      (λ h. let e = length-set xs i d in get_or_past (set xs i d) i d (omega arith))
      (cases_lt i (length xs))

  total-same : (f : A → ℕ) (d : A) (xs ys : List A) → length xs ≡ length ys
      → ((j : ℕ) → get_or xs j d ≡ get_or ys j d) → total f xs ≡ total f ys
  total-same f d [] [] l same = refl
  total-same f d [] (y ∷ ys) l same = absurd (omega arith)
  total-same f d (x ∷ xs) [] l same = absurd (omega arith)
  total-same f d (x ∷ xs) (y ∷ ys) l same = let e = ap f (same 0) in
      let r = total-same f d xs ys (omega arith) (λ j. same (suc j)) in omega arith

  -- two lists that differ at one place have sums that differ by what is there
  pub total-one_place : (f : A → ℕ) (d : A) (xs ys : List A) (i : ℕ) → length xs ≡ length ys
      → ((j : ℕ) → j ≢ i → get_or xs j d ≡ get_or ys j d)
      → total f xs + f (get_or ys i d) ≡ total f ys + f (get_or xs i d)
  total-one_place f d [] [] i l same = refl
  total-one_place f d [] (y ∷ ys) i l same = absurd (omega arith)
  total-one_place f d (x ∷ xs) [] i l same = absurd (omega arith)
  total-one_place f d (x ∷ xs) (y ∷ ys) zero l same = let r = total-same f d xs ys (omega arith)
      (λ j. same (suc j) (omega arith)) in omega arith
  total-one_place f d (x ∷ xs) (y ∷ ys) (suc i) l same =
      let e = ap f (same 0 (omega arith)) in
      let r = total-one_place f d xs ys i (omega arith) (λ j ne. same (suc j) (omega arith)) in
      omega arith

module _ {A : Type 0} where
  -- where all are the same, one more of them changes nothing
  pub set-replicate : (n : ℕ) (x : A) (i : ℕ) → set (replicate n x) i x ≡ replicate n x
  set-replicate zero x i = refl
  set-replicate (suc n) x zero = refl
  set-replicate (suc n) x (suc i) = ap (λ xs. x ∷ xs) (set-replicate n x i)

  pub get_or-replicate_same : (n : ℕ) (x : A) (i : ℕ) → get_or (replicate n x) i x ≡ x
  get_or-replicate_same zero x i = refl
  get_or-replicate_same (suc n) x zero = refl
  get_or-replicate_same (suc n) x (suc i) = get_or-replicate_same n x i

  -- what is taken from the front, and the rest
  pub front-remove : (xs : List A) (x : A) → 0 < length xs → x ≡ get_or xs 0 x
      → xs ≡ x ∷ remove xs 0
  front-remove [] x h e = absurd (omega arith)
  front-remove (y ∷ ys) x h e = ap (λ z. z ∷ ys) (sym e)

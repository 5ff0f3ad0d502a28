-- One list of all debts, and the lists of each actor.
use Rattle.std.proofs.Common.{◌≡◌, ◌≢◌, ℕ, zero, suc, ◌+◌, ◌<◌, ◌==◌, Bool, true, false, Some, None}
use Rattle.std.proofs.Common.{List, [], ◌∷◌, ◌++◌, length, map, filter, position, get_or, set, sym}
use Rattle.std.proofs.Common.{ap, refl, ◌∙◌, ⊎_elim, eq-eqb, ne_eqb, arith, get_or-set_same}
use Rattle.std.proofs.Common.{get_or-set_other, length-set}
use Rattle.std.proofs.lemmas.Bool.{cases_eq, cases_lt, cond-true, cond-false, eqb-true, eqb-false}
use Rattle.std.proofs.lemmas.Bool.{lt-ltb}
use Rattle.std.proofs.lemmas.List.{ext_get_or, get_or_past}
use Rattle.std.proofs.lemmas.List.FromFn.{get_or-map-range_with_len, length-map-range_with_len}
use Rattle.std.proofs.lemmas.List.Quantifiers.{position-Some}
use Rattle.std.proofs.lemmas.List.Sums.{fails_before_first}
use Rattle.std.specs.List.{range_with_len, position_or_len, remove}
use Rattle.event_word.specs.declared.world.debts.Debt.{Debt}
use Rattle.event_word.specs.Lists.{total, times, without}
use Rattle.event_word.specs.Debts.{debt, seats_owed, owed_lists, AreKnown}
use Rattle.event_word.proofs.Lists.{without-same, without-other, total-one_place}

module _ {A : Type 0} where
  -- no element passes where `position` finds none
  pub position-None : (p : A → Bool) (xs : List A) → position p xs ≡ None → (k : ℕ) (d : A)
      → k < length xs → p (get_or xs k d) ≡ false
  position-None p xs none k d h = ⊎_elim
      (λ lt. let found = cond-true _ (Some (position_or_len p xs)) None
      (lt-ltb (position_or_len p xs) (length xs) lt) in absurd (cc))
      (λ le. fails_before_first p xs k d (omega arith))
      (cases_lt (position_or_len p xs) (length xs))

-- the first n at place i is what `without` leaves out
pub remove-first : (n : ℕ) (xs : List ℕ) (i : ℕ) → i < length xs → (get_or xs i 0 == n) ≡ true
    → ((k : ℕ) → k < i → (get_or xs k 0 == n) ≡ false) → remove xs i ≡ without n xs
remove-first n [] i h at before = absurd (omega arith)
remove-first n (x ∷ xs) zero h at before = sym (without-same n x xs (eqb-true x n at))
remove-first n (x ∷ xs) (suc i) h at before =
    ap (λ ys. x ∷ ys) (remove-first n xs i (omega arith) at (λ k lt. before (suc k) (omega arith)))
    ∙ sym (without-other n x xs (eqb-false x n (before 0 (omega arith))))

pub without-absent : (n : ℕ) (xs : List ℕ)
    → ((k : ℕ) → k < length xs → (get_or xs k 0 == n) ≡ false) → without n xs ≡ xs
without-absent n [] none = refl
without-absent n (x ∷ xs) none =
    without-other n x xs (eqb-false x n (none 0 (omega arith)))
    ∙ ap (λ ys. x ∷ ys) (without-absent n xs (λ k lt. none (suc k) (omega arith)))

pub remove-position : (n : ℕ) (xs : List ℕ) (k : ℕ) → position (λ x. x == n) xs ≡ Some k
    → remove xs k ≡ without n xs
remove-position n xs k found = let q = position-Some (λ (x : ℕ). x == n) xs k 0 found in
    remove-first n xs k q.0 q.1 q.2

pub without-nowhere : (n : ℕ) (xs : List ℕ) → position (λ x. x == n) xs ≡ None → without n xs ≡ xs
without-nowhere n xs none =
    without-absent n xs (λ k h. position-None (λ (x : ℕ). x == n) xs none k 0 h)

-- the seat of a debt, if it is the actor's, comes first
seats_owed-mine : (a : ℕ) (d : Debt) (ds : List Debt) → (d.actor == a) ≡ true
    → seats_owed a (d ∷ ds) ≡ d.seat ∷ seats_owed a ds
seats_owed-mine a d ds e = ap (map (λ (x : Debt). x.seat))
    (cond-true (d.actor == a) (d ∷ filter (λ (x : Debt). x.actor == a) ds)
    (filter (λ (x : Debt). x.actor == a) ds) e)

seats_owed-other : (a : ℕ) (d : Debt) (ds : List Debt) → (d.actor == a) ≡ false
    → seats_owed a (d ∷ ds) ≡ seats_owed a ds
seats_owed-other a d ds e = ap (map (λ (x : Debt). x.seat))
    (cond-false (d.actor == a) (d ∷ filter (λ (x : Debt). x.actor == a) ds)
    (filter (λ (x : Debt). x.actor == a) ds) e)

-- cases on whether a debt is the actor's
by_owner : {P : Type 0} (a : ℕ) (d : Debt) → (d.actor ≡ a → (d.actor == a) ≡ true → P)
    → (d.actor ≢ a → (d.actor == a) ≡ false → P) → P
by_owner a d mine other = ⊎_elim (λ e. mine e (eq-eqb d.actor a e))
    (λ ne. other ne (ne_eqb d.actor a ne)) (cases_eq d.actor a)

pub seats_owed-append : (a : ℕ) (ds es : List Debt)
    → seats_owed a (ds ++ es) ≡ seats_owed a ds ++ seats_owed a es
seats_owed-append a [] es = refl
seats_owed-append a (d ∷ ds) es = let r = seats_owed-append a ds es in by_owner a d
    (λ _ t. seats_owed-mine a d (ds ++ es) t
    ∙ (ap (λ xs. d.seat ∷ xs) r
    ∙ ap (λ xs. xs ++ seats_owed a es) (sym (seats_owed-mine a d ds t))))
    (λ _ f. seats_owed-other a d (ds ++ es) f
    ∙ (r ∙ ap (λ xs. xs ++ seats_owed a es) (sym (seats_owed-other a d ds f))))

pub seats_owed-map_debt : (a : ℕ) (seats : List ℕ) → seats_owed a (map (debt a) seats) ≡ seats
seats_owed-map_debt a [] = refl
seats_owed-map_debt a (x ∷ xs) = seats_owed-mine a (debt a x) (map (debt a) xs) (eq-eqb a a refl)
    ∙ ap (λ ys. x ∷ ys) (seats_owed-map_debt a xs)

pub seats_owed-map_debt_other : (a b : ℕ) (seats : List ℕ) → b ≢ a
    → seats_owed b (map (debt a) seats) ≡ []
seats_owed-map_debt_other a b [] ne = refl
seats_owed-map_debt_other a b (x ∷ xs) ne = seats_owed-other b (debt a x) (map (debt a) xs)
    (ne_eqb a b (λ e. ne (sym e))) ∙ seats_owed-map_debt_other a b xs ne

-- the first debt of the actor, and the others
pub seats_owed-first : (a : ℕ) (ds : List Debt) (i : ℕ) (d : Debt) → i < length ds
    → ((get_or ds i d).actor == a) ≡ true → ((k : ℕ) → k < i → ((get_or ds k d).actor == a) ≡ false)
    → seats_owed a ds ≡ (get_or ds i d).seat ∷ seats_owed a (remove ds i)
seats_owed-first a [] i d h at before = absurd (omega arith)
seats_owed-first a (x ∷ xs) zero d h at before = seats_owed-mine a x xs at
seats_owed-first a (x ∷ xs) (suc i) d h at before = let no = before 0 (omega arith) in
    seats_owed-other a x xs no
    ∙ (seats_owed-first a xs i d (omega arith) at (λ k lt. before (suc k) (omega arith))
    ∙ ap (λ ys. (get_or xs i d).seat ∷ ys) (sym (seats_owed-other a x (remove xs i) no)))

pub seats_owed-remove_other : (a b : ℕ) (ds : List Debt) (i : ℕ) (d : Debt) → b ≢ a → i < length ds
    → ((get_or ds i d).actor == a) ≡ true → seats_owed b (remove ds i) ≡ seats_owed b ds
seats_owed-remove_other a b [] i d ne h at = absurd (omega arith)
seats_owed-remove_other a b (x ∷ xs) zero d ne h at = let e = eqb-true x.actor a at in
    sym (seats_owed-other b x xs (ne_eqb x.actor b (λ q. ne (sym q ∙ e))))
seats_owed-remove_other a b (x ∷ xs) (suc i) d ne h at = let r =
    seats_owed-remove_other a b xs i d ne (omega arith) at in by_owner b x
    (λ _ t. seats_owed-mine b x (remove xs i) t
    ∙ (ap (λ ys. x.seat ∷ ys) r ∙ sym (seats_owed-mine b x xs t)))
    (λ _ f. seats_owed-other b x (remove xs i) f ∙ (r ∙ sym (seats_owed-other b x xs f)))

pub seats_owed-none : (a : ℕ) (ds : List Debt) (d : Debt)
    → ((k : ℕ) → k < length ds → ((get_or ds k d).actor == a) ≡ false) → seats_owed a ds ≡ []
seats_owed-none a [] d none = refl
seats_owed-none a (x ∷ xs) d none = seats_owed-other a x xs (none 0 (omega arith))
    ∙ seats_owed-none a xs d (λ k lt. none (suc k) (omega arith))

-- an actor that owes nothing is found nowhere
pub nowhere-seats_owed : (a : ℕ) (ds : List Debt) (i : ℕ) (d : Debt) → i < length ds
    → ((get_or ds i d).actor == a) ≡ true → seats_owed a ds ≡ [] → ⊥
nowhere-seats_owed a [] i d h at none = omega arith
nowhere-seats_owed a (x ∷ xs) zero d h at none = let e = seats_owed-mine a x xs at in cc
nowhere-seats_owed a (x ∷ xs) (suc i) d h at none = by_owner a x
    (λ _ t. let e = seats_owed-mine a x xs t in cc)
    (λ _ f. nowhere-seats_owed a xs i d (omega arith) at (sym (seats_owed-other a x xs f) ∙ none))

pub AreKnown-append : (n : ℕ) (ds es : List Debt) → AreKnown n ds → AreKnown n es
    → AreKnown n (ds ++ es)
AreKnown-append n [] es k l = l
AreKnown-append n (d ∷ ds) es k l = (k.0, AreKnown-append n ds es k.1 l)

pub AreKnown-map_debt : (n a : ℕ) (seats : List ℕ) → a < n → AreKnown n (map (debt a) seats)
AreKnown-map_debt n a [] h = tt
AreKnown-map_debt n a (x ∷ xs) h = (h, AreKnown-map_debt n a xs h)

pub AreKnown-remove : (n : ℕ) (ds : List Debt) (i : ℕ) → AreKnown n ds → AreKnown n (remove ds i)
AreKnown-remove n [] zero k = tt
AreKnown-remove n [] (suc i) k = tt
AreKnown-remove n (d ∷ ds) zero k = k.1
AreKnown-remove n (d ∷ ds) (suc i) k = (k.0, AreKnown-remove n ds i k.1)

pub actor_known : (n : ℕ) (ds : List Debt) (i : ℕ) (d : Debt) → AreKnown n ds → i < length ds
    → (get_or ds i d).actor < n
actor_known n [] i d k h = absurd (omega arith)
actor_known n (x ∷ xs) zero d k h = k.0
actor_known n (x ∷ xs) (suc i) d k h = actor_known n xs i d k.1 (omega arith)

pub length-owed_lists : (n : ℕ) (ds : List Debt) → length (owed_lists n ds) ≡ n
length-owed_lists n ds = length-map-range_with_len (λ a. seats_owed a ds) 0 n

pub get_or-owed_lists : (n : ℕ) (ds : List Debt) (a : ℕ) → a < n
    → get_or (owed_lists n ds) a [] ≡ seats_owed a ds
get_or-owed_lists n ds a h = get_or-map-range_with_len (λ b. seats_owed b ds) 0 n a a [] h
    (omega arith)

-- the lists after one actor's changed
pub owed_lists-set : (n a : ℕ) (ds es : List Debt) (seats : List ℕ) → a < n
    → seats_owed a es ≡ seats → ((b : ℕ) → b ≢ a → seats_owed b es ≡ seats_owed b ds)
    → owed_lists n es ≡ set (owed_lists n ds) a seats
owed_lists-set n a ds es seats h mine others =
    let l = length-owed_lists n ds in let m = length-owed_lists n es in
    let s = length-set (owed_lists n ds) a seats in
    ext_get_or [] (owed_lists n es) (set (owed_lists n ds) a seats) (omega arith)
    (λ b lt. let small : b < n = omega arith in ⊎_elim
    (λ e. get_or-owed_lists n es b small
    ∙ (ap (λ c. seats_owed c es) e
    ∙ (mine ∙ (sym (get_or-set_same (owed_lists n ds) a seats [] (omega arith))
    ∙ ap (λ c. get_or (set (owed_lists n ds) a seats) c []) (sym e)))))
    (λ ne. get_or-owed_lists n es b small
    ∙ (others b ne
    ∙ (sym (get_or-owed_lists n ds b small)
    ∙ sym (get_or-set_other (owed_lists n ds) a b seats [] ne))))
    (cases_eq b a))

total-nothing : (m from seat : ℕ)
    → total (times seat) (map (λ a. seats_owed a []) (range_with_len from m)) ≡ 0
total-nothing zero from seat = refl
total-nothing (suc m) from seat = let r = total-nothing m (from + 1) seat in omega arith

-- how often a seat is owed, in all lists and in the one
pub total-owed_lists : (n seat : ℕ) (ds : List Debt) → AreKnown n ds
    → total (times seat) (owed_lists n ds) ≡ times seat (map (λ d. d.seat) ds)
total-owed_lists n seat [] k = total-nothing n 0 seat
total-owed_lists n seat (d ∷ ds) k =
    let l = length-owed_lists n ds in let m = length-owed_lists n (d ∷ ds) in
    let r = total-owed_lists n seat ds k.1 in
    let there = get_or-owed_lists n (d ∷ ds) d.actor k.0
    ∙ seats_owed-mine d.actor d ds (eq-eqb d.actor d.actor refl) in
    let here = get_or-owed_lists n ds d.actor k.0 in
    let one = total-one_place (times seat) [] (owed_lists n (d ∷ ds)) (owed_lists n ds) d.actor
    (omega arith)
    (λ b ne. ⊎_elim
    (λ lt. get_or-owed_lists n (d ∷ ds) b lt
    ∙ (seats_owed-other b d ds (ne_eqb d.actor b (λ e. ne (sym e)))
    ∙ sym (get_or-owed_lists n ds b lt)))
    (λ le. get_or_past (owed_lists n (d ∷ ds)) b [] (omega arith)
    ∙ sym (get_or_past (owed_lists n ds) b [] (omega arith)))
    (cases_lt b n)) in
    let x = ap (times seat) there in let y = ap (times seat) here in omega arith

-- What a kind and numbers make has these numbers, and the other way round.
use Rattle.std.proofs.Common.{◌≡◌, ℕ, zero, suc, ◌^◌, ◌<◌, ◌≤◌, List, [], ◌∷◌, ◌++◌, length, map, take, drop, Bool, true, false, nat_le}
use Rattle.std.proofs.Common.{Option, Some, None, option_map, Result, Ok, Err, if◌then◌else◌, get_or, refl, ap, sym, ◌∙◌, subst, inl, inr, arith}
use Rattle.prepared_expressions.specs.declared.refusal.Refusal.{Refusal}
use Rattle.std.specs.Int.{w64, cast_signed, cast_unsigned}
use Rattle.tensor_terms.specs.Term.{Unary, each, constant, movement, pad, reduce, along}
use Rattle.tensor_terms.specs.Term.{broadcast, slice, shuffle, reshape, chip, reverse, stride}
use Rattle.tensor_terms.specs.Term.{Binary, pairwise, concat, contract, convolve, taking}
use Rattle.prepared_expressions.specs.declared.kind.UnaryKind.{UnaryKind}
use Rattle.prepared_expressions.specs.declared.kind.UnaryKind.TheVariants.{Each, Constant, Broadcast, Slice, Shuffle}
use Rattle.prepared_expressions.specs.declared.kind.UnaryKind.TheVariants.{Reshape, Chip, Reverse, Stride, Pad, Reduce, Along}
use Rattle.prepared_expressions.specs.declared.kind.BinaryKind.{BinaryKind}
use Rattle.prepared_expressions.specs.declared.kind.BinaryKind.TheVariants.{Pairwise, Concat, Contract, Convolve, Take}
use Rattle.prepared_expressions.specs.private.Made.{IsMadeOr, of_none, one_in, two_in, lists_in, cons_of, flag_in, flags_in, pairs_in, unary_from, binary_from}
use Rattle.prepared_expressions.specs.Recorded.{flag_number, pair_numbers, unary_kind, unary_numbers, binary_kind, binary_numbers, HasRange}
use Rattle.std.proofs.lemmas.Int.{to_z-of_z}
use Rattle.std.proofs.Math.Seq.{take-append_seam, drop-append_seam}
use Rattle.std.proofs.lemmas.Bool.{le-leb, leb-true}
use Rattle.std.proofs.lemmas.Int.{of_z-to_z}
use Rattle.std.proofs.lemmas.List.{take-append-drop, length-append, length-take}

-- flags and pairs are read again as they were written
flags_in-map : (fs : List Bool) → flags_in (map flag_number fs) ≡ Some fs
flags_in-map [] = refl
flags_in-map (true ∷ fs) = rw (flags_in-map fs) refl
flags_in-map (false ∷ fs) = rw (flags_in-map fs) refl

pairs_in-pair_numbers : (ps : List (ℕ × ℕ)) → pairs_in (pair_numbers ps) ≡ Some ps
pairs_in-pair_numbers [] = refl
pairs_in-pair_numbers (p ∷ ps) = rw (pairs_in-pair_numbers ps) refl

lists_in-lists : (xs ys : List ℕ) → lists_in (length xs ∷ xs ++ ys) ≡ Some (xs, ys)
lists_in-lists xs ys =
    let within : nat_le (length xs) (length (xs ++ ys)) ≡ true = le-leb (length xs) (length (xs ++ ys)) (omega (arith, length-append xs ys)) in
    rw (within, take-append_seam xs ys, drop-append_seam xs ys) refl

-- an operation is made of its kind and its numbers
pub unary_from-numbers : (o : Unary) → HasRange o → unary_from (unary_kind o) (unary_numbers o) ≡ Some o
unary_from-numbers (each o) fits = refl
unary_from-numbers (constant v) fits = ap (λ z. Some (constant z)) (to_z-of_z w64 v fits)
unary_from-numbers (movement (broadcast counts)) fits = refl
unary_from-numbers (movement (slice offsets extents)) fits = rw (lists_in-lists offsets extents) refl
unary_from-numbers (movement (shuffle order)) fits = refl
unary_from-numbers (movement (reshape sizes)) fits = refl
unary_from-numbers (movement (chip offset axis)) fits = refl
unary_from-numbers (movement (reverse flags)) fits = rw (flags_in-map flags) refl
unary_from-numbers (movement (stride steps)) fits = refl
unary_from-numbers (pad pairs) fits = rw (pairs_in-pair_numbers pairs) refl
unary_from-numbers (reduce r axes) fits = refl
unary_from-numbers (along o axis) fits = refl

pub binary_from-numbers : (o : Binary) → binary_from (binary_kind o) (binary_numbers o) ≡ Some o
binary_from-numbers (pairwise o) = refl
binary_from-numbers (concat axis) = refl
binary_from-numbers (contract pairs) = rw (pairs_in-pair_numbers pairs) refl
binary_from-numbers (convolve axes) = refl
binary_from-numbers (taking axis) = refl

-- what was found is no other
some : {A : Type 0} (P : A → Type 0) (x y : A) → Some x ≡ Some y → P x → P y
some P x y same holds = let e : x ≡ y = cc in subst P e holds

flag_number-flag_in : (n : ℕ) (b : Bool) → flag_in n ≡ Some b → flag_number b ≡ n
flag_number-flag_in zero b is = some (λ b. flag_number b ≡ zero) false b is refl
flag_number-flag_in (suc zero) b is = some (λ b. flag_number b ≡ suc zero) true b is refl
flag_number-flag_in (suc (suc n)) b is = cc

-- the first and the others of a list that was read
cons_of-some : {A : Type 0} (P : List A → Type 0) (x : Option A) (rest : Option (List A)) (ys : List A)
    → cons_of x rest ≡ Some ys → ((z : A) (zs : List A) → x ≡ Some z → rest ≡ Some zs → P (z ∷ zs)) → P ys
cons_of-some P None rest ys is holds = absurd (cc)
cons_of-some P (Some x) None ys is holds = absurd (cc)
cons_of-some P (Some x) (Some xs) ys is holds = some P (x ∷ xs) ys is (holds x xs refl refl)

flags_in-back : (ns : List ℕ) (fs : List Bool) → flags_in ns ≡ Some fs → map flag_number fs ≡ ns
flags_in-back [] fs is = some (λ fs. map flag_number fs ≡ []) [] fs is refl
flags_in-back (n ∷ ns) fs is =
    cons_of-some (λ fs. map flag_number fs ≡ n ∷ ns) (flag_in n) (flags_in ns) fs is
    (λ b bs first others. rw (flag_number-flag_in n b first, flags_in-back ns bs others) refl)

pairs_in-back : (ns : List ℕ) (ps : List (ℕ × ℕ)) → pairs_in ns ≡ Some ps → pair_numbers ps ≡ ns
pairs_in-back [] ps is = some (λ ps. pair_numbers ps ≡ []) [] ps is refl
pairs_in-back (n ∷ []) ps is = absurd (cc)
pairs_in-back (n ∷ m ∷ ns) ps is =
    cons_of-some (λ ps. pair_numbers ps ≡ n ∷ m ∷ ns) (Some (n, m)) (pairs_in ns) ps is
    (λ q qs first others. some (λ q. pair_numbers (q ∷ qs) ≡ n ∷ m ∷ ns) (n, m) q first (rw (pairs_in-back ns qs others) refl))

lists_in-back : (ns : List ℕ) (p : List ℕ × List ℕ) → lists_in ns ≡ Some p → length p.0 ∷ p.0 ++ p.1 ≡ ns
lists_in-back [] p is = absurd (cc)
lists_in-back (n ∷ ns) p is = by_case (nat_le n (length ns)) refl is
  where
    by_case : (b : Bool) → nat_le n (length ns) ≡ b
        → (if b then Some (take n ns, drop n ns) else None) ≡ Some p → length p.0 ∷ p.0 ++ p.1 ≡ n ∷ ns
    by_case false within is = absurd (cc)
    by_case true within is =
        let few : n ≤ length ns = leb-true n (length ns) within in
        let long : length (take n ns) ≡ n = omega (arith, length-take n ns) in
        some (λ p. length p.0 ∷ p.0 ++ p.1 ≡ n ∷ ns) (take n ns, drop n ns) p is
        (rw (long, take-append-drop n ns) refl)

-- the first of them is below 2 ^ 64
abbrev pub Fit : List ℕ → Type 0
Fit ns = get_or ns 0 0 < 2 ^ 64

one_in-back : (ns : List ℕ) (n : ℕ) → one_in ns ≡ Some n → n ∷ [] ≡ ns
one_in-back [] n is = absurd (cc)
one_in-back (m ∷ []) n is = some (λ n. n ∷ [] ≡ m ∷ []) m n is refl
one_in-back (m ∷ k ∷ ns) n is = absurd (cc)

two_in-back : (ns : List ℕ) (p : ℕ × ℕ) → two_in ns ≡ Some p → p.0 ∷ p.1 ∷ [] ≡ ns
two_in-back [] p is = absurd (cc)
two_in-back (n ∷ []) p is = absurd (cc)
two_in-back (n ∷ m ∷ []) p is = some (λ p. p.0 ∷ p.1 ∷ [] ≡ n ∷ m ∷ []) (n, m) p is refl
two_in-back (n ∷ m ∷ k ∷ ns) p is = absurd (cc)

-- what was made, and of what
pub option_map-some : {A B : Type 0} (P : B → Type 0) (f : A → B) (x : Option A) (y : B)
    → option_map f x ≡ Some y → ((z : A) → x ≡ Some z → P (f z)) → P y
option_map-some P f None y is holds = absurd (cc)
option_map-some P f (Some x) y is holds = some P (f x) y is (holds x refl)

-- what is made of a kind and numbers has that kind and those numbers
abbrev pub Has : UnaryKind → List ℕ → Unary → Type 0
Has k ns o = (unary_kind o ≡ k) × (unary_numbers o ≡ ns)

pub unary_from-back : (k : UnaryKind) (ns : List ℕ) (o : Unary) → Fit ns → unary_from k ns ≡ Some o → Has k ns o
unary_from-back (Each s) [] o fit is = some (Has (Each s) []) (each s) o is (refl, refl)
unary_from-back (Each s) (n ∷ ns) o fit is = absurd (cc)
unary_from-back Constant ns o fit is =
    option_map-some (Has Constant ns) (λ v. constant (cast_signed w64 v)) (one_in ns) o is
    (λ v found. (refl, by_back ns v fit (one_in-back ns v found)))
  where
    by_back : (ns : List ℕ) (v : ℕ) → Fit ns → v ∷ [] ≡ ns → cast_unsigned w64 (cast_signed w64 v) ∷ [] ≡ ns
    by_back ns v fit is =
        let small : get_or (v ∷ []) 0 0 < 2 ^ 64 = subst (λ l. get_or l 0 0 < 2 ^ 64) (sym is) fit in
        rw (of_z-to_z w64 v small) is
unary_from-back Broadcast ns o fit is = some (Has Broadcast ns) (movement (broadcast ns)) o is (refl, refl)
unary_from-back Slice ns o fit is =
    option_map-some (Has Slice ns) (λ p. movement (slice p.0 p.1)) (lists_in ns) o is
    (λ p found. (refl, lists_in-back ns p found))
unary_from-back Shuffle ns o fit is = some (Has Shuffle ns) (movement (shuffle ns)) o is (refl, refl)
unary_from-back Reshape ns o fit is = some (Has Reshape ns) (movement (reshape ns)) o is (refl, refl)
unary_from-back Chip ns o fit is =
    option_map-some (Has Chip ns) (λ p. movement (chip p.0 p.1)) (two_in ns) o is
    (λ p found. (refl, two_in-back ns p found))
unary_from-back Reverse ns o fit is =
    option_map-some (Has Reverse ns) (λ flags. movement (reverse flags)) (flags_in ns) o is
    (λ fs found. (refl, flags_in-back ns fs found))
unary_from-back Stride ns o fit is = some (Has Stride ns) (movement (stride ns)) o is (refl, refl)
unary_from-back Pad ns o fit is =
    option_map-some (Has Pad ns) pad (pairs_in ns) o is (λ ps found. (refl, pairs_in-back ns ps found))
unary_from-back (Reduce r) ns o fit is = some (Has (Reduce r) ns) (reduce r ns) o is (refl, refl)
unary_from-back (Along s) ns o fit is =
    option_map-some (Has (Along s) ns) (λ axis. along s axis) (one_in ns) o is (λ n found. (refl, one_in-back ns n found))

abbrev pub HasTwo : BinaryKind → List ℕ → Binary → Type 0
HasTwo k ns o = (binary_kind o ≡ k) × (binary_numbers o ≡ ns)

pub binary_from-back : (k : BinaryKind) (ns : List ℕ) (o : Binary) → binary_from k ns ≡ Some o → HasTwo k ns o
binary_from-back (Pairwise s) [] o is = some (HasTwo (Pairwise s) []) (pairwise s) o is (refl, refl)
binary_from-back (Pairwise s) (n ∷ ns) o is = absurd (cc)
binary_from-back Concat ns o is =
    option_map-some (HasTwo Concat ns) concat (one_in ns) o is (λ n found. (refl, one_in-back ns n found))
binary_from-back Contract ns o is =
    option_map-some (HasTwo Contract ns) contract (pairs_in ns) o is (λ ps found. (refl, pairs_in-back ns ps found))
binary_from-back Convolve ns o is = some (HasTwo Convolve ns) (convolve ns) o is (refl, refl)
binary_from-back Take ns o is =
    option_map-some (HasTwo Take ns) taking (one_in ns) o is (λ n found. (refl, one_in-back ns n found))

-- no numbers stand beside what needs none
-- what was made of no numbers shows what stands for it
pub made-none : {A B : Type 0} (shows : A → B) (x : A) (y : B) (ns : List ℕ) (r : Result A Refusal) → y ≡ shows x
    → IsMadeOr (λ x. x) (of_none x ns) r → IsMadeOr shows (of_none y ns) r
made-none shows x y [] (Ok z) same made = let e : x ≡ z = cc in ap Some (same ∙ ap shows e)
made-none shows x y (n ∷ ns) (Ok z) same made = absurd (cc)
made-none shows x y [] (Err f) same made =
    elim made [
      | inl memory ↦ inl memory
      | inr none ↦ absurd (let e : Some x ≡ None = none.1 in cc)
    ]
made-none shows x y (n ∷ ns) (Err f) same made =
    elim made [
      | inl memory ↦ inl memory
      | inr none ↦ inr (none.0, refl)
    ]

pub of_none-back : {A : Type 0} (x y : A) (ns : List ℕ) → of_none x ns ≡ Some y → (x ≡ y) × (ns ≡ [])
of_none-back x y [] is = (cc, refl)
of_none-back x y (n ∷ ns) is = absurd (cc)

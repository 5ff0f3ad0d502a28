-- Zeroes before and behind, lowered by concatenations.
use Rattle.std.proofs.Common.{◌≡◌, ℕ, zero, suc, ◌+◌, ◌-◌, ◌<◌, ◌≤◌, ℤ, pos, List, [], ◌∷◌, length, get_or, set, remove}
use Rattle.std.proofs.Common.{true, false, nat_eq, nat_lt, nat_le, Ok, refl, ap, sym, subst, ◌∙◌, inl, inr, arith}
use Rattle.std.proofs.Math.ListN.{length-set}
use Rattle.std.proofs.lemmas.Bool.{cases_Bool, and_from, eq-eqb, ltb-true, ltb-false, lt-ltb, le-ltb, le-leb, lt-leb}
use Rattle.std.proofs.lemmas.List.{get_or-set_same}
use Rattle.std.specs.Cmp.Lexicographic.{pointwise}
use Rattle.tensor_shape.specs.Index.{IsIndexOf}
use Rattle.tensor_shape.specs.Legal.{highest_rank, widest, most_elements, bulk_of, IsLegal, are_legal}
use Rattle.tensor_terms.specs.Concatenation.{joined_dims, concatenated_dims, concatenated}
use Rattle.tensor_ops.specs.private.Meaning.{meaning}
use Rattle.tensor_terms.specs.Padding.{padded_dims, padded}
use Rattle.tensor_ops.specs.private.Lowering.{Gives, meaning_at}
use Rattle.tensor_terms.specs.Shaped.{Shaped}
use Rattle.tensor_values.specs.Interleaving.{padded_along}
use Rattle.tensor_ops.specs.declared.lowered.Lowered.{Lowered}
use Rattle.tensor_terms.proofs.Pads.{first_pads, padded_dims-more, bulk_of-first_pads, length-padded_dims, bulk_of-set-le, padded_along-other, padded-more}
use Rattle.tensor_ops.proofs.Lowerings.{gives-index}
use Rattle.tensor_terms.proofs.InterleavedTerms.{set-itself, IsIndexOf-set}

-- one size of a list, and again
set-again : (k x y : ℕ) (ds : List ℕ) → set (set ds k x) k y ≡ set ds k y
set-again k x y [] = refl
set-again zero x y (d ∷ ds) = refl
set-again (suc k) x y (d ∷ ds) = ap (λ l. d ∷ l) (set-again k x y ds)

remove-set : (k x : ℕ) (ds : List ℕ) → remove (set ds k x) k ≡ remove ds k
remove-set k x [] = refl
remove-set zero x (d ∷ ds) = refl
remove-set (suc k) x (d ∷ ds) = ap (λ l. d ∷ l) (remove-set k x ds)

pointwise-itself : (xs : List ℕ) → pointwise nat_eq xs xs ≡ true
pointwise-itself [] = refl
pointwise-itself (x ∷ xs) = rw (eq-eqb x x refl) (pointwise-itself xs)

-- legal with a size, so with a smaller one
pub IsLegal-set-le : (k x y : ℕ) (ds : List ℕ) → x ≤ y → IsLegal (set ds k y) → IsLegal (set ds k x)
IsLegal-set-le k x y ds le legal = record {
  rank = omega (arith, legal.rank, length-set ds k x, length-set ds k y);
  elements = omega (arith, legal.elements, bulk_of-set-le k x y ds le);
}

-- the dims of a concatenation of dims that are the same but for their sizes along the axis
concatenated_dims-sizes : (k x y : ℕ) (ds : List ℕ) → k < length ds → IsLegal (set ds k (x + y))
    → concatenated_dims widest k (set ds k x) (set ds k y) ≡ Ok (set ds k (x + y))
concatenated_dims-sizes k x y ds within legal =
    let first = length-set ds k x in
    let second = length-set ds k y in
    let joined : joined_dims k (set ds k x) (set ds k y) ≡ set ds k (x + y) =
    ap (λ n. set (set ds k x) k (n + get_or (set ds k y) k 0)) (get_or-set_same ds k x 0 within)
    ∙ ap (λ n. set (set ds k x) k (x + n)) (get_or-set_same ds k y 0 within) ∙ set-again k x (x + y) ds in
    let same : nat_eq (length (set ds k x)) (length (set ds k y)) ≡ true = eq-eqb _ _ (omega (arith, first, second)) in
    let in_rank : nat_lt k (length (set ds k x)) ≡ true = lt-ltb k (length (set ds k x)) (omega (arith, first)) in
    let others : pointwise nat_eq (remove (set ds k x) k) (remove (set ds k y) k) ≡ true =
    ap (λ l. pointwise nat_eq l (remove (set ds k y) k)) (remove-set k x ds)
    ∙ ap (pointwise nat_eq (remove ds k)) (remove-set k y ds) ∙ pointwise-itself (remove ds k) in
    let are : are_legal widest (joined_dims k (set ds k x) (set ds k y)) ≡ true =
    ap (are_legal widest) joined
    ∙ and_from (nat_le (length (set ds k (x + y))) highest_rank) (nat_le (bulk_of (set ds k (x + y))) most_elements)
    (le-leb (length (set ds k (x + y))) highest_rank legal.rank) (le-leb (bulk_of (set ds k (x + y))) most_elements legal.elements) in
    rw (same, in_rank, others, are) (ap {A = List ℕ} {B = Shaped} Ok joined)

-- those with zeroes before, and then with zeroes behind
pub front-dims : (k b c : ℕ) (ds front : List ℕ) → front ≡ set ds k b → k < length ds → IsLegal (set ds k (b + get_or ds k 0 + c))
    → concatenated_dims widest k front ds ≡ Ok (set ds k (b + get_or ds k 0))
front-dims k b c ds front is within legal =
    ap (λ l. concatenated_dims widest k l ds) is
    ∙ ap (λ l. concatenated_dims widest k (set ds k b) l) (sym (set-itself k ds))
    ∙ concatenated_dims-sizes k b (get_or ds k 0) ds within
    (IsLegal-set-le k (b + get_or ds k 0) (b + get_or ds k 0 + c) ds (omega arith) legal)

pub back-dims : (k b c : ℕ) (ds part back : List ℕ) → part ≡ set ds k (b + get_or ds k 0) → back ≡ set ds k c → k < length ds
    → IsLegal (set ds k (b + get_or ds k 0 + c)) → concatenated_dims widest k part back ≡ Ok (set ds k (b + get_or ds k 0 + c))
back-dims k b c ds part back is_part is_back within legal =
    ap (λ l. concatenated_dims widest k l back) is_part
    ∙ ap (λ l. concatenated_dims widest k (set ds k (b + get_or ds k 0)) l) is_back
    ∙ concatenated_dims-sizes k (b + get_or ds k 0) c ds within legal

-- the values with zeroes before and behind
pub zeroes-around : (k b c : ℕ) (ds fs ps bs rs is : List ℕ) (front part back : Lowered) (a : List ℕ → ℤ) → k < length ds
    → fs ≡ set ds k b → ps ≡ set ds k (b + get_or ds k 0) → rs ≡ set ds k (b + get_or ds k 0 + c)
    → ((p : ℕ) → meaning front p ≡ pos 0) → ((p : ℕ) → meaning back p ≡ pos 0)
    → Gives part ps (concatenated k fs (meaning_at front fs) a) → IsIndexOf rs is
    → concatenated k ps (meaning_at part ps) (meaning_at back bs) is ≡ padded_along k b ds a is
zeroes-around k b c ds fs ps bs rs is front part back a within is_front is_part is_whole none_before none_behind gives index =
    let i : ℕ = get_or is k 0 in
    let d : ℕ = get_or ds k 0 in
    let whole : get_or ps k 0 ≡ b + d = ap (λ l. get_or l k 0) is_part ∙ get_or-set_same ds k (b + d) 0 within in
    let before : get_or fs k 0 ≡ b = ap (λ l. get_or l k 0) is_front ∙ get_or-set_same ds k b 0 within in
    elim (cases_Bool (nat_lt i (get_or ps k 0))) [
      | inl here ↦
          let high : i < b + d = omega (arith, ltb-true i (get_or ps k 0) here, whole) in
          let in_whole : IsIndexOf (set ds k (b + d + c)) is = subst (λ l. IsIndexOf l is) is_whole index in
          let in_part : IsIndexOf ps is = subst (λ l. IsIndexOf l is) (sym is_part) (IsIndexOf-set k (b + d + c) (b + d) ds is within in_whole high) in
          let inner = gives-index part ps (concatenated k fs (meaning_at front fs) a) is gives in_part in
          elim (cases_Bool (nat_lt i (get_or fs k 0))) [
            | inl low ↦
                let under : nat_le b i ≡ false = lt-leb b i (omega (arith, ltb-true i (get_or fs k 0) low, before)) in
                let zero_there : concatenated k fs (meaning_at front fs) a is ≡ pos 0 = rw low (none_before _) in
                rw (here, under) (inner ∙ zero_there)
            | inr up ↦
                let over : nat_le b i ≡ true = le-leb b i (omega (arith, ltb-false i (get_or fs k 0) up, before)) in
                let below : nat_lt i (b + d) ≡ true = lt-ltb i (b + d) high in
                let value_there : concatenated k fs (meaning_at front fs) a is ≡ a (set is k (i - b)) =
                rw up (ap (λ n. a (set is k (i - n))) before) in
                rw (here, over, below) (inner ∙ value_there)
          ]
      | inr past ↦
          let over : nat_le b i ≡ true = le-leb b i (omega (arith, ltb-false i (get_or ps k 0) past, whole)) in
          let above : nat_lt i (b + d) ≡ false = le-ltb i (b + d) (omega (arith, ltb-false i (get_or ps k 0) past, whole)) in
          rw (past, over, above) (none_behind _)
    ]

-- one axis more of a pad
length-first_pads : (k : ℕ) (ps : List (ℕ × ℕ)) → length (first_pads k ps) ≡ length ps
length-first_pads zero [] = refl
length-first_pads zero (p ∷ ps) = ap suc (length-first_pads zero ps)
length-first_pads (suc k) [] = refl
length-first_pads (suc k) (p ∷ ps) = ap suc (length-first_pads k ps)

pub length-padded_first : (k : ℕ) (ps : List (ℕ × ℕ)) (ds : List ℕ) → length ps ≡ length ds → length (padded_dims (first_pads k ps) ds) ≡ length ds
length-padded_first k ps ds same = length-padded_dims (first_pads k ps) ds (length-first_pads k ps ∙ same)

pub IsLegal-first_pads : (k : ℕ) (ps : List (ℕ × ℕ)) (ds : List ℕ) → length ps ≡ length ds → IsLegal (padded_dims ps ds)
    → IsLegal (padded_dims (first_pads k ps) ds)
IsLegal-first_pads k ps ds same legal = record {
  rank = omega (arith, legal.rank, length-padded_first k ps ds same, length-padded_dims ps ds same);
  elements = omega (arith, legal.elements, bulk_of-first_pads k ps ds);
}

module _ (k : ℕ) (ps : List (ℕ × ℕ)) (ds es : List ℕ) (same : length ps ≡ length ds) (within : k < length ps)
    (dims : es ≡ padded_dims (first_pads k ps) ds) where
  size-there : get_or es k 0 ≡ get_or ds k 0
  size-there = ap (λ l. get_or l k 0) dims ∙ (padded_dims-more k ps ds same within).0

  pub set-first_pads : set es k ((get_or ps k (0, 0)).0 + get_or es k 0 + (get_or ps k (0, 0)).1) ≡ padded_dims (first_pads (suc k) ps) ds
  set-first_pads =
      ap (λ n. set es k ((get_or ps k (0, 0)).0 + n + (get_or ps k (0, 0)).1)) size-there
      ∙ ap (λ l. set l k ((get_or ps k (0, 0)).0 + get_or ds k 0 + (get_or ps k (0, 0)).1)) dims
      ∙ sym (padded_dims-more k ps ds same within).1

  pub padded-next : (part : Lowered) (a : List ℕ → ℤ) (is : List ℕ) → Gives part es (padded (first_pads k ps) ds a)
      → IsIndexOf (set es k ((get_or ps k (0, 0)).0 + get_or es k 0 + (get_or ps k (0, 0)).1)) is → length is ≡ length ds
      → padded_along k (get_or ps k (0, 0)).0 es (meaning_at part es) is ≡ padded (first_pads (suc k) ps) ds a is
  padded-next part a is gives index long =
      let in_rank : k < length es = omega (arith, ap length dims, length-padded_first k ps ds same) in
      padded_along-other k (get_or ps k (0, 0)).0 ((get_or ps k (0, 0)).0 + get_or es k 0 + (get_or ps k (0, 0)).1) es is
      (meaning_at part es) (padded (first_pads k ps) ds a) in_rank index (λ js. gives-index part es (padded (first_pads k ps) ds a) js gives)
      ∙ rw size-there refl
      ∙ padded-more k ps ds is a same long within

-- Terms that are recorded one behind the other.
use Rattle.std.proofs.Common.{◌≡◌, ◌<◌, ◌≤◌, ◌+◌, ℕ, zero, suc, true, false, List, [], ◌∷◌, ◌++◌, length, take, drop}
use Rattle.std.proofs.Common.{refl, ap, sym, ◌∙◌, subst, arith, append_assoc, get_or, Err, IsOk, is_ok}
use Rattle.std.proofs.Common.{length-append}
use Rattle.std.proofs.lemmas.Bool.{and_parts, and_from}
use Rattle.std.proofs.lemmas.List.{append-nil, get_or_append_left, length-map}
use Rattle.std.specs.List.{All}
use Rattle.std.proofs.lemmas.List.Elements.{All-append}
use Rattle.std.proofs.Math.Seq.{get_or-append_seam, take-append_seam, drop-append_seam}
use Rattle.tensor_ops.specs.Bounds.{Bounds}
use Rattle.tensor_ops.specs.Contents.{Contents}
use Rattle.tensor_ops.specs.Legal.{widest, IsPossible}
use Rattle.tensor_ops.specs.Result.{dims_of}
use Rattle.tensor_ops.specs.Sequence.{worked_out}
use Rattle.tensor_ops.specs.Value.{tensor_of}
use Rattle.tensor_terms.specs.declared.fault.ExprFault.{ExprFault}
use Rattle.tensor_ops.proofs.Widening.{dims_of-wider}
use Rattle.tensor_terms.specs.Term.{Term, has_inputs}
use Rattle.expr_reader.specs.Bindings.{have_inputs, term_under, terms_under}
use Rattle.expr_reader.specs.declared.binding.Binding.{Binding}
use Rattle.expr_reader.proofs.Bound.{worked_out-append}
use Rattle.prepared_expressions.specs.Prepared.{IsWritable}
use Rattle.prepared_expressions.specs.Ready.{HaveDims}
use Rattle.prepared_expressions.specs.Recorded.{recorded, recorded_all}
use Rattle.prepared_expressions.specs.private.ToldAll.{AreRecorded}

-- what can be written, one behind the other
pub writable-push : (ts : List Term) (t : Term) → All IsWritable ts → IsWritable t → All IsWritable (ts ++ t ∷ [])
writable-push ts t first last = All-append IsWritable ts (t ∷ []) first one
  where
    one : All IsWritable (t ∷ [])
    one zero d below = last
    one (suc k) d below = absurd (omega arith)

pub writable-first : (ts us : List Term) → All IsWritable (ts ++ us) → All IsWritable ts
writable-first ts us all k d below =
    subst IsWritable (get_or_append_left ts us d k below) (all k d (omega (arith, length-append ts us, below)))

pub writable-last : (ts : List Term) (t : Term) → All IsWritable (ts ++ t ∷ []) → IsWritable t
writable-last ts t all =
    subst IsWritable (get_or-append_seam ts t [] t) (all (length ts) t (omega (arith, length-append ts (t ∷ []))))

-- the term of one of the bindings
pub writable-at : (bs : List Binding) (i : ℕ) (b : Binding) → i < length bs → b ≡ get_or bs i b → All IsWritable (terms_under bs)
    → IsWritable (term_under b)
writable-at [] i b more is all = absurd (omega arith)
writable-at (x ∷ bs) zero b more is all = subst (λ y. IsWritable (term_under y)) (sym is) (all 0 (term_under b) (omega arith))
writable-at (x ∷ bs) (suc i) b more is all = writable-at bs i b (omega arith) is (λ k d below. all (suc k) d (omega arith))

pub recorded_all-append : (ts us : List Term) (rest : List ℕ)
    → recorded_all (ts ++ us) rest ≡ recorded_all ts (recorded_all us rest)
recorded_all-append [] us rest = refl
recorded_all-append (t ∷ ts) us rest = ap (recorded t) (recorded_all-append ts us rest)

-- terms have their inputs where the first of them have, and the others over the tensors of those
pub have_inputs-join : (ts us : List Term) (count : ℕ) → have_inputs ts count ≡ true
    → have_inputs us (count + length ts) ≡ true → have_inputs (ts ++ us) count ≡ true
have_inputs-join [] us count first others = subst (λ n. have_inputs us n ≡ true) (omega arith) others
have_inputs-join (t ∷ ts) us count first others =
    let parts = and_parts (has_inputs t count) (have_inputs ts (count + 1)) first in
    and_from (has_inputs t count) (have_inputs (ts ++ us) (count + 1)) parts.0
    (have_inputs-join ts us (count + 1) parts.1 (subst (λ n. have_inputs us n ≡ true) (omega arith) others))

-- one term alone
pub have_inputs-one : (t : Term) (count : ℕ) → has_inputs t count ≡ true → have_inputs (t ∷ []) count ≡ true
have_inputs-one t count has = and_from (has_inputs t count) true has refl

-- bindings, and a term behind them
pub have_inputs-bound : (bs : List Binding) (t : Term) (count : ℕ) → have_inputs (terms_under bs) count ≡ true
    → has_inputs t (count + length bs) ≡ true → have_inputs (terms_under bs ++ t ∷ []) count ≡ true
have_inputs-bound bs t count first last =
    have_inputs-join (terms_under bs) (t ∷ []) count first
    (have_inputs-one t (count + length (terms_under bs))
    (subst (λ n. has_inputs t (count + n) ≡ true) (sym (length-map bs term_under)) last))

module _ (bounds : Bounds) (inputs : List Contents) where
  -- of these terms some were read and evaluated, and others are left: a next one, and the numbers left record it first
  pub record IsLeft (done : List Term) (left : List ℕ) (tensors : List Contents) (ts : List Term) : Type 0 where
    pub term : Term
    pub others : List Term
    pub all : ts ≡ done ++ term ∷ others
    pub numbers : left ≡ recorded term (recorded_all others [])
    pub has : has_inputs term (length tensors) ≡ true
    pub others_have : have_inputs others (length tensors + 1) ≡ true
    pub writable : All IsWritable (term ∷ others)
    pub dims : HaveDims bounds ts inputs → HaveDims bounds (term ∷ others) tensors

  IsLeft-from : (done : List Term) (left : List ℕ) (tensors : List Contents) (ts others : List Term)
      → ts ≡ done ++ others → left ≡ recorded_all others [] → have_inputs others (length tensors) ≡ true → All IsWritable others
      → (HaveDims bounds ts inputs → HaveDims bounds others tensors) → length done < length ts → IsLeft done left tensors ts
  IsLeft-from done left tensors ts [] all is has writable dims fewer = absurd (omega (arith, ap length (all ∙ append-nil done), fewer))
  IsLeft-from done left tensors ts (u ∷ us) all is has writable dims fewer =
      let parts = and_parts (has_inputs u (length tensors)) (have_inputs us (length tensors + 1)) has in
      record { term = u; others = us; all = all; numbers = is; has = parts.0; others_have = parts.1; writable = writable; dims = dims }

  module _ (numbers : List ℕ) (total : ℕ) where
    -- so many of the terms that the numbers record were read and evaluated
    pub record IsReadTo (count : ℕ) (left : List ℕ) (tensors : List Contents) : Type 0 where
      pub done : List Term
      pub many : length done ≡ count
      pub here : numbers ≡ recorded_all done left
      pub made : tensors ≡ worked_out done inputs
      pub leaves : (ts : List Term) → AreRecorded numbers total (length inputs) ts → IsLeft done left tensors ts

    pub IsReadTo-start : (tensors : List Contents) → tensors ≡ inputs → IsReadTo 0 numbers tensors
    IsReadTo-start tensors same = record {
      done = [];
      many = refl;
      here = refl;
      made = same;
      leaves = λ ts are. IsLeft-from [] numbers tensors ts ts refl are.here (ap (λ xs. have_inputs ts (length xs)) same ∙ are.has) are.writable
          (subst (HaveDims bounds ts) (sym same)) (omega (arith, are.many));
    }

    pub IsReadTo-next : (count : ℕ) (left : List ℕ) (tensors : List Contents) → IsReadTo count left tensors → count < total
        → (t : Term) (behind : List ℕ) (made : List Contents) → left ≡ recorded t behind → made ≡ tensors ++ tensor_of t tensors ∷ []
        → ((u : Term) (rest : List ℕ) → left ≡ recorded u rest → has_inputs u (length tensors) ≡ true → IsWritable u
        → (t ≡ u) × (behind ≡ rest))
        → IsReadTo (count + 1) behind made
    IsReadTo-next count left tensors to more t behind made is pushed told = record {
      done = to.done ++ t ∷ [];
      many = omega (arith, length-append to.done (t ∷ []), to.many);
      here = to.here ∙ ap (recorded_all to.done) is ∙ sym (recorded_all-append to.done (t ∷ []) behind);
      made = pushed ∙ ap (λ xs. xs ++ tensor_of t xs ∷ []) to.made ∙ sym (worked_out-append to.done t inputs);
      leaves = λ ts are.
          let l = to.leaves ts are in
          let same = told l.term (recorded_all l.others []) l.numbers l.has (l.writable 0 t (omega arith)) in
          let pushed_too : tensors ++ tensor_of l.term tensors ∷ [] ≡ made =
          ap (λ u. tensors ++ tensor_of u tensors ∷ []) (sym same.0) ∙ sym pushed in
          let long : length tensors + 1 ≡ length made = omega (arith, ap length pushed, length-append tensors (tensor_of t tensors ∷ [])) in
          IsLeft-from (to.done ++ t ∷ []) behind made ts l.others
          (l.all ∙ ap (λ u. to.done ++ u ∷ l.others) (sym same.0) ∙ sym (append_assoc to.done (t ∷ []) l.others)) same.1
          (subst (λ n. have_inputs l.others n ≡ true) long l.others_have) (λ k d below. l.writable (suc k) d (omega arith))
          (λ have. subst (HaveDims bounds l.others) pushed_too (l.dims have).1)
          (omega (arith, length-append to.done (t ∷ []), to.many, are.many, more));
    }

-- a term that has no dims has none within bounds
pub lacks-dims : (bounds w : Bounds) (t u : Term) (xs : List Contents) (fault : ExprFault) → IsPossible bounds → w ≡ widest → t ≡ u
    → dims_of w t xs ≡ Err fault → IsOk (dims_of bounds u xs) → ⊥
lacks-dims bounds w t u xs fault possible wide same none some =
    let is : dims_of w t xs ≡ dims_of bounds u xs =
    ap (λ b. dims_of b t xs) wide ∙ ap (λ v. dims_of widest v xs) same ∙ (dims_of-wider bounds possible u xs).same some in
    let bad : false ≡ true = ap is_ok (sym none ∙ is) ∙ some in
    (cc)

-- where one term is left it is the last
pub none-after : (done ts others : List Term) (t : Term) → ts ≡ done ++ t ∷ others → length ts ≡ length done + 1 → others ≡ []
none-after done ts [] t all long = refl
none-after done ts (u ∷ us) t all long = absurd (omega (arith, ap length all, length-append done (t ∷ u ∷ us), long))

pub same-terms : (ts us : List Term) (t u : Term) → length ts ≡ length us → ts ++ t ∷ [] ≡ us ++ u ∷ [] → (ts ≡ us) × (t ≡ u)
same-terms ts us t u long is =
    let last : t ∷ [] ≡ u ∷ [] =
    sym (drop-append_seam ts (t ∷ [])) ∙ ap (drop (length ts)) is ∙ ap (λ k. drop k (us ++ u ∷ [])) long ∙ drop-append_seam us (u ∷ []) in
    (sym (take-append_seam ts (t ∷ [])) ∙ ap (take (length ts)) is ∙ ap (λ k. take k (us ++ u ∷ [])) long ∙ take-append_seam us (u ∷ []), cc)

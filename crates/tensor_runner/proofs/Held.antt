-- Tensors that nothing left reads need not be there.
use Rattle.std.proofs.Common.{◌≡◌, ℕ, ◌+◌, ◌-◌, ◌<◌, List, [], ◌∷◌, ◌++◌, length, drop, get_or, true}
use Rattle.std.proofs.Common.{IsOk, is_ok, refl, ap, sym, subst, ◌∙◌, arith, inl, inr}
use Rattle.std.proofs.lemmas.Bool.{cases_lt, or_left, or_right}
use Rattle.std.proofs.lemmas.List.{length-append, get_or_append_left, get_or-append_right}
use Rattle.expr_reader.specs.Bindings.{term_under}
use Rattle.expr_reader.specs.Contents.{Contents, input_of, nothing}
use Rattle.expr_reader.specs.Legal.{widest, IsPossible}
use Rattle.expr_reader.specs.Result.{dims_of}
use Rattle.expr_reader.specs.Term.{Term}
use Rattle.expr_reader.specs.Value.{tensor_of}
use Rattle.expr_reader.specs.declared.binding.Binding.{Binding}
use Rattle.tensor_ops.specs.Bounds.{Bounds}
use Rattle.tensor_ops.proofs.SameTensors.{IsSameTensor, tensor_of-same}
use Rattle.tensor_reduce.specs.Readers.{reads}
use Rattle.tensor_reduce.proofs.FusedTerms.{same-read}
use Rattle.tensor_runner.specs.private.Held.{is_read, AreHeldFor}
use Rattle.tensor_runner.specs.private.Left.{AreLeft}
use Rattle.tensor_runner.proofs.Left.{left-more, dims-first}

-- a tensor goes by what its term reads
module _ (t : Term) (held all : List Contents) (has : IsOk (dims_of widest t all))
    (there : (n : ℕ) → reads n t ≡ true → input_of held n ≡ input_of all n) where
  same-held : IsSameTensor t held t all
  same-held = same-read held all t has there

  dims_of-held : dims_of widest t held ≡ dims_of widest t all
  dims_of-held = same-held.dims

  tensor_of-held : tensor_of t held ≡ tensor_of t all
  tensor_of-held = tensor_of-same t t held all same-held

-- the first binding left is evaluated over what is held
module _ {bounds : Bounds} {b : Binding} {left : List Binding} {last : Term} {held whole all : List Contents}
    (are : AreHeldFor (b ∷ left) last held all) (first : AreLeft bounds (b ∷ left) last whole all) where
  read-first : (n : ℕ) → reads n (term_under b) ≡ true → input_of held n ≡ input_of all n
  read-first n reading = are.read n (or_left (reads n (term_under b)) (is_read n left last) reading)

  pub dims-held : IsPossible bounds → IsOk (dims_of widest (term_under b) held)
  dims-held possible =
      let known = dims-first first possible in
      ap is_ok (dims_of-held (term_under b) held all (ap is_ok known) read-first ∙ known)

  pub tensor-held : IsPossible bounds
      → tensor_of (term_under b) held ≡ tensor_of (term_under b) all
  tensor-held possible =
      tensor_of-held (term_under b) held all (ap is_ok (dims-first first possible)) read-first

-- so is the last term, where none is left
module _ {left : List Binding} {last : Term} {held all : List Contents}
    (are : AreHeldFor left last held all) (none : left ≡ []) (has : IsOk (dims_of widest last all)) where
  read-last : (n : ℕ) → reads n last ≡ true → input_of held n ≡ input_of all n
  read-last n reading = are.read n (ap (λ l. is_read n l last) none ∙ reading)

  pub dims-last : dims_of widest last held ≡ dims_of widest last all
  dims-last = dims_of-held last held all has read-last

  pub tensor-last : tensor_of last held ≡ tensor_of last all
  tensor-last = tensor_of-held last held all has read-last

-- at the start all are held
pub AreHeldFor-all : (left : List Binding) (last : Term) (held all : List Contents) → held ≡ all
    → AreHeldFor left last held all
AreHeldFor-all left last held all same =
    record { as_many = ap length same; read = λ n reading. ap (λ ts. input_of ts n) same }

-- what is left, as the first and those behind it
pub AreHeldFor-first : {last : Term} {held all : List Contents} {b : Binding} (bindings : List Binding)
    (k : ℕ) → AreHeldFor (drop k bindings) last held all → k < length bindings
    → b ≡ get_or bindings k b → AreHeldFor (b ∷ drop (k + 1) bindings) last held all
AreHeldFor-first {last} {held} {all} {b} bindings k are more is =
    subst (λ l. AreHeldFor l last held all) (left-more bindings k b more is) are

-- the tensor of the first stands behind the others
pub AreHeldFor-next : {b : Binding} {left : List Binding} {last : Term} {held all : List Contents}
    → AreHeldFor (b ∷ left) last held all → (made : Contents)
    → AreHeldFor left last (held ++ made ∷ []) (all ++ made ∷ [])
AreHeldFor-next {b} {left} {last} {held} {all} are made =
    record {
      as_many = omega (
        arith,
        are.as_many,
        length-append held (made ∷ []),
        length-append all (made ∷ []),
      );
      read = λ n reading. elim (cases_lt n (length held)) [
        | inl below ↦
            let inside : n < length all = omega (arith, are.as_many) in
            get_or_append_left held (made ∷ []) nothing n below
            ∙ are.read n (or_right (reads n (term_under b)) (is_read n left last) reading)
            ∙ sym (get_or_append_left all (made ∷ []) nothing n inside)
        | inr behind ↦
            get_or-append_right held (made ∷ []) (length held) n nothing refl behind
            ∙ ap (λ k. get_or (made ∷ []) (n - k) nothing) are.as_many
            ∙ sym (get_or-append_right all (made ∷ []) (length all) n nothing refl
            (omega (arith, are.as_many)))
      ];
    }

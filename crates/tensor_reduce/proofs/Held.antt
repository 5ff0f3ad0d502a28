-- Tensors that nobody reads any more need not be there, and what is read once need not be stored.
use Rattle.std.proofs.Common.{◌≡◌, ℕ, zero, suc, ◌+◌, ◌<◌, ◌≤◌, List, [], ◌∷◌, ◌++◌, length}
use Rattle.std.proofs.Common.{true, false, ◌||◌, ◌⊎◌, Ok, IsOk, is_ok}
use Rattle.std.proofs.Common.{drop, refl, ap, sym, subst, ◌∙◌, arith, inl, inr}
use Rattle.std.proofs.lemmas.Bool.{cases_lt, or_left, or_right, or_cases}
use Rattle.std.proofs.lemmas.List.{length-append, get_or_append_left, append_assoc}
use Rattle.std.proofs.Math.Seq.{get_or-append_seam}
use Rattle.std.specs.Prelude.{nat_eq}
use Rattle.std.specs.Result.{result_unwrap_or}
use Rattle.tensor_ops.specs.Index.{IsIndexOf}
use Rattle.tensor_ops.specs.Contents.{Contents, input_of, nothing, value_at}
use Rattle.tensor_ops.specs.Legal.{widest}
use Rattle.tensor_ops.specs.Result.{dims_of, shape_of}
use Rattle.tensor_ops.specs.Term.{Term, input, has_inputs}
use Rattle.tensor_ops.specs.Value.{tensor_of}
use Rattle.tensor_ops.proofs.SameTensors.{IsSameTensor}
use Rattle.tensor_ops.proofs.SameTensors.{tensor_of-same}
use Rattle.tensor_ops.proofs.Evaluated.{value_at-tensor_of}
use Rattle.tensor_ops.proofs.Shapes.{Ok-unwrap}
use Rattle.tensor_ops.specs.Sequence.{worked_out}
use Rattle.tensor_reduce.specs.Plan.{term_of_step, dims_of_step, terms_in}
use Rattle.tensor_reduce.specs.Plan.{IsReady, AreReady}
use Rattle.tensor_reduce.specs.private.Fusing.{fused_with}
use Rattle.tensor_reduce.specs.private.Held.{AreHeldFor, AreHeld}
use Rattle.tensor_reduce.specs.private.Readers.{reads, are_reading}
use Rattle.tensor_ops.specs.Facts.{is_combining}
use Rattle.tensor_reduce.specs.declared.step.Step.{Step}
use Rattle.tensor_reduce.proofs.Planned.{last_tensor-append}
use Rattle.tensor_reduce.proofs.FusedTerms.{other-number, same-read, same-fused_with, names-fused_with}
use Rattle.tensor_reduce.proofs.FusedTerms.{ReadDirectly, ReadDirectly-single, ReadDirectly-fused_with}
use Rattle.tensor_reduce.proofs.FusedTerms.{reads-fused_with, is_combining-fused_with}

-- the tensor of the step behind n others, if no later step reads the tensors of these
abbrev pub IsFusedTensor : ℕ → List Step → List Contents → Contents → Type 0
IsFusedTensor n [] all tensor = ⊥
IsFusedTensor zero (s ∷ left) all tensor = tensor ≡ tensor_of (term_of_step s) all
IsFusedTensor (suc n) (s ∷ left) all tensor =
    (are_reading (length all) (drop (suc n) left) ≡ false)
    × IsFusedTensor n left (all ++ tensor_of (term_of_step s) all ∷ []) tensor

-- a term that over the held tensors gives what the step behind n others gives, if no later step
-- reads the tensors of these
abbrev pub IsFusedTerm : ℕ → List Step → List Contents → List Contents → Term → Type 0
IsFusedTerm n [] held all t = ⊥
IsFusedTerm zero (s ∷ left) held all t = IsSameTensor t held (term_of_step s) all
IsFusedTerm (suc n) (s ∷ left) held all t =
    (are_reading (length all) (drop (suc n) left) ≡ false)
    × IsFusedTerm n left held (all ++ tensor_of (term_of_step s) all ∷ []) t

-- what it gives is that tensor
pub IsFusedTensor-term : (n : ℕ) (left : List Step) (held all : List Contents) (t : Term)
    → IsFusedTerm n left held all t → IsFusedTensor n left all (tensor_of t held)
IsFusedTensor-term n [] held all t is = absurd is
IsFusedTensor-term zero (s ∷ left) held all t is = tensor_of-same t (term_of_step s) held all is
IsFusedTensor-term (suc n) (s ∷ left) held all t is = (
  is.0,
  IsFusedTensor-term n left held (all ++ tensor_of (term_of_step s) all ∷ []) t is.1,
)

-- and it has the dims of that step
pub IsFusedTerm-dims : (n : ℕ) (left later : List Step) (held all : List Contents) (t : Term)
    (s : Step) → AreReady left all → IsFusedTerm n left held all t → drop n left ≡ s ∷ later
    → dims_of widest t held ≡ Ok (dims_of_step s)
IsFusedTerm-dims n [] later held all t s ready is here = absurd is
IsFusedTerm-dims zero (x ∷ left) later held all t s ready is here =
    let same : x ≡ s = (cc here) in is.dims ∙ ready.0.dims ∙ ap (λ y. Ok (dims_of_step y)) same
IsFusedTerm-dims (suc n) (x ∷ left) later held all t s ready is here =
    IsFusedTerm-dims n left later held (all ++ tensor_of (term_of_step x) all ∷ []) t s ready.1 is.1 here

-- terms that give the same tensor as a third
pub same-through : (s t u : Term) (ss ts us : List Contents) → IsSameTensor s ss t ts
    → IsSameTensor t ts u us → IsSameTensor s ss u us
same-through s t u ss ts us first second =
    let shape : shape_of t ts ≡ shape_of u us = ap (λ r. result_unwrap_or r []) second.dims in
    record {
      dims = first.dims ∙ second.dims;
      values = λ index inside.
          first.values index (subst (λ d. IsIndexOf d index) (sym shape) inside)
          ∙ second.values index inside;
    }

-- a tensor more
input_of-before : (tensors : List Contents) (t : Contents) (n : ℕ) → n < length tensors
    → input_of (tensors ++ t ∷ []) n ≡ input_of tensors n
input_of-before tensors t n below = get_or_append_left tensors (t ∷ []) nothing n below

input_of-there : (tensors : List Contents) (t : Contents) (n : ℕ) → n ≡ length tensors
    → input_of (tensors ++ t ∷ []) n ≡ t
input_of-there tensors t n here =
    ap (input_of (tensors ++ t ∷ [])) here ∙ get_or-append_seam tensors t [] nothing

input_of-behind : (tensors : List Contents) (n : ℕ) → length tensors ≤ n
    → input_of tensors n ≡ nothing
input_of-behind [] n past = refl
input_of-behind (t ∷ tensors) zero past = absurd (omega arith)
input_of-behind (t ∷ tensors) (suc n) past = input_of-behind tensors n (omega arith)

-- a tensor more is there, or nobody reads it
read-more : (left : List Step) (held all : List Contents) (x y : Contents) → length held ≡ length all
    → ((n : ℕ) → are_reading n left ≡ true → input_of held n ≡ input_of all n)
    → (x ≡ y) ⊎ (are_reading (length all) left ≡ false)
    → (n : ℕ) → are_reading n left ≡ true → input_of (held ++ x ∷ []) n ≡ input_of (all ++ y ∷ []) n
read-more left held all x y many there last n reading =
    elim (cases_lt n (length all)) [
      | inl below ↦
          input_of-before held x n (omega arith) ∙ there n reading
          ∙ sym (input_of-before all y n below)
      | inr above ↦
          elim (cases_lt (length all) n) [
            | inl behind ↦
                input_of-behind (held ++ x ∷ []) n (omega (arith, length-append held (x ∷ [])))
                ∙ sym (input_of-behind (all ++ y ∷ []) n
                (omega (arith, length-append all (y ∷ []))))
            | inr within ↦
                let here : n ≡ length all = omega arith in
                elim last [
                  | inl same ↦
                      input_of-there held x n (omega arith) ∙ same ∙ sym (input_of-there all y n here)
                  | inr unread ↦
                      let other : are_reading n left ≡ false = ap (λ k. are_reading k left) here ∙ unread in
                      (cc)
                ]
          ]
    ]

-- what is read by the later of some steps is read by some of these
reading-later : (k : ℕ) (left : List Step) (n : ℕ) → are_reading n (drop k left) ≡ true
    → are_reading n left ≡ true
reading-later zero left n reading = reading
reading-later (suc k) [] n reading = reading
reading-later (suc k) (s ∷ left) n reading =
    or_right (reads n (term_of_step s)) (are_reading n left) (reading-later k left n reading)

-- a step's tensor behind others, in the place of those that nobody reads any more
held-read : (left : List Step) (more held all : List Contents) (t : Contents)
    → length held ≡ length all → AreReady left all
    → ((n : ℕ) → are_reading n (drop (suc (length more)) left) ≡ true
    → input_of held n ≡ input_of all n)
    → IsFusedTensor (length more) left all t
    → AreHeld (drop (suc (length more)) left) (worked_out (terms_in left) all)
    (held ++ (more ++ t ∷ []))
held-read [] more held all t many ready there is = absurd is
held-read (s ∷ left) [] held all t many ready there is =
    let made : Contents = tensor_of (term_of_step s) all in (
      all ++ made ∷ [],
      (
        record {
          ready = ready.1;
          as_many = omega (
            arith,
            many,
            length-append held (t ∷ []),
            length-append all (made ∷ []),
          );
          read = read-more left held all t made many there (inl is);
          last = last_tensor-append held t ∙ is ∙ sym (last_tensor-append all made);
        },
        refl,
      ),
    )
held-read (s ∷ left) (x ∷ more) held all t many ready there is =
    let made : Contents = tensor_of (term_of_step s) all in
    let rest : List Step = drop (suc (length more)) left in
    let still : length (held ++ x ∷ []) ≡ length (all ++ made ∷ []) =
    omega (arith, many, length-append held (x ∷ []), length-append all (made ∷ [])) in
    subst (λ l. AreHeld rest (worked_out (terms_in (s ∷ left)) all) l)
    (append_assoc held (x ∷ []) (more ++ t ∷ []))
    (held-read left more (held ++ x ∷ []) (all ++ made ∷ []) t still ready.1
    (read-more rest held all x made many there (inr is.0)) is.1)

-- tensors from which the steps left give the whole, after a fused step
pub AreHeld-fused : (left : List Step) (whole held more : List Contents) (t : Contents)
    → AreHeld left whole held
    → ((all : List Contents) → AreHeldFor left held all → IsFusedTensor (length more) left all t)
    → AreHeld (drop (suc (length more)) left) whole (held ++ (more ++ t ∷ []))
AreHeld-fused left whole held more t are is =
    let for = are.1.0 in
    subst (λ w. AreHeld (drop (suc (length more)) left) w (held ++ (more ++ t ∷ []))) are.1.1
    (held-read left more held are.0 t for.as_many for.ready
    (λ n r. for.read n (reading-later (suc (length more)) left n r)) (is are.0 for))

-- a term that gives a tensor is read as that is, by the number of the tensor
pub same-as-read : (u t : Term) (held all : List Contents) (n : ℕ) → IsOk (dims_of widest t all)
    → n ≡ length all → IsSameTensor u held t all
    → IsSameTensor u held (input n) (all ++ tensor_of t all ∷ [])
same-as-read u t held all n has place same =
    let here : input_of (all ++ tensor_of t all ∷ []) n ≡ tensor_of t all =
    input_of-there all (tensor_of t all) n place in
    let shape : (input_of (all ++ tensor_of t all ∷ []) n).dims ≡ shape_of t all =
    ap (λ x. x.dims) here in
    record {
      dims = same.dims ∙ Ok-unwrap (dims_of widest t all) has ∙ ap Ok (sym shape);
      values = λ index inside.
          let at : IsIndexOf (shape_of t all) index =
          subst (λ d. IsIndexOf d index) shape inside in
          same.values index at ∙ sym (value_at-tensor_of all t index at)
          ∙ ap (λ x. value_at x index) (sym here);
    }

-- over what is held a step is ready, and gives its tensor
module _ (s : Step) (left : List Step) (held all : List Contents)
    (are : AreHeldFor (s ∷ left) held all) where
  read-first : (n : ℕ) → reads n (term_of_step s) ≡ true → input_of held n ≡ input_of all n
  read-first n reading = are.read n (or_left (reads n (term_of_step s)) (are_reading n left) reading)

  pub same-first : IsSameTensor (term_of_step s) held (term_of_step s) all
  same-first = same-read held all (term_of_step s) (ap is_ok are.ready.0.dims) read-first

  pub IsReady-held : IsReady s held
  IsReady-held = record {
    single = are.ready.0.single;
    inputs = ap (has_inputs (term_of_step s)) are.as_many ∙ are.ready.0.inputs;
    dims = same-first.dims ∙ are.ready.0.dims;
  }

  pub tensor_of-held : tensor_of (term_of_step s) held ≡ tensor_of (term_of_step s) all
  tensor_of-held = tensor_of-same (term_of_step s) (term_of_step s) held all same-first

  abbrev pub more : List Contents
  more = all ++ tensor_of (term_of_step s) all ∷ []

  -- a later step reads the new tensor by its number
  module _ (n : ℕ) (place : n ≡ length all) where
    read-other : (m : ℕ) → are_reading m left ≡ true → nat_eq m n ≡ false
        → input_of held m ≡ input_of more m
    read-other m reading other =
        let made : Contents = tensor_of (term_of_step s) all in
        are.read m (or_right (reads m (term_of_step s)) (are_reading m left) reading)
        ∙ elim (cases_lt m (length all)) [
          | inl below ↦ sym (input_of-before all made m below)
          | inr above ↦
              let behind : length all < m = other-number m (length all) above
              (ap (nat_eq m) (sym place) ∙ other) in
              input_of-behind all m (omega arith)
              ∙ sym (input_of-behind more m (omega (arith, length-append all (made ∷ []))))
        ]

    same-operand : IsSameTensor (term_of_step s) held (input n) more
    same-operand =
        same-as-read (term_of_step s) (term_of_step s) held all n (ap is_ok are.ready.0.dims) place
        same-first

-- all tensors are held
held-all : (left : List Step) (all : List Contents) → AreReady left all → AreHeldFor left all all
held-all left all ready = record {
  ready = ready;
  as_many = refl;
  read = λ n reading. refl;
  last = refl;
}

-- a step that reads the one before it without a tensor
module _ (s r : Step) (later : List Step) (held all : List Contents)
    (are : AreHeldFor (s ∷ r ∷ later) held all) (combining : is_combining (term_of_step r) ≡ true)
    (n : ℕ) (place : n ≡ length all) where
  abbrev pub joined-two : Term
  joined-two = fused_with n (term_of_step s) (term_of_step r)

  pub same-two : IsSameTensor joined-two held (term_of_step r) (more s (r ∷ later) held all are)
  same-two =
      same-fused_with held (more s (r ∷ later) held all are) n (term_of_step s) (term_of_step r)
      combining (ReadDirectly-single n (term_of_step r) combining are.ready.1.0.single)
      (ap is_ok are.ready.1.0.dims) (same-operand s (r ∷ later) held all are n place)
      (λ m reading. read-other s (r ∷ later) held all are n place m
      (or_left (reads m (term_of_step r)) (are_reading m later) reading))

  -- the fused term can be evaluated over the held tensors
  pub names-two : has_inputs joined-two (length held) ≡ true
  names-two =
      let count : length (more s (r ∷ later) held all are) ≡ length held + 1 =
      omega (arith, are.as_many, length-append all (tensor_of (term_of_step s) all ∷ [])) in
      names-fused_with n (length held) (term_of_step s) (term_of_step r)
      (ap (has_inputs (term_of_step s)) are.as_many ∙ are.ready.0.inputs)
      (ap (has_inputs (term_of_step r)) (sym count) ∙ are.ready.1.0.inputs)
      (omega (arith, place, are.as_many)) combining
      (ReadDirectly-single n (term_of_step r) combining are.ready.1.0.single)

  pub dims-two : dims_of widest joined-two held ≡ Ok (dims_of_step r)
  dims-two = same-two.dims ∙ are.ready.1.0.dims

  -- and gives its tensor
  pub IsFusedTerm-two : are_reading n later ≡ false
      → IsFusedTerm 1 (s ∷ r ∷ later) held all joined-two
  IsFusedTerm-two unread = (ap (λ k. are_reading k later) (sym place) ∙ unread, same-two)

-- a step that so reads both before it
module _ (s r c : Step) (later : List Step) (held all : List Contents)
    (are : AreHeldFor (s ∷ r ∷ c ∷ later) held all)
    (combining : is_combining (term_of_step c) ≡ true) (n : ℕ) (place : n ≡ length all)
    (apart : reads n (term_of_step r) ≡ false) where
  abbrev one : List Contents
  one = all ++ tensor_of (term_of_step s) all ∷ []

  all-one : AreHeldFor (r ∷ c ∷ later) one one
  all-one = held-all (r ∷ c ∷ later) one are.ready.1

  place-one : n + 1 ≡ length one
  place-one = omega (arith, place, length-append all (tensor_of (term_of_step s) all ∷ []))

  abbrev inner : Term
  inner = fused_with (n + 1) (term_of_step r) (term_of_step c)

  abbrev pub joined-three : Term
  joined-three = fused_with n (term_of_step s) inner

  combining-inner : is_combining inner ≡ true
  combining-inner = is_combining-fused_with (n + 1) (term_of_step r) (term_of_step c) combining

  direct-inner : ReadDirectly n inner
  direct-inner =
      ReadDirectly-fused_with n (n + 1) (term_of_step r) (term_of_step c) combining
      are.ready.1.1.0.single apart

  dims-inner : dims_of widest inner one ≡ Ok (dims_of_step c)
  dims-inner = dims-two r c later one one all-one combining (n + 1) place-one

  read-inner : (m : ℕ) → reads m inner ≡ true → nat_eq m n ≡ false
      → input_of held m ≡ input_of one m
  read-inner m reading =
      let r_reads = reads m (term_of_step r) in
      let c_reads = reads m (term_of_step c) in
      let both : are_reading m (r ∷ c ∷ later) ≡ true =
      elim (or_cases r_reads c_reads (reads-fused_with m (n + 1) (term_of_step r) (term_of_step c) reading)) [
        | inl second ↦ or_left r_reads (c_reads || are_reading m later) second
        | inr third ↦
            or_right r_reads (c_reads || are_reading m later)
            (or_left c_reads (are_reading m later) third)
      ] in
      read-other s (r ∷ c ∷ later) held all are n place m both

  same-three : IsSameTensor joined-three held inner one
  same-three =
      same-fused_with held one n (term_of_step s) inner combining-inner direct-inner
      (ap is_ok dims-inner) (same-operand s (r ∷ c ∷ later) held all are n place) read-inner

  pub names-three : has_inputs joined-three (length held) ≡ true
  names-three =
      let count : length one ≡ length held + 1 = omega (arith, place-one, place, are.as_many) in
      names-fused_with n (length held) (term_of_step s) inner
      (ap (has_inputs (term_of_step s)) are.as_many ∙ are.ready.0.inputs)
      (ap (has_inputs inner) (sym count)
      ∙ names-two r c later one one all-one combining (n + 1) place-one)
      (omega (arith, place, are.as_many)) combining-inner direct-inner

  pub dims-three : dims_of widest joined-three held ≡ Ok (dims_of_step c)
  dims-three = same-three.dims ∙ dims-inner

  pub IsFusedTerm-three : are_reading n later ≡ false → are_reading (n + 1) later ≡ false
      → IsFusedTerm 2 (s ∷ r ∷ c ∷ later) held all joined-three
  IsFusedTerm-three unread unread_too = (
    ap (λ k. are_reading k later) (sym place) ∙ unread,
    (
      ap (λ k. are_reading k later) (sym place-one) ∙ unread_too,
      same-through joined-three inner (term_of_step c) held one
          (one ++ tensor_of (term_of_step r) one ∷ []) same-three
          (same-two r c later one one all-one combining (n + 1) place-one),
    ),
  )

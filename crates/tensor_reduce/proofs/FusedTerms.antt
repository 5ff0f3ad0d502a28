-- An operation that reads a term in the place of a tensor, over tensors that are there.
use Rattle.std.proofs.Common.{◌≡◌, ℕ, ◌+◌, ◌<◌, ◌≤◌, List}
use Rattle.std.proofs.Common.{true, false, ◌||◌, ◌&&◌, if◌then◌else◌, IsOk}
use Rattle.std.proofs.Common.{refl, ap, sym, subst, ◌∙◌, arith, ◌⊎◌, inl, inr}
use Rattle.std.proofs.lemmas.Bool.{cases_Bool, cases_lt, and_parts, and_from, eq-eqb, eqb-true}
use Rattle.std.proofs.lemmas.Bool.{eqb-false, lt-ltb, ltb-true, or_left, or_right, or_parts, or_cases}
use Rattle.std.specs.Prelude.{nat_eq}
use Rattle.tensor_ops.specs.Contents.{Contents, input_of}
use Rattle.tensor_ops.specs.Legal.{widest}
use Rattle.tensor_ops.specs.Parts.{has_parts}
use Rattle.tensor_ops.specs.Result.{dims_of, unary_dims, binary_dims, ternary_dims}
use Rattle.tensor_ops.specs.Term.{Term, input, unary, binary, ternary, has_inputs, Unary, Binary}
use Rattle.tensor_ops.specs.Term.{each, constant, movement, pad, reduce, along}
use Rattle.tensor_ops.specs.Term.{pairwise, concat, contract, convolve, taking}
use Rattle.tensor_ops.proofs.SameTensors.{IsSameTensor, same-input, same-unary}
use Rattle.tensor_ops.proofs.SameTensors.{same-binary, same-ternary}
use Rattle.tensor_ops.proofs.Shapes.{with_one-known, with_two-known, with_three-known}
use Rattle.tensor_reduce.specs.private.Fusing.{instead, fused_with}
use Rattle.tensor_reduce.specs.private.Readers.{reads}
use Rattle.tensor_ops.specs.Facts.{combines, combines_two, is_combining}
use Rattle.tensor_reduce.specs.Steps.{is_input, is_single}

pub nat_eq-itself : (n : ℕ) → nat_eq n n ≡ true
nat_eq-itself n = eq-eqb n n refl

-- another number, which isn't below, is above
pub other-number : (m n : ℕ) → n ≤ m → nat_eq m n ≡ false → n < m
other-number m n above other =
    elim (cases_lt n m) [
      | inl below ↦ below
      | inr past ↦ let same : m ≡ n = omega arith in absurd (eqb-false m n other same)
    ]

-- and so below one more
other-below : (m n : ℕ) → m < n + 1 → nat_eq m n ≡ false → m < n
other-below m n below other =
    elim (cases_lt m n) [
      | inl under ↦ under
      | inr past ↦ let same : m ≡ n = omega arith in absurd (eqb-false m n other same)
    ]

-- who reads one tensor and not another one reads another one
other-read : (n m : ℕ) (t : Term) → reads m t ≡ true → reads n t ≡ false → nat_eq m n ≡ false
other-read n m t reading unread =
    elim (cases_Bool (nat_eq m n)) [
      | inl here ↦
          let same : m ≡ n = eqb-true m n here in
          let read : reads n t ≡ true = ap (λ k. reads k t) (sym same) ∙ reading in
          (cc)
      | inr other ↦ other
    ]

-- an operand that is the tensor of a number, if it reads it at all
abbrev pub ReadsDirectly : ℕ → Term → Type 0
ReadsDirectly n a = (is_input a ≡ true) ⊎ (reads n a ≡ false)

-- so is each operand of an operation on one or two
abbrev pub ReadDirectly : ℕ → Term → Type 0
ReadDirectly n (input m) = Unit {0}
ReadDirectly n (unary o a) = ReadsDirectly n a
ReadDirectly n (binary o a b) = ReadsDirectly n a × ReadsDirectly n b
ReadDirectly n (ternary o a b c) = Unit {0}

module _ (held all : List Contents) where
  -- a term that reads what is there is the tensor that it is over all
  pub same-read : (t : Term) → IsOk (dims_of widest t all)
      → ((n : ℕ) → reads n t ≡ true → input_of held n ≡ input_of all n)
      → IsSameTensor t held t all
  same-read (input n) has there = same-input held all n (there n (nat_eq-itself n))
  same-read (unary o a) has there =
      let known = with_one-known (unary_dims widest o) (dims_of widest a all) has in
      same-unary held all o a a has (same-read a known.0 there)
  same-read (binary o a b) has there =
      let known = with_two-known (binary_dims widest o) (dims_of widest a all)
      (dims_of widest b all) has in
      same-binary held all o a a b b has
      (same-read a known.0 (λ n r. there n (or_left (reads n a) (reads n b) r)))
      (same-read b known.1 (λ n r. there n (or_right (reads n a) (reads n b) r)))
  same-read (ternary o a b c) has there =
      let known = with_three-known (ternary_dims o) (dims_of widest a all)
      (dims_of widest b all) (dims_of widest c all) has in
      same-ternary held all o a a b b c c has
      (same-read a known.0 (λ n r. there n (or_left (reads n a) (reads n b || reads n c) r)))
      (same-read b known.1 (λ n r. there n (or_right (reads n a) (reads n b || reads n c)
      (or_left (reads n b) (reads n c) r))))
      (same-read c known.2 (λ n r. there n (or_right (reads n a) (reads n b || reads n c)
      (or_right (reads n b) (reads n c) r))))

  -- so is one that doesn't read the only tensor that isn't there
  same-unread : (n : ℕ) (t : Term) → reads n t ≡ false → IsOk (dims_of widest t all)
      → ((m : ℕ) → reads m t ≡ true → nat_eq m n ≡ false → input_of held m ≡ input_of all m)
      → IsSameTensor t held t all
  same-unread n t unread has there = same-read t has (λ m r. there m r (other-read n m t r unread))

  -- an operand, or what stands in its place
  same-instead : (n : ℕ) (u a : Term) → ReadsDirectly n a → IsSameTensor u held (input n) all
      → IsOk (dims_of widest a all)
      → ((m : ℕ) → reads m a ≡ true → nat_eq m n ≡ false → input_of held m ≡ input_of all m)
      → IsSameTensor (instead n u a) held a all
  same-instead n u (input m) direct same has there =
      elim (cases_Bool (nat_eq m n)) [
        | inl here ↦
            let number : n ≡ m = sym (eqb-true m n here) in
            let is : (if nat_eq m n then u else input m) ≡ u = rw here refl in
            subst (λ t. IsSameTensor t held (input m) all) (sym is)
            (subst (λ k. IsSameTensor u held (input k) all) number same)
        | inr other ↦
            let is : (if nat_eq m n then u else input m) ≡ input m = rw other refl in
            subst (λ t. IsSameTensor t held (input m) all) (sym is)
            (same-input held all m (there m (nat_eq-itself m) other))
      ]
  same-instead n u (unary o a) direct same has there =
      elim direct [
        | inl is_tensor ↦ (cc)
        | inr unread ↦ same-unread n (unary o a) unread has there
      ]
  same-instead n u (binary o a b) direct same has there =
      elim direct [
        | inl is_tensor ↦ (cc)
        | inr unread ↦ same-unread n (binary o a b) unread has there
      ]
  same-instead n u (ternary o a b c) direct same has there =
      elim direct [
        | inl is_tensor ↦ (cc)
        | inr unread ↦ same-unread n (ternary o a b c) unread has there
      ]

-- the operands of what combines are tensors
one-tensor : (o : Unary) (a : Term) → combines o ≡ true → is_single (unary o a) ≡ true
    → is_input a ≡ true
one-tensor (each o) a combining single = (cc)
one-tensor (constant v) a combining single = (cc)
one-tensor (movement m) a combining single = (cc)
one-tensor (pad pairs) a combining single = (cc)
one-tensor (reduce r axes) a combining single = single
one-tensor (along o axis) a combining single = single

two-tensors : (o : Binary) (a b : Term) → combines_two o ≡ true → is_single (binary o a b) ≡ true
    → (is_input a ≡ true) × (is_input b ≡ true)
two-tensors (pairwise o) a b combining single = (cc)
two-tensors (concat axis) a b combining single = (cc)
two-tensors (contract pairs) a b combining single = and_parts (is_input a) (is_input b) single
two-tensors (convolve axes) a b combining single = and_parts (is_input a) (is_input b) single
two-tensors (taking axis) a b combining single = and_parts (is_input a) (is_input b) single

-- so it reads them directly
pub ReadDirectly-single : (n : ℕ) (t : Term) → is_combining t ≡ true → is_single t ≡ true
    → ReadDirectly n t
ReadDirectly-single n (input m) combining single = tt
ReadDirectly-single n (unary o a) combining single = inl (one-tensor o a combining single)
ReadDirectly-single n (binary o a b) combining single =
    let tensors = two-tensors o a b combining single in (inl tensors.0, inl tensors.1)
ReadDirectly-single n (ternary o a b c) combining single = tt

-- also where one of them is fused into it
ReadsDirectly-instead : (n k : ℕ) (u a : Term) → is_input a ≡ true → reads n u ≡ false
    → ReadsDirectly n (instead k u a)
ReadsDirectly-instead n k u (input m) is_tensor unread =
    elim (cases_Bool (nat_eq m k)) [
      | inl here ↦
          let is : (if nat_eq m k then u else input m) ≡ u = rw here refl in
          inr (ap (reads n) is ∙ unread)
      | inr other ↦
          let is : (if nat_eq m k then u else input m) ≡ input m = rw other refl in
          inl (ap is_input is)
    ]
ReadsDirectly-instead n k u (unary o a) is_tensor unread = (cc)
ReadsDirectly-instead n k u (binary o a b) is_tensor unread = (cc)
ReadsDirectly-instead n k u (ternary o a b c) is_tensor unread = (cc)

pub ReadDirectly-fused_with : (n k : ℕ) (u t : Term) → is_combining t ≡ true → is_single t ≡ true
    → reads n u ≡ false → ReadDirectly n (fused_with k u t)
ReadDirectly-fused_with n k u (input m) combining single unread = tt
ReadDirectly-fused_with n k u (unary o a) combining single unread =
    ReadsDirectly-instead n k u a (one-tensor o a combining single) unread
ReadDirectly-fused_with n k u (binary o a b) combining single unread =
    let tensors = two-tensors o a b combining single in (
      ReadsDirectly-instead n k u a tensors.0 unread,
      ReadsDirectly-instead n k u b tensors.1 unread,
    )
ReadDirectly-fused_with n k u (ternary o a b c) combining single unread = tt

-- an operation with a term fused into it reads what the term reads, or what it read before
reads-instead : (m n : ℕ) (u a : Term) → reads m (instead n u a) ≡ true
    → (reads m u || reads m a) ≡ true
reads-instead m n u (input k) reading =
    elim (cases_Bool (nat_eq k n)) [
      | inl here ↦
          let is : (if nat_eq k n then u else input k) ≡ u = rw here refl in
          or_left (reads m u) (nat_eq k m) (ap (reads m) (sym is) ∙ reading)
      | inr other ↦
          let is : (if nat_eq k n then u else input k) ≡ input k = rw other refl in
          or_right (reads m u) (nat_eq k m) (ap (reads m) (sym is) ∙ reading)
    ]
reads-instead m n u (unary o a) reading = or_right (reads m u) (reads m (unary o a)) reading
reads-instead m n u (binary o a b) reading = or_right (reads m u) (reads m (binary o a b)) reading
reads-instead m n u (ternary o a b c) reading =
    or_right (reads m u) (reads m (ternary o a b c)) reading

pub reads-fused_with : (m n : ℕ) (u t : Term) → reads m (fused_with n u t) ≡ true
    → (reads m u || reads m t) ≡ true
reads-fused_with m n u (input k) reading = or_right (reads m u) (nat_eq k m) reading
reads-fused_with m n u (unary o a) reading = reads-instead m n u a reading
reads-fused_with m n u (binary o a b) reading =
    elim (or_cases (reads m (instead n u a)) (reads m (instead n u b)) reading) [
      | inl first ↦
          elim (or_cases (reads m u) (reads m a) (reads-instead m n u a first)) [
            | inl inside ↦ or_left (reads m u) (reads m a || reads m b) inside
            | inr beside ↦
                or_right (reads m u) (reads m a || reads m b)
                (or_left (reads m a) (reads m b) beside)
          ]
      | inr second ↦
          elim (or_cases (reads m u) (reads m b) (reads-instead m n u b second)) [
            | inl inside ↦ or_left (reads m u) (reads m a || reads m b) inside
            | inr beside ↦
                or_right (reads m u) (reads m a || reads m b)
                (or_right (reads m a) (reads m b) beside)
          ]
    ]
reads-fused_with m n u (ternary o a b c) reading =
    or_right (reads m u) (reads m (ternary o a b c)) reading

module _ (held all : List Contents) (n : ℕ) (u : Term) where
  -- what combines, over a term in the place of a tensor
  pub same-fused_with : (t : Term) → is_combining t ≡ true → ReadDirectly n t
      → IsOk (dims_of widest t all)
      → IsSameTensor u held (input n) all
      → ((m : ℕ) → reads m t ≡ true → nat_eq m n ≡ false → input_of held m ≡ input_of all m)
      → IsSameTensor (fused_with n u t) held t all
  same-fused_with (input m) combining direct has same there = (cc)
  same-fused_with (unary o a) combining direct has same there =
      let known = with_one-known (unary_dims widest o) (dims_of widest a all) has in
      same-unary held all o (instead n u a) a has
      (same-instead held all n u a direct same known.0 there)
  same-fused_with (binary o a b) combining direct has same there =
      let known = with_two-known (binary_dims widest o) (dims_of widest a all)
      (dims_of widest b all) has in
      same-binary held all o (instead n u a) a (instead n u b) b has
      (same-instead held all n u a direct.0 same known.0
      (λ m r. there m (or_left (reads m a) (reads m b) r)))
      (same-instead held all n u b direct.1 same known.1
      (λ m r. there m (or_right (reads m a) (reads m b) r)))
  same-fused_with (ternary o a b c) combining direct has same there = (cc)

-- it combines as before, and has parts as before
pub is_combining-fused_with : (n : ℕ) (u t : Term) → is_combining t ≡ true
    → is_combining (fused_with n u t) ≡ true
is_combining-fused_with n u (input m) combining = combining
is_combining-fused_with n u (unary o a) combining = combining
is_combining-fused_with n u (binary o a b) combining = combining
is_combining-fused_with n u (ternary o a b c) combining = combining

pub has_parts-fused_with : (n : ℕ) (u t : Term) → has_parts t ≡ true → has_parts (fused_with n u t) ≡ true
has_parts-fused_with n u (input m) parts = parts
has_parts-fused_with n u (unary o a) parts = parts
has_parts-fused_with n u (binary o a b) parts = parts
has_parts-fused_with n u (ternary o a b c) parts = parts

-- a term that doesn't read the last of the tensors can do without it
names-unread : (count : ℕ) (t : Term) → has_inputs t (count + 1) ≡ true → reads count t ≡ false
    → has_inputs t count ≡ true
names-unread count (input m) there unread =
    lt-ltb m count (other-below m count (ltb-true m (count + 1) there) unread)
names-unread count (unary o a) there unread = names-unread count a there unread
names-unread count (binary o a b) there unread =
    let each = and_parts (has_inputs a (count + 1)) (has_inputs b (count + 1)) there in
    let neither = or_parts (reads count a) (reads count b) unread in
    and_from (has_inputs a count) (has_inputs b count)
    (names-unread count a each.0 neither.0) (names-unread count b each.1 neither.1)
names-unread count (ternary o a b c) there unread =
    let first = and_parts (has_inputs a (count + 1))
    (has_inputs b (count + 1) && has_inputs c (count + 1)) there in
    let others = and_parts (has_inputs b (count + 1)) (has_inputs c (count + 1)) first.1 in
    let none = or_parts (reads count a) (reads count b || reads count c) unread in
    let neither = or_parts (reads count b) (reads count c) none.1 in
    and_from (has_inputs a count) (has_inputs b count && has_inputs c count)
    (names-unread count a first.0 none.0)
    (and_from (has_inputs b count) (has_inputs c count)
    (names-unread count b others.0 neither.0) (names-unread count c others.1 neither.1))

-- a term with another fused into it names no tensor behind those that both name
names-instead : (n count : ℕ) (u a : Term) → has_inputs u count ≡ true
    → has_inputs a (count + 1) ≡ true → n ≡ count → ReadsDirectly n a
    → has_inputs (instead n u a) count ≡ true
names-instead n count u (input m) names there last direct =
    elim (cases_Bool (nat_eq m n)) [
      | inl here ↦
          let is : (if nat_eq m n then u else input m) ≡ u = rw here refl in
          ap (λ t. has_inputs t count) is ∙ names
      | inr other ↦
          let is : (if nat_eq m n then u else input m) ≡ input m = rw other refl in
          let below : m < count =
          other-below m count (ltb-true m (count + 1) there) (ap (nat_eq m) (sym last) ∙ other) in
          ap (λ t. has_inputs t count) is ∙ lt-ltb m count below
    ]
names-instead n count u (unary o a) names there last direct =
    elim direct [
      | inl is_tensor ↦ (cc)
      | inr unread ↦
          names-unread count (unary o a) there (ap (λ k. reads k (unary o a)) (sym last) ∙ unread)
    ]
names-instead n count u (binary o a b) names there last direct =
    elim direct [
      | inl is_tensor ↦ (cc)
      | inr unread ↦
          names-unread count (binary o a b) there
          (ap (λ k. reads k (binary o a b)) (sym last) ∙ unread)
    ]
names-instead n count u (ternary o a b c) names there last direct =
    elim direct [
      | inl is_tensor ↦ (cc)
      | inr unread ↦
          names-unread count (ternary o a b c) there
          (ap (λ k. reads k (ternary o a b c)) (sym last) ∙ unread)
    ]

pub names-fused_with : (n count : ℕ) (u t : Term) → has_inputs u count ≡ true
    → has_inputs t (count + 1) ≡ true → n ≡ count → is_combining t ≡ true → ReadDirectly n t
    → has_inputs (fused_with n u t) count ≡ true
names-fused_with n count u (input m) names there last combining direct = (cc)
names-fused_with n count u (unary o a) names there last combining direct =
    names-instead n count u a names there last direct
names-fused_with n count u (binary o a b) names there last combining direct =
    let each = and_parts (has_inputs a (count + 1)) (has_inputs b (count + 1)) there in
    and_from (has_inputs (instead n u a) count) (has_inputs (instead n u b) count)
    (names-instead n count u a names each.0 last direct.0)
    (names-instead n count u b names each.1 last direct.1)
names-fused_with n count u (ternary o a b c) names there last combining direct = (cc)

-- Tensors that no step left reads may become any others, and become empty ones.
use Rattle.std.proofs.Common.{◌≡◌, ◌≢◌, ℕ, ◌+◌, ◌-◌, ◌<◌, ◌≤◌, List, [], ◌++◌, length, set}
use Rattle.std.proofs.Common.{false, refl, ap, sym, subst, ◌∙◌, inl, inr, arith}
use Rattle.std.proofs.lemmas.Bool.{true≢false, cases_eq}
use Rattle.std.proofs.lemmas.List.{length-append, length-set, get_or-set_other, get_or-set_same}
use Rattle.std.proofs.lemmas.List.{set-append_right}
use Rattle.tensor_ops.specs.Contents.{Contents, input_of, nothing}
use Rattle.tensor_reduce.specs.private.Held.{AreHeldFor, AreHeld}
use Rattle.tensor_reduce.specs.private.Readers.{are_reading}
use Rattle.tensor_reduce.specs.declared.step.Step.{Step}

AreHeldFor-set : (left : List Step) (held all : List Contents) (k : ℕ) (x : Contents)
    → AreHeldFor left held all → k + 1 < length held → are_reading k left ≡ false
    → AreHeldFor left (set held k x) all
AreHeldFor-set left held all k x are before unread =
    let long : length (set held k x) ≡ length held = length-set held k x in
    let other : length held - 1 ≢ k = omega arith in
    record {
      ready = are.ready;
      as_many = long ∙ are.as_many;
      read = λ n reading.
          let apart : n ≢ k = λ same. true≢false (sym reading ∙ ap (λ m. are_reading m left) same ∙ unread) in
          get_or-set_other held k n x nothing apart ∙ are.read n reading;
      last =
          ap (λ n. input_of (set held k x) (n - 1)) long
          ∙ get_or-set_other held k (length held - 1) x nothing other ∙ are.last;
    }

pub AreHeld-set : (left : List Step) (whole inputs items : List Contents) (n k : ℕ) (x : Contents)
    → n ≡ length inputs + k → k + 1 < length items → are_reading n left ≡ false
    → AreHeld left whole (inputs ++ items) → AreHeld left whole (inputs ++ set items k x)
AreHeld-set left whole inputs items n k x place before unread are =
    let long : length (inputs ++ items) ≡ length inputs + length items =
    length-append inputs items in
    let here : n - length inputs ≡ k = omega (arith, place) in
    let same : set (inputs ++ items) n x ≡ inputs ++ set items k x =
    set-append_right inputs items (length inputs) n x refl (omega (arith, place))
    ∙ ap (λ i. inputs ++ set items i x) here in (
      are.0,
      (
        subst (λ held. AreHeldFor left held are.0) same
            (AreHeldFor-set left (inputs ++ items) are.0 n x are.1.0 (omega (arith, place, long))
            unread),
        are.1.1,
      ),
    )

-- the tensors from a place on, but the last, hold no values
abbrev pub AreEmptyFrom : ℕ → List Contents → Type 0
AreEmptyFrom place items =
    (p : ℕ) → place ≤ p → p + 1 < length items → (input_of items p).values ≡ []

-- one more of them
pub empty-more : (items : List Contents) (place : ℕ) → AreEmptyFrom (place + 1) items
    → (input_of items place).values ≡ [] → AreEmptyFrom place items
empty-more items place empty here p from below =
    elim (cases_eq p place) [
      | inl same ↦ ap (λ n. (input_of items n).values) same ∙ here
      | inr other ↦ empty p (omega (arith, other)) below
    ]

-- one more, where an empty tensor takes its place
pub empty-set : (items : List Contents) (place : ℕ) (x : Contents) → place < length items
    → x.values ≡ [] → AreEmptyFrom (place + 1) items → AreEmptyFrom place (set items place x)
empty-set items place x inside without empty =
    empty-more (set items place x) place
    (λ p from below.
    let other : p ≢ place = omega arith in
    ap (λ t. t.values) (get_or-set_other items place p x nothing other)
    ∙ empty p from (omega (arith, length-set items place x)))
    (ap (λ t. t.values) (get_or-set_same items place x nothing inside) ∙ without)

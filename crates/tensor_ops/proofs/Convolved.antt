-- Convolutions of operands that were lowered, and their computed values.
use Rattle.std.proofs.Common.{◌≡◌, ℕ, ℤ, ◌<◌, List, Ok, sym, subst, arith}
use Rattle.tensor_shape.specs.Index.{size_of, IsIndexOf, place, index_of}
use Rattle.tensor_shape.specs.Legal.{widest}
use Rattle.tensor_terms.specs.Convolution.{convolved, convolved_dims}
use Rattle.tensor_ops.specs.private.Lowering.{HasValues}
use Rattle.tensor_terms.proofs.Convolutions.{convolved-other}
use Rattle.tensor_terms.proofs.Convolutions.{known, convolved-shape}
use Rattle.tensor_ops.proofs.Worked.{values-other, values-agree}

-- a convolution of two operands whose values are those of functions
pub values-convolved : (axes ds ks rs : List ℕ) (n m count : ℕ) (of on at : ℕ → ℤ)
    (f g : List ℕ → ℤ) → convolved_dims widest axes ds ks ≡ Ok rs
    → HasValues n of ds f → HasValues m on ks g → count ≡ size_of rs
    → ((p : ℕ) → p < count → at p ≡ convolved axes ks (λ js. of (place ds js))
    (λ js. on (place ks js)) (index_of rs p))
    → HasValues count at rs (convolved axes ks f g)
values-convolved axes ds ks rs n m count of on at f g dims first second whole at_each =
    values-other count at rs (convolved axes ks (λ js. of (place ds js)) (λ js. on (place ks js)))
    (convolved axes ks f g)
    (record { whole = whole; each = λ p below. at_each p (omega arith) })
    (λ js is_index.
    convolved-other axes ds ks (λ js. of (place ds js)) f (λ js. on (place ks js)) g
    (known axes ds ks rs dims) (values-agree n of ds f first) (values-agree m on ks g second) js
    (subst (λ es. IsIndexOf es js) (sym (convolved-shape axes ds ks rs dims)) is_index))

-- Convolutions as sums of products of rows.
use Rattle.std.proofs.Common.{◌≡◌, ℕ, ℤ, ◌*ℤ◌, ◌/◌, ◌%◌, ◌<◌, List}
use Rattle.std.proofs.Common.{ap, sym, ◌∙◌, arith}
use Rattle.std.proofs.Math.Nat.{div-eq_of_lt, mod-eq_of_lt}
use Rattle.tensor_shape.specs.Index.{size_of, place, index_of}
use Rattle.tensor_shape.specs.Wrap.{wrap}
use Rattle.tensor_shape.proofs.Places.{place-index_of}
use Rattle.tensor_terms.specs.Convolution.{convolved}
use Rattle.tensor_values.specs.Values.{value_in}
use Rattle.tensor_kernels.specs.Products.{sum_to, rows_dot}
use Rattle.tensor_ops.specs.private.Windows.{IsUnderKernel, IsOneRow}
use Rattle.tensor_ops.proofs.Contractions.{fold-sum_to}
use Rattle.tensor_kernels.proofs.ProductSums.{sum_to-ext}
use Rattle.tensor_terms.proofs.Convolutions.{product_under, convolved-fold}

convolved-sum_to : (axes ks : List ℕ) (a kernel : List ℕ → ℤ) (is : List ℕ)
    → convolved axes ks a kernel is
    ≡ wrap (sum_to (product_under axes ks a kernel is) (size_of ks))
convolved-sum_to axes ks a kernel is =
    convolved-fold axes ks a kernel is
    ∙ ap wrap (fold-sum_to (product_under axes ks a kernel is) (size_of ks))

-- the operand as rows, and the kernel as one row
module _ (axes ds ks rs : List ℕ) (a b : List ℤ) (m n w n' : ℕ) (first second : ℕ → ℕ → ℤ)
    (is_first : IsUnderKernel m n first a axes ds ks rs)
    (is_second : IsOneRow w n' second b (size_of ks)) where
  pub row_length-kernel : n ≡ n'
  row_length-kernel = is_first.len ∙ sym is_second.len

  -- their products are the convolution
  pub rows_dot-convolved : (p : ℕ) → p < m
      → rows_dot m n first second p
      ≡ convolved axes ks (λ js. value_in a (place ds js)) (λ js. value_in b (place ks js))
      (index_of rs p)
  rows_dot-convolved p below =
      let f = λ (js : List ℕ). value_in a (place ds js) in
      let g = λ (js : List ℕ). value_in b (place ks js) in
      let row : p % m ≡ p = mod-eq_of_lt below in
      let column : p / m ≡ 0 = div-eq_of_lt below in
      ap wrap
      (ap (λ x. sum_to (λ q. first x q *ℤ second (p / m) q) n) row
      ∙ ap (λ y. sum_to (λ q. first p q *ℤ second y q) n) column
      ∙ ap (λ k. sum_to (λ q. first p q *ℤ second 0 q) k) is_first.len
      ∙ sum_to-ext _ (product_under axes ks f g (index_of rs p)) (size_of ks)
      (λ q h.
      let left = is_first.each p q below (omega (arith, is_first.len)) in
      let right : second 0 q ≡ g (index_of ks q) =
      is_second.each q (omega (arith, is_second.len))
      ∙ ap (value_in b) (sym (place-index_of ks q h)) in
      cc (left, right)))
      ∙ sym (convolved-sum_to axes ks f g (index_of rs p))

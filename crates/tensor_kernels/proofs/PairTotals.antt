-- The sum of the products of two chunks.
use Rattle.std.proofs.Common.{◌≡◌, ℕ, ◌+◌, ◌*◌, ◌/◌, ◌%◌, ◌<◌, ℤ, ◌+ℤ◌, ap, sym, ◌∙◌, arith}
use Rattle.tensor_dots.specs.Products.{dot, sum_to}
use Rattle.tensor_dots.specs.Rows.{row_count, row_value}
use Rattle.tensor_kernels.specs.Tiling.{product_at, pair_total}
use Rattle.tensor_kernels.specs.declared.tiling.Tiled.{Tiled}
use Rattle.tensor_dots.proofs.LaneSums.{same-factors}
use Rattle.tensor_dots.proofs.ProductSums.{sum_to-ext, sum_to-append}

-- is that of those of the one and that of those of the other
pub pair-split : (t : Tiled) (c p : ℕ) (f g f' g' : ℕ → ℤ)
    → ((q : ℕ) → q < 128 → f q ≡ row_value t.first (p % row_count t.first) (2 * c * 128 + q))
    → ((q : ℕ) → q < 128 → g q ≡ row_value t.second (p / row_count t.first) (2 * c * 128 + q))
    → ((q : ℕ) → q < 128
    → f' q ≡ row_value t.first (p % row_count t.first) ((2 * c + 1) * 128 + q))
    → ((q : ℕ) → q < 128
    → g' q ≡ row_value t.second (p / row_count t.first) ((2 * c + 1) * 128 + q))
    → dot f g 128 +ℤ dot f' g' 128 ≡ pair_total t c p
pair-split t c p f g f' g' left right left' right' =
    let at = product_at t.first t.second p in
    let F : ℕ → ℤ = λ q. at (c * 256 + q) in
    let earlier : dot f g 128 ≡ sum_to F 128 =
    sum_to-ext _ _ 128
    (λ q below.
    let there : 2 * c * 128 + q ≡ c * 256 + q = omega arith in
    same-factors (left q below) (right q below) ∙ ap at there) in
    let later : dot f' g' 128 ≡ sum_to (λ q. F (128 + q)) 128 =
    sum_to-ext _ _ 128
    (λ q below.
    let there : (2 * c + 1) * 128 + q ≡ c * 256 + (128 + q) = omega arith in
    same-factors (left' q below) (right' q below) ∙ ap at there) in
    ap (λ s. s +ℤ dot f' g' 128) earlier ∙ ap (λ s. sum_to F 128 +ℤ s) later
    ∙ sym (sum_to-append F 128 128)

-- Contractions: sums of products over paired axes.
use Rattle.std.specs.Prelude.{ℕ, ℤ, pos, ◌+ℤ◌, ◌*ℤ◌, ◌*◌}
use Rattle.std.specs.Prelude.{List, ◌++◌, length, map, take, drop}
use Rattle.std.specs.Prelude.{nat_eq, nat_le, ◌&&◌, Ok, if◌then◌else◌}
use Rattle.std.specs.Cmp.Lexicographic.{pointwise}
use Rattle.std.specs.List.{fold}
use Rattle.tensor_shape.specs.Index.{size_of}
use Rattle.tensor_shape.specs.Legal.{text_elements}
use Rattle.tensor_shape.specs.Wrap.{wrap}
use Rattle.tensor_shape.specs.declared.bounds.Bounds.{Bounds}
use Rattle.tensor_terms.specs.Reduction.{are_axes}
use Rattle.tensor_terms.specs.Shaped.{Shaped, check, legal_dims, with_one}
use Rattle.tensor_terms.specs.Merged.{dims_at, other_dims, merged, index_lists}
use Rattle.tensor_terms.specs.declared.fault.ExprFault.TheVariants.{ShapeMismatch, OutOfRange}
use Rattle.tensor_terms.specs.declared.fault.ExprFault.TheVariants.{TooLarge}

-- the paired axes of the first operand
abbrev pub firsts : List (ℕ × ℕ) → List ℕ
firsts pairs = map (λ pair. pair.0) pairs

-- the paired axes of the second operand
abbrev pub seconds : List (ℕ × ℕ) → List ℕ
seconds pairs = map (λ pair. pair.1) pairs

-- the most products that a contraction or a convolution may sum, over all values of its result
abbrev pub most_products : ℕ
most_products = 1099511627776

-- the most products in a request text
abbrev pub text_products : ℕ
text_products = 1073741824

-- the most products within bounds: those in a request text, if dims may have no more elements than
-- there
abbrev pub products_within : Bounds → ℕ
products_within bounds =
    if nat_le bounds.elements text_elements then text_products else most_products

-- the first operand's other dims, followed by the second operand's other dims
abbrev pub outer_dims : List (ℕ × ℕ) → List ℕ → List ℕ → List ℕ
outer_dims pairs ds es = other_dims (firsts pairs) ds ++ other_dims (seconds pairs) es

-- result dims whose values are sums of `count` products each, or the fault that these are too many
-- for the bounds
abbrev pub few_products : Bounds → ℕ → List ℕ → Shaped
few_products bounds count ds =
    check (nat_le (size_of ds * count) (products_within bounds)) TooLarge (Ok ds)

-- the result dims of a contraction within bounds, or the fault of the first check that fails. In a
-- request text the check of the products always passes
abbrev pub contracted_dims : Bounds → List (ℕ × ℕ) → List ℕ → List ℕ → Shaped
contracted_dims bounds pairs ds es =
    check (are_axes (length ds) (firsts pairs) && are_axes (length es) (seconds pairs)) OutOfRange
    (check (pointwise nat_eq (dims_at (firsts pairs) ds) (dims_at (seconds pairs) es)) ShapeMismatch
    (with_one (few_products bounds (size_of (dims_at (firsts pairs) ds)))
    (legal_dims bounds (outer_dims pairs ds es))))

-- the value of a contraction at an index list: the whole-number sum, modulo 2^64, of the products
-- of both operands' values over all index lists of the paired axes
abbrev pub contracted : List (ℕ × ℕ) → List ℕ → List ℕ → (List ℕ → ℤ) → (List ℕ → ℤ)
    → List ℕ → ℤ
contracted pairs ds es a b is =
    wrap (fold ◌+ℤ◌ (pos 0) (map (λ js.
    a (merged (firsts pairs) ds js (take (length (other_dims (firsts pairs) ds)) is))
    *ℤ b (merged (seconds pairs) es js (drop (length (other_dims (firsts pairs) ds)) is)))
    (index_lists (dims_at (firsts pairs) ds))))

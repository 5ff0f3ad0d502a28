-- The values of an expression that was made ready.
use Rattle.std.specs.Prelude.{ℕ, ℤ}
use Rattle.std.specs.Coded.{Unit-prop}
use Rattle.tensor_kernels.specs.Contracting.{contraction_count, contraction_value}
use Rattle.tensor_ops.specs.private.LineResults.{places_along, value_along}
use Rattle.tensor_ops.specs.private.Meaning.{meaning, count_of, IsSound, IsSound-prop}
use Rattle.tensor_ops.specs.private.Reduced.{places_of_result, reduction_at}
use Rattle.tensor_ops.specs.declared.evaluator.root.Root.{Root}
use Rattle.tensor_ops.specs.declared.evaluator.root.Root.TheVariants.{Lowered, Reduction, Contraction, Along}

-- the number of values
abbrev pub root_count : Root → ℕ
root_count (Lowered lowered) = count_of lowered
root_count (Reduction r) = places_of_result r
root_count (Contraction c) = contraction_count c
root_count (Along a) = places_along a

-- the value at place p
abbrev pub root_value : Root → ℕ → ℤ
root_value (Lowered lowered) p = meaning lowered p
root_value (Reduction r) p = reduction_at r p
root_value (Contraction c) p = contraction_value c p
root_value (Along a) p = value_along a p

-- what is read of a lowered expression is there
abbrev pub IsSoundRoot : Root → Type 0
IsSoundRoot (Lowered lowered) = IsSound lowered
IsSoundRoot (Reduction r) = Unit {0}
IsSoundRoot (Contraction c) = Unit {0}
IsSoundRoot (Along a) = Unit {0}

-- IsSoundRoot is a proposition
pub IsSoundRoot-prop : (root : Root) → IsProp (IsSoundRoot root)
IsSoundRoot-prop (Lowered lowered) = IsSound-prop lowered
IsSoundRoot-prop (Reduction r) = Unit-prop
IsSoundRoot-prop (Contraction c) = Unit-prop
IsSoundRoot-prop (Along a) = Unit-prop

-- Values that lie in runs, one run after the other.
use Rattle.std.specs.Prelude.{◌≡◌, ℕ, ℤ, ◌+◌, ◌*◌, ◌<◌, List}
use Rattle.tensor_shape.specs.Index.{size_of, index_of}
use Rattle.tensor_terms.specs.Merged.{dims_at, other_dims, merged}

-- value q of run x, where a run has n values
abbrev pub value_in_run : (ℕ → ℤ) → ℕ → ℕ → ℕ → ℤ
value_in_run at n x q = at (q + n * x)

-- count runs of n values are the values of a function at index lists of dims ds: a run for each
-- index list of the other axes, in it a value for each index list of the given axes
pub record LieInRuns (at : ℕ → ℤ) (n count : ℕ) (ds axes : List ℕ)
    (f : List ℕ → ℤ) : Type 0 where
  pub long : n ≡ size_of (dims_at axes ds)
  pub many : count ≡ size_of (other_dims axes ds)
  pub each : (x q : ℕ) → x < size_of (other_dims axes ds) → q < size_of (dims_at axes ds)
      → value_in_run at n x q
      ≡ f (merged axes ds (index_of (dims_at axes ds) q) (index_of (other_dims axes ds) x))

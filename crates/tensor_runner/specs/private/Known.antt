-- Tensors of which only the dims are known.
use Rattle.std.specs.Prelude.{ℕ, List, [], ◌++◌, map}
use Rattle.expr_reader.specs.Contents.{Contents}
use Rattle.tensor_runner.specs.declared.known.Known.{Known}

-- the dims of tensors
abbrev pub dims_of_all : List Contents → List (List ℕ)
dims_of_all tensors = map (λ t. t.dims) tensors

-- tensors of these dims that have no values
abbrev pub without_values : List (List ℕ) → List Contents
without_values dims = map (λ d. record { dims = d; values = [] }) dims

-- the dims of the inputs, followed by the dims of the bindings
abbrev pub dims_known : Known → List (List ℕ)
dims_known known = dims_of_all known.inputs.now.tensors ++ map (λ b. b.dims) known.bindings.now

-- tensors without values that have the known dims
abbrev pub tensors_known : Known → List Contents
tensors_known known = without_values (dims_known known)

-- What the code has found, beside the definitions.
use Rattle.std.specs.Prelude.{◌≡◌, ℕ, List, length}
use Rattle.serde_json.specs.View.{view}
use Rattle.tensor_ops.specs.Bounds.{Bounds}
use Rattle.tensor_ops.specs.Legal.{IsPossible}
use Rattle.tensor_ops.specs.Sequence.{worked_out}
use Rattle.expr_reader.specs.Bindings.{terms_under, AreBound}
use Rattle.expr_reader.specs.Fields as data_of
use Rattle.expr_reader.specs.private.Numbers.{number_in}
use Rattle.expr_reader.specs.Tensors.{Named, number_of}
use Rattle.expr_reader.specs.declared.fields.Fields.{Fields}
use Rattle.expr_reader.specs.declared.named.NamedInputs.{NamedInputs}

-- `Fields` of the code, as data
abbrev pub fields_under : Fields → data_of.Fields
fields_under f =
    record {
      version = view f.version.now;
      workers = view f.workers.now;
      block = view f.block.now;
      inputs = view f.inputs.now;
      expr = view f.expr.now;
    }

-- the inputs and bindings of the code are the named tensors, within bounds, and each name has its
-- number in the code
pub record IsNamed (found : NamedInputs) (bounds : Bounds) (n : Named) : Type 0 where
  pub limit : found.inputs.bounds ≡ bounds
  pub possible : IsPossible bounds
  pub tensors : worked_out (terms_under found.bindings.items) found.inputs.tensors ≡ n.tensors
  pub bound : AreBound bounds found.bindings.items found.inputs.tensors
  pub aligned : length n.names ≡ length n.tensors
  pub numbers : (name : List ℕ) → number_in found.numbers name ≡ number_of n.names name

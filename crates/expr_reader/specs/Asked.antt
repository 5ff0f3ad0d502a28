-- What a `Request` of the code asks for.
use Rattle.std.specs.Prelude.{◌≡◌, [], length, IsTrue, Ok}
use Rattle.tensor_ops.specs.Result.{dims_of}
use Rattle.tensor_ops.specs.Term.{has_inputs}
use Rattle.tensor_ops.specs.Tree.{term_of}
use Rattle.expr_reader.specs.Bindings.{terms_under}
use Rattle.expr_reader.specs.Request as text
use Rattle.expr_reader.specs.declared.request.Request.{Request}

-- a `Request` of the code, as what its text asks for
abbrev pub asked_under : Request → text.Asked
asked_under r =
    record {
      workers = r.workers;
      block = r.block;
      inputs = r.inputs.tensors;
      bounds = r.inputs.bounds;
      bindings = terms_under r.bindings.items;
      term = term_of r.expr;
    }

-- the request has no bindings, so its expression is over its inputs alone
pub record IsUnbound (r : Request) : Type 0 where
  pub bindings : r.bindings.items ≡ []
  pub has_inputs : IsTrue (has_inputs (term_of r.expr) (length r.inputs.tensors))
  pub has_dims : dims_of r.inputs.bounds (term_of r.expr) r.inputs.tensors ≡ Ok r.dims

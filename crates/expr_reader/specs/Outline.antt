-- What an `Outline` of the code asks for.
use Rattle.tensor_ops.specs.Tree.{term_of}
use Rattle.expr_reader.specs.Bindings.{terms_under}
use Rattle.expr_reader.specs.Request as text
use Rattle.expr_reader.specs.declared.outline.Outline.{Outline}

-- an `Outline` of the code, as what its header asks for; values that were not read are zeroes
abbrev pub outlined : Outline → text.Asked
outlined o =
    record {
      workers = o.workers;
      block = o.block;
      inputs = o.inputs.tensors;
      bounds = o.inputs.bounds;
      bindings = terms_under o.bindings.items;
      term = term_of o.expr;
    }

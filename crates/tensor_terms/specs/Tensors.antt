-- The tensors that an expression names.
use Rattle.std.specs.Prelude.{List, ◌++◌}
use Rattle.tensor_terms.specs.Contents.{Contents}
use Rattle.tensor_terms.specs.declared.tensor.tensors.Tensors.{Tensors}

-- the inputs, followed by the other tensors
abbrev pub tensors_in : Tensors → List Contents
tensors_in t = t.inputs.now.tensors ++ t.others.now

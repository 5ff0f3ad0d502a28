-- Terms that are evaluated one after the other.
use Rattle.std.specs.Prelude.{List, [], ◌∷◌, ◌++◌}
use Rattle.tensor_terms.specs.Contents.{Contents}
use Rattle.tensor_terms.specs.Term.{Term}
use Rattle.tensor_terms.specs.Value.{tensor_of}

-- tensors, with the tensors of terms appended; each term is evaluated over all tensors before its
-- own
abbrev pub worked_out : List Term → List Contents → List Contents
worked_out [] tensors = tensors
worked_out (t ∷ terms) tensors = worked_out terms (tensors ++ tensor_of t tensors ∷ [])

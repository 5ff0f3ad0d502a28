-- The expression and the inputs of a cursor.
use Rattle.std.specs.Prelude.{List}
use Rattle.tensor_terms.specs.Contents.{Contents}
use Rattle.tensor_terms.specs.Term.{Term}
use Rattle.tensor_terms.specs.Tree.{term_of}
use Rattle.tensor_terms.specs.declared.cursor.Cursor.{Cursor}

-- the term whose values a cursor reads
abbrev pub term_under : Cursor → Term
term_under c = term_of c.expr.now

-- the inputs of that term
abbrev pub inputs_under : Cursor → List Contents
inputs_under c = c.inputs.now.tensors

-- What a `PartEvaluator` evaluates.
use Rattle.std.specs.Prelude.{List}
use Rattle.tensor_terms.specs.Contents.{Contents}
use Rattle.tensor_terms.specs.Tensors.{tensors_in}
use Rattle.tensor_terms.specs.Term.{Term}
use Rattle.tensor_terms.specs.Tree.{term_of}
use Rattle.tensor_ops.specs.declared.part_evaluator.PartEvaluator.{PartEvaluator}

-- the term whose values it returns parts of
abbrev pub term_in_parts : PartEvaluator → Term
term_in_parts e = term_of e.expr.now

-- the inputs of that term
abbrev pub inputs_in_parts : PartEvaluator → List Contents
inputs_in_parts e = tensors_in e.tensors

-- What a `TensorEvaluator` evaluates.
use Rattle.std.specs.Prelude.{List}
use Rattle.tensor_terms.specs.Contents.{Contents}
use Rattle.tensor_terms.specs.Tensors.{tensors_in}
use Rattle.tensor_terms.specs.Term.{Term}
use Rattle.tensor_terms.specs.Tree.{term_of}
use Rattle.tensor_ops.specs.declared.evaluator.TensorEvaluator.{TensorEvaluator}

-- the term whose values it returns
abbrev pub term_evaluated : TensorEvaluator → Term
term_evaluated e = term_of e.expr.now

-- the inputs of that term
abbrev pub inputs_evaluated : TensorEvaluator → List Contents
inputs_evaluated e = tensors_in e.tensors

-- The items of the kernel of a step.
use Rattle.std.specs.Prelude.{ℕ, List}
use Rattle.tensor_ops.specs.Contents.{Contents}
use Rattle.tensor_ops.specs.Evaluator.{term_evaluated, inputs_evaluated}
use Rattle.tensor_ops.specs.Index.{size_of}
use Rattle.tensor_ops.specs.Result.{shape_of}
use Rattle.tensor_ops.specs.Term.{Term}
use Rattle.tensor_reduce.specs.declared.running.step_kernel.StepKernel.{StepKernel}

-- the term whose values the kernel computes
abbrev pub kernel_term : StepKernel → Term
kernel_term kernel = term_evaluated kernel.evaluator

-- the tensors that the term names by number
abbrev pub kernel_tensors : StepKernel → List Contents
kernel_tensors kernel = inputs_evaluated kernel.evaluator

-- the number of places of the term
abbrev pub kernel_size : StepKernel → ℕ
kernel_size kernel = size_of (shape_of (kernel_term kernel) (kernel_tensors kernel))

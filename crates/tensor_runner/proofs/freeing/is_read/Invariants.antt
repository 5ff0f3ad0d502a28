-- The bindings passed don't read the tensor.
use Rattle.std.proofs.Common.{◌≡◌, drop}
use Rattle.expr_reader.specs.Tree.{term_of}
use Rattle.tensor_runner.specs.private.Held.{is_read}
use Rattle.tensor_runner.proofs.freeing.is_read.Given as goal

abbrev pub invariant-loop-binding : goal.invariant-loop-binding
invariant-loop-binding l =
    is_read l.number (drop l.binding-index l.left) (term_of l.expr)
    ≡ is_read l.number l.initial.left (term_of l.expr)

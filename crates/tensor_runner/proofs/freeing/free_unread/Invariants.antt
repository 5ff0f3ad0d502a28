-- What is left reads what it read before.
use Rattle.std.proofs.Common.{◌≡◌, ◌+◌, List, length, drop}
use Rattle.expr_reader.specs.Contents.{Contents}
use Rattle.expr_reader.specs.Tree.{term_of}
use Rattle.tensor_runner.specs.private.Held.{AreHeldFor}
use Rattle.tensor_runner.proofs.freeing.free_unread.Given as goal

abbrev pub invariant-loop-number : goal.invariant-loop-number
invariant-loop-number l = record {
  held : (all : List Contents)
      → AreHeldFor (drop (l.done + 1) l.request.bindings.items) (term_of l.request.expr)
      l.initial.tensors.tensors all
      → AreHeldFor (drop (l.done + 1) l.request.bindings.items) (term_of l.request.expr)
      l.tensors.tensors all;
  many : length l.tensors.tensors ≡ length l.initial.tensors.tensors;
  bounds : l.tensors.bounds ≡ l.initial.tensors.bounds;
}

-- The dims of the inputs so far stand behind what was there, and are legal.
use Rattle.std.proofs.Common.{◌≡◌, ◌++◌, ℕ, List, take, IsTrue}
use Rattle.prepared_expressions.specs.Prepared.{recorded_dims, dims_of_all, all_legal}
use Rattle.prepared_expressions.proofs.prepared.write_dims.Given as goal

abbrev pub invariant-loop-number : goal.invariant-loop-number
invariant-loop-number l = record {
  numbers : (rest : List ℕ) → l.numbers.items ++ rest
      ≡ l.fn.numbers.items ++ recorded_dims (dims_of_all (take l.number l.inputs.tensors)) rest;
  legal : IsTrue (all_legal l.bounds (dims_of_all (take l.number l.inputs.tensors)));
}

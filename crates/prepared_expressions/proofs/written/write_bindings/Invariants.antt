-- The numbers of the bindings so far stand behind what was there, and a record can say each.
use Rattle.std.proofs.Common.{◌≡◌, ◌++◌, ℕ, List, take}
use Rattle.std.specs.List.{All}
use Rattle.expr_reader.specs.Bindings.{terms_under}
use Rattle.prepared_expressions.specs.Prepared.{IsWritable}
use Rattle.prepared_expressions.specs.Recorded.{recorded_all}
use Rattle.prepared_expressions.proofs.written.write_bindings.Given as goal

abbrev pub invariant-loop-binding : goal.invariant-loop-binding
invariant-loop-binding l = record {
  numbers : (rest : List ℕ) → l.numbers.items ++ rest
      ≡ l.fn.numbers.items ++ recorded_all (terms_under (take l.binding-index l.bindings)) rest;
  writable : All IsWritable (terms_under (take l.binding-index l.bindings));
}

use Rattle.std.proofs.Common.{ℕ, List, ◌++◌, take, subst, arith}
use Rattle.std.proofs.lemmas.List.{take-append-le, length-take-le}
use Rattle.tensor_runner.specs.private.Kept.{IsKept}
use Rattle.tensor_runner.proofs.reading.read_some.Goals as goal

pub returns-clause-taken : goal.returns-clause-taken
returns-clause-taken g c =
    let count = c.in-Ok.count in
    let read = c.in-Ok.ensures.bytes in
    let within = c.in-Ok.ensures.bound in
    record {
      bytes = take count c.read.new.buffer;
      behind = λ text is.
          subst (λ (l : List ℕ). IsKept (text ++ l) c.keep.new.self) (take-append-le count c.read.new.buffer _ within.0) (c.keep.ensures.kept text is);
      counted = length-take-le count c.read.new.buffer within.0;
      room = omega (arith, c.len.ensures, c.min-room.ensures, within.0, within.1, c.requires);
      consumed = read.0;
      ended = λ none. read.1 none (omega (arith, c.len.ensures, c.min-room.ensures, within.1, c.requires));
    }

-- What is written so far has no line feed.
use Rattle.fault_reasons.specs.Explained.{IsOneLine}
use Rattle.fault_reasons.proofs.lines.one_line.Given as goal

abbrev pub invariant-loop-byte : goal.invariant-loop-byte
invariant-loop-byte l = IsOneLine l.line.items

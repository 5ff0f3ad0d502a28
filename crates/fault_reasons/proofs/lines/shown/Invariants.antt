-- What is written so far, before the bytes that are left, is the pointer as it is shown.
use Rattle.std.proofs.Common.{◌≡◌, ◌++◌, drop, flat_map}
use Rattle.fault_reasons.specs.Pointer.{shown}
use Rattle.fault_reasons.proofs.lines.shown.Given as goal

abbrev pub invariant-loop-byte : goal.invariant-loop-byte
invariant-loop-byte l =
    l.place.items ++ flat_map shown (drop l.byte-index l.pointer) ≡ flat_map shown l.pointer

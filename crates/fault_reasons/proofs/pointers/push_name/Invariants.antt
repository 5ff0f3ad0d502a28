-- What is written so far, before the bytes of the rest, is the name's step.
use Rattle.std.proofs.Common.{◌≡◌, ◌++◌, drop, flat_map}
use Rattle.expr_reader.specs.Place.{field}
use Rattle.fault_reasons.specs.Pointer.{escaped, step_text}
use Rattle.fault_reasons.proofs.pointers.push_name.Given as goal

abbrev pub invariant-loop-byte : goal.invariant-loop-byte
invariant-loop-byte l =
    l.text.items ++ flat_map escaped (drop l.byte-index l.byte-items)
    ≡ l.fn.text.items ++ step_text (field l.fn.name)

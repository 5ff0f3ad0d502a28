use Rattle.std.proofs.Common.{◌-◌, ◌<◌, ◌++◌, length, drop, get_or, map, reverse, codes, decimal, append_assoc, arith}
use Rattle.std.proofs.lemmas.Grind.{common_steps}
use Rattle.std.proofs.lemmas.List.{take_all, length-drop}
use Rattle.expr_reader.specs.Place.{index}
use Rattle.fault_reasons.specs.Pointer.{pointer_of}
use Rattle.fault_reasons.proofs.Indices.{pointer_of-from}
use Rattle.fault_reasons.proofs.pointers.+push_indices.Goals as goal

pub returns : goal.returns
returns t c =
    let indices = c.args.indices.now in
    let some : 0 < length c.args.indices.now = grind (arith, common_steps) in
    let rest = rw (take_all (length indices - 1) (drop 1 indices) (omega (arith, length-drop 1 indices))) at c.in_ok-push_indices.ensures in
    rw (
      c.in_ok-extend_from_slice.ensures.items,
      c.as_bytes.ensures.value,
      c.in_ok-step.ensures.ok,
      rest,
      pointer_of-from indices 0 some,
    )
    (append_assoc c.args.text.now.items (pointer_of (map index (reverse (drop 1 indices)))) (codes "/" ++ decimal (get_or indices 0 0)))

-- The tensors and numbers so far, before those of the rest, are those of all members; the first
-- that is no tensor is one of the rest. All of the tensors are within bounds.
use Rattle.std.proofs.Common.{◌≡◌, ◌+◌, ℕ, List, length}
use Rattle.std.specs.List.{position_from}
use Rattle.std.specs.Option.{option_or}
use Rattle.std.specs.Str.{bytes_eq}
use Rattle.serde_json.specs.View.{members_view}
use Rattle.tensor_ops.specs.Contents.{AreWithin}
use Rattle.expr_reader.specs.private.Behind.{source_of, tensors_by, place_by}
use Rattle.expr_reader.specs.private.Numbers.{number_in}
use Rattle.expr_reader.specs.Tensors.{names_in, number_of}
use Rattle.expr_reader.proofs.Lists.{after}
use Rattle.expr_reader.proofs.named.read_members.Given as goal

abbrev pub invariant-loop-name : goal.invariant-loop-name
invariant-loop-name l =
    ((goal.iterator-loop-name).can_next l.name-iterator)
    × ((goal.iterator-loop-name).is_finite l.name-iterator)
    × (length l.tensors.items + length l.name-iterator ≡ length l.fn.members.entries)
    × AreWithin l.bounds l.tensors.items
    × (after l.tensors.items (tensors_by (source_of l.left) l.bounds (members_view l.name-iterator))
    ≡ tensors_by (source_of l.fn.values) l.bounds (members_view l.fn.members.entries))
    × (place_by (source_of l.left) l.bounds (members_view l.name-iterator)
    ≡ place_by (source_of l.fn.values) l.bounds (members_view l.fn.members.entries))
    × ((name : List ℕ) → option_or (number_in l.numbers name)
    (position_from (λ other. bytes_eq name other) (length l.tensors.items) (names_in (members_view l.name-iterator)))
    ≡ number_of (names_in (members_view l.fn.members.entries)) name)

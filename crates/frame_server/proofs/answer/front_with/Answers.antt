use Rattle.std.proofs.Common.{◌∙◌, ap, ℕ, List, ◌++◌, append_assoc, length}
use Rattle.frame_server.specs.Frame.{number_bytes}
use Rattle.frame_server.proofs.answer.front_with.Goals as goal

pub returns : goal.returns
unfolding number_bytes
returns c =
    let header = c.args.header.now in
    let first = c.in_ok-front.ensures.items ∙ c.to_le_bytes.ensures in
    let second = c.in_ok-extend_from_slice.ensures.items
    ∙ ap (λ (l : List ℕ). l ++ c.to_le_bytes-2.result) first
    ∙ ap (λ (l : List ℕ). number_bytes (length header) ++ l) c.to_le_bytes-2.ensures in
    c.in_ok-extend_from_slice-2.ensures.items
    ∙ ap (λ (l : List ℕ). l ++ header) second
    ∙ append_assoc (number_bytes (length header)) (number_bytes c.args.value_count) header

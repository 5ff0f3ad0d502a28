use Rattle.std.proofs.Common.{◌≡◌, ◌-◌, min, List, length, ◌++◌, take, ◌∙◌, ap, sym, ℕ, true, arith, length-append}
use Rattle.std.proofs.lemmas.List.{length-take}
use Rattle.std.specs.Result.{is_ok}
use Rattle.tensor_runner.specs.Run.{most_reads}
use Rattle.tensor_runner.proofs.Parts.{take-behind}
use Rattle.tensor_runner.proofs.Streams.{kept-len}
use Rattle.tensor_runner.proofs.kept.KeptText.keep.Goals as goal

pub returns-then-is_ok-clause-kept : goal.returns-then-is_ok-clause-kept
returns-then-is_ok-clause-kept c = λ line is.
    let text = c.in-Text.text.items in
    let piece = c.args.piece.now in
    let own : text ≡ take most_reads line = rw c.in-Text.is at is in
    let well : is_ok c.extend_from_slice.result ≡ true = sym c.is_ok.ensures.value ∙ c.if-is_ok.true in
    let items = rw well at c.extend_from_slice.ensures.items in
    let len : c.len-length.result ≡ length text = rw c.in-Text.is at c.len-length.ensures in
    let room : c.min-room.result ≡ min (most_reads - length text) (length piece) =
    c.min-room.ensures
    ∙ ap (λ (r : ℕ). min r (length piece)) (c.saturating_sub.ensures ∙ ap (λ (n : ℕ). most_reads - n) len) in
    let all : text ++ take c.min-room.result piece ≡ take most_reads (line ++ piece) =
    ap (λ (r : ℕ). text ++ take r piece) room ∙ take-behind most_reads line text piece own in
    items ∙ all

pub returns-clause-kept : goal.returns-clause-kept
returns-clause-kept c = λ text is.
    let piece = c.args.piece.now in
    omega (
      arith,
      c.len-length.ensures,
      kept-len text c.args.self.now is,
      c.min-room.ensures,
      c.saturating_sub.ensures,
      length-take most_reads (text ++ piece),
      length-append text piece,
    )

pub returns-then-is_ok-clause-few : goal.returns-then-is_ok-clause-few
returns-then-is_ok-clause-few c =
    let text = c.in-Text.text.items in
    let piece = c.args.piece.now in
    let well : is_ok c.extend_from_slice.result ≡ true = sym c.is_ok.ensures.value ∙ c.if-is_ok.true in
    let items = rw well at c.extend_from_slice.ensures.items in
    let len : c.len-length.result ≡ length text = rw c.in-Text.is at c.len-length.ensures in
    omega (
      arith,
      ap (λ (l : List ℕ). length l) items,
      length-append text (take c.min-room.result piece),
      length-take c.min-room.result piece,
      len,
      c.if-all-most.true,
    )

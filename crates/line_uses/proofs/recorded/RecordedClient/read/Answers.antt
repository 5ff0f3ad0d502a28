use Rattle.std.proofs.Common.{◌≡◌, ◌≤◌, ◌+◌, ◌-◌, ◌∙◌, ℕ, List, take, drop, length, Some, ap, arith, length-append}
use Rattle.std.proofs.lemmas.List.{length-drop, length-take}
use Rattle.line_uses.proofs.Taken.{drop-given, take-given, none_left}
use Rattle.line_uses.proofs.recorded.RecordedClient.read.Goals as goal

pub returns-clause-bytes : goal.returns-clause-bytes
returns-clause-bytes g c =
    let xs = c.args.self.now.asked.items in
    let start = c.args.self.now.taken in
    let count = c.min-count.result in
    let len : c.len.result ≡ length xs = omega (arith, c.len.ensures, c.args.self.now.asked.ok.0) in
    let within : start + count ≤ length xs = omega (arith, len, c.min-count.ensures, c.args.self.now.in_range) in
    let some : (start + count) - start ≡ count = omega arith in
    let same : c.copy_from_slice.new.self ≡ take count (drop start xs) =
    c.copy_from_slice.ensures.after ∙ ap (λ (n : ℕ). take n (drop start c.deref.result.now)) some
    ∙ ap (λ (l : List ℕ). take count (drop start l)) c.deref.ensures.value in (
      drop-given xs c.copy_from_slice.new.self (drop count c.args.buffer.now) start count within same,
      λ none room.
          none_left xs start count (omega (
            arith,
            len,
            c.min-count.ensures,
            none,
            room,
            ap length same,
            length-append c.copy_from_slice.new.self (drop count c.args.buffer.now),
            length-drop count c.args.buffer.now,
            length-take count (drop start xs),
          )),
    )

pub returns-clause-history : goal.returns-clause-history
returns-clause-history g c =
    let xs = c.args.self.now.asked.items in
    let start = c.args.self.now.taken in
    let count = c.min-count.result in
    let len : c.len.result ≡ length xs = omega (arith, c.len.ensures, c.args.self.now.asked.ok.0) in
    let within : start + count ≤ length xs = omega (arith, len, c.min-count.ensures, c.args.self.now.in_range) in
    let some : (start + count) - start ≡ count = omega arith in
    let same : c.copy_from_slice.new.self ≡ take count (drop start xs) =
    c.copy_from_slice.ensures.after ∙ ap (λ (n : ℕ). take n (drop start c.deref.result.now)) some
    ∙ ap (λ (l : List ℕ). take count (drop start l)) c.deref.ensures.value in
    ap (λ (l : List ℕ). Some (record { taken = l; written = c.args.self.now.answers.items }))
    (take-given xs c.copy_from_slice.new.self (drop count c.args.buffer.now) start count within same)

use Rattle.std.proofs.Common.{◌≡◌, ◌+◌, ◌-◌, ◌<◌, ℕ, [], length, false, ap, sym, ◌∙◌, arith}
use Rattle.std.proofs.lemmas.Bool.{eqb-true}
use Rattle.std.proofs.lemmas.List.{length-set, get_or_default}
use Rattle.tensor_ops.specs.Contents.{input_of, nothing}
use Rattle.tensor_reduce.specs.private.Readers.{are_reading}
use Rattle.parallel_for.proofs.Rows.{items-none}
use Rattle.tensor_reduce.proofs.Freeing.{AreHeld-set, empty-set, empty-more}
use Rattle.tensor_reduce.proofs.running.freeing.free_unread.Goals as goal
use Rattle.tensor_reduce.proofs.running.freeing.free_unread.Goals.{then-not-is_empty+else-number-ge-NUMBERS+else-are_reading, else-not-is_empty}

pub loop-behind-preserved : goal.loop-behind-preserved
loop-behind-preserved c =
    let left = c.args.left.now in
    let inputs = c.args.inputs.now.tensors in
    let items = c.loop-behind.tensors.items in
    let inv = c.loop-behind.invariant in
    let place : ℕ = c.len-in-loop-behind.result - 1 - c.loop-behind.behind in
    let number : ℕ = c.from-first.result + place in
    elim c.if-not-is_empty.branch [
      | then-not-is_empty+else-number-ge-NUMBERS+else-are_reading w ↦
          let there : number ≡ length inputs + place =
          omega (arith, c.from-first.ensures, c.len.ensures) in
          let before : place + 1 < length items =
          omega (arith, c.len-in-loop-behind.ensures, c.loop-behind-test.true) in
          let unread : are_reading number left ≡ false =
          sym w.are_reading.ensures ∙ w.if-are_reading.false in
          rw (w.tensors-is, w.put.ensures.items) (record {
            held = λ whole are.
                AreHeld-set left whole inputs items number place w.freed.result there before unread
                (inv.held whole are);
            empty = λ p from below.
                empty-set items place w.freed.result (omega arith) w.freed.ensures
                (λ q behind. inv.empty q (omega (arith, c.len-in-loop-behind.ensures)))
                p (omega (arith, from, length-set items place w.freed.result)) below;
            len = length-set items place w.freed.result ∙ inv.len;
            capacity = w.put.ensures.capacity ∙ inv.capacity;
          })
      | else-not-is_empty w ↦
          let inside : place < length items =
          omega (arith, c.len-in-loop-behind.ensures, c.loop-behind-test.true) in
          let read : c.index.result.now ≡ input_of items place =
          c.index.ensures ∙ get_or_default items place c.index.result.now nothing inside in
          let none : c.values.result.now ≡ [] =
          items-none c.values.result.now
          (eqb-true _ _ (sym c.is_empty.ensures ∙ w.if-not-is_empty.false)) in
          let here : (input_of items place).values ≡ [] =
          ap (λ t. t.values) (sym read) ∙ sym c.values.ensures.value ∙ none in
          rw w.tensors-is (record {
            held = inv.held;
            empty = λ p from below.
                empty-more items place
                (λ q behind. inv.empty q (omega (arith, c.len-in-loop-behind.ensures))) here
                p (omega (arith, from, c.len-in-loop-behind.ensures)) below;
            len = inv.len;
            capacity = inv.capacity;
          })
    ]

use Rattle.std.proofs.Common.{◌≡◌, ◌-◌, ◌++◌, length, take, drop, sym, subst, arith}
use Rattle.std.proofs.lemmas.List.{length-drop, take_all}
use Rattle.tensor_ops.specs.Sequence.{worked_out}
use Rattle.tensor_reduce.specs.Plan.{terms_in}
use Rattle.tensor_reduce.specs.private.Held.{AreHeld}
use Rattle.tensor_reduce.proofs.running.work_out.Goals as goal

pub loop-done-preserved : goal.loop-done-preserved
loop-done-preserved g c =
    let steps = c.args.steps.now in
    let inputs = c.args.inputs.now.tensors in
    let done = c.in_ok-done.done in
    let whole = worked_out (terms_in steps) inputs in
    let left : take (length steps - done) (drop done steps) ≡ drop done steps =
    take_all (length steps - done) (drop done steps) (omega (arith, length-drop done steps)) in
    record {
      held =
          subst (λ l. AreHeld l whole (inputs ++ c.free_unread.new.tensors.items)) left
          (c.free_unread.ensures.held whole
          (subst (λ l. AreHeld l whole (inputs ++ c.advance.new.tensors.items)) (sym left)
          c.in_ok-done.ensures.held));
      some = λ more. omega (arith, c.free_unread.ensures.len, c.in_ok-done.ensures.some);
      room = omega (
        arith,
        c.free_unread.ensures.len,
        c.free_unread.ensures.capacity,
        c.in_ok-done.ensures.room,
      );
    }

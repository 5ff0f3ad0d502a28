use Rattle.std.proofs.Common.{◌+◌, drop, get_or, arith}
use Rattle.std.proofs.lemmas.Grind.{common_steps}
use Rattle.std.proofs.Math.Nat.{mod-lt}
use Rattle.tensor_views.specs.Forward.{no_axis}
use Rattle.tensor_views.proofs.SplitAxes.{view_size-at}
use Rattle.tensor_views.proofs.Views.{reached-start, reached-drop, row-within}
use Rattle.tensor_views.proofs.view.ViewRef.at.Goals as goal

pub steps_to-requires : goal.steps_to-requires
steps_to-requires c =
    let i = c.loop-axis.axis-index in
    let within = rw (view_size-at c.args.self.axes.now i no_axis c.loop-axis-test.true) at
    c.loop-axis.invariant.within in
    mod-lt c.loop-axis.rest
    (row-within 0 (get_or c.args.self.axes.now i no_axis) (drop (i + 1) c.args.self.axes.now) c.loop-axis.rest
    within).0

pub loop-axis-preserved : goal.loop-axis-preserved
loop-axis-preserved c =
    let i = c.loop-axis.axis-index in
    let more = reached-drop c.args.self.axes.now i c.loop-axis.rest no_axis c.loop-axis-test.true in
    let within = rw (view_size-at c.args.self.axes.now i no_axis c.loop-axis-test.true) at
    c.loop-axis.invariant.within in
    record {
      whole = rw c.steps_to.ensures (omega (arith, more, c.loop-axis.invariant.whole));
      within = (row-within 0 (get_or c.args.self.axes.now i no_axis) (drop (i + 1) c.args.self.axes.now)
          c.loop-axis.rest within).1;
    }

pub overflow_mul-reached : goal.overflow_mul-reached
overflow_mul-reached c =
    let whole = reached-start c.args.self.start c.args.self.axes.now c.args.place in
    let more = reached-drop c.args.self.axes.now c.loop-axis.axis-index c.loop-axis.rest no_axis
    c.loop-axis-test.true in
    rw c.steps_to.ensures (omega (arith, whole, more, c.loop-axis.invariant.whole, c.requires.fits))

pub overflow_add-reached : goal.overflow_add-reached
overflow_add-reached c =
    let whole = reached-start c.args.self.start c.args.self.axes.now c.args.place in
    let more = reached-drop c.args.self.axes.now c.loop-axis.axis-index c.loop-axis.rest no_axis
    c.loop-axis-test.true in
    rw c.steps_to.ensures (omega (arith, whole, more, c.loop-axis.invariant.whole, c.requires.fits))

pub overflow_add-result : goal.overflow_add-result
overflow_add-result c =
    let whole = reached-start c.args.self.start c.args.self.axes.now c.args.place in
    grind (arith, common_steps, whole)

pub returns : goal.returns
returns c =
    let whole = reached-start c.args.self.start c.args.self.axes.now c.args.place in
    grind (arith, common_steps, whole)

use Rattle.std.proofs.Common.{◌≡◌, ◌+◌, ◌-◌, ◌<◌, ◌≤◌, ◌%◌, ℕ, map, drop, get_or, [], ap}
use Rattle.std.proofs.Common.{sym, ◌∙◌, arith}
use Rattle.std.proofs.Math.Nat.{mod-le, mul-le-mul_right}
use Rattle.std.proofs.lemmas.List.{drop_all}
use Rattle.tensor_views.specs.Forward.{no_axis}
use Rattle.tensor_views.specs.Composing.{span}
use Rattle.tensor_views.specs.private.Tracing.{left_axis, traced_axis, opened, extent_along, passed}
use Rattle.tensor_views.specs.View.{reached}
use Rattle.tensor_views.proofs.Compositions.{left-opened, size-opened, composed-begins, composed-goes}
use Rattle.tensor_views.proofs.Compositions.{left-within, step-within, first_step, first_step-most}
use Rattle.tensor_views.proofs.Compositions.{begins-within, view_size-passed, extent_along-span}
use Rattle.tensor_views.proofs.SplitAxes.{span-at, reached-at, some-at, some-after}
use Rattle.tensor_views.proofs.Views.{reached-start}
use Rattle.tensor_views.proofs.view.ViewRef.then.Goals as goal

pub loop-axis-init : goal.loop-axis-init
loop-axis-init c =
    let same = c.in_ok-axes.ensures in
    let traces : c.in_ok-traces.traces.items ≡ map opened c.in_ok-axes.axes.items = c.in_ok-traces.ensures ∙ ap (map opened) c.deref.ensures.value in
    rw traces (record {
      some = c.requires.some;
      size = size-opened c.in_ok-axes.axes.items ∙ same.size;
      first = omega (arith, ap span (left-opened c.in_ok-axes.axes.items), same.span, c.requires.first);
      second = c.requires.second;
      reaches = λ p below.
          composed-begins c.args.self.start c.args.second.start c.args.self.axes.now c.in_ok-axes.axes.items c.args.second.axes.now p same;
    })

pub extent_along-extent-requires-clause-fits : goal.extent_along-extent-requires-clause-fits
extent_along-extent-requires-clause-fits c =
    let b = get_or c.args.second.axes.now c.loop-axis.axis-index no_axis in
    rw c.deref-in-loop-axis.ensures.value (omega (arith, extent_along-span b c.loop-axis.traces.items, c.loop-axis.invariant.first))

pub nonzero_rem-low : goal.nonzero_rem-low
nonzero_rem-low c =
    omega (
      arith,
      some-at c.args.second.axes.now c.loop-axis.axis-index no_axis c.loop-axis-test.true
          c.loop-axis.invariant.some,
    )

pub extent_along-extent-requires-clause-size : goal.extent_along-extent-requires-clause-size
extent_along-extent-requires-clause-size c =
    some-at c.args.second.axes.now c.loop-axis.axis-index no_axis c.loop-axis-test.true
    c.loop-axis.invariant.some

pub overflow_add-low : goal.overflow_add-low
overflow_add-low c =
    let b = get_or c.args.second.axes.now c.loop-axis.axis-index no_axis in
    let extent : c.extent_along-extent.result ≡ extent_along b c.loop-axis.traces.items =
    c.extent_along-extent.ensures ∙ ap (extent_along b) c.deref-in-loop-axis.ensures.value in
    omega (arith, extent, extent_along-span b c.loop-axis.traces.items, c.loop-axis.invariant.first, mod-le c.loop-axis.left b.size)

-- the place is within bounds along one axis more
pub overflow_mul-place : goal.overflow_mul-place
overflow_mul-place c =
    let b = get_or c.args.second.axes.now c.loop-axis.axis-index no_axis in
    let second = rw (span-at c.args.second.axes.now c.loop-axis.axis-index no_axis c.loop-axis-test.true)
    at c.loop-axis.invariant.second in
    omega (
      arith,
      begins-within b (drop (c.loop-axis.axis-index + 1) c.args.second.axes.now)
          (c.loop-axis.left % b.size) c.extent_along-extent.result
          c.loop-axis.place c.first_step.result _ c.first_step.ensures c.if-axis-low.false second,
    )

pub overflow_add-place : goal.overflow_add-place
overflow_add-place c =
    let b = get_or c.args.second.axes.now c.loop-axis.axis-index no_axis in
    let second = rw (span-at c.args.second.axes.now c.loop-axis.axis-index no_axis c.loop-axis-test.true)
    at c.loop-axis.invariant.second in
    omega (
      arith,
      begins-within b (drop (c.loop-axis.axis-index + 1) c.args.second.axes.now)
          (c.loop-axis.left % b.size) c.extent_along-extent.result
          c.loop-axis.place c.first_step.result _ c.first_step.ensures c.if-axis-low.false second,
    )

pub all_passed-requires-clause-size : goal.all_passed-requires-clause-size
all_passed-requires-clause-size c =
    some-at c.args.second.axes.now c.loop-axis.axis-index no_axis c.loop-axis-test.true
    c.loop-axis.invariant.some

pub all_passed-requires-clause-fits : goal.all_passed-requires-clause-fits
all_passed-requires-clause-fits c =
    let b = get_or c.args.second.axes.now c.loop-axis.axis-index no_axis in
    let span = span-at c.args.second.axes.now c.loop-axis.axis-index no_axis c.loop-axis-test.true in
    let extent : c.extent_along-extent.result ≡ extent_along b c.loop-axis.traces.items =
    c.extent_along-extent.ensures ∙ ap (extent_along b) c.deref-in-loop-axis.ensures.value in
    let most : extent_along b c.loop-axis.traces.items ≤ b.size - 1 = omega (arith, extent) in
    rw c.deref-in-loop-axis-2.ensures.value
    (omega (arith, c.loop-axis.invariant.second, span, mul-le-mul_right b.step most))

pub nonzero_div-left : goal.nonzero_div-left
nonzero_div-left c =
    omega (
      arith,
      some-at c.args.second.axes.now c.loop-axis.axis-index no_axis c.loop-axis-test.true
          c.loop-axis.invariant.some,
    )

pub loop-axis-preserved : goal.loop-axis-preserved
loop-axis-preserved c =
    let inv = c.loop-axis.invariant in
    let k = c.loop-axis.axis-index in
    let b = get_or c.args.second.axes.now k no_axis in
    let rest = drop (k + 1) c.args.second.axes.now in
    let traces = c.loop-axis.traces.items in
    let left = c.loop-axis.left in
    let extent : c.extent_along-extent.result ≡ extent_along b traces =
    c.extent_along-extent.ensures ∙ ap (extent_along b) c.deref-in-loop-axis.ensures.value in
    let within : left % b.size + extent_along b traces < b.size = omega (arith, extent) in
    let step : c.first_step.result ≡ first_step b (left % b.size) (left % b.size + extent_along b traces) =
    c.first_step.ensures ∙ ap (λ n. first_step b (left % b.size) (left % b.size + n)) extent in
    let after : c.in_ok-traces-2.traces.items ≡ map (passed b) traces =
    c.in_ok-traces-2.ensures ∙ ap (map (passed b)) c.deref-in-loop-axis-2.ensures.value in
    let most = first_step-most b (left % b.size) (left % b.size + extent_along b traces) (omega arith) within in
    rw (after, step) (record {
      some = some-after c.args.second.axes.now k (omega arith) inv.some;
      size = view_size-passed b traces ∙ inv.size;
      first = left-within b rest traces left _ inv.first;
      second =
          step-within b rest c.loop-axis.place (first_step b (left % b.size) (left % b.size + extent_along b traces)) _ most
          (omega (arith, inv.second, span-at c.args.second.axes.now k no_axis c.loop-axis-test.true));
      reaches = λ p below.
          let q : ℕ = left + reached 0 (map left_axis traces) p in
          composed-goes b rest traces left c.loop-axis.place p within (omega (arith, inv.size))
          ∙ ap (λ n. c.loop-axis.place + reached 0 (map traced_axis traces) p + n)
          (sym (reached-at c.args.second.axes.now k q no_axis c.loop-axis-test.true))
          ∙ inv.reaches p below;
    })

pub returns : goal.returns
returns c =
    let inv = c.loop-axis.invariant in
    let axes : c.in_ok-traced_axes.field-0.items ≡ map traced_axis c.loop-axis.traces.items =
    c.in_ok-traced_axes.ensures ∙ ap (map traced_axis) c.deref-2.ensures.value in
    let none : drop c.loop-axis.axis-index c.args.second.axes.now ≡ [] = drop_all c.loop-axis.axis-index c.args.second.axes.now (omega arith) in
    rw axes (record {
      size = inv.size;
      reaches = λ p below.
          let whole = rw none at inv.reaches p below in
          omega (arith, whole, reached-start c.loop-axis.place (map traced_axis c.loop-axis.traces.items) p);
    })

use Rattle.std.proofs.Common.{◌+◌, ◌≤◌, length, ap, sym, subst, ◌∙◌}
use Rattle.std.proofs.Common.{le_trans, le-add_right}
use Rattle.tensor_dots.specs.WindowDots.{window_dots_value}
use Rattle.tensor_dots.proofs.Parts.{length-written, get_or-written, places-below, line-place}
use Rattle.tensor_dots.proofs.dots.window_dots.WindowDots.fill.Goals as goal

pub loop-place-preserved : goal.loop-place-preserved
loop-place-preserved c =
    let first = c.args.first in
    let place = c.loop-place.place in
    let count = c.min-count.result in
    let out = c.loop-place.out in
    let part = c.fill_run.new.out in
    let l = c.loop-place.invariant in
    let below = places-below _ place (first + length c.args.out.now) count
    c.min-count.ensures c.loop-place-test.true in
    let within = subst (λ n. place + count ≤ first + n) (sym l.len) below in
    record {
      above = le_trans l.above (le-add_right place count);
      below = below;
      len = length-written first place count out part l.above within c.fill_run.ensures.len ∙ l.len;
      each = get_or-written first place count out part l.above within c.fill_run.ensures.len
          (window_dots_value c.args.self.now) l.each
          (λ k few. c.fill_run.ensures.each k few
          ∙ ap (window_dots_value c.args.self.now) (line-place c.args.self.now.runs.width place k));
    }

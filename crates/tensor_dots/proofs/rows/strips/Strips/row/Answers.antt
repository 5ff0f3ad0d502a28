use Rattle.std.proofs.Common.{◌-◌, length, ap, ◌∙◌, arith}
use Rattle.std.proofs.lemmas.List.{get_or_default}
use Rattle.tensor_dots.proofs.rows.strips.Strips.row.Goals as goal

pub overflow_add-result : goal.overflow_add-result
overflow_add-result c =
    let s = c.args.self.now in
    let last = s.inside c.args.x (s.width - 1) c.requires (omega (arith, s.some)) in
    let read = c.index-start.ensures
    ∙ get_or_default s.starts.items c.args.x c.index-start.result.now 0 c.requires in
    omega (arith, last, s.some, read, ap length c.as_slice.ensures.value)

pub offset_bounds-as_slice-start : goal.offset_bounds-as_slice-start
offset_bounds-as_slice-start c =
    let s = c.args.self.now in
    let last = s.inside c.args.x (s.width - 1) c.requires (omega (arith, s.some)) in
    let read = c.index-start.ensures
    ∙ get_or_default s.starts.items c.args.x c.index-start.result.now 0 c.requires in
    omega (arith, last, s.some, read, ap length c.as_slice.ensures.value)

pub slice_bounds-result-end : goal.slice_bounds-result-end
slice_bounds-result-end c =
    let s = c.args.self.now in
    let last = s.inside c.args.x (s.width - 1) c.requires (omega (arith, s.some)) in
    let read = c.index-start.ensures
    ∙ get_or_default s.starts.items c.args.x c.index-start.result.now 0 c.requires in
    omega (arith, last, s.some, read, ap length c.as_slice.ensures.value)

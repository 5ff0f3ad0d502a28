use Rattle.std.proofs.Common.{◌*◌, ◌/◌, ◌<◌, length, sym, ap, subst, ◌∙◌, arith}
use Rattle.tensor_kernels.specs.private.PairedBands.{AreOfColumns}
use Rattle.tensor_kernels.proofs.Columns.{columns-few, place-columns}
use Rattle.tensor_kernels.proofs.tiling.Tiled.add_group.Goals as goal

pub factors_of-requires-clause-few : goal.factors_of-requires-clause-few
factors_of-requires-clause-few c =
    columns-few c.args.self.now.rows _ _ c.div_ceil-columns.ensures (omega arith) c.requires.inside

pub factors_of-requires-clause-there : goal.factors_of-requires-clause-there
factors_of-requires-clause-there c =
    place-columns c.args.self.now c.args.place (length c.args.out.now) _ (omega arith)
    c.div_ceil-columns.ensures c.requires.within

pub add_blocks-requires-clause-band : goal.add_blocks-requires-clause-band
add_blocks-requires-clause-band c =
    let t = c.args.self.now in
    let some : 0 < t.rows = omega arith in
    let is = c.deref.ensures.value in
    record {
      group = c.requires.group;
      there = place-columns t c.args.place (length c.args.out.now) _ some
          c.div_ceil-columns.ensures c.requires.within;
      few = columns-few t.rows _ _ c.div_ceil-columns.ensures some c.requires.inside;
      half = c.div_ceil.ensures;
      count = ap length is ∙ c.in_ok-factors.ensures.count ∙ c.min-count.ensures;
      factors = subst (AreOfColumns t (c.args.place / t.rows) c.div_ceil-columns.result
          (c.args.group * 2)) (sym is) c.in_ok-factors.ensures.each;
    }

use Rattle.std.proofs.Common.{◌≡◌, ◌∙◌, ◌+◌, [], List, ℕ, ap, arith, replicate}
use Rattle.parallel_for.specs.Leaves.{blocks_of}
use Rattle.parallel_for.specs.Table.{rows_of}
use Rattle.parallel_for.proofs.Rows.{rows_of-more}
use Rattle.parallel_for.proofs.collector.blank.Goals as goal

pub loop-init : goal.loop-init
loop-init g c = record {
  rows = ap rows_of c.in_ok-table.ensures.items;
  len = c.in_ok-table.ensures.len;
  room = c.in_ok-table.ensures.room;
}

pub loop-preserved : goal.loop-preserved
loop-preserved g c = record {
  rows =
      rows_of-more c.loop.table.items c.push_reserved.new.self.items c.new.result c.loop.counter
      c.push_reserved.ensures.items c.new.ensures.items c.loop.invariant.rows;
  len = c.push_reserved.ensures.len ∙ ap (λ (k : ℕ). k + 1) c.loop.invariant.len;
  room = omega (arith, c.push_reserved.ensures.capacity, c.loop.invariant.room);
}

pub returns : goal.returns
returns g c =
    let all : c.loop.counter ≡ blocks_of c.args.n c.args.block =
    omega (arith, c.blocks-count.ensures) in
    record {
      rows = c.loop.invariant.rows ∙ ap (λ (m : ℕ). replicate {A = List g.row.I.Denot} m []) all;
      long = c.loop.invariant.len ∙ all;
    }

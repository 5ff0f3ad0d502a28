use Rattle.std.proofs.Common.{◌∙◌, ap, sym}
use Rattle.worker_pool.specs.Openings.{seeded_by}
use Rattle.worker_pool.proofs.Tallies.{account-none}
use Rattle.worker_pool.proofs.opening.open.state_of.Goals as goal

pub home_rows_of-requires-clause-size : goal.home_rows_of-requires-clause-size
home_rows_of-requires-clause-size g c = rw c.requires.same_size c.requires.pool.size

pub returns-clause-at_work : goal.returns-clause-at_work
returns-clause-at_work g c = λ ctx.
    let row = c.seat.ensures.row in
    record {
      of_pool = c.requires.pool;
      ready = c.seat.ensures.ready;
      owner = rw (row, c.requires.row_number, sym c.requires.same_size) c.requires.number;
      stored_none = c.seat.ensures.stored_none;
      home = rw c.requires.same_size at c.in_ok-home.ensures.inside;
      account = rw row (account-none _ _ _ _ _ (λ on. (c.requires.untouched on).1)
          (λ on. (c.requires.untouched on).0) c.new-outs.ensures.items);
    }

pub returns-clause-by_number : goal.returns-clause-by_number
returns-clause-by_number g c = record {
  row_number = rw c.seat.ensures.row c.requires.row_number;
  random = c.seed_from_u64.ensures ∙ ap seeded_by c.from.ensures;
  no_home = c.in_ok-home.ensures.none;
  home = c.in_ok-home.ensures.rows;
}

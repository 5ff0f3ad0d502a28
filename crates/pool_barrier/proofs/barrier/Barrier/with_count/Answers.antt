use Rattle.std.proofs.Common.{rules, ◌∙◌, ap}
use Rattle.pool_barrier.specs.Views.{given_in, notices_in}
use Rattle.pool_barrier.proofs.Keeps.{cut_keeps}
use Rattle.pool_barrier.proofs.barrier.Barrier.with_count.Goals as goal

pub split_seat-given-requires : goal.split_seat-given-requires
split_seat-given-requires g c =
    let made = c.in_ok-table.ensures in
    (search rules, search rules, cut_keeps _ _ c.args.count _ (search rules))

pub returns : goal.returns
returns g c =
    let made = c.in_ok-table.ensures in
    let cut = c.split_seat-given.ensures in
    record {
      barrier = made.5;
      waiter = cut.0 ∙ made.2;
      fresh = ap (λ m. m.0) cut.2;
      share = cut.3 ∙ made.2;
      notices = ap (λ m. notices_in m.0) cut.4 ∙ ap (λ m. notices_in m.0) made.4;
      given = ap (λ m. given_in m.0) cut.4;
    }

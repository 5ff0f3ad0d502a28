use Rattle.std.proofs.Common.{rules, ap, arith, refl}
use Rattle.event_count.specs.declared.rule.RowSizes.{RowSizes}
use Rattle.event_count.proofs.RowSteps.Passing.{stop_keeps}
use Rattle.event_count.proofs.rows.passing.Count+Rowed+A.stop.Goals as goal

pub compare_exchange-found-requires : goal.compare_exchange-found-requires
compare_exchange-found-requires g c =
    let rows = ap (λ (k : RowSizes). k.rows) c.args.self.now.kept in
    let some_rows = c.args.self.now.some refl in (
      search rules,
      let words = c.args.self.now.words in omega arith,
      stop_keeps _ _ _ _ c.args.seat.now.alone (omega arith) c.requires.running
          c.requires.owes_none c.requires.silent,
    )

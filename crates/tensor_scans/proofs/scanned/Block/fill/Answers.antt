use Rattle.std.proofs.Common.{ℕ, ◌+◌, ap, sym, ◌∙◌, arith}
use Rattle.tensor_scans.specs.private.Rows.{running_at}
use Rattle.tensor_scans.proofs.Scans.{running-line}
use Rattle.tensor_values.specs.Values.{value_in}
use Rattle.tensor_scans.proofs.scanned.Block.fill.Goals as goal

pub returns-then-self-eq1-clause-each : goal.returns-then-self-eq1-clause-each
returns-then-self-eq1-clause-each c = λ k below.
    let r = c.args.reducer in
    let block = c.args.self.values.now in
    let place : ℕ = c.args.from + k in
    c.fill_line.ensures.each k below ∙ running-line r block place (omega arith)
    ∙ ap (λ s. running_at r s (value_in block) place) (sym c.if-self-eq1.true)

use Rattle.std.proofs.Common.{◌≡◌, ◌*◌, ◌∙◌, arith}
use Rattle.tensor_dots.specs.Rows.{row_count, row_length, row_value}
use Rattle.tensor_kernels.proofs.TurnedRows.{rows_dot-swapped}
use Rattle.tensor_kernels.proofs.contraction.Contraction.of_rows.Goals as goal

pub returns-then-len-eq1-clause-each : goal.returns-then-len-eq1-clause-each
returns-then-len-eq1-clause-each c p below =
    let first = c.args.first in
    let second = c.args.second in
    let one : row_count first ≡ 1 = omega arith in
    let count = c.of-then-len-eq1.ensures.count in
    let few : row_count first * row_count second ≡ row_count second = rw one (omega arith) in
    c.of-then-len-eq1.ensures.value p
    ∙ rows_dot-swapped (row_count first) (row_length first) (row_count second) (row_length second)
    (row_value first) (row_value second) p c.requires.lengths one (omega (arith, count, few, below))

-- Why rows were not made.
use Rattle.std.proofs.Common.{◌≡◌, ℕ, ◌<◌, ◌≤◌, Result, Ok, Err, arith}
use Rattle.std.specs.Prelude.{◌↔◌, IsErrOf}
use Rattle.std.specs.Result.{IsErrAnd}
use Rattle.run_queue.specs.declared.rows.RowsFault.{RowsFault}
use Rattle.run_queue.specs.declared.rows.RowsFault.TheVariants.{TooManyRows, NoMemory}
use Rattle.run_queue.specs.Limits.{most_rows}

-- where memory was refused there were not too many
pub not_too_many : {T : Type 0} (result : Result T RowsFault) (rows : ℕ) → rows ≤ most_rows
    → IsErrAnd result (λ fault. fault ≡ NoMemory)
    → IsErrOf result TooManyRows ↔ (most_rows < rows)
not_too_many (Ok x) rows few none = absurd none
not_too_many (Err fault) rows few is = (λ e. cc, λ many. absurd (omega arith))

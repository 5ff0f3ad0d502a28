-- What is known of a result in two ways.
use Rattle.std.proofs.Common.{Result, Ok, Err, IfOk}

-- two facts of the same result
pub IfOk-both : {X E : Type 0} (r : Result X E) (P Q R : X → Type 0) → ((x : X) → P x → Q x → R x) → IfOk r P → IfOk r Q → IfOk r R
IfOk-both (Ok x) P Q R join p q = join x p q
IfOk-both (Err e) P Q R join p q = p

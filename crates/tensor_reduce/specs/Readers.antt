-- Which terms read a tensor.
use Rattle.std.specs.Prelude.{ℕ, nat_eq, Bool, ◌||◌}
use Rattle.tensor_ops.specs.Term.{Term, input, unary, binary, ternary}

-- whether a term reads tensor n
abbrev pub reads : ℕ → Term → Bool
reads n (input m) = nat_eq m n
reads n (unary o a) = reads n a
reads n (binary o a b) = reads n a || reads n b
reads n (ternary o a b c) = reads n a || (reads n b || reads n c)

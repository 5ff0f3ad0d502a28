-- Fusing: an operation reads a term instead of a tensor.
use Rattle.std.specs.Prelude.{ℕ, nat_eq, if◌then◌else◌}
use Rattle.tensor_ops.specs.Term.{Term, input, unary, binary, ternary}

-- a term, or u if the term is tensor n
abbrev pub instead : ℕ → Term → Term → Term
instead n u (input m) = if nat_eq m n then u else input m
instead n u (unary o a) = unary o a
instead n u (binary o a b) = binary o a b
instead n u (ternary o a b c) = ternary o a b c

-- an operation on one or two operands, which reads u instead of tensor n
abbrev pub fused_with : ℕ → Term → Term → Term
fused_with n u (input m) = input m
fused_with n u (unary o a) = unary o (instead n u a)
fused_with n u (binary o a b) = binary o (instead n u a) (instead n u b)
fused_with n u (ternary o a b c) = ternary o a b c

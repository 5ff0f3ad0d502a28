-- The tensors that are held while bindings are evaluated. Those that nothing left reads are freed.
use Rattle.std.specs.Prelude.{◌≡◌, ℕ, List, [], ◌∷◌, length, Bool, true, ◌||◌}
use Rattle.expr_reader.specs.Bindings.{term_under}
use Rattle.expr_reader.specs.Contents.{Contents, input_of}
use Rattle.expr_reader.specs.Term.{Term}
use Rattle.expr_reader.specs.declared.binding.Binding.{Binding}
use Rattle.tensor_reduce.specs.Readers.{reads}

-- whether one of the bindings left or the last term reads tensor `n`
abbrev pub is_read : ℕ → List Binding → Term → Bool
is_read n [] last = reads n last
is_read n (b ∷ left) last = reads n (term_under b) || is_read n left last

-- the tensors held stand for all tensors: each tensor that is still read is among them, at its
-- number
pub record AreHeldFor (left : List Binding) (last : Term) (held all : List Contents) : Type 0 where
  pub as_many : length held ≡ length all
  pub read : (n : ℕ) → is_read n left last ≡ true → input_of held n ≡ input_of all n

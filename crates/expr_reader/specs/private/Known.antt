-- What the code knows of a tensor, as a tensor.
use Rattle.std.specs.Prelude.{ℕ, ℤ, pos, List, replicate, take}
use Rattle.tensor_ops.specs.Contents.{Contents}
use Rattle.tensor_ops.specs.Index.{size_of}
use Rattle.expr_reader.specs.declared.known.Known.{Known}
use Rattle.expr_reader.specs.declared.known.Known.TheVariants.{Read, Unread}

-- the tensor of these dims whose values are all zero
abbrev pub zeroed : List ℕ → Contents
zeroed dims = record { dims = dims; values = replicate (size_of dims) (pos 0) }

-- a known tensor; values that were not read are zeroes
abbrev pub contents_of : Known → Contents
contents_of (Read tensor) = tensor
contents_of (Unread dims) = zeroed dims

-- the tensor of these dims that has the first of the values
abbrev pub taken : List ℤ → List ℕ → Contents
taken values dims = record { dims = dims; values = take (size_of dims) values }

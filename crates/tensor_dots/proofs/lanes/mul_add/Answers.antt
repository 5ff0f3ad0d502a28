-- A wrapped product, added and wrapped, is the wrap of both.
use Rattle.std.proofs.Common.{rules}
use Rattle.std.specs.Int.{w64}
use Rattle.std.proofs.lemmas.Int.{wraps, wrapping_add-bits}
use Rattle.tensor_dots.proofs.lanes.mul_add.Goals as goal

pub returns : goal.returns
returns c = search (rules, wraps, wrapping_add-bits w64)

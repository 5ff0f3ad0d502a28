-- Requests that differ only in the values of their tensors.
use Rattle.std.specs.Prelude.{◌≡◌, List, map, Result, Ok, Err}
use Rattle.tensor_ops.specs.Contents.{Contents}
use Rattle.expr_reader.specs.Request.{Asked}
use Rattle.expr_reader.specs.declared.fault.Fault.{Fault}

-- the tensors of two lists have equal dims, one by one
abbrev pub HaveSameDims : List Contents → List Contents → Type 0
HaveSameDims ts us = map (λ t. t.dims) ts ≡ map (λ t. t.dims) us

-- two requests that are equal but for the values of their inputs
pub record IsAlike (a b : Asked) : Type 0 where
  pub workers : a.workers ≡ b.workers
  pub block : a.block ≡ b.block
  pub bounds : a.bounds ≡ b.bounds
  pub bindings : a.bindings ≡ b.bindings
  pub term : a.term ≡ b.term
  pub inputs : HaveSameDims a.inputs b.inputs

-- both are alike requests, or both have the same fault
abbrev pub AskAlike : Result Asked Fault → Result Asked Fault → Type 0
AskAlike (Ok a) (Ok b) = IsAlike a b
AskAlike (Ok a) (Err g) = ⊥
AskAlike (Err f) (Ok b) = ⊥
AskAlike (Err f) (Err g) = f ≡ g

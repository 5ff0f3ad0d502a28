-- Those before the index, and room for all.
use Rattle.std.proofs.Common.{◌≡◌, length, take, vec_len, vec_capacity}
use Rattle.tensor_terms.proofs.tensor.inputs.Inputs.lent.Given as goal

abbrev pub invariant-loop-tensor : goal.invariant-loop-tensor
invariant-loop-tensor l = record {
  lent : l.tensors.items ≡ take l.tensor-index l.tensor-items;
  all : l.tensor-items ≡ l.self.tensors;
  len : vec_len l.tensors ≡ l.tensor-index;
  room : vec_capacity l.tensors ≡ length l.tensor-items;
}

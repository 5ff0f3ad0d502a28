-- What the bindings so far compute.
use Rattle.std.proofs.Common.{◌≡◌, ◌≤◌, ◌*◌, take}
use Rattle.expr_reader.specs.Asked.{asked_under}
use Rattle.expr_reader.specs.Bindings.{terms_under, nodes_in}
use Rattle.expr_reader.specs.Legal.{most_elements}
use Rattle.expr_reader.specs.Request.{tensors_of}
use Rattle.tensor_c.specs.Shared.{shared_whole}
use Rattle.tensor_c.proofs.shared.shared_whole.Given as goal

abbrev pub invariant-loop-binding : goal.invariant-loop-binding
invariant-loop-binding l = record {
  value : l.shared ≡ shared_whole (tensors_of (asked_under l.request)) (terms_under (take l.binding-index l.request.bindings.items));
  small : l.shared ≤ most_elements * nodes_in (terms_under (take l.binding-index l.request.bindings.items));
}

use Rattle.std.proofs.Common.{sym}
use Rattle.tensor_terms.specs.Shaped.{equal_dims}
use Rattle.tensor_ops.proofs.Lowerings.{gives-pairwise}
use Rattle.tensor_ops.proofs.Outcomes.{IfOk-both}
use Rattle.tensor_ops.proofs.SameTensors.{equal_dims-known}
use Rattle.tensor_terms.proofs.Shapes.{Ok-unwrap}
use Rattle.tensor_ops.proofs.lowering.lower_binary.Goals as goal

pub returns-in-Pairwise-clause-lowered : goal.returns-in-Pairwise-clause-lowered
returns-in-Pairwise-clause-lowered c =
    let first = c.args.first in
    let second = c.args.second in
    let has = rw c.in-Pairwise.is at c.requires.dims in
    let same = (equal_dims-known first.dims second.dims _
    (Ok-unwrap (equal_dims first.dims second.dims) has)).0 in
    rw c.in-Pairwise.is
    (IfOk-both c.lower_pairwise.result _ _ _
    (λ r joined dims.
    gives-pairwise c.in-Pairwise.operation first.lowered second.lowered r.lowered first.dims
    second.dims r.dims (sym same) dims c.requires.count_first joined)
    c.lower_pairwise.ensures.lowered c.lower_pairwise.ensures.dims)

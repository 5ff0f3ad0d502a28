use Rattle.std.proofs.Common.{length, arith}
use Rattle.std.proofs.lemmas.List.{length-map}
use Rattle.tensor_reduce.specs.Contraction.{firsts}
use Rattle.tensor_terms.proofs.Dropped.{length-axes}
use Rattle.tensor_runner.proofs.work.paired_dims.Goals as goal

pub unwrap-firsts-requires : goal.unwrap-firsts-requires
unwrap-firsts-requires c =
    let pairs = c.args.pairs.now in
    let ds = c.args.first.now in
    c.paired_axes.ensures.some.1 (omega (arith, length-axes (length ds) (firsts pairs) c.requires, length-map pairs (λ pair. pair.0)))

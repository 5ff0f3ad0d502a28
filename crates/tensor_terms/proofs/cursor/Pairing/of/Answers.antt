use Rattle.tensor_terms.specs.Tree.{term_of}
use Rattle.tensor_terms.proofs.Terms.{contracted-known}
use Rattle.tensor_terms.proofs.cursor.Pairing.of.Goals as goal

pub unwrap-firsts-requires : goal.unwrap-firsts-requires
unwrap-firsts-requires c =
    let known = contracted-known c.args.inputs.now.tensors c.args.pairs.now (term_of c.args.a.now)
    (term_of c.args.b.now) c.requires.dims in
    c.paired_axes.ensures.some.1 (rw c.known_dims-first.ensures known.few)

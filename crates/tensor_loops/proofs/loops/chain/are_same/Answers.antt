use Rattle.std.proofs.lemmas.Slice.Eq.{slice_eq-Decides}
use Rattle.std.proofs.lemmas.Bool.Decides.{Decides-int_eq}
use Rattle.tensor_loops.proofs.loops.chain.are_same.Goals as goal

pub returns-then-first-le-MOST_COMPARED : goal.returns-then-first-le-MOST_COMPARED
returns-then-first-le-MOST_COMPARED c = λ same. record {
  start = c.if-first-second.false;
  axes = c.are_same_axes.ensures c.if-not-are_same_axes.false;
  list = (slice_eq-Decides Decides-int_eq c.args.first.now.list.now c.args.second.now.list.now c.eq.result c.eq.ensures).0 same;
}

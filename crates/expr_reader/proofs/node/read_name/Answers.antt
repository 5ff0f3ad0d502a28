use Rattle.std.proofs.Common.{◌<◌, ap, length, refl, sym, inr, arith}
use Rattle.std.proofs.lemmas.Bool.{lt-ltb}
use Rattle.std.proofs.lemmas.List.{length-map}
use Rattle.expr_reader.specs.Bindings.{term_under, terms_under}
use Rattle.expr_reader.proofs.Bound.{length-worked_out}
use Rattle.expr_reader.proofs.Numbers.{number_of-below}
use Rattle.expr_reader.proofs.node.read_name.Goals as goal

pub dims-requires : goal.dims-requires
dims-requires c =
    let bounds = c.requires.0 in
    let n = c.requires.1 in
    let named = c.requires.2 in
    let below : c.in-Some.number < length n.names =
    number_of-below n.names c.args.name.now c.in-Some.number (sym (c.in-Some.ensures bounds n named)) in
    omega (
      arith,
      below,
      named.aligned,
      ap length named.tensors,
      length-worked_out (terms_under c.args.named.now.bindings.items) c.args.named.now.inputs.tensors,
      length-map c.args.named.now.bindings.items term_under,
    )

pub returns-clause-tree : goal.returns-clause-tree
returns-clause-tree c = λ bounds n named.
    let below : c.in-Some.number < length n.names =
    number_of-below n.names c.args.name.now c.in-Some.number (sym (c.in-Some.ensures bounds n named)) in (
      rw (← c.in-Some.ensures bounds n named) refl,
      record {
        inputs_known = lt-ltb c.in-Some.number (length n.tensors) (omega (arith, below, named.aligned));
        dims_known = rw (c.copied.ensures, c.dims.ensures bounds n named) refl;
      },
    )

pub returns-in_default-clause-tree : goal.returns-in_default-clause-tree
returns-in_default-clause-tree c = λ bounds n named. inr (rw (← c.number.ensures bounds n named, c.in_default.is) refl)

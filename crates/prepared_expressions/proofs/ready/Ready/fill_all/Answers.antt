use Rattle.std.proofs.Common.{◌+◌, ◌-◌, ◌∙◌, ℕ, IsOk, length, ap, sym, subst, arith, is_ok}
use Rattle.std.proofs.lemmas.List.{append-nil}
use Rattle.std.proofs.lemmas.List.FromFn.{length-map-range_with_len}
use Rattle.tensor_ops.specs.Legal.{widest}
use Rattle.tensor_ops.specs.PartEvaluator.{term_in_parts, inputs_in_parts}
use Rattle.tensor_ops.specs.Parts.{whole_value}
use Rattle.tensor_ops.specs.Result.{dims_of}
use Rattle.tensor_ops.specs.Tree.{term_of}
use Rattle.prepared_expressions.proofs.ready.Ready.fill_all.Goals as goal

pub over-requires-clause-dims : goal.over-requires-clause-dims
over-requires-clause-dims c =
    let r = c.args.self.now in
    ap (λ l. is_ok (dims_of widest (term_of r.expr) l)) (append-nil r.tensors.tensors) ∙ ap is_ok r.has_dims

pub of-requires-clause-dims : goal.of-requires-clause-dims
of-requires-clause-dims c =
    let r = c.args.self.now in
    ap (λ w. is_ok (dims_of w (term_of r.expr) r.tensors.tensors)) r.bounds ∙ ap is_ok r.has_dims

pub copy_from_slice-requires : goal.copy_from_slice-requires
copy_from_slice-requires c =
    let e = c.in_ok-parts.parts in
    let first = c.args.first in
    let n = length c.args.out.now in
    let count : ℕ = first + n - first in
    omega (
      arith,
      ap length (c.as_slice.ensures.value ∙ c.in_ok-values.ensures),
      length-map-range_with_len (whole_value (term_in_parts e) (inputs_in_parts e)) first count,
    )

use Rattle.std.proofs.Common.{◌≡◌, ℕ, ℤ, pos, List, Ok, length, replicate, sym, ◌∙◌, inl, inr, ap, refl}
use Rattle.std.proofs.lemmas.List.{length-replicate}
use Rattle.std.proofs.lemmas.Result.{err_from_is_err_and}
use Rattle.expr_reader.specs.Outline.{outlined}
use Rattle.expr_reader.specs.Request.{tensors_of}
use Rattle.expr_reader.specs.Tree.{term_of}
use Rattle.tensor_c.proofs.Dims.{answer_dims-same, shape_of-within}
use Rattle.tensor_c.proofs.evaluation.dims_of.Goals as goal

-- as many zeroes as values
zeroes : (values : List ℤ) (count : ℕ) → length values ≡ count → length values ≡ length (replicate count (pos 0))
zeroes values count long = long ∙ sym (length-replicate count (pos 0))

pub returns-in_err-outline-clause-dims : goal.returns-in_err-outline-clause-dims
returns-in_err-outline-clause-dims c = λ values long.
    let p = err_from_is_err_and c.from_residual.result c.from_residual.ensures.1 in
    rw (p.1, p.2) (elim c.in_err-outline.ensures.outline [
      | inl memory ↦ inl memory
      | inr fault ↦ inr
          (answer_dims-same c.args.header.now values _ (zeroes values c.args.count long) ∙ rw fault refl)
    ])

pub returns-clause-dims : goal.returns-clause-dims
returns-clause-dims c = λ values long.
    let o = c.in_ok-outline.outline in
    answer_dims-same c.args.header.now values _ (zeroes values c.args.count long)
    ∙ rw c.in_ok-outline.ensures.outline
    (ap Ok (shape_of-within o.inputs.bounds c.bounds-limit.ensures.limit (term_of o.expr) (tensors_of (outlined o)) o.dims o.has_dims))

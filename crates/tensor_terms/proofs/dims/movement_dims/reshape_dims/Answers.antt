use Rattle.std.proofs.Common.{◌≡◌, ◌≢◌, ℕ, List, Ok, Err, refl, sym, ◌∙◌}
use Rattle.std.proofs.lemmas.Bool.{eq-eqb, ne_eqb}
use Rattle.tensor_shape.specs.Index.{size_of}
use Rattle.tensor_shape.specs.declared.bounds.Bounds.{Bounds}
use Rattle.tensor_terms.specs.Movement.{moved_dims}
use Rattle.tensor_terms.specs.Shaped.{legal_dims}
use Rattle.tensor_terms.specs.Term.{reshape}
use Rattle.tensor_terms.specs.declared.fault.ExprFault.TheVariants.{ShapeMismatch}
use Rattle.tensor_terms.proofs.dims.movement_dims.reshape_dims.Goals as goal

-- legal sizes with as many elements are the result's, and others don't fit
reshaped : (bounds : Bounds) (sizes ds es : List ℕ) → Ok es ≡ legal_dims bounds sizes → size_of es ≡ size_of ds
    → Ok es ≡ moved_dims bounds (reshape sizes) ds
reshaped bounds sizes ds es legal same = rw (sym legal, eq-eqb (size_of es) (size_of ds) same) refl

refused : (bounds : Bounds) (sizes ds es : List ℕ) → Ok es ≡ legal_dims bounds sizes → size_of es ≢ size_of ds
    → Err ShapeMismatch ≡ moved_dims bounds (reshape sizes) ds
refused bounds sizes ds es legal differs = rw (sym legal, ne_eqb (size_of es) (size_of ds) differs) refl

pub returns-then-size : goal.returns-then-size
returns-then-size c =
    reshaped c.args.bounds c.args.sizes.now c.args.dims.now c.in_ok-shape.shape c.in_ok-shape.ensures
    (sym c.size.ensures.value ∙ c.if-size.true ∙ c.size-2.ensures.value)

pub returns-else-size : goal.returns-else-size
returns-else-size c =
    refused c.args.bounds c.args.sizes.now c.args.dims.now c.in_ok-shape.shape c.in_ok-shape.ensures
    (λ same. c.if-size.false (c.size.ensures.value ∙ same ∙ sym c.size-2.ensures.value))

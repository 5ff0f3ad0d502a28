use Rattle.std.proofs.Common.{◌≡◌, length, refl, ap, ◌∙◌}
use Rattle.tensor_shape.proofs.Places.{length-IsIndexOf}
use Rattle.tensor_terms.specs.Merged.{others, dims_at, other_dims}
use Rattle.tensor_terms.proofs.OtherAxes.{are_axes-others}
use Rattle.tensor_terms.proofs.Weaving.{IsIndexOf-dims_at, merged-parts, parts-merged}
use Rattle.tensor_terms.proofs.laws.index_lists_are_merged_once.Goals as goal

pub returns : goal.returns
returns c = λ axes ds index legal within.
    let long : length index ≡ length ds = length-IsIndexOf ds index within in
    let outer : other_dims axes index ≡ dims_at (others axes (length ds)) index =
    ap (λ n. dims_at (others axes n) index) long in
    record {
      inner = IsIndexOf-dims_at (length ds) axes ds index refl legal within;
      outer = rw outer
          (IsIndexOf-dims_at (length ds) (others axes (length ds)) ds index refl
          (are_axes-others axes (length ds)) within);
      whole = rw outer (merged-parts axes ds legal index within);
      only = λ js is first second same.
          let made = parts-merged axes ds legal js is first second in
          let parts = rw same at made in
          (parts.first, outer ∙ parts.second);
    }

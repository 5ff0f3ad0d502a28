use Rattle.std.proofs.Common.{◌≡◌, ℕ, ◌+◌, ◌-◌, ◌<◌, ◌≤◌, ℤ, pos, List, ◌++◌, length, map, take, drop}
use Rattle.std.proofs.Common.{slice_index, refl, ap, sym, ◌∙◌, arith}
use Rattle.std.proofs.lemmas.List.{ext_get_or, get_or-map, length-map}
use Rattle.tensor_values.specs.Values.{value_in}
use Rattle.tensor_dots.proofs.Parts.{get_or-part, length-part}
use Rattle.tensor_kernels.proofs.panels.packing.push_run.Goals as goal

-- a run of values is what is at places side by side
run-values : (values : List ℤ) (starts : List ℕ) (offset first : ℕ)
    → first ≡ slice_index starts 0 + offset → first + length starts ≤ length values
    → ((j : ℕ) → j < length starts → slice_index starts j ≡ slice_index starts 0 + j)
    → take (first + length starts - first) (drop first values)
    ≡ map (λ start. value_in values (start + offset)) starts
run-values values starts offset first is within run =
    let part = take (first + length starts - first) (drop first values) in
    let value : ℕ → ℤ = λ start. value_in values (start + offset) in
    let long : length part ≡ length starts = length-part first (length starts) values within in
    ext_get_or (pos 0) part (map value starts) (long ∙ sym (length-map starts value))
    (λ j below.
    let inside : j < length starts = omega (arith, long) in
    let place : first + j ≡ slice_index starts j + offset = omega (arith, run j inside) in
    get_or-part (pos 0) first (length starts) values j below
    ∙ ap (value_in values) place
    ∙ sym (get_or-map value starts j 0 (pos 0) inside))

pub returns-clause-cells : goal.returns-clause-cells
returns-clause-cells c =
    let values = c.args.values.now in
    let starts = c.args.starts.now in
    let last = length starts - 1 in
    let end = c.requires.inside last (omega (arith, c.requires.some)) in
    let within : slice_index starts 0 + c.args.offset + length starts ≤ length values =
    omega (arith, end, c.requires.some, c.requires.run last (omega (arith, c.requires.some))) in
    c.in-Ok.ensures.items
    ∙ ap (λ part. c.args.packed.now.items ++ part)
    (run-values values starts c.args.offset _ refl within c.requires.run)

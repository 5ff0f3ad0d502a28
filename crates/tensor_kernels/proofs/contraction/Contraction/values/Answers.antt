use Rattle.std.proofs.Common.{◌≡◌, ◌-◌, ◌++◌, pos, length, drop, map, get_or, ap, ◌∙◌, arith}
use Rattle.std.proofs.Common.{length-append}
use Rattle.std.proofs.lemmas.List.{get_or_append_left}
use Rattle.std.specs.List.{range_with_len}
use Rattle.tensor_kernels.specs.Contracting.{contraction_value}
use Rattle.tensor_values.proofs.Runs.{part-read, map-shifted}
use Rattle.tensor_kernels.proofs.contraction.Contraction.values.Goals as goal

pub returns : goal.returns
returns g c =
    let out = c.fill.new.out in
    let all = out ++ drop (length out) c.in_ok-values.values.items in
    let n = c.in_ok-values.values.len in
    let long : length out ≡ n = omega (
      arith,
      c.fill.ensures.len,
      c.deref_mut.ensures.len,
      c.in_ok-values.ensures.len,
    ) in
    let count : n ≡ c.args.last - c.args.first = c.in_ok-values.ensures.len in
    part-read all 0 n (omega (
      arith,
      length-append out (drop
          (length out) c.in_ok-values.values.items),
    ))
    ∙ map-shifted (λ p. get_or all p (pos 0)) (contraction_value c.args.self.now) 0 c.args.first n
    (λ k below.
    ap (λ k. get_or all k (pos 0)) (omega arith)
    ∙ get_or_append_left out (drop (length out) c.in_ok-values.values.items) (pos 0) k (omega arith)
    ∙ c.in_ok-fill.ensures.each k (omega (arith, c.fill.ensures.len)))
    ∙ ap (λ n. map (contraction_value c.args.self.now) (range_with_len c.args.first n)) count

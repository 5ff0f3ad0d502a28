use Rattle.std.proofs.Common.{◌≡◌, ℕ, ℤ, ◌+◌, ◌*◌, ◌<◌, length, get_or, ap, sym, ◌∙◌, arith}
use Rattle.std.proofs.lemmas.Nat.{mul-add-lt}
use Rattle.tensor_loops.specs.Folds.{folded, offset_at}
use Rattle.tensor_values.specs.Values.{value_in}
use Rattle.tensor_loops.proofs.Folding.{folded-ext, folded-append, offset_at-run}
use Rattle.tensor_loops.proofs.folds.combine_runs.Goals as goal

next : (k n : ℕ) → (k + 1) * n ≡ k * n + n
next k n = grind arith

swapped : (m n : ℕ) → m * n ≡ n * m
swapped m n = grind arith

pub combine_run-requires-clause-inside : goal.combine_run-requires-clause-inside
combine_run-requires-clause-inside c = λ i t in_row in_run.
    let k = c.loop-offset.offset-index in
    let all : ℕ = length c.args.offsets.now in
    let within : k * c.args.run + t < c.args.run * all =
    mul-add-lt k c.args.run t all (omega arith) in_run in
    let place = offset_at-run c.args.offsets.now c.args.step c.args.run k t in_run in
    omega (
      arith,
      place,
      c.requires.inside i (k * c.args.run + t) (omega (arith, c.loop-offset.invariant.len))
          (omega (arith, within, swapped all c.args.run)),
    )

pub loop-offset-preserved : goal.loop-offset-preserved
loop-offset-preserved c =
    let k = c.loop-offset.offset-index in
    let run = c.args.run in
    let r = c.args.reducer in
    let offset : ℕ = get_or c.args.offsets.now k 0 in
    record {
      len = omega (arith, c.combine_run.ensures.len, c.loop-offset.invariant.len);
      each = λ i below.
          let x = value_in c.args.row.now i in
          let all : ℕ → ℤ =
          λ q. value_in c.args.values.now (c.args.start + i
          + offset_at c.args.offsets.now c.args.step run q) in
          let own : ℕ → ℤ =
          λ t. value_in c.args.values.now (c.args.start + offset + i + t * c.args.step) in
          c.combine_run.ensures.each i (omega (arith, c.loop-offset.invariant.len))
          ∙ ap (λ y. folded r y own run) (c.loop-offset.invariant.each i below)
          ∙ folded-ext r (folded r x all (k * run)) own (λ t. all (k * run + t)) run
          (λ t in_run. ap (value_in c.args.values.now)
          (omega (arith, offset_at-run c.args.offsets.now c.args.step run k t in_run)))
          ∙ sym (folded-append r x all (k * run) run)
          ∙ ap (folded r x all) (sym (next k run));
    }

use Rattle.std.proofs.Common.{◌≡◌, ◌+◌, ◌-◌, ℕ, pos, length, map, get_or, ap, sym, ◌∙◌, arith}
use Rattle.std.specs.List.{range_with_len}
use Rattle.std.proofs.lemmas.Result.{on_ok_weaker}
use Rattle.tensor_ops.specs.private.Meaning.{meaning}
use Rattle.tensor_ops.proofs.Filled.{run-long, run-read}
use Rattle.tensor_ops.proofs.lowered.filling.fill_read.Goals as goal

pub returns-in-Some-clause-each : goal.returns-in-Some-clause-each
returns-in-Some-clause-each c =
    on_ok_weaker c.put_along.result
    (λ each k below. each k below ∙ sym (c.in-Some.ensures.each (c.args.from + k)))
    c.put_along.ensures.each

pub copy_from_slice-requires : goal.copy_from_slice-requires
copy_from_slice-requires c =
    omega (
      arith,
      run-long c.args.from (c.args.from + length c.args.out.now - c.args.from) (meaning c.args.lowered.now) c.as_slice.result.now
          (c.as_slice.ensures.value ∙ c.in_ok-piece.ensures),
    )

pub returns-clause-each : goal.returns-clause-each
returns-clause-each c =
    let count : ℕ = c.args.from + length c.args.out.now - c.args.from in
    let are : c.as_slice.result.now ≡ map (meaning c.args.lowered.now) (range_with_len c.args.from count) =
    c.as_slice.ensures.value ∙ c.in_ok-piece.ensures in
    λ k below.
    ap (λ l. get_or l k (pos 0)) c.copy_from_slice.ensures.after
    ∙ run-read c.args.from count (meaning c.args.lowered.now) c.as_slice.result.now are k
    (omega (arith, below))

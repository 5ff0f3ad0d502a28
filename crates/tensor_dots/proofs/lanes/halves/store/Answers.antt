use Rattle.std.proofs.Common.{◌+◌, ◌*◌, ◌<◌, map, to_z, of_z, ◌∙◌, arith, length, length-set}
use Rattle.std.specs.Int.{w64}
use Rattle.tensor_values.specs.Values.{value_in}
use Rattle.tensor_dots.specs.Halves.{word_in, joined}
use Rattle.tensor_dots.proofs.ListWrites.{stored-next, kept-next}
use Rattle.tensor_dots.proofs.SimdLanes.{lanes-bits}
use Rattle.tensor_dots.proofs.HalfLanes.{joined-bits, joined-stored}
use Rattle.tensor_dots.proofs.lanes.halves.store.Goals as goal

pub loop-r-preserved : goal.loop-r-preserved
loop-r-preserved c =
    let r = c.loop-r.r in
    let low = map (to_z w64) (map (of_z w64) c.args.low) in
    let few : r < 4 = omega arith in
    let place : 4 * c.args.j + r < length c.loop-r.sums = omega (arith, c.loop-r.invariant.0) in (
      simp length-set (c.loop-r.invariant.0),
      stored-next (λ s. joined low c.args.crossed s) c.loop-r.sums (4 * c.args.j) r _ place c.loop-r.invariant.1
          (joined-stored (value_in low r) (word_in c.args.crossed (2 * r)) (word_in c.args.crossed (2 * r + 1))
          ((lanes-bits c.args.low c.requires.low).1 r few)),
      λ s h. kept-next c.loop-r.sums (4 * c.args.j + r) _ s (omega arith) ∙ c.loop-r.invariant.2 s h,
    )

pub returns-clause-stored : goal.returns-clause-stored
returns-clause-stored c r h =
    c.loop-r.invariant.1 r (omega arith) ∙ joined-bits c.args.low c.args.crossed r c.requires.low h

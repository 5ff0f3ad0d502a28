use Rattle.std.proofs.Common.{ℕ, ◌+◌, ◌*◌, ◌%◌, ap, arith}
use Rattle.std.proofs.Math.Nat.{div-div-eq-div-mul}
use Rattle.tensor_scans.proofs.LinePlaces.{line_place-parts}
use Rattle.tensor_scans.proofs.lines.Lines.place.Goals as goal

pub overflow_mul-result : goal.overflow_mul-result
overflow_mul-result c =
    let parts = line_place-parts c.args.self.stride c.args.width c.args.self.length
    c.args.self.blocks c.args.result_place c.args.k c.requires.below c.requires.number in
    record { fits = omega (arith, parts.0, parts.1.0, parts.1.1, c.requires.few) }

pub overflow_add-result : goal.overflow_add-result
overflow_add-result c =
    let parts = line_place-parts c.args.self.stride c.args.width c.args.self.length
    c.args.self.blocks c.args.result_place c.args.k c.requires.below c.requires.number in
    record { fits = omega (arith, parts.1.0, parts.1.1, c.requires.few) }

pub overflow_mul-result-2 : goal.overflow_mul-result-2
overflow_mul-result-2 c =
    let parts = line_place-parts c.args.self.stride c.args.width c.args.self.length
    c.args.self.blocks c.args.result_place c.args.k c.requires.below c.requires.number in
    record { fits = omega (arith, parts.1.1, c.requires.few) }

pub overflow_add-result-2 : goal.overflow_add-result-2
overflow_add-result-2 c =
    let parts = line_place-parts c.args.self.stride c.args.width c.args.self.length
    c.args.self.blocks c.args.result_place c.args.k c.requires.below c.requires.number in
    record { fits = omega (arith, parts.1.1, c.requires.few) }

pub returns-clause-place : goal.returns-clause-place
returns-clause-place c =
    ap (λ (b : ℕ). c.args.result_place % c.args.self.stride
    + c.args.self.stride * (c.args.k + c.args.self.length * b))
    (div-div-eq-div-mul c.args.result_place c.args.self.stride c.args.width)

pub returns-clause-below : goal.returns-clause-below
returns-clause-below c =
    (line_place-parts c.args.self.stride c.args.width c.args.self.length
    c.args.self.blocks c.args.result_place c.args.k c.requires.below c.requires.number).1.1

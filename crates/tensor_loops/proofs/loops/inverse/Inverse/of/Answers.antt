use Rattle.std.proofs.Common.{ℕ, ◌<◌, ◌^◌, nat_abs, to_z, of_z, rules}
use Rattle.std.specs.Int.{w64}
use Rattle.tensor_loops.proofs.Inverses.{digits_below, digits_of, inverse_bounds, inverse_fits}
use Rattle.tensor_loops.proofs.loops.inverse.Inverse.of.Goals as goal

pub overflow_cast-multiplier : goal.overflow_cast-multiplier
overflow_cast-multiplier c =
    let m = c.div_ceil-multiplier.result in
    let d : ℕ = nat_abs (to_z w64 (of_z w64 c.args.divisor)) in
    let some : 0 < d = search rules in
    let few : d < 2 ^ 63 = search rules in
    let digits = digits_of d some few in
    let bounds = inverse_bounds d m (digits_below d) some digits.0 c.div_ceil-multiplier.ensures in
    record { fits = inverse_fits d m (digits_below d) some few digits.2 bounds.1 }

pub invariant_of-result : goal.invariant_of-result
invariant_of-result c =
    let m = c.div_ceil-multiplier.result in
    let d : ℕ = nat_abs (to_z w64 (of_z w64 c.args.divisor)) in
    let some : 0 < d = search rules in
    let few : d < 2 ^ 63 = search rules in
    let digits = digits_of d some few in
    let bounds = inverse_bounds d m (digits_below d) some digits.0 c.div_ceil-multiplier.ensures in
    record {
      some = some;
      few = few;
      short = digits.0;
      digits = digits.1;
      least = bounds.0;
      most = bounds.1;
    }

-- A schedule of a term that combines is one of it with operands fused into it too.
use Rattle.std.proofs.Common.{◌≡◌, ℕ, true}
use Rattle.tensor_ops.specs.Parts.{has_parts, is_reduction, is_contraction}
use Rattle.tensor_ops.specs.Term.{Term, input, unary, binary, ternary, Unary, Binary}
use Rattle.tensor_ops.specs.Term.{each, constant, movement, pad, reduce, along}
use Rattle.tensor_ops.specs.Term.{pairwise, concat, contract, convolve, taking}
use Rattle.tensor_reduce.specs.private.Fusing.{fused_with}
use Rattle.tensor_ops.specs.Facts.{combines, combines_two, is_combining}
use Rattle.tensor_reduce.specs.private.Schedules.{IsScheduleFor, IsFusingFor}
use Rattle.tensor_reduce.specs.declared.schedule.Schedule.{Schedule}
use Rattle.tensor_reduce.specs.declared.schedule.Schedule.TheVariants.{Sharded, Ranged}
use Rattle.tensor_reduce.proofs.FusedTerms.{is_combining-fused_with, has_parts-fused_with}

-- reductions and contractions combine
reduction-combines : (o : Unary) → is_reduction o ≡ true → combines o ≡ true
reduction-combines (each o) is = is
reduction-combines (constant v) is = is
reduction-combines (movement m) is = is
reduction-combines (pad pairs) is = is
reduction-combines (reduce r axes) is = is
reduction-combines (along o axis) is = (cc)

contraction-combines : (o : Binary) → is_contraction o ≡ true → combines_two o ≡ true
contraction-combines (pairwise o) is = is
contraction-combines (concat axis) is = is
contraction-combines (contract pairs) is = is
contraction-combines (convolve axes) is = (cc)
contraction-combines (taking axis) is = (cc)

parts-combining : (t : Term) → has_parts t ≡ true → is_combining t ≡ true
parts-combining (input n) parts = parts
parts-combining (unary o a) parts = reduction-combines o parts
parts-combining (binary o a b) parts = contraction-combines o parts
parts-combining (ternary o a b c) parts = parts

pub IsScheduleFor-fusing : (schedule : Schedule) (t : Term) → IsFusingFor schedule t
    → IsScheduleFor schedule t
IsScheduleFor-fusing (Sharded sharding) t for = for
IsScheduleFor-fusing (Ranged workers leaf) t for = for.1

pub IsFusingFor-combining : (schedule : Schedule) (t : Term) → IsFusingFor schedule t → is_combining t ≡ true
IsFusingFor-combining (Sharded sharding) t for = parts-combining t for
IsFusingFor-combining (Ranged workers leaf) t for = for.0

pub IsFusingFor-fused_with : (schedule : Schedule) (n : ℕ) (u t : Term) → IsFusingFor schedule t
    → IsFusingFor schedule (fused_with n u t)
IsFusingFor-fused_with (Sharded sharding) n u t for = has_parts-fused_with n u t for
IsFusingFor-fused_with (Ranged workers leaf) n u t for = (is_combining-fused_with n u t for.0, for.1)

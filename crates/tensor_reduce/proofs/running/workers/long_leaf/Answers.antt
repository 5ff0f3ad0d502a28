use Rattle.std.proofs.Common.{◌≡◌, ℕ, ◌+◌, ◌*◌, ◌/◌, ◌%◌, ◌<◌, ◌≤◌, nat_lt, inl, inr, arith}
use Rattle.std.proofs.lemmas.Bool.{cases_Bool, ltb-true, ltb-false}
use Rattle.std.proofs.lemmas.Grind.{div_ceil_times}
use Rattle.std.proofs.Math.Nat.{mul-le-mul_left, mod-add-div}
use Rattle.parallel_for.specs.Leaves.{blocks_of}
use Rattle.tensor_reduce.proofs.running.workers.long_leaf.Goals as goal

-- n places in leaves of block places are in no more than most leaves if most leaves have room for
-- them
blocks_of-le : (n block most : ℕ) → n ≤ block * most → 0 < block → blocks_of n block ≤ most
blocks_of-le n block most within some =
    let whole : n % block + block * (n / block) ≡ n = mod-add-div n block in
    elim (cases_Bool (nat_lt (n / block) most)) [
      | inl less ↦ omega (arith, ltb-true (n / block) most less)
      | inr enough ↦
          let all : block * most ≤ block * (n / block) =
          mul-le-mul_left block (ltb-false (n / block) most enough) in
          elim (cases_Bool (nat_lt most (n / block))) [
            | inl more ↦
                let past : block * (most + 1) ≤ block * (n / block) =
                mul-le-mul_left block (omega (arith, ltb-true most (n / block) more)) in
                let next : block * (most + 1) ≡ block * most + block = grind arith in
                absurd (omega (arith, whole, past, next))
            | inr no_more ↦ omega (arith, whole, all, ltb-false most (n / block) no_more)
          ]
    ]

pub returns : goal.returns
returns c =
    let times : c.args.n ≤ c.div_ceil.result * 1048576 =
    rw c.div_ceil.ensures (div_ceil_times c.args.n 1048576 (omega arith)).0 in
    let long : c.div_ceil.result ≤ c.max.result = omega (arith, c.max.ensures) in
    let more : c.div_ceil.result * 1048576 ≤ c.max.result * 1048576 = omega (arith, long) in
    let some : 0 < c.max.result = omega (arith, c.requires, c.max.ensures) in
    let few : blocks_of c.args.n c.max.result ≤ 1048576 =
    blocks_of-le c.args.n c.max.result 1048576 (omega (arith, times, more)) some in
    (some, omega (arith, few))

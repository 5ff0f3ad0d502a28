use Rattle.std.proofs.Common.{◌≡◌, ◌+◌, ◌-◌, ◌<◌, ℕ, ℤ, pos, map, get_or, ap, sym, ◌∙◌, arith}
use Rattle.std.specs.List.{range_with_len}
use Rattle.std.proofs.lemmas.List.FromFn.{length-range_with_len, get_or-range_with_len}
use Rattle.tensor_loops.specs.Chain.{chained}
use Rattle.tensor_loops.specs.Loops.{either_way, selected}
use Rattle.tensor_loops.specs.Putting.{other_at}
use Rattle.tensor_ops.specs.private.Meaning.{meaning}
use Rattle.tensor_values.specs.Scalars.{applied}
use Rattle.tensor_ops.proofs.Filled.{run-long, run-read, other-read}
use Rattle.tensor_ops.proofs.lowered.filling.+fill_piece.Goals as goal

-- one operand that is a list
pub put_applied-requires : goal.put_applied-requires
put_applied-requires t c =
    c.requires.long
    ∙ sym (run-long c.args.from (c.args.to - c.args.from) (meaning c.deref.result.now) c.in-Some.list.now c.in-Some.ensures)

pub returns-in-Some-clause-each : goal.returns-in-Some-clause-each
returns-in-Some-clause-each t c =
    let from = c.args.from in
    let count : ℕ = c.args.to - from in
    let f : ℕ → ℤ = meaning c.deref.result.now in
    let list = c.in-Some.list.now in
    rw c.in-Unary.is
    (λ k below.
    let inside : k < count = omega (arith, below, c.requires.long) in
    c.put_applied.ensures.each k (omega (arith, inside, run-long from count f list c.in-Some.ensures))
    ∙ ap (applied c.in-Unary.operation)
    (run-read from count f list c.in-Some.ensures k inside ∙ ap (λ z. meaning z (from + k)) c.deref.ensures))

-- an operand that is a list, and another one that needs no memory
pub put_combined-requires-clause-first : goal.put_combined-requires-clause-first
put_combined-requires-clause-first t c =
    c.requires.long
    ∙ sym (run-long c.args.from (c.args.to - c.args.from) (meaning c.deref-in-Binary.result.now) c.in-Some-Some.list.now
    c.in-Some-Some.ensures)

pub returns-in-Some-Some-clause-each : goal.returns-in-Some-Some-clause-each
returns-in-Some-Some-clause-each t c =
    let from = c.args.from in
    let count : ℕ = c.args.to - from in
    let o = either_way c.in-Binary.link.operation c.in-Binary.link.swapped in
    let f : ℕ → ℤ = meaning c.deref-in-Binary.result.now in
    let g : ℕ → ℤ = meaning c.deref-in-Binary-2.result.now in
    let list = c.in-Some-Some.list.now in
    let places = range_with_len from count in
    rw c.in-Binary.is
    (λ k below.
    let inside : k < count = omega (arith, below, c.requires.long) in
    c.put_combined.ensures.each k (omega (arith, inside, run-long from count f list c.in-Some-Some.ensures))
    ∙ ap (λ x. o x (other_at c.in-Some-Some.others k))
    (run-read from count f list c.in-Some-Some.ensures k inside ∙ ap (λ z. meaning z (from + k)) c.deref-in-Binary.ensures)
    ∙ ap (o (meaning c.in-Binary.first.value (from + k)))
    (other-read g places c.in-Some-Some.others c.in-Some-Some.ensures' k (omega (arith, inside, length-range_with_len from count))
    ∙ ap g (get_or-range_with_len from count k 0 inside) ∙ ap (λ z. meaning z (from + k)) c.deref-in-Binary-2.ensures))

-- two operands
pub combine_at-requires-clause-same : goal.combine_at-requires-clause-same
combine_at-requires-clause-same t c =
    c.fill_piece-in-Binary.ensures.len ∙ c.requires.long
    ∙ sym (length-range_with_len c.args.from (c.args.to - c.args.from))

pub returns-in_ok-combine_at-in-Binary-clause-each :
    goal.returns-in_ok-combine_at-in-Binary-clause-each
returns-in_ok-combine_at-in-Binary-clause-each t c =
    let from = c.args.from in
    let count : ℕ = c.args.to - from in
    let o : ℤ → ℤ → ℤ = either_way c.in-Binary.link.operation c.in-Binary.link.swapped in
    let a = c.in-Binary.first.value in
    let b = c.in-Binary.second.value in
    let out = c.fill_piece-in-Binary.new.out in
    let places = range_with_len from count in
    rw c.in-Binary.is
    (λ k below.
    let inside : k < count = omega (arith, below, c.requires.long) in
    c.in_ok-combine_at-in-Binary.ensures.each k (omega (arith, inside, length-range_with_len from count))
    ∙ ap (λ x. o x (meaning c.deref-in-Binary-4.result.now (get_or places k 0)))
    (c.in_ok-fill_piece-in-Binary.ensures.each k below
    ∙ ap (λ z. meaning z (from + k)) c.deref-in-Binary-3.ensures)
    ∙ ap (λ z. o (meaning a (from + k)) (meaning z (get_or places k 0))) c.deref-in-Binary-4.ensures
    ∙ ap (λ p. o (meaning a (from + k)) (meaning b p)) (get_or-range_with_len from count k 0 inside))

-- a chain
pub combine_chain-requires : goal.combine_chain-requires
combine_chain-requires t c =
    c.fill_piece-in-Chain.ensures.len ∙ c.requires.long
    ∙ sym (run-long c.args.from (c.args.to - c.args.from) (meaning c.deref-in-Chain-2.result.now)
    c.as_slice.result.now (c.as_slice.ensures.value ∙ c.in_ok-operand-in-Chain.ensures))

pub returns-in_ok-operand-in-Chain-clause-each : goal.returns-in_ok-operand-in-Chain-clause-each
returns-in_ok-operand-in-Chain-clause-each t c =
    let from = c.args.from in
    let count : ℕ = c.args.to - from in
    let links = c.in-Chain.links.items in
    let a = c.in-Chain.first.value in
    let b = c.in-Chain.second.value in
    let ys = c.as_slice.result.now in
    let are : ys ≡ map (meaning b) (range_with_len from count) =
    c.as_slice.ensures.value ∙ c.in_ok-operand-in-Chain.ensures
    ∙ ap (λ z. map (meaning z) (range_with_len from count)) c.deref-in-Chain-2.ensures in
    rw c.in-Chain.is
    (λ k below.
    let inside : k < count = omega (arith, below, c.requires.long) in
    c.combine_chain.ensures.each k (omega (arith, inside, run-long from count (meaning b) ys are))
    ∙ ap (λ ls. chained ls (get_or c.fill_piece-in-Chain.new.out k (pos 0)) (get_or ys k (pos 0)))
    c.deref-in-Chain-3.ensures.value
    ∙ ap (λ x. chained links x (get_or ys k (pos 0)))
    (c.in_ok-fill_piece-in-Chain.ensures.each k below
    ∙ ap (λ z. meaning z (from + k)) c.deref-in-Chain.ensures)
    ∙ ap (λ y. chained links (meaning a (from + k)) y) (run-read from count (meaning b) ys are k inside))

-- three operands
pub select-requires-clause-second : goal.select-requires-clause-second
select-requires-clause-second t c =
    c.fill_piece-in-Select.ensures.len ∙ c.requires.long
    ∙ sym (run-long c.args.from (c.args.to - c.args.from) (meaning c.deref-in-Select-2.result.now)
    c.as_slice-in-Select.result.now (c.as_slice-in-Select.ensures.value ∙ c.in_ok-second-in-Select.ensures))

pub select-requires-clause-third : goal.select-requires-clause-third
select-requires-clause-third t c =
    c.fill_piece-in-Select.ensures.len ∙ c.requires.long
    ∙ sym (run-long c.args.from (c.args.to - c.args.from) (meaning c.deref-in-Select-3.result.now)
    c.as_slice-in-Select-2.result.now (c.as_slice-in-Select-2.ensures.value ∙ c.in_ok-third-in-Select.ensures))

pub returns-in_ok-third-in-Select-clause-each : goal.returns-in_ok-third-in-Select-clause-each
returns-in_ok-third-in-Select-clause-each t c =
    let from = c.args.from in
    let count : ℕ = c.args.to - from in
    let o : ℤ → ℤ → ℤ → ℤ = selected c.in-Select.order in
    let f : ℕ → ℤ = meaning c.in-Select.first.value in
    let g : ℕ → ℤ = meaning c.in-Select.second.value in
    let h : ℕ → ℤ = meaning c.in-Select.third.value in
    let ys = c.as_slice-in-Select.result.now in
    let zs = c.as_slice-in-Select-2.result.now in
    let second : ys ≡ map g (range_with_len from count) =
    c.as_slice-in-Select.ensures.value ∙ c.in_ok-second-in-Select.ensures
    ∙ ap (λ z. map (meaning z) (range_with_len from count)) c.deref-in-Select-2.ensures in
    let third : zs ≡ map h (range_with_len from count) =
    c.as_slice-in-Select-2.ensures.value ∙ c.in_ok-third-in-Select.ensures
    ∙ ap (λ z. map (meaning z) (range_with_len from count)) c.deref-in-Select-3.ensures in
    rw c.in-Select.is
    (λ k below.
    let inside : k < count = omega (arith, below, c.requires.long) in
    c.select.ensures.each k (omega (arith, inside, run-long from count g ys second))
    ∙ ap (λ x. o x (get_or ys k (pos 0)) (get_or zs k (pos 0)))
    (c.in_ok-fill_piece-in-Select.ensures.each k below
    ∙ ap (λ z. meaning z (from + k)) c.deref-in-Select.ensures)
    ∙ ap (λ y. o (f (from + k)) y (get_or zs k (pos 0))) (run-read from count g ys second k inside)
    ∙ ap (o (f (from + k)) (g (from + k))) (run-read from count h zs third k inside))

use Rattle.std.proofs.Common.{◌≡◌, ℕ, ℤ, pos, ◌+◌, ◌-◌, ◌*◌, ◌<◌, ◌≤◌, List, ◌++◌, length, min, drop}
use Rattle.std.proofs.Common.{rules, ap, ◌∙◌, arith, length-append, length-drop}
use Rattle.std.proofs.lemmas.Int.{to_z-of_z}
use Rattle.std.proofs.lemmas.List.{get_or_append_left, length-take-le}
use Rattle.std.proofs.lemmas.List.Edits.{length-between}
use Rattle.std.specs.Int.{w64}
use Rattle.std.specs.List.{between}
use mir.Val.{SFits}
use Rattle.tensor_scans.specs.private.Rows.{taken_in}
use Rattle.tensor_values.specs.Values.{value_in}
use Rattle.tensor_scans.proofs.TakenRows.{taken_in-row, taken_in-rest}
use Rattle.tensor_scans.proofs.Written.{value_in-written}
use Rattle.tensor_scans.proofs.taken.Block.take_from.Goals as goal

-- how many values are written, by the room behind those of the first row
count-all : (s m column long count more : ℕ) → column < s → 0 < m → count ≡ min (s - column) long
    → more ≡ min (s * (m - 1)) (long - count) → count + more ≡ min (s * m - column) long
count-all s m column long count more below some first rest =
    let rows : s * m ≡ s * (1 + (m - 1)) = ap (λ (n : ℕ). s * n) (omega arith) in
    omega arith

-- and of how many there are, by the rooms of the parts
count-rest : (s count more : ℕ) (numbers out new : List ℤ) → count ≤ length out
    → length new ≡ count
    → more ≡ min (s * length (between 1 (length numbers) numbers))
    (length (between count (length (new ++ drop count out)) (new ++ drop count out)))
    → more ≡ min (s * (length numbers - 1)) (length out - count)
count-rest s count more numbers out new within same is =
    let all : length (new ++ drop count out) ≡ length out =
    length-append new (drop count out) ∙ omega (arith, length-drop count out) in
    is
    ∙ ap (λ (n : ℕ). min (s * n) (length (between count (length (new ++ drop count out)) (new ++ drop count out))))
    (length-between numbers 1 (length numbers) (omega arith))
    ∙ ap (λ (n : ℕ). min (s * (length numbers - 1)) n)
    (length-between (new ++ drop count out) count (length (new ++ drop count out)) (omega arith)
    ∙ ap (λ (n : ℕ). n - count) all)

pub returns-clause-count : goal.returns-clause-count
returns-clause-count c =
    let s = c.args.self.lines.stride in
    let numbers = c.args.numbers.now in
    let out = c.args.out.now in
    let count = c.min-count.result in
    let new = c.put_part.new.out in
    let same : length new ≡ count = c.put_part.ensures.len ∙ length-take-le count out (omega arith) in
    count-all s (length numbers) c.args.column (length out) count c.take_rows-2.result c.requires.column
    c.requires.some c.min-count.ensures
    (count-rest s count c.take_rows-2.result numbers out new (omega arith) same c.take_rows-2.ensures.count)

pub returns-clause-each : goal.returns-clause-each
returns-clause-each c =
    let lines = c.args.self.lines in
    let numbers = c.args.numbers.now in
    let values : ℕ → ℤ = value_in c.args.self.values.now in
    let out = c.args.out.now in
    let column = c.args.column in
    let count = c.min-count.result in
    let new = c.put_part.new.out in
    let more = c.take_rows-2.result in
    let same : length new ≡ count = c.put_part.ensures.len ∙ length-take-le count out (omega arith) in
    let room : more ≡ min (lines.stride * (length numbers - 1)) (length out - count) =
    count-rest lines.stride count more numbers out new (omega arith) same c.take_rows-2.ensures.count in
    let fits : SFits w64 (value_in numbers 0) = search rules in
    let now = simp to_z-of_z at c.put_part.ensures.each in
    value_in-written count (length (new ++ drop count out) - count) (new ++ drop count out) c.take_rows-2.new.out
    (omega (arith, same, length-append new (drop count out)))
    (λ k. taken_in lines numbers values (column + k)) more
    (omega (arith, c.take_rows-2.ensures.len, c.take_rows-2.ensures.count))
    (λ k below. get_or_append_left new (drop count out) (pos 0) k (omega (arith, same))
    ∙ now k (omega (arith, same, c.put_part.ensures.len))
    ∙ taken_in-row lines numbers values (column + k) 0 (column + k) (omega arith) (omega arith))
    (λ k below. c.take_rows-2.ensures.each k below
    ∙ taken_in-rest lines numbers values k (column + (count + k)) (omega arith) (omega (arith, room))
    (omega (arith, room)))

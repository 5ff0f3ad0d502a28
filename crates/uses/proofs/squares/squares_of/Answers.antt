use Rattle.std.proofs.Common.{◌≡◌, ℕ, ◌*◌, ◌-◌, ◌∙◌, ap, map, length, slice_index, arith}
use Rattle.std.specs.List.{range_with_len}
use Rattle.uses.proofs.Maps.{map-get_or}
use Rattle.uses.proofs.squares.squares_of.Goals as goal

pub returns : goal.returns
returns g c =
    let numbers = c.args.numbers.now in
    let square_at = λ (p : ℕ). slice_index numbers p * slice_index numbers p in
    let all : length numbers - 0 ≡ length numbers = omega arith in
    c.in_ok-squares.ensures.items
    ∙ ap (λ (n : ℕ). map square_at (range_with_len 0 n)) all
    ∙ map-get_or (λ n. n * n) numbers

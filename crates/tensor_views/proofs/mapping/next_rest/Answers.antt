use Rattle.std.proofs.Common.{◌≡◌, ℕ, ◌+◌, ◌*◌, ◌/◌, ◌%◌, ◌<◌, ap, sym, ◌∙◌, arith}
use Rattle.std.proofs.Math.Nat.{mod-add-div}
use Rattle.tensor_views.proofs.Views.{index-of_row}
use Rattle.tensor_views.proofs.mapping.next_rest.Goals as goal

-- the remainder of a place, given its number of spans
left : (span q rest place : ℕ) → rest < span → place ≡ rest + span * q → rest ≡ place % span
left span q rest place below at = sym (ap (λ n. n % span) at ∙ index-of_row span q rest below)

pub returns-then-next-span : goal.returns-then-next-span
returns-then-next-span c =
    let span = c.args.span in
    left span (c.args.last / span) _ c.args.place c.if-next-span.true
    (omega (arith, c.requires.rest, c.if-place-last.true, mod-add-div c.args.last span))

pub returns-then-next-span-2 : goal.returns-then-next-span-2
returns-then-next-span-2 c =
    let span = c.args.span in
    let q = c.args.last / span in
    let one_more : span * (q + 1) ≡ span * q + span = grind arith in
    left span (q + 1) _ c.args.place c.if-next-span-2.true
    (omega (
      arith,
      c.requires.rest,
      c.if-place-last.true,
      c.if-next-span.false,
      one_more,
      mod-add-div c.args.last span,
    ))

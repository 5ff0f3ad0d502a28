use Rattle.std.proofs.Common.{◌≡◌, ℕ, zero, suc, ◌+◌, ◌<◌, ◌==◌, List, [], ◌∷◌, length, slice_index_or, Bool, true, ◌&&◌, ◌∙◌, refl, arith}
use Rattle.prepared_expressions.specs.declared.kind.Kind.{Kind}
use Rattle.prepared_expressions.specs.declared.kind.Kind.TheVariants.{Input}
use Rattle.prepared_expressions.specs.declared.kind.TheConstants.{KINDS}
use Rattle.prepared_expressions.specs.Numbers.{number_of}
use Rattle.prepared_expressions.proofs.kind.Kind.of.Goals as goal

-- whether kinds have the numbers from n on, in order
abbrev numbered : List Kind → ℕ → Bool
numbered [] n = true
numbered (k ∷ ks) n = (number_of k == n) && numbered ks (n + 1)

numbered-at : (ks : List Kind) (n i : ℕ) (d : Kind)
    → numbered ks n ≡ true → i < length ks → number_of (slice_index_or ks i d) ≡ n + i
numbered-at [] n i d are inside = absurd (omega (arith, inside))
numbered-at (k ∷ ks) n zero d are inside = grind (arith, are)
numbered-at (k ∷ ks) n (suc i) d are inside =
    let others : numbered ks (n + 1) ≡ true = grind (arith, are) in
    let from = numbered-at ks (n + 1) i d others (omega (arith, inside)) in
    grind (arith, from)

pub returns-then-index-clause-known : goal.returns-then-index-clause-known
returns-then-index-clause-known c =
    numbered-at KINDS.now 0 c.args.number Input refl (omega (arith, c.if-index.true)) ∙ omega arith

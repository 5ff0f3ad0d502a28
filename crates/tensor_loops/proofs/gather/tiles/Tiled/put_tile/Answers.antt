use Rattle.std.proofs.Common.{◌≡◌, ℕ, pos, ◌+◌, get_or, inl, inr, ◌∙◌, arith}
use Rattle.std.proofs.lemmas.Bool.{cases_lt}
use Rattle.std.proofs.lemmas.List.Edits.{get_or-between}
use Rattle.tensor_loops.proofs.gather.tiles.Tiled.put_tile.Goals as goal

pub loop-q-preserved : goal.loop-q-preserved
loop-q-preserved c =
    let from = c.args.from in
    let q = c.loop-q.q in
    let list = c.args.self.reading.list.now in
    let sources = c.args.sources.now in
    let source : ℕ = get_or sources q 0 in
    let stride = c.args.self.neighbours.stride in
    let inv = c.loop-q.invariant in
    record {
      len = c.put.ensures.len ∙ inv.len;
      each = λ r k before few.
          elim (cases_lt r q) [
            | inl earlier ↦
                c.put.ensures.kept (from + r) k (omega (arith, earlier)) (λ e. absurd (omega (arith, e, earlier)))
                ∙ inv.each r k earlier few
            | inr later ↦
                let same : r ≡ q = omega (arith, later, before) in
                rw same (c.put.ensures.each k few ∙ get_or-between list source (source + 8) k (pos 0) (omega (arith, few)))
          ];
      kept = λ i k low few.
          c.put.ensures.kept i k (omega (arith, low)) (λ e. absurd (omega (arith, e, low)))
          ∙ inv.kept i k low few;
    }

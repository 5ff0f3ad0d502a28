use Rattle.std.proofs.Common.{◌∙◌, ap, ℤ, [], ◌∷◌, ◌++◌, w64, rules}
use Rattle.std.specs.Prelude.{FitsSigned}
use Rattle.std.proofs.lemmas.Int.{to_z-of_z}
use Rattle.frame_server.specs.Frame.{number_of}
use Rattle.frame_server.proofs.Frames.{values-push}
use Rattle.frame_server.proofs.reading.push_values.Goals as goal

pub loop-chunk-preserved : goal.loop-chunk-preserved
unfolding number_of
loop-chunk-preserved c =
    let fits : FitsSigned w64 c.from_le_bytes.result = search rules in (
      c.push_reserved.ensures.items
          ∙ ap (λ (x : ℤ). c.loop-chunk.values.items ++ x ∷ []) (to_z-of_z w64 c.from_le_bytes.result fits)
          ∙ values-push c.args.values.now.items c.loop-chunk.values.items c.as_chunks.result.0.now c.loop-chunk.chunk-index c.from_le_bytes.result []
          c.loop-chunk-test.true c.from_le_bytes.ensures c.loop-chunk.invariant.0,
      c.push_reserved.ensures.capacity ∙ c.loop-chunk.invariant.1,
    )

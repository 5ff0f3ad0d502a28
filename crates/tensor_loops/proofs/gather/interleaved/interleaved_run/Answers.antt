use Rattle.std.proofs.Common.{◌≡◌, ◌+◌, ◌-◌, map, ap, sym, ◌∙◌, arith}
use Rattle.std.specs.List.{range_with_len}
use Rattle.tensor_values.specs.Interleaving.{firsts_before, seconds_before, interleaved}
use Rattle.tensor_values.proofs.InTurns.{firsts-le, seconds-le}
use Rattle.tensor_values.proofs.Runs.{chunk-more}
use Rattle.tensor_loops.proofs.gather.interleaved.interleaved_run.Goals as goal

pub part-requires-clause-firsts : goal.part-requires-clause-firsts
part-requires-clause-firsts c =
    let t = c.args.turns in
    omega (arith, c.requires.firsts, firsts-le t.first t.second t.some c.end_after-end.result c.args.to c.end_after-end.ensures.below)

pub part-requires-clause-seconds : goal.part-requires-clause-seconds
part-requires-clause-seconds c =
    let t = c.args.turns in
    omega (arith, c.requires.seconds, seconds-le t.first t.second t.some c.end_after-end.result c.args.to c.end_after-end.ensures.below)

pub loop-place-preserved : goal.loop-place-preserved
loop-place-preserved c =
    let t = c.args.turns in
    let inv = c.loop-place.invariant in
    record {
      above = omega arith;
      below = c.end_after-end.ensures.below;
      items = λ f g firsts seconds.
          let long : c.end_after-end.result ≡ c.loop-place.place + (c.end_after-end.result - c.loop-place.place) = omega arith in
          chunk-more (interleaved t.first t.second f g) c.args.from c.loop-place.place (c.end_after-end.result - c.loop-place.place)
          c.loop-place.values.items c.part.result.now c.extend_from_slice.new.self.items inv.above (inv.items f g firsts seconds)
          (c.part.ensures f g
          (firsts ∙ ap (λ n. map f (range_with_len (firsts_before t.first t.second c.args.from) n)) (sym c.requires.firsts))
          (seconds ∙ ap (λ n. map g (range_with_len (seconds_before t.first t.second c.args.from) n)) (sym c.requires.seconds)))
          c.in_ok-extend_from_slice.ensures.items
          ∙ ap (λ n. map (interleaved t.first t.second f g) (range_with_len c.args.from (n - c.args.from))) (sym long);
    }

pub returns : goal.returns
returns c = λ f g firsts seconds.
    let inv = c.loop-place.invariant in
    let done : c.loop-place.place ≡ c.args.to = omega arith in
    inv.items f g firsts seconds
    ∙ ap (λ n. map (interleaved c.args.turns.first c.args.turns.second f g) (range_with_len c.args.from (n - c.args.from))) done

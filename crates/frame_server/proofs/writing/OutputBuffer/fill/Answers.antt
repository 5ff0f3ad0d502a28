use Rattle.std.proofs.Common.{◌≡◌, ◌∙◌, ap, ℕ, ℤ, pos, List, map, take, length, get_or, arith, rules, w64}
use Rattle.std.specs.List.{flat_map}
use Rattle.std.specs.Prelude.{FitsSigned}
use Rattle.std.proofs.lemmas.Int.{to_z-of_z}
use Rattle.std.proofs.lemmas.List.{take_all}
use Rattle.std.proofs.lemmas.List.Folds.{flat_map-map}
use Rattle.frame_server.specs.Frame.{number_bytes, value_bytes}
use Rattle.frame_server.proofs.Answering.{cells-push}
use Rattle.frame_server.proofs.writing.OutputBuffer.fill.Goals as goal

pub loop-k-preserved : goal.loop-k-preserved
unfolding number_bytes
loop-k-preserved c =
    let fits : FitsSigned w64 (get_or c.args.values.now c.loop-k.k (pos 0)) = search rules in
    cells-push c.loop-k.self.cells c.args.values.now c.loop-k.k c.to_le_bytes.result (pos 0)
    (omega (arith, c.loop-k.self.whole, c.loop-k-test.true, c.requires)) c.loop-k-test.true
    (c.to_le_bytes.ensures ∙ ap value_bytes (to_z-of_z w64 (get_or c.args.values.now c.loop-k.k (pos 0)) fits)) c.loop-k.invariant

pub returns : goal.returns
returns c =
    let values = c.args.values.now in
    let all : c.loop-k.k ≡ length values = omega (arith, c.loop-k-test.false, c.loop-k.auto.k-end) in
    let cells : take (length values) c.loop-k.self.cells ≡ map value_bytes (take (length values) values) = rw all at c.loop-k.invariant in
    c.as_flattened.ensures.value
    ∙ ap (λ (l : List (List ℕ)). flat_map (λ (x : List ℕ). x) l)
    (cells ∙ ap (λ (l : List ℤ). map value_bytes l) (take_all (length values) values (omega arith)))
    ∙ flat_map-map (λ (x : List ℕ). x) value_bytes values

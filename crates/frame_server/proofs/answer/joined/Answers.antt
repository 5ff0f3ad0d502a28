use Rattle.std.proofs.Common.{◌≡◌, ◌∙◌, ap, sym, ℕ, ℤ, pos, List, ◌++◌, take, length, get_or, arith, rules, w64, append_assoc}
use Rattle.std.specs.List.{flat_map}
use Rattle.std.specs.Prelude.{FitsSigned}
use Rattle.std.proofs.lemmas.Int.{to_z-of_z}
use Rattle.std.proofs.lemmas.List.{take_all}
use Rattle.frame_server.specs.Frame.{number_bytes, value_bytes}
use Rattle.frame_server.proofs.Answering.{values-push}
use Rattle.frame_server.proofs.answer.joined.Goals as goal

pub loop-k-preserved : goal.loop-k-preserved
unfolding number_bytes
loop-k-preserved c =
    let values = c.args.values.now in
    let k = c.loop-k.k in
    let fits : FitsSigned w64 (get_or values k (pos 0)) = search rules in
    let one : c.to_le_bytes.result ≡ value_bytes (get_or values k (pos 0)) =
    c.to_le_bytes.ensures ∙ ap value_bytes (to_z-of_z w64 (get_or values k (pos 0)) fits) in
    c.in_ok-extend_from_slice.ensures.items
    ∙ ap (λ (l : List ℕ). l ++ c.to_le_bytes.result) c.loop-k.invariant
    ∙ append_assoc c.args.front.items (flat_map value_bytes (take k values)) c.to_le_bytes.result
    ∙ ap (λ (l : List ℕ). c.args.front.items ++ l)
    (ap (λ (x : List ℕ). flat_map value_bytes (take k values) ++ x) one ∙ sym (values-push values k (pos 0) c.loop-k-test.true))

pub returns : goal.returns
returns c =
    let values = c.args.values.now in
    let all : c.loop-k.k ≡ length values = omega (arith, c.loop-k-test.false, c.loop-k.auto.k-end) in
    c.loop-k.invariant
    ∙ ap (λ (l : List ℤ). c.args.front.items ++ flat_map value_bytes l) (ap (λ (n : ℕ). take n values) all ∙ take_all (length values) values (omega arith))

use Rattle.std.proofs.Common.{◌≡◌, ◌∙◌, ap, sym, subst, ℕ, List, [], ◌++◌, Option, length, ◌+◌, ◌/◌, ℤ}
use Rattle.std.proofs.lemmas.List.{append-nil}
use Rattle.std.specs.List.{flat_map}
use Rattle.expr_reader.specs.Contents.{Contents}
use Rattle.message_server.specs.History.{AddsAtMost}
use Rattle.message_server.specs.Pieces.{AppendsFront}
use Rattle.message_server.proofs.Streams.{OnErr-any, OnOk-follows}
use Rattle.frame_server.specs.private.Answering.{bytes_in, values_in}
use Rattle.frame_server.specs.Frame.{value_bytes}
use Rattle.frame_server.proofs.Answering.{AppendsFront-more, AppendsFront-behind, AddsAtMost-then, OnErr-follows}
use Rattle.frame_server.proofs.writing.write_frame.Goals as goal

pub returns-in_err-write_answer-clause-front : goal.returns-in_err-write_answer-clause-front
returns-in_err-write_answer-clause-front g c =
    OnErr-any c.from_residual.result
    (subst (λ (l : List ℕ). AppendsFront (g.C.Client.contents c.args.client.now) (g.C.Client.contents c.write_answer.new.client)
    (l ++ flat_map value_bytes (values_in c.args.frame.now.tensor))) c.as_slice.ensures.value
    (AppendsFront-more _ _ c.as_slice.result.now (flat_map value_bytes (values_in c.args.frame.now.tensor)) c.in_err-write_answer.ensures.err.1))

pub returns-in-Some-clause-front : goal.returns-in-Some-clause-front
returns-in-Some-clause-front g c =
    let front = c.as_slice.result.now in
    let values = flat_map value_bytes c.values.result.now in
    let all : bytes_in c.args.frame.now ≡ front ++ (values ++ []) =
    ap (λ (l : List ℕ). l ++ flat_map value_bytes (values_in c.args.frame.now.tensor)) (sym c.as_slice.ensures.value)
    ∙ ap (λ (o : Option Contents). front ++ flat_map value_bytes (values_in o)) c.in-Some.is
    ∙ ap (λ l. front ++ flat_map value_bytes l) (sym c.values.ensures.value)
    ∙ ap (λ (l : List ℕ). front ++ l) (sym (append-nil values)) in
    OnErr-follows c.write_values.result _ _
    (λ cut. AppendsFront-behind _ _ _ front values [] _ c.in_ok-write_answer.ensures.ok cut all) c.write_values.ensures.front

pub returns-in-Some-clause-few : goal.returns-in-Some-clause-few
returns-in-Some-clause-few g c =
    let count : length (values_in c.args.frame.now.tensor) ≡ length c.values.result.now =
    ap (λ (o : Option Contents). length (values_in o)) c.in-Some.is ∙ ap (λ (l : List ℤ). length l) (sym c.values.ensures.value) in
    OnOk-follows c.write_values.result _ _
    (λ few. subst (λ (n : ℕ). AddsAtMost (1 + (n + 8191) / 8192) (g.C.Client.writes c.args.client.now) (g.C.Client.writes c.write_values.new.client)) (sym count)
    (AddsAtMost-then 1 ((length c.values.result.now + 8191) / 8192) _ _ _ c.in_ok-write_answer.ensures.few few)) c.write_values.ensures.few

pub returns-in-None-clause-few : goal.returns-in-None-clause-few
returns-in-None-clause-few g c =
    subst (λ (o : Option Contents). AddsAtMost (1 + (length (values_in o) + 8191) / 8192) (g.C.Client.writes c.args.client.now) (g.C.Client.writes c.write_answer.new.client))
    (sym c.in-None.is) c.in_ok-write_answer.ensures.few

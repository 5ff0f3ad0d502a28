use Rattle.std.proofs.Common.{◌≡◌, ◌+◌, ◌-◌, ◌∙◌, refl, ap, sym, subst, ℕ, List, ◌++◌, take, drop, length, arith}
use Rattle.std.specs.List.{flat_map}
use Rattle.std.specs.Io.KnownBytes.{Appends}
use Rattle.message_server.proofs.Histories.{writing-more, adds_none}
use Rattle.message_server.proofs.Streams.{OnErr-any}
use Rattle.message_server.proofs.Streams.{Appends-none, Appends-trans}
use Rattle.frame_server.specs.Frame.{value_bytes}
use Rattle.frame_server.proofs.Answering.{AppendsFront-behind, AddsAtMost-then, AddsAtMost-fits, writing-none, values-parted, values-more}
use Rattle.frame_server.proofs.writing.write_values.Goals as goal

pub returns-in_err-write_answer-clause-front : goal.returns-in_err-write_answer-clause-front
returns-in_err-write_answer-clause-front g c =
    let values = c.args.values.now in
    let first = c.loop-written.written in
    let count = (c.min.result + first) - first in
    let before = flat_map value_bytes (take first values) in
    let behind = flat_map value_bytes (drop count (drop first values)) in
    OnErr-any c.from_residual.result (AppendsFront-behind _ _ _ before c.fill.result.now behind _ c.loop-written.invariant.1 c.in_err-write_answer.ensures.err.1
    (values-parted values first count ∙ ap (λ (l : List ℕ). before ++ (l ++ behind)) (sym c.fill.ensures)))

pub loop-written-init : goal.loop-written-init
loop-written-init g c = (
  omega arith,
  Appends-none (g.C.Client.contents c.args.client.now),
  writing-none (g.C.Client.history c.args.client.now),
  refl,
  refl,
  refl,
  adds_none 0 (g.C.Client.writes c.args.client.now),
  omega arith,
  omega arith,
)

pub loop-written-preserved : goal.loop-written-preserved
loop-written-preserved g c =
    let values = c.args.values.now in
    let first = c.loop-written.written in
    let before = flat_map value_bytes (take first values) in
    let all : before ++ c.fill.result.now ≡ flat_map value_bytes (take (c.min.result + first) values) =
    ap (λ (l : List ℕ). before ++ l) c.fill.ensures ∙ values-more values first c.min.result in (
      omega (arith, c.min.ensures, c.loop-written.invariant.0),
      subst (λ (l : List ℕ). Appends (g.C.Client.contents c.args.client.now) (g.C.Client.contents c.write_answer.new.client) l) all
          (Appends-trans _ _ _ before c.fill.result.now c.loop-written.invariant.1 c.in_ok-write_answer.ensures.ok),
      writing-more _ _ _ before c.fill.result.now _ c.loop-written.invariant.2 c.in_ok-write_answer.ensures.noted all,
      c.in_ok-write_answer.ensures.ok_failures ∙ c.loop-written.invariant.3,
      c.write_answer.ensures.remaining ∙ c.loop-written.invariant.4,
      c.write_answer.ensures.read_failures ∙ c.loop-written.invariant.5,
      AddsAtMost-then c.loop-written.writes 1 (g.C.Client.writes c.args.client.now) (g.C.Client.writes c.loop-written.client) (g.C.Client.writes c.write_answer.new.client)
          c.loop-written.invariant.6 c.in_ok-write_answer.ensures.few,
      omega (arith, c.min.ensures, c.loop-written.invariant.7, c.loop-written-test.true),
      omega (arith, c.loop-written.invariant.7, c.loop-written-test.true),
    )

pub returns-clause-few : goal.returns-clause-few
returns-clause-few g c =
    AddsAtMost-fits c.loop-written.writes (length c.args.values.now) (g.C.Client.writes c.args.client.now) (g.C.Client.writes c.loop-written.client)
    c.loop-written.invariant.6 c.loop-written.invariant.8

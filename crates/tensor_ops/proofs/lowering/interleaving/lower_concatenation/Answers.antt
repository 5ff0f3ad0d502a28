use Rattle.std.proofs.Common.{refl, sym, ◌∙◌, arith}
use Rattle.tensor_ops.proofs.InterleavedLowerings.{gives-turns, gives-first, gives-second}
use Rattle.tensor_ops.proofs.lowering.interleaving.lower_concatenation.Goals as goal

pub returns-then-turns-eq0-clause-lowered : goal.returns-then-turns-eq0-clause-lowered
returns-then-turns-eq0-clause-lowered c =
    gives-second c.args.axis c.args.first.dims c.args.second.dims c.unwrap-dims.result c.args.first.lowered c.args.second.lowered
    (sym c.concatenated_dims.ensures ∙ c.unwrap-dims.ensures) c.turns_along-turns.result.first c.turns_along-turns.ensures.first c.if-turns-eq0.true
    c.requires.second c.requires.count_second

pub returns-then-turns-eq0-2-clause-lowered : goal.returns-then-turns-eq0-2-clause-lowered
returns-then-turns-eq0-2-clause-lowered c =
    gives-first c.args.axis c.args.first.dims c.args.second.dims c.unwrap-dims.result c.args.first.lowered c.args.second.lowered
    (sym c.concatenated_dims.ensures ∙ c.unwrap-dims.ensures) c.turns_along-turns.result.first c.turns_along-turns.result.second c.turns_along-turns.ensures.first
    c.turns_along-turns.ensures.second c.if-turns-eq0-2.true (omega arith) c.requires.first c.requires.count_first

pub returns : goal.returns
returns c = record {
  dims = sym c.concatenated_dims.ensures ∙ c.unwrap-dims.ensures;
  lowered = gives-turns c.args.axis c.args.first.dims c.args.second.dims c.unwrap-dims.result c.args.first.lowered c.args.second.lowered
      (sym c.concatenated_dims.ensures ∙ c.unwrap-dims.ensures) c.in_ok-first.first.value c.in_ok-second.second.value _ c.turns_along-turns.result.first c.turns_along-turns.result.second
      c.in_ok-first.ensures.ok c.in_ok-second.ensures.ok c.requires.first c.requires.second c.requires.count_first c.requires.count_second
      c.turns_along-turns.ensures.first c.turns_along-turns.ensures.second (omega arith) (omega arith)
      (λ first second turns. (first, (second, turns))) refl (λ p. refl);
}

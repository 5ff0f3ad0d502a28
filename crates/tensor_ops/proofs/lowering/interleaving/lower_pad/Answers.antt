use Rattle.std.proofs.Common.{◌≡◌, ℕ, suc, List, Ok, ◌+◌, length, ap, sym, subst, ◌∙◌, arith, add-one}
use Rattle.tensor_shape.specs.Index.{IsIndexOf}
use Rattle.tensor_shape.specs.Legal.{IsLegal}
use Rattle.tensor_shape.proofs.Places.{length-IsIndexOf}
use Rattle.tensor_terms.specs.Padding.{padded_dims, padded}
use Rattle.tensor_ops.specs.private.Lowering.{Gives, meaning_at}
use Rattle.tensor_terms.specs.Shaped.{Shaped}
use Rattle.tensor_terms.proofs.Pads.{pad-known, first_pads, first_pads-all, padded_dims-none, padded-none}
use Rattle.tensor_ops.proofs.Lowerings.{gives-itself, gives-other}
use Rattle.tensor_ops.proofs.Zeroes.{length-padded_first, IsLegal-first_pads, set-first_pads, padded-next}
use Rattle.tensor_ops.proofs.lowering.interleaving.lower_pad.Goals as goal

pub loop-axis-init : goal.loop-axis-init
loop-axis-init c =
    let known = pad-known c.args.pairs.now c.args.operand.dims c.requires.dims in
    let ds : List ℕ = c.args.operand.dims in
    record {
      dims = sym (padded_dims-none c.args.pairs.now ds known.long);
      lowered = gives-other c.args.operand.lowered ds (meaning_at c.args.operand.lowered ds) _
          (gives-itself c.args.operand.lowered ds c.requires.sound c.requires.count)
          (λ is index. padded-none c.args.pairs.now ds is (meaning_at c.args.operand.lowered ds) known.long index);
    }

pub with_zeroes-requires-clause-axis : goal.with_zeroes-requires-clause-axis
with_zeroes-requires-clause-axis c =
    let known = pad-known c.args.pairs.now c.args.operand.dims c.requires.dims in
    omega (
      arith,
      ap length c.loop-axis.invariant.dims,
      length-padded_first c.loop-axis.axis c.args.pairs.now c.args.operand.dims known.long,
      known.long,
      c.loop-axis-test.true,
    )

pub with_zeroes-requires-clause-legal : goal.with_zeroes-requires-clause-legal
with_zeroes-requires-clause-legal c =
    let known = pad-known c.args.pairs.now c.args.operand.dims c.requires.dims in
    subst IsLegal
    (sym (set-first_pads c.loop-axis.axis c.args.pairs.now c.args.operand.dims c.loop-axis.padded.dims known.long c.loop-axis-test.true
    c.loop-axis.invariant.dims))
    (IsLegal-first_pads (suc c.loop-axis.axis) c.args.pairs.now c.args.operand.dims known.long known.legal)

pub loop-axis-preserved : goal.loop-axis-preserved
loop-axis-preserved c =
    let known = pad-known c.args.pairs.now c.args.operand.dims c.requires.dims in
    let inv = c.loop-axis.invariant in
    let k : ℕ = c.loop-axis.axis in
    let ps = c.args.pairs.now in
    let ds : List ℕ = c.args.operand.dims in
    let a = meaning_at c.args.operand.lowered ds in
    let next = set-first_pads k ps ds c.loop-axis.padded.dims known.long c.loop-axis-test.true inv.dims in
    let dims : c.in_ok-padded.padded.dims ≡ padded_dims (first_pads (suc k) ps) ds = c.in_ok-padded.ensures.dims ∙ next in
    let more : suc k ≡ k + 1 = sym (add-one k) in
    record {
      dims = dims ∙ ap (λ n. padded_dims (first_pads n ps) ds) more;
      lowered = gives-other c.in_ok-padded.padded.lowered c.in_ok-padded.padded.dims _ _ c.in_ok-padded.ensures.lowered
          (λ is index.
          padded-next k ps ds c.loop-axis.padded.dims known.long c.loop-axis-test.true inv.dims c.loop-axis.padded.lowered a is inv.lowered
          (subst (λ l. IsIndexOf l is) c.in_ok-padded.ensures.dims index)
          (omega (
            arith,
            length-IsIndexOf c.in_ok-padded.padded.dims is index,
            ap length dims,
            length-padded_first (suc k) ps ds known.long,
          ))
          ∙ ap (λ n. padded (first_pads n ps) ds a is) more);
    }

pub returns-clause-dims : goal.returns-clause-dims
returns-clause-dims c =
    let known = pad-known c.args.pairs.now c.args.operand.dims c.requires.dims in
    let done : c.loop-axis.axis ≡ length c.args.pairs.now = omega arith in
    known.dims
    ∙ ap {A = List ℕ} {B = Shaped} Ok
    (sym (c.loop-axis.invariant.dims
    ∙ ap (λ n. padded_dims (first_pads n c.args.pairs.now) c.args.operand.dims) done
    ∙ ap (λ l. padded_dims l c.args.operand.dims) (first_pads-all c.args.pairs.now)))

pub returns-clause-lowered : goal.returns-clause-lowered
returns-clause-lowered c =
    let done : c.loop-axis.axis ≡ length c.args.pairs.now = omega arith in
    let all : first_pads c.loop-axis.axis c.args.pairs.now ≡ c.args.pairs.now =
    ap (λ n. first_pads n c.args.pairs.now) done ∙ first_pads-all c.args.pairs.now in
    subst (λ l. Gives c.loop-axis.padded.lowered c.loop-axis.padded.dims
    (padded l c.args.operand.dims (meaning_at c.args.operand.lowered c.args.operand.dims))) all c.loop-axis.invariant.lowered

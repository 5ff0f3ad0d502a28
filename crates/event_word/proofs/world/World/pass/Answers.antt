use Rattle.std.proofs.Common.{◌<◌, length, refl, arith}
use Rattle.event_word.specs.declared.phase.Phase.TheVariants.{Pre}
use Rattle.event_word.specs.declared.event.Event.TheVariants.{Pass}
use Rattle.event_word.specs.Step.{Possible}
use Rattle.event_word.specs.Stored.{world_view}
use Rattle.event_word.proofs.Keeps.{pre_known}
use Rattle.event_word.proofs.Stored.{stored_step}
use Rattle.event_word.proofs.Passing.{rows_long, pass_view, jobs_read}
use Rattle.event_word.proofs.Taken.{phase_found}
use Rattle.event_word.proofs.Taken.{stepped}
use Rattle.event_word.proofs.world.World.pass.Goals as goal

pub index_mut-requires-2 : goal.index_mut-requires-2
index_mut-requires-2 g c =
    let i = c.self.inside in let s = c.self.invariant in
    let pre = phase_found i.phases.items _ c.args.seat _ Pre c.deref.ensures.value
    c.from-place.ensures (c.is_in.ensures.0 c.if-not-is_in.false) in
    let known = pre_known (world_view i) c.args.seat pre in
    omega (
      arith,
      rows_long i s c.args.seat _ c.index_mut.result.now known c.from-place.ensures
          c.index_mut.ensures.value,
      c.index_mut.result.now.ok.0,
      c.if-at-len.false,
      c.len.ensures,
      i.lengths.ok.0,
    )

pub invariant_of-self : goal.invariant_of-self
invariant_of-self g c =
    let i = c.self.inside in let s = c.self.invariant in
    let pre = phase_found i.phases.items _ c.args.seat _ Pre c.deref.ensures.value
    c.from-place.ensures (c.is_in.ensures.0 c.if-not-is_in.false) in
    let known = pre_known (world_view i) c.args.seat pre in
    let row : c.args.row < length i.lengths.items =
    omega (arith, c.if-at-len.false, c.len.ensures, c.from-at.ensures, i.lengths.ok.0) in
    let p : Possible (world_view i) (Pass c.args.seat c.args.row) = (
      pre,
      row,
      omega (
        arith,
        jobs_read i s c.args.row _ c.index.result.now row c.from-at.ensures c.index.ensures,
      ),
    ) in
    let is = pass_view i s c.args.seat c.args.row _ _ c.index_mut.result.now _ known
    c.from-place.ensures c.from-at.ensures c.index_mut.ensures.value refl in
    stored_step i s _ (Pass c.args.seat c.args.row) p is
    (record {
      workers = refl;
      notifiers = refl;
      pre = omega arith;
      stack = omega arith;
      owed = omega arith;
      known = s.known;
    })

pub returns : goal.returns
returns g c =
    let i = c.self.inside in let s = c.self.invariant in
    let pre = phase_found i.phases.items _ c.args.seat _ Pre c.deref.ensures.value
    c.from-place.ensures (c.is_in.ensures.0 c.if-not-is_in.false) in
    let known = pre_known (world_view i) c.args.seat pre in
    let row : c.args.row < length i.lengths.items =
    omega (arith, c.if-at-len.false, c.len.ensures, c.from-at.ensures, i.lengths.ok.0) in
    let p : Possible (world_view i) (Pass c.args.seat c.args.row) = (
      pre,
      row,
      omega (
        arith,
        jobs_read i s c.args.row _ c.index.result.now row c.from-at.ensures c.index.ensures,
      ),
    ) in
    let is = pass_view i s c.args.seat c.args.row _ _ c.index_mut.result.now _ known
    c.from-place.ensures c.from-at.ensures c.index_mut.ensures.value refl in
    stepped i _ _ (Pass c.args.seat c.args.row) c.self.view_is p is

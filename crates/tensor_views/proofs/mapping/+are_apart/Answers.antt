use Rattle.std.proofs.Common.{length, sym, subst, arith}
use Rattle.std.proofs.lemmas.Bool.{eqb-true}
use Rattle.tensor_views.specs.View.{AreAllApart}
use Rattle.tensor_views.proofs.Apart.{apart-more, apart-one, apart-last}
use Rattle.tensor_views.proofs.mapping.+are_apart.Goals as goal

pub returns-then-is_empty : goal.returns-then-is_empty
returns-then-is_empty t c apart =
    let starts = c.args.starts.now in
    let offsets = c.args.offsets.now in
    let split = c.in-Some.ensures.cases.0 in
    subst (λ axes. AreAllApart axes c.args.before starts offsets) (sym split)
    (apart-last c.in-Some.axis.now c.in-Some.slower.now c.args.before starts offsets
    c.if-axis.false c.requires.before
    (eqb-true (length c.in-Some.slower.now) 0 (sym (c.if-is_empty.ensures)))
    (λ x q row value. rw split at (c.requires.inside x q row value)))

pub returns-then-axis-eq1 : goal.returns-then-axis-eq1
returns-then-axis-eq1 t c apart =
    let starts = c.args.starts.now in
    let offsets = c.args.offsets.now in
    subst (λ axes. AreAllApart axes c.args.before starts offsets) (sym c.in-Some.ensures.cases.0)
    (apart-one c.in-Some.axis.now c.in-Some.slower.now c.args.before starts offsets
    c.if-axis.false c.if-axis-eq1.true (c.are_apart.ensures apart))

pub returns : goal.returns
returns t c apart =
    let starts = c.args.starts.now in
    let offsets = c.args.offsets.now in
    subst (λ axes. AreAllApart axes c.args.before starts offsets) (sym c.in-Some.ensures.cases.0)
    (apart-more c.in-Some.axis.now c.in-Some.slower.now c.args.before starts offsets
    c.if-axis.false c.greatest_rest.result c.greatest_rest-2.result c.requires.before
    (omega (arith, c.if-greatest_rest-span.false)) c.greatest_rest.ensures.each
    c.greatest_rest-2.ensures.each (c.are_apart-2.ensures apart))

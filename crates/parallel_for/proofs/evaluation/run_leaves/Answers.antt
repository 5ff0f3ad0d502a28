use Rattle.std.proofs.Common.{rules, ◌≡◌, ◌∙◌, sym, arith}
use Rattle.std.specs.declared.vec.Vec.{Vec}
use Rattle.run_queue.specs.Bag.{total}
use Rattle.parallel_for.specs.declared.piece.Piece.{Piece}
use Rattle.parallel_for.specs.Leaves.{leaves_of}
use Rattle.parallel_for.specs.Pieces.{IsRight}
use Rattle.parallel_for.proofs.Outs.{outs-hold, IsRight-leaf}
use Rattle.parallel_for.proofs.Covering.{weight-account, weight-halved, weight-leaf, weight-lists}
use Rattle.parallel_for.proofs.evaluation.run_leaves.Goals as goal

pub returns-clause-right : goal.returns-clause-right
returns-clause-right g c =
    let item_at = g.K.Kernel.item_at c.args.ctx.now.kernel in
    outs-hold (IsRight item_at)
    (λ (pieces : Vec (Piece g.row.K-Item.Denot g.row.A.Denot) g.row.A.Denot). pieces.items)
    c.in-Ok.closed.outs.items
    (λ job piece step. IsRight-leaf item_at piece _ _ step.0.0)
    c.in-Ok.ensures.account

pub returns-clause-covered : goal.returns-clause-covered
returns-clause-covered g c = λ h.
    let ctx = c.args.ctx.now in
    let item_at = g.K.Kernel.item_at ctx.kernel in
    let block = g.D.Division.block in
    let closed = c.in-Ok.closed in
    let none_refused : closed.refused ≡ 0 = search rules in
    let came = weight-account _ (λ job. total h (leaves_of job.first job.last block))
    (λ piece. h (piece.first, piece.last))
    (λ job kid rest step. weight-halved h (job.first, job.last) (kid.first, kid.last)
    (rest.first, rest.last) block (omega (arith, ctx.cut, ctx.some)) job.order
    kid.order step.0)
    (λ job piece step. weight-leaf h item_at piece.items.items (job.first, job.last)
    (piece.first, piece.last) block job.order step.0.0)
    c.args.root _ closed.left.items closed.refused tt c.in-Ok.ensures.none_left none_refused
    c.in-Ok.ensures.account in
    came ∙ sym (weight-lists h closed.outs.items)

use Rattle.std.proofs.Common.{arith, sym, subst, length, set, List, ℕ, ◌/◌, ◌+◌, ◌≡◌, ◌<◌, [], ◌∷◌}
use Rattle.parallel_for.specs.Leaves.{Range, leaf}
use Rattle.parallel_for.specs.Table.{rows_of, IsTable, AreOfBlock, IsTaken, missing}
use Rattle.parallel_for.proofs.Rows.{AreOfBlock-leaf, IsTable-set, missing-set, missing-leaf}
use Rattle.parallel_for.proofs.Rows.{leaf-passed, length-rows_of, rows_of-set}
use Rattle.parallel_for.proofs.collector.put.Goals as goal

pub index_mut-requires : goal.index_mut-requires
index_mut-requires g c =
    let p = c.args.piece in
    let old = c.args.table.now in
    let at =
    missing-leaf c.args.n c.args.block p.first p.last old.items c.requires.some
    (omega (arith, c.requires.long, old.ok.0)) c.requires.missing in
    let is =
    AreOfBlock-leaf c.args.n c.args.block (g.K.Kernel.item_at c.args.kernel.now) p.first p.last
    p.items.items c.requires.some at.0.0 at.0.1 at.0.2 c.requires.right in
    omega (arith, is.0, c.requires.long)

pub returns-clause-table : goal.returns-clause-table
returns-clause-table g c =
    let item_at = g.K.Kernel.item_at c.args.kernel.now in
    let n = c.args.n in
    let b = c.args.block in
    let p = c.args.piece in
    let old = c.args.table.now in
    let at =
    missing-leaf n b p.first p.last old.items c.requires.some
    (omega (arith, c.requires.long, old.ok.0)) c.requires.missing in
    let k = p.first / b in
    let is =
    AreOfBlock-leaf n b item_at p.first p.last p.items.items c.requires.some at.0.0 at.0.1 at.0.2
    c.requires.right in
    let plain : k ≡ 0 + k = omega arith in
    let below : k < length (rows_of old.items) =
    omega (arith, is.0, c.requires.long, old.ok.0, length-rows_of old.items) in
    subst (IsTable n b item_at 0) (sym (rows_of-set old.items k p.items))
    (IsTable-set n b item_at 0 k (rows_of old.items) p.items.items c.requires.table below is.1
    (subst (λ (j : ℕ). AreOfBlock n b item_at j p.items.items) plain is.2))

pub returns-clause-taken : goal.returns-clause-taken
returns-clause-taken g c =
    let item_at = g.K.Kernel.item_at c.args.kernel.now in
    let n = c.args.n in
    let b = c.args.block in
    let p = c.args.piece in
    let old = c.args.table.now in
    let before = missing n b 0 (rows_of old.items) in
    let at =
    missing-leaf n b p.first p.last old.items c.requires.some
    (omega (arith, c.requires.long, old.ok.0)) c.requires.missing in
    let k = p.first / b in
    let is =
    AreOfBlock-leaf n b item_at p.first p.last p.items.items c.requires.some at.0.0 at.0.1 at.0.2
    c.requires.right in
    let after = missing n b 0 (rows_of (set old.items k p.items)) in
    subst (λ (r : Range). IsTaken before (r ∷ []) after)
    (leaf-passed n b p.first p.last at.0.1 at.0.0 at.0.2)
    (subst
    (λ (rows : List (List g.row.K-Item.Denot)).
    IsTaken before (leaf 0 n b (0 + k) ∷ []) (missing n b 0 rows))
    (sym (rows_of-set old.items k p.items))
    (missing-set n b 0 k (rows_of old.items) p.items.items at.1 is.1))

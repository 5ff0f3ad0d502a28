use Rattle.std.proofs.Common.{◌≡◌, ◌+◌, ℕ, subst, arith}
use Rattle.parallel_for.specs.Items.{AreItems}
use Rattle.tensor_reduce.proofs.Batches.{items-more}
use Rattle.tensor_reduce.proofs.running.workers.Workers.batched.Goals as goal

pub loop-first-init : goal.loop-first-init
loop-first-init g c = record { within = omega arith; items = c.in_ok-items.ensures.items }

pub loop-first-preserved : goal.loop-first-preserved
loop-first-preserved g c =
    let first = c.loop-first.first in
    record {
      within = omega (arith, c.min.ensures, c.loop-first.invariant.within);
      items =
          items-more (g.K.Kernel.item_at c.args.kernel.now) first (first + c.min.result)
          c.loop-first.items.items c.in_ok-found.found.items c.append.new.self.items
          (omega arith) c.loop-first.invariant.items c.in_ok-found.ensures.items
          c.in_ok-append.ensures.items;
    }

pub returns-clause-items : goal.returns-clause-items
returns-clause-items g c =
    let ended : c.loop-first.first ≡ c.args.n =
    omega (arith, c.loop-first.invariant.within, c.loop-first-test.false) in
    subst (λ (n : ℕ). AreItems (g.K.Kernel.item_at c.args.kernel.now) 0 n c.loop-first.items.items)
    ended c.loop-first.invariant.items

use Rattle.std.proofs.Common.{◌≡◌, ◌≤◌, ◌<◌, ◌∙◌, [], ◌∷◌, ◌++◌, append_assoc, ap, arith, refl, sym}
use Rattle.std.proofs.Common.{true, not}
use Rattle.std.specs.Prelude.{◌==◌}
use Rattle.std.proofs.lemmas.Bool.{true≢false}
use Rattle.std.proofs.lemmas.List.{append-nil}
use Rattle.std.proofs.lemmas.List.Elements.{All-nil, All-same, All-weaker}
use Rattle.worker_pool.specs.Seen.{has_passed}
use Rattle.worker_pool.specs.Stops.{stored_of}
use Rattle.worker_pool.specs.Told.{told_of}
use Rattle.worker_pool.proofs.Growing.{All-first, All-rest}
use Rattle.worker_pool.proofs.Passing.{passed-snoc, passed-walk}
use Rattle.worker_pool.proofs.queues.job_queue.job_seat.JobSeat.first_full.Goals as goal
use Rattle.worker_pool.proofs.queues.job_queue.job_seat.JobSeat.first_full.Goals.{else-length-gt0-via-then-length-gt0+else-is_none}
use Rattle.worker_pool.proofs.queues.job_queue.job_seat.JobSeat.first_full.Goals.{else-length-gt0-via-else-length-gt0}

pub overflow_cast-row : goal.overflow_cast-row
overflow_cast-row g c =
    let below = All-first (λ row. row < g.R.Rows.row_count c.args.queue.now.rows) _ _ _
    c.in-Some.ensures.steps c.loop-row.invariant.left in
    omega (arith, below, c.requires.entered.placed.sized.rows, c.requires.entered.placed.sized.few)

pub look-length-requires-clause-ours : goal.look-length-requires-clause-ours
look-length-requires-clause-ours g c = c.loop-row.invariant.rows ∙ c.requires.entered.placed.ours

pub look-length-requires-clause-row : goal.look-length-requires-clause-row
look-length-requires-clause-row g c =
    All-first (λ row. row < g.R.Rows.row_count c.args.queue.now.rows) _ _ _ c.in-Some.ensures.steps
    c.loop-row.invariant.left

pub look-length-requires-clause-few : goal.look-length-requires-clause-few
look-length-requires-clause-few g c =
    let below = All-first (λ row. row < g.R.Rows.row_count c.args.queue.now.rows) _ _ _
    c.in-Some.ensures.steps c.loop-row.invariant.left in
    omega (arith, below, c.requires.entered.placed.sized.rows, c.requires.entered.placed.sized.few)

pub loop-row-preserved-then-is_none : goal.loop-row-preserved-then-is_none
loop-row-preserved-then-is_none g c =
    let before = c.loop-row.invariant in
    let after = c.look-length.ensures in
    record {
      left = All-rest (λ row. row < g.R.Rows.row_count c.args.queue.now.rows) _ _ _
          c.in-Some.ensures.steps before.left;
      inside = All-first (λ row. row < g.R.Rows.row_count c.args.queue.now.rows) _ _ _
          c.in-Some.ensures.steps before.left;
      rows = after.rows ∙ before.rows;
      number = after.number ∙ before.number;
      puts = λ on. after.puts on ∙ before.puts on;
      takes = λ on. after.takes on ∙ before.takes on;
      waker = before.waker;
      stop = before.stop;
      announcing = before.announcing;
      told = before.told;
      flag = ap (λ seen. seen.flag) after.seen ∙ before.flag;
      stopped = ap (λ seen. seen.stopped) after.seen ∙ before.stopped;
      passed = λ none. absurd (true≢false none);
    }

pub loop-row-preserved : goal.loop-row-preserved
loop-row-preserved g c =
    let before = c.loop-row.invariant in
    let after = c.look-length.ensures in
    record {
      left = All-rest (λ row. row < g.R.Rows.row_count c.args.queue.now.rows) _ _ _
          c.in-Some.ensures.steps before.left;
      inside = before.inside;
      rows = after.rows ∙ before.rows;
      number = after.number ∙ before.number;
      puts = λ on. after.puts on ∙ before.puts on;
      takes = λ on. after.takes on ∙ before.takes on;
      waker = before.waker;
      stop = before.stop;
      announcing = before.announcing;
      told = before.told;
      flag = ap (λ seen. seen.flag) after.seen ∙ before.flag;
      stopped = ap (λ seen. seen.stopped) after.seen ∙ before.stopped;
      passed = λ none.
          let was = before.passed none in
          let split = ap (λ rest. was.0 ++ rest) c.in-Some.ensures.steps in
          let found : c.look-length.result ≡ 0 = elim c.else-length-gt0.branch [
            | else-length-gt0-via-then-length-gt0+else-is_none w ↦
                absurd (true≢false (sym (ap not w.if-is_none.false) ∙ sym w.is_none.ensures ∙ none))
            | else-length-gt0-via-else-length-gt0 w ↦ omega (arith, w.if-length-gt0.false)
          ] in (
            was.0 ++ c.in-Some.row ∷ [],
            was.1 ∙ split ∙ sym (append_assoc was.0 (c.in-Some.row ∷ []) c.next.new.self),
            passed-snoc _ _ _ _ _ _ after.seen (after.passed ∙ ap (λ n. n == 0) found) refl was.2,
          );
    }

pub loop-row-init : goal.loop-row-init
loop-row-init g c =
    let all = c.into_iter-row-iterator.ensures.into_iter_gives in
    let count = g.R.Rows.row_count c.args.queue.now.rows in
    record {
      left = rw all (All-weaker (λ row. (0 ≤ row) × (row < count)) _ (λ row is. is.1) _
          c.requires.walk.within);
      inside = tt;
      rows = refl;
      number = refl;
      puts = λ on. refl;
      takes = λ on. refl;
      waker = refl;
      stop = refl;
      announcing = refl;
      told = refl;
      flag = refl;
      stopped = refl;
      passed = λ none. ([], sym all, All-nil _);
    }

pub returns-clause-passed : goal.returns-clause-passed
returns-clause-passed g c = λ none.
    let passed = c.loop-row.invariant.passed none in
    let last = c.in-None.ensures.steps.0 in
    passed-walk c.loop-row.self.seen _ _ c.requires.walk
    (All-same (λ row. has_passed c.loop-row.self.seen row ≡ true) _ _
    (passed.1 ∙ ap (λ rest. passed.0 ++ rest) last ∙ append-nil passed.0) passed.2)

pub returns-clause-entered : goal.returns-clause-entered
returns-clause-entered g c =
    let before = c.requires.entered in
    let same = c.loop-row.invariant in
    record {
      placed = record {
        sized = before.placed.sized;
        ours = same.rows ∙ before.placed.ours;
        one_number = ap g.W.WaitPoint.number_of same.waker ∙ before.placed.one_number
            ∙ sym same.number;
        stop = rw same.stop before.placed.stop;
      };
      inside = rw same.waker before.inside;
      silent = same.announcing ∙ before.silent;
      told = ap told_of same.told ∙ before.told ∙ ap stored_of (sym same.stop);
    }

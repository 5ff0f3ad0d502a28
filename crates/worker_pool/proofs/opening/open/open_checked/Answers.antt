use Rattle.std.proofs.Common.{◌≡◌, ◌∙◌, [], ap, arith, refl, sym, rules}
use Rattle.std.specs.List.{range_with_len}
use Rattle.worker_pool.specs.Openings.{seeded_by}
use Rattle.worker_pool.proofs.Dealings.{AreRows-front, AreWakers-front}
use Rattle.worker_pool.proofs.Growing.{All-last, length-snoc}
use Rattle.worker_pool.proofs.Numbered.{length-numbered}
use Rattle.worker_pool.proofs.opening.open.open_checked.Goals as goal

pub take_last-row-requires : goal.take_last-row-requires
take_last-row-requires g c =
    omega (arith, length-numbered _ _ _ c.in_ok-queue.ensures.row_numbers)

pub take_last-waker-requires : goal.take_last-waker-requires
take_last-waker-requires g c =
    omega (arith, length-numbered _ _ _ c.in_ok-queue.ensures.waker_numbers)

pub seat-requires-clause-row : goal.seat-requires-clause-row
seat-requires-clause-row g c =
    All-last (g.Q.Queue.is_row c.in_ok-queue.field-0.queue) _ _ _ c.take_last-row.ensures
    c.in_ok-queue.ensures.rows

pub seat-requires-clause-waker : goal.seat-requires-clause-waker
seat-requires-clause-waker g c =
    All-last (g.Q.Queue.is_waker c.in_ok-queue.field-0.queue) _ _ _ c.take_last-waker.ensures
    c.in_ok-queue.ensures.wakers

pub worker_states-requires-clause-rows : goal.worker_states-requires-clause-rows
worker_states-requires-clause-rows g c =
    let made = c.in_ok-queue.ensures in
    let all = length-numbered _ _ _ made.row_numbers in
    AreRows-front g.Q.Queue _ _ _ _ c.take_last-row.ensures (record {
      ours = made.rows;
      numbers = made.row_numbers ∙ ap (range_with_len 0) (sym all);
      untouched = made.unused;
    })

pub worker_states-requires-clause-wakers : goal.worker_states-requires-clause-wakers
worker_states-requires-clause-wakers g c =
    let made = c.in_ok-queue.ensures in
    let all = length-numbered _ _ _ made.waker_numbers in
    AreWakers-front g.Q.Queue _ _ _ _ c.take_last-waker.ensures (record {
      ours = made.wakers;
      numbers = made.waker_numbers ∙ ap (range_with_len 0) (sym all);
    })

pub worker_states-requires-clause-rows_many : goal.worker_states-requires-clause-rows_many
worker_states-requires-clause-rows_many g c =
    let made = c.in_ok-queue.ensures in
    let all = length-numbered _ _ _ made.row_numbers in
    let one_less = length-snoc _ _ _ c.take_last-row.ensures in
    omega (arith, all, one_less, made.workers)

pub worker_states-requires-clause-wakers_many : goal.worker_states-requires-clause-wakers_many
worker_states-requires-clause-wakers_many g c =
    let made = c.in_ok-queue.ensures in
    let all = length-numbered _ _ _ made.waker_numbers in
    let one_less = length-snoc _ _ _ c.take_last-waker.ensures in
    omega (arith, all, one_less, made.workers)

pub returns : goal.returns
returns g c =
    let made = c.in_ok-queue.ensures in
    let states = c.in_ok-states.ensures in
    let untouched = λ (on : g.Q.Queue.keeps_accounts).
    All-last (λ row. (g.Q.Queue.puts_of row ≡ []) × (g.Q.Queue.takes_of row ≡ [])) _ _ _
    c.take_last-row.ensures (made.unused on) in
    let all = length-numbered _ _ _ states.numbers in
    let long = c.in_ok-states.states.ok.0 in
    record {
      opened = record {
        workers = made.workers;
        opener = record {
          of_pool = record {
            size = rw made.workers c.requires.size;
            stop = made.stop;
            walks = search rules;
          };
          ready = c.seat.ensures.ready;
          stored_none = c.seat.ensures.stored_none;
          unused = record {
            no_roots = c.nothing.ensures;
            put_none = λ on. rw c.seat.ensures.row (untouched on).0;
            took_none = λ on. rw c.seat.ensures.row (untouched on).1;
            no_outs = c.new-2.ensures;
            none_refused = refl;
          };
        };
        opener_random = c.seed_from_u64.ensures ∙ ap seeded_by c.from.ensures;
        at_work = states.at_work;
        numbers = states.numbers ∙ ap (range_with_len 0) made.workers;
        many = omega (arith, all, long);
        few = omega (arith, c.requires.size.1, all, long, made.workers);
        by_number = states.by_number;
        none_ended = c.in_ok-ended.ensures.empty;
        room_for_ended = omega (arith, c.in_ok-ended.ensures.room, all, long, made.workers);
        none_gathered = c.in_ok-gathered.ensures.empty;
        room_to_gather = c.in_ok-gathered.ensures.room;
      };
    }

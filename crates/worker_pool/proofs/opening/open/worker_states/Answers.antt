use Rattle.std.proofs.Common.{rules, ◌≡◌, ◌∙◌, [], ap, arith, length, subst, sym, ⊎_elim}
use Rattle.std.specs.Iterator.Adapters.{zip_first, zip_second}
use Rattle.std.specs.List.{range_with_len}
use Rattle.std.specs.Vec.Iter.{into_iter_items}
use Rattle.worker_pool.specs.Openings.{AreRows, AreWakers, IsByNumber}
use Rattle.worker_pool.specs.Works.{IsAtWork}
use Rattle.std.proofs.lemmas.List.Elements.{All-nil, All-same}
use Rattle.worker_pool.proofs.Dealings.{AreRows-rest, AreWakers-rest}
use Rattle.worker_pool.proofs.Dealings.{numbers-first, numbers-snoc}
use Rattle.worker_pool.proofs.Growing.{All-first, All-snoc, length-snoc}
use Rattle.worker_pool.proofs.opening.open.worker_states.Goals as goal

pub state_of-requires-clause-row_number : goal.state_of-requires-clause-row_number
state_of-requires-clause-row_number g c =
    numbers-first g.Q.Queue.row_number _ _ _ _ c.in-Some.ensures.steps.0.0
    c.loop-row.invariant.rows.numbers ∙ sym (c.len-number.ensures ∙ c.loop-row.states.ok.0)

pub state_of-requires-clause-waker_number : goal.state_of-requires-clause-waker_number
state_of-requires-clause-waker_number g c =
    numbers-first g.Q.Queue.waker_number _ _ _ _ c.in-Some.ensures.steps.1.0
    c.loop-row.invariant.wakers.numbers ∙ sym (c.len-number.ensures ∙ c.loop-row.states.ok.0)

pub state_of-requires-clause-untouched : goal.state_of-requires-clause-untouched
state_of-requires-clause-untouched g c = λ on.
    All-first (λ row. (g.Q.Queue.puts_of row ≡ []) × (g.Q.Queue.takes_of row ≡ [])) _ _ _
    c.in-Some.ensures.steps.0.0 (c.loop-row.invariant.rows.untouched on)

pub state_of-requires-clause-row : goal.state_of-requires-clause-row
state_of-requires-clause-row g c =
    All-first (g.Q.Queue.is_row c.args.pool.now.queue) _ _ _ c.in-Some.ensures.steps.0.0
    c.loop-row.invariant.rows.ours

pub state_of-requires-clause-waker : goal.state_of-requires-clause-waker
state_of-requires-clause-waker g c =
    All-first (g.Q.Queue.is_waker c.args.pool.now.queue) _ _ _ c.in-Some.ensures.steps.1.0
    c.loop-row.invariant.wakers.ours

pub state_of-requires-clause-number : goal.state_of-requires-clause-number
state_of-requires-clause-number g c =
    let less = ap length c.in-Some.ensures.steps.0.0 in
    let many = c.loop-row.invariant.rows_many in
    let number = c.len-number.ensures ∙ c.loop-row.states.ok.0 in
    omega (arith, less, many, number, c.requires.same_size)

pub loop-row-preserved : goal.loop-row-preserved
loop-row-preserved g c =
    let queue = c.args.pool.now.queue in
    let before = c.loop-row.invariant in
    let row_split = c.in-Some.ensures.steps.0.0 in
    let waker_split = c.in-Some.ensures.steps.1.0 in
    let added = c.push_reserved.ensures.items in
    let state = c.in_ok-state_of.ensures in
    let longer = length-snoc _ _ _ added in
    let rows_less = ap length row_split in
    let wakers_less = ap length waker_split in
    let rows_many = before.rows_many in
    let wakers_many = before.wakers_many in
    record {
      can = (tt, tt);
      finite = tt;
      rows = subst (λ n. AreRows g.Q.Queue queue n (into_iter_items (zip_first c.next.new.self)))
          (sym longer) (AreRows-rest g.Q.Queue _ _ _ _ _ row_split before.rows);
      wakers = subst (λ n. AreWakers g.Q.Queue queue n
          (into_iter_items (zip_second c.next.new.self)))
          (sym longer) (AreWakers-rest g.Q.Queue _ _ _ _ _ waker_split before.wakers);
      rows_many = omega (arith, longer, rows_less, rows_many);
      wakers_many = omega (arith, longer, wakers_less, wakers_many);
      room = c.push_reserved.ensures.capacity ∙ before.room;
      at_work = λ ctx.
          All-snoc (IsAtWork g.Q.Queue g.J.Job c.args.pool.now ctx) _ _ _ added
          (before.at_work ctx) (state.at_work ctx);
      numbers = numbers-snoc (λ state. state.number) _ _ _ added before.numbers
          (state.number ∙ (c.len-number.ensures ∙ c.loop-row.states.ok.0));
      by_number = All-snoc (IsByNumber g.Q.Queue c.args.setup.now.partitions.items
          c.args.setup.now.workers) _ _ _ added before.by_number state.by_number;
    }

pub returns-clause-numbers : goal.returns-clause-numbers
returns-clause-numbers g c =
    let end = c.loop-row.invariant in
    let rows_many = end.rows_many in
    let wakers_many = end.wakers_many in
    let rows_len = c.loop-row.row-iterator.a.rest.ok.0 in
    let wakers_len = c.loop-row.row-iterator.b.rest.ok.0 in
    let all : length c.loop-row.states.items ≡ g.Q.Queue.worker_count c.args.pool.now.queue =
    ⊎_elim (λ none. let left = none.1.0 in omega arith) (λ none. let left = none.1.0 in omega arith)
    c.in-None.ensures.steps in
    end.numbers ∙ ap (range_with_len 0) all

pub loop-row-init : goal.loop-row-init
loop-row-init g c =
    let none = c.in_ok-states.ensures.empty in
    record {
      can = (tt, tt);
      finite = tt;
      rows = search rules;
      wakers = search rules;
      rows_many = search rules;
      wakers_many = search rules;
      room = search rules;
      at_work = λ ctx.
          All-same (IsAtWork g.Q.Queue g.J.Job c.args.pool.now ctx) _ _ none (All-nil _);
      numbers = search rules;
      by_number = All-same (IsByNumber g.Q.Queue c.args.setup.now.partitions.items
          c.args.setup.now.workers) _ _ none (All-nil _);
    }

pub overflow_cast-number : goal.overflow_cast-number
overflow_cast-number g c =
    let few = c.requires.pool.size.1 in
    let many = c.loop-row.invariant.rows_many in
    omega (arith, few, many, c.len-number.ensures, c.loop-row.states.ok.0)

pub push_reserved-requires : goal.push_reserved-requires
push_reserved-requires g c =
    let before = c.loop-row.invariant in
    let less = ap length c.in-Some.ensures.steps.0.0 in
    omega (arith, before.rows_many, before.room, less, c.loop-row.states.ok.0)

pub returns-clause-at_work : goal.returns-clause-at_work
returns-clause-at_work g c = c.loop-row.invariant.at_work

pub returns-clause-by_number : goal.returns-clause-by_number
returns-clause-by_number g c = c.loop-row.invariant.by_number

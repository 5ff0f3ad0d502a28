use Rattle.std.proofs.Common.{◌+◌, ◌∙◌, [], ap, length, subst, sym, arith}
use Rattle.std.specs.List.{range_with_len}
use Rattle.atomic_table.specs.Table.{opening}
use Rattle.event_count.specs.Places.{words_for}
use Rattle.event_count.specs.Cards.{undealt, rowless, sizes_in}
use Rattle.event_count.specs.Shown.{ShowsWorld}
use Rattle.event_count.proofs.First.{opens, length-words_at_first}
use Rattle.event_count.proofs.Fresh.{as_many, all_idle}
use Rattle.event_count.proofs.count.Count.with_sizes.Goals as goal

pub of_words-requires : goal.of_words-requires
of_words-requires g c = let k = c.args.sizes.now in
    subst (λ words. ShowsWorld k (opening words [] (undealt k)))
    (sym (c.deref.ensures.value ∙ c.in_ok-words.ensures))
    (opens k c.requires.few c.requires.few_credits)

pub deal_all-requires : goal.deal_all-requires
deal_all-requires g c = let e = c.in_ok-table.ensures in record {
  of = e.2;
  words = e.0 ∙ (ap length (c.deref.ensures.value ∙ c.in_ok-words.ensures)
      ∙ length-words_at_first (c.args.sizes.now.waiters + c.args.sizes.now.rows));
  first = c.requires.first;
  few = c.requires.few_each;
  undealt = e.4;
  items = c.in_ok-seats.ensures.items;
  room = c.in_ok-seats.ensures.room;
}

pub invariant_of-count : goal.invariant_of-count
invariant_of-count g c = let e = c.in_ok-table.ensures in let sizes = e.5 in record {
  words = e.0 ∙ (ap length (c.deref.ensures.value ∙ c.in_ok-words.ensures)
      ∙ (length-words_at_first (c.args.sizes.now.waiters + c.args.sizes.now.rows)
      ∙ sym (ap (λ k. words_for (k.waiters + k.rows)) sizes)));
  slotless = e.1;
  few = omega (arith, ap (λ k. k.waiters) sizes, c.requires.few);
  kept = sizes;
  alone = λ is. sizes ∙ (c.requires.alone is ∙ sym (ap (λ k. rowless (sizes_in k)) sizes));
  some = c.requires.some;
}

pub returns-clause-sizes : goal.returns-clause-sizes
returns-clause-sizes g c = c.in_ok-table.ensures.5

pub returns-clause-cards : goal.returns-clause-cards
returns-clause-cards g c = c.deal_all.ensures.cards

pub returns-clause-many : goal.returns-clause-many
returns-clause-many g c = let k = c.args.sizes.now in let seats = c.deal_all.new.seats in
    seats.ok.0 ∙ as_many k seats.items (k.waiters + k.notifiers) c.deal_all.ensures.cards

pub returns-clause-idle : goal.returns-clause-idle
returns-clause-idle g c = let k = c.args.sizes.now in
    all_idle k c.deal_all.new.seats.items (range_with_len 0 (k.waiters + k.notifiers))
    c.deal_all.ensures.cards

pub returns-clause-unlooked : goal.returns-clause-unlooked
returns-clause-unlooked g c = c.deal_all.ensures.unlooked

pub returns-clause-ours : goal.returns-clause-ours
returns-clause-ours g c = c.deal_all.ensures.ours

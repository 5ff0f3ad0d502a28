-- A table of empty elements keeps the account, and has the words and slots that were asked for.
use Rattle.std.proofs.Common.{List, ℕ, ◌+◌, ◌*◌, ap, subst, sym, arith, replicate, None, ◌∙◌}
use Rattle.std.proofs.Common.{length}
use Rattle.std.proofs.lemmas.List.{length-replicate}
use Rattle.atomic_table.specs.Table.{opening}
use Rattle.run_queue.specs.Elements.{empty_word}
use Rattle.run_queue.specs.Views.{fresh}
use Rattle.run_queue.specs.RowTable.{KeepsAccount}
use Rattle.run_queue.proofs.Starts.{starts}
use Rattle.run_queue.proofs.slot_rows.opening.seated.Goals as goal

pub vacant-requires : goal.vacant-requires
vacant-requires g c =
    let seats : ℕ = c.args.key.now.seats in
    let count : ℕ = c.from-count.result * 1024 in
    let words : ℕ = count + 8 * (c.from.result + 1) + 1 in
    let a = c.from-count.ensures in
    let b = c.from.ensures in
    let few = c.requires.few in
    let x = c.requires.few_seats in
    subst
    (λ (ws : List ℕ).
    KeepsAccount {J = g.row.J.Denot} (g.F.Contents.fits c.args.key.now.of) g.F.Contents.counted seats (opening ws (replicate count None) (fresh seats)))
    (sym (c.as_slice.ensures.value ∙ c.in_ok-words.ensures))
    (starts g.row.J.Denot _ _ seats words count (omega arith) (omega arith))

pub deal-list-requires : goal.deal-list-requires
deal-list-requires g c =
    let made = c.in_ok-table.ensures in
    let words : ℕ = c.from-count.result * 1024 + 8 * (c.from.result + 1) + 1 in
    let long = ap length (c.as_slice.ensures.value ∙ c.in_ok-words.ensures)
    ∙ length-replicate words empty_word in
    record {
      of = made.2;
      words = omega (arith, made.0, long);
      every_part = made.4;
      none_yet = c.in_ok-list.ensures.items;
      room = omega (arith, c.in_ok-list.ensures.exact);
    }

pub returns : goal.returns
returns g c =
    let made = c.in_ok-table.ensures in
    let words : ℕ = c.from-count.result * 1024 + 8 * (c.from.result + 1) + 1 in
    let long = ap length (c.as_slice.ensures.value ∙ c.in_ok-words.ensures)
    ∙ length-replicate words empty_word in
    let dealt = c.deal-list.ensures in
    record {
      words = omega (arith, made.0, long, c.from-count.ensures, c.from.ensures);
      slots = made.1 ∙ ap (λ n. n * 1024) c.from-count.ensures;
      key = made.5;
      numbers = dealt.numbers;
      ours = dealt.ours;
      accounts = dealt.accounts;
      fronts = dealt.fronts;
    }

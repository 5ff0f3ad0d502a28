use Rattle.std.proofs.Common.{◌+◌, ◌∷◌, ◌++◌, ◌∙◌, List, ℕ, length, take, drop, ap, sym, arith}
use Rattle.std.proofs.lemmas.List.{append-nil, drop_all}
use Rattle.tensor_runner.proofs.Parts.{HasNoFeed-take, HasNoFeed-all, parted_at}
use Rattle.tensor_runner.proofs.taking.take_piece.Goals as goal

pub returns-in-Some : goal.returns-in-Some
returns-in-Some c =
    let held = c.pending-pending.result.now in
    let place = c.in-Some.place in
    let found = c.in-Some.ensures in
    record {
      piece = take place held;
      no_feed = HasNoFeed-take held place found.0.before;
      parted = sym c.pending-pending.ensures ∙ parted_at held place found.0.high found.1
          ∙ ap (λ (l : List ℕ). take place held ++ 10 ∷ l) (ap (λ (l : List ℕ). drop (place + 1) l) c.pending-pending.ensures ∙ sym c.skip.ensures);
      emptied = λ no. cc;
      kept = c.keep.ensures.kept;
    }

pub returns-in-None : goal.returns-in-None
returns-in-None c =
    let held = c.pending-pending.result.now in
    let none = c.skip-in-None.ensures ∙ ap (λ (l : List ℕ). drop (length held) l) (sym c.pending-pending.ensures) ∙ drop_all (length held) held (omega arith) in
    record {
      piece = held;
      no_feed = HasNoFeed-all held c.in-None.ensures;
      parted = sym c.pending-pending.ensures ∙ sym (append-nil held) ∙ ap (λ (l : List ℕ). held ++ l) (sym none);
      emptied = λ no. none;
      kept = c.keep-in-None.ensures.kept;
    }

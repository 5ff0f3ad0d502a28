-- The top's next word was loaded.
use Rattle.std.proofs.Common.{ap, sym, ◌∙◌, subst, arith}
use Rattle.event_count.specs.declared.view.Card.{Card}
use Rattle.event_count.specs.Gains.{Fits}
use Rattle.event_count.specs.Seats.{card_of}
use Rattle.event_count.proofs.Looking.{read_some, read_of}
use Rattle.event_count.proofs.count.Count.load_top.Goals as goal

pub returns-then-word-ne-NOBODY-clause-looked : goal.returns-then-word-ne-NOBODY-clause-looked
returns-then-word-ne-NOBODY-clause-looked g c =
    let read = read_some _ (card_of c.args.seat.now) (card_of c.load_next.new.seat) c.load_next.ensures.read c.load_next.ensures.card in
    ap (λ (d : Card). d.looked) read.1 ∙ c.requires.looked

pub returns-then-word-ne-NOBODY-clause-fits : goal.returns-then-word-ne-NOBODY-clause-fits
returns-then-word-ne-NOBODY-clause-fits g c =
    let read = read_some _ (card_of c.args.seat.now) (card_of c.load_next.new.seat) c.load_next.ensures.read c.load_next.ensures.card in
    subst (λ d. Fits d c.args.word) (sym read.1) c.requires.fits

pub returns-then-word-ne-NOBODY-clause-card : goal.returns-then-word-ne-NOBODY-clause-card
returns-then-word-ne-NOBODY-clause-card g c =
    read_of _ _ _ (λ e. let there = c.if-word-ne-NOBODY.true in absurd (omega arith))
    (read_some _ (card_of c.args.seat.now) (card_of c.load_next.new.seat) c.load_next.ensures.read c.load_next.ensures.card)

use Rattle.event_count.proofs.seat.Seat.take_look.Goals as goal

pub returns-clause-fits : goal.returns-clause-fits
returns-clause-fits c = c.args.self.now.fits _ c.in-Some.is

pub returns-clause-heard : goal.returns-clause-heard
returns-clause-heard c = c.args.self.now.heard _ c.in-Some.is

pub returns-clause-reads : goal.returns-clause-reads
returns-clause-reads c = c.args.self.now.reads _ c.in-Some.is

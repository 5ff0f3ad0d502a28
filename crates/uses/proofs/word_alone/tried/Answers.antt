use Rattle.std.proofs.Common.{subst, arith}
use Rattle.event_word.specs.Play.{Plays}
use Rattle.uses.proofs.word_alone.tried.Goals as goal

pub returns-clause-awake : goal.returns-clause-awake
returns-clause-awake c =
    let plays = subst (λ w. Plays w c.args.events.now c.play.result c.play.new.self)
    c.in_ok-world.ensures c.play.ensures.plays in
    let history = c.plays_are_runs.ensures.history _ c.args.events.now _ _ plays in
    c.runs_stay_awake.ensures c.args.workers c.args.notifiers c.args.rows history.0 c.play.new.self
    (omega (arith, c.requires.some)) history.1.runs

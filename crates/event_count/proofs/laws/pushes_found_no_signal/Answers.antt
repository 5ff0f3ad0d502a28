use Rattle.event_count.proofs.Following.{exchanges_found, commits_found}
use Rattle.event_count.proofs.laws.pushes_found_no_signal.Goals as goal

pub returns-clause-exchange : goal.returns-clause-exchange
returns-clause-exchange c = exchanges_found

pub returns-clause-history : goal.returns-clause-history
returns-clause-history c = commits_found

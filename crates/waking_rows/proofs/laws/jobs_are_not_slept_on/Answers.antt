-- A job's ticket shows that its row has a length, and rows stay awake.
use Rattle.waking_rows.proofs.Jobs.{ticket_shows}
use Rattle.waking_rows.proofs.laws.jobs_are_not_slept_on.Goals as goal

pub returns : goal.returns
returns g c = λ key slots holds k s history w shows at_once is_present waiter less present outside
    going element it lies.
    let counted = c.ready_jobs_fit.ensures key slots holds element it lies in
    let view = at_once element it lies counted.ours in
    let jobs = c.lengths_are_tickets.ensures.tickets k s (history, w, shows) view.0 _ view.1 _
    (ticket_shows _ _ counted.there) in
    c.rows_stay_awake.ensures k s history w shows is_present waiter less present outside going _
    jobs.0 jobs.1

use Rattle.message_server.proofs.Serving.{ends}
use Rattle.frame_server.proofs.ending.serve_frames.Goals as goal

pub returns : goal.returns
returns g c =
    let e = c.answer_frames-ended.ensures in
    record {
      ended = ends c.answer_frames-ended.result.1 c.ending_of.result _ _ _ _ _ _ _ _ _ _ c.ending_of.ensures e.answered e.broken_off e.cut_short e.read_fault
          e.write_fault e.no_failure;
    }

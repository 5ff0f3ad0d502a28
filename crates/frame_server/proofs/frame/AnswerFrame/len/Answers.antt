use Rattle.std.proofs.Common.{ap, arith, length, ℕ, ℤ, List, Option}
use Rattle.expr_reader.specs.Contents.{Contents}
use Rattle.frame_server.specs.private.Answering.{values_in}
use Rattle.frame_server.proofs.Answering.{length-bytes_in}
use Rattle.frame_server.proofs.frame.AnswerFrame.len.Goals as goal

pub returns-in-Some : goal.returns-in-Some
returns-in-Some c =
    omega (
      arith,
      length-bytes_in c.args.self.now,
      ap (λ (o : Option Contents). length (values_in o)) c.in-Some.is,
      ap (λ (l : List ℤ). length l) c.values.ensures.value,
      ap (λ (l : List ℕ). length l) c.as_slice.ensures.value,
    )

pub returns-in-None : goal.returns-in-None
returns-in-None c =
    omega (
      arith,
      length-bytes_in c.args.self.now,
      ap (λ (o : Option Contents). length (values_in o)) c.in-None.is,
      ap (λ (l : List ℕ). length l) c.as_slice.ensures.value,
    )

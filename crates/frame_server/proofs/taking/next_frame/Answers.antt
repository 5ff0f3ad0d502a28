use Rattle.std.proofs.Common.{◌+◌, ◌*◌}
use Rattle.message_server.proofs.Streams.{OnErr-any}
use Rattle.frame_server.specs.Frame.{IsUnfinished}
use Rattle.message_server.specs.Pieces.{IsBelow}
use Rattle.frame_server.proofs.Parts.{TakesFrame-of, StopsInFrame-behind, unfinished_behind}
use Rattle.message_server.proofs.Takings.{owes-on, at_some}
use Rattle.frame_server.proofs.taking.next_frame.Goals as goal

pub take_rest-requires : goal.take_rest-requires
take_rest-requires g c =
    let head = c.in-Some.head in
    let t = at_some _ c.in-Some.head _ _ c.in-Some.is c.in_ok-head.ensures.head in
    owes-on IsUnfinished (IsBelow (head.header_len + 8 * head.value_count)) g.C.Client.owes_nothing _ _ _ _ _ _ t.bytes c.requires t.takes
    (λ xs few. unfinished_behind t.bytes xs head t.counted t.told few)

pub returns-in_err-next-clause-stops : goal.returns-in_err-next-clause-stops
returns-in_err-next-clause-stops g c =
    let t = at_some _ c.in-Some.head _ _ c.in-Some.is c.in_ok-head.ensures.head in
    OnErr-any c.from_residual-in_err-next.result
    (StopsInFrame-behind _ _ _ _ _ _ _ _ _ _ c.in-Some.head t c.in_ok-head.ensures.read_failures c.in_err-next.ensures.fails c.in_err-next.ensures.cut_off)

pub returns-clause-frame : goal.returns-clause-frame
returns-clause-frame g c =
    let t = at_some _ c.in-Some.head _ _ c.in-Some.is c.in_ok-head.ensures.head in
    TakesFrame-of _ _ _ _ _ _ _ _ _ _ _ t c.in_ok-next.ensures.rest

use Rattle.std.proofs.Common.{◌≡◌, true, false, sym, ◌∙◌, inl, refl, arith}
use Rattle.std.proofs.lemmas.Grind.{common_steps}
use Rattle.expr_reader.specs.Asked.{asked_under}
use Rattle.expr_reader.specs.Request.{asked_tensor}
use Rattle.tensor_c.specs.Call.{has_room}
use Rattle.tensor_c.proofs.Parts.{length-asked}
use Rattle.tensor_c.proofs.evaluation.put_asked.Goals as goal

pub returns-then-not-has_room-clause-call : goal.returns-then-not-has_room-clause-call
returns-then-not-has_room-clause-call c =
    let a = asked_under c.args.request in
    let shape = sym c.dims_asked.ensures in
    let none : c.has_room.result ≡ false = grind (arith, common_steps) in
    let lacking : has_room (asked_tensor a) c.args.out.now c.args.dims.now ≡ false =
    sym (c.has_room.ensures (asked_tensor a) shape (length-asked a c.dims_asked.result.now shape)) ∙ none in
    inl (rw lacking refl)

pub returns-in-Err-clause-no_room : goal.returns-in-Err-clause-no_room
returns-in-Err-clause-no_room c = λ lacking.
    let a = asked_under c.args.request in
    let shape = sym c.dims_asked.ensures in
    let some : c.has_room.result ≡ true = grind (arith, common_steps) in
    let room : c.has_room.result ≡ has_room (asked_tensor a) c.args.out.now c.args.dims.now =
    c.has_room.ensures (asked_tensor a) shape (length-asked a c.dims_asked.result.now shape) in
    (cc)

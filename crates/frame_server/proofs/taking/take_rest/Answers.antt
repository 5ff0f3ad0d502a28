use Rattle.std.proofs.Common.{◌+◌, ◌*◌, ℕ, List, subst, sym, arith, length-append}
use Rattle.message_server.proofs.Streams.{OnErr-any}
use Rattle.message_server.specs.Pieces.{IsBelow}
use Rattle.frame_server.specs.private.Taking.{IsPassed, IsRefused}
use Rattle.frame_server.proofs.Parts.{TakesRest-whole, TakesRest-behind, IsPassed-refused}
use Rattle.message_server.proofs.Takings.{FailsIn-on}
use Rattle.frame_server.proofs.taking.take_rest.Goals as goal

pub returns-in_err-pass_over-in-Err-values_room-clause-fails : goal.returns-in_err-pass_over-in-Err-values_room-clause-fails
returns-in_err-pass_over-in-Err-values_room-clause-fails g c =
    let head = c.args.head in
    let t = c.in_ok-take_header.ensures in
    OnErr-any c.from_residual-in_err-pass_over-in-Err-values_room.result
    (FailsIn-on (IsBelow (head.header_len + 8 * head.value_count)) (IsBelow c.values_len.result) _ _ _ _ _ _ _ _ t.taken
    c.in_err-pass_over-in-Err-values_room.ensures.fails
    (λ xs few. omega (arith, few, c.values_len.ensures, t.counted, length-append c.take_header.new.header.items xs)))

pub returns-in-Err-values_room-clause-rest : goal.returns-in-Err-values_room-clause-rest
returns-in-Err-values_room-clause-rest g c =
    let head = c.args.head in
    let t = c.in_ok-take_header.ensures in
    let refused = subst (λ (l : List ℕ). IsRefused l head.value_count c.in-Err-values_room.fault) c.deref.ensures.value c.in-Err-values_room.ensures.refused in
    TakesRest-behind _ _ _ _ _ _ _ _ _ _ _ _ _ t.taken t.counted c.in_ok-pass_over-in-Err-values_room.ensures.taken c.values_len.ensures
    (λ bytes front. (
      subst (λ (l : List ℕ). IsPassed l head.header_len head.value_count c.in-Err-values_room.fault) (sym front)
          (IsPassed-refused _ _ _ _ c.in-Ok.ensures.short refused),
      c.frame_len-in-Err-values_room.ensures,
    ))

pub returns-in_err-take_values-clause-fails : goal.returns-in_err-take_values-clause-fails
returns-in_err-take_values-clause-fails g c =
    let head = c.args.head in
    let t = c.in_ok-take_header.ensures in
    OnErr-any c.from_residual-in_err-take_values.result (FailsIn-on (IsBelow (head.header_len + 8 * head.value_count)) (IsBelow (8 * head.value_count)) _ _ _ _ _ _ _ _ t.taken
    c.in_err-take_values.ensures.fails (λ xs few. omega (arith, few, t.counted, length-append c.take_header.new.header.items xs)))

pub returns-clause-rest : goal.returns-clause-rest
returns-clause-rest g c =
    let t = c.in_ok-take_header.ensures in
    let v = c.in_ok-take_values.ensures in
    let few = rw c.deref.ensures.value at c.in-Ok-values_room.ensures.few in
    TakesRest-whole _ _ _ _ _ _ _ _ _ _ _ _ _ t.taken t.counted v.taken v.counted (λ bytes same. (same, c.in-Ok.ensures.short, few))

use Rattle.std.proofs.Common.{false, length, replicate, refl, ap, ◌∙◌, arith}
use Rattle.std.proofs.lemmas.List.{length-replicate}
use Rattle.event_word.specs.declared.phase.Phase.TheVariants.{Running}
use Rattle.event_word.proofs.Opening.{opening_view, opening_stored}
use Rattle.event_word.proofs.world.World.new.Goals as goal

pub invariant_of-result : goal.invariant_of-result
invariant_of-result g c = opening_stored _ c.args.workers c.args.notifiers c.args.rows
    (opening_view c.args.workers c.args.notifiers c.args.rows _ _ _ _ _ _ _ _ _
    (c.in_ok-filled.ensures ∙ ap (λ n. replicate n Running) c.from-seats.ensures)
    (c.in_ok-filled-2.ensures ∙ ap (λ n. replicate n false) c.from-seats.ensures)
    (c.in_ok-filled_rows.ensures ∙ (ap (λ n. replicate n (replicate c.from-rows.result false))
    c.from-seats.ensures ∙ ap (λ n. replicate c.args.workers (replicate n false))
    c.from-rows.ensures))
    (c.in_ok-filled-3.ensures ∙ ap (λ n. replicate n false) c.from-seats.ensures)
    c.in_ok-room_for.ensures.items c.in_ok-room_for-2.ensures.items
    c.in_ok-room_for-3.ensures.items
    (c.in_ok-filled-4.ensures ∙ ap (λ n. replicate n false) (omega (
      arith,
      c.from.ensures,
      c.from-seats.ensures,
    )))
    (c.in_ok-filled-5.ensures ∙ ap (λ n. replicate n 0) c.from-rows.ensures))
    (ap length c.in_ok-filled.ensures
    ∙ (length-replicate c.from-seats.result Running ∙ c.from-seats.ensures)) refl
    (ap length c.in_ok-filled-5.ensures
    ∙ (length-replicate c.from-rows.result 0 ∙ c.from-rows.ensures)) c.requires.few
    c.in_ok-room_for-3.ensures.items
    (c.in_ok-room_for.ensures.exact ∙ c.from-seats.ensures)
    (c.in_ok-room_for-2.ensures.exact ∙ c.from-seats.ensures)
    (c.in_ok-room_for-3.ensures.exact ∙ c.from-seats.ensures)

pub returns : goal.returns
returns g c = opening_view c.args.workers c.args.notifiers c.args.rows _ _ _ _ _ _ _ _ _
    (c.in_ok-filled.ensures ∙ ap (λ n. replicate n Running) c.from-seats.ensures)
    (c.in_ok-filled-2.ensures ∙ ap (λ n. replicate n false) c.from-seats.ensures)
    (c.in_ok-filled_rows.ensures ∙ (ap (λ n. replicate n (replicate c.from-rows.result false))
    c.from-seats.ensures ∙ ap (λ n. replicate c.args.workers (replicate n false))
    c.from-rows.ensures))
    (c.in_ok-filled-3.ensures ∙ ap (λ n. replicate n false) c.from-seats.ensures)
    c.in_ok-room_for.ensures.items c.in_ok-room_for-2.ensures.items
    c.in_ok-room_for-3.ensures.items
    (c.in_ok-filled-4.ensures ∙ ap (λ n. replicate n false) (omega (
      arith,
      c.from.ensures,
      c.from-seats.ensures,
    )))
    (c.in_ok-filled-5.ensures ∙ ap (λ n. replicate n 0) c.from-rows.ensures)

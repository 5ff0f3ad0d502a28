use Rattle.std.proofs.Common.{◌∙◌, ap, refl, ℤ, List, ◌++◌, inl, inr}
use Rattle.std.proofs.lemmas.List.{append-nil}
use Rattle.std.specs.List.{flat_map}
use Rattle.frame_server.specs.Frame.{value_bytes}
use Rattle.frame_server.proofs.answer.value_frame.Goals as goal

pub returns-then-count-gt-VALUES_AT_ONCE-clause-bytes : goal.returns-then-count-gt-VALUES_AT_ONCE-clause-bytes
returns-then-count-gt-VALUES_AT_ONCE-clause-bytes c = inl (refl, refl)

pub returns-in-Ok-clause-bytes : goal.returns-in-Ok-clause-bytes
returns-in-Ok-clause-bytes c =
    inl (
      append-nil c.in-Ok.bytes.items
          ∙ c.in-Ok.ensures
          ∙ ap (λ (l : List ℤ). c.args.front.items ++ flat_map value_bytes l) c.values.ensures.value,
      refl,
    )

pub returns-clause-bytes : goal.returns-clause-bytes
returns-clause-bytes c = inr (record { bytes = c.no_memory.ensures.bytes; fault = c.no_memory.ensures.fault })

use Rattle.std.proofs.Common.{◌∙◌, ap, List, ℕ, ◌++◌, inl, inr}
use Rattle.std.specs.List.{flat_map}
use Rattle.frame_server.specs.Answer.{dims_text}
use Rattle.frame_server.specs.Frame.{value_bytes}
use Rattle.frame_server.proofs.Answering.{front-behind}
use Rattle.frame_server.proofs.answer.tensor_frame.Goals as goal

pub returns-in-Ok-clause-frame : goal.returns-in-Ok-clause-frame
returns-in-Ok-clause-frame c =
    let t = c.args.tensor in
    elim c.value_frame.ensures.bytes [
      | inl own ↦ inl (
        own.0
            ∙ ap (λ (l : List ℕ). l ++ flat_map value_bytes t.values) c.in-Ok.ensures
            ∙ front-behind (dims_text t.dims) t.values,
        own.1,
      )
      | inr memory ↦ inr memory
    ]

-- Threads may share an evaluator of parts: its types lie deeper than `search` goes by itself.
use denote.Param.Send.{IsSync, sendable, recorded_sync, struct_sync, enum_sync, shr_sync}
use denote.Enum.Declared.{shape as enum_shape}
use denote.Ref.{NamedLft}
use denote.Struct.Declared.{shape}
use Rattle.std.proofs.Crossing.{crosses, Box-sync}
use Rattle.tensor_ops.proofs.part_evaluator.contracted_runs.ContractedRuns.TheSendSync as contracted
use Rattle.tensor_ops.proofs.lowered.Lowered.TheLaws.TheKnot.{sync-Lowered}
use Rattle.tensor_terms.proofs.expr.Expr.TheLaws.TheKnot.{sync-Expr}
use Rattle.tensor_terms.proofs.tensor.tensors.Tensors.TheSendSync as tensors
use Rattle.tensor_ops.specs.contracts.part_evaluator.PartEvaluator as parts
use Rattle.tensor_ops.specs.contracts.part_evaluator.in_runs.InRuns as in_runs
use Rattle.tensor_ops.specs.contracts.part_evaluator.value_runs.ValueRuns as value_runs
use Rattle.tensor_ops.specs.contracts.lowered.Lowered as lowered
use Rattle.tensor_terms.specs.contracts.expr.Expr as expr

-- a tree, which is recursive, by the types of what stands in its nodes
lowered-sync : (ℓ : NamedLft) → IsSync (lowered.the_field ℓ).row
lowered-sync ℓ =
    sync-Lowered ℓ (search sendable) (search (crosses, sendable)) (search sendable)
    (search sendable) (search sendable depth 60) (λ h s. Box-sync h s)
    (search sendable depth 80) (search (crosses, sendable) depth 80)
    (search sendable depth 60) (search (crosses, sendable) depth 80) (search sendable depth 20)

-- runs of its values, and runs of either kind
value_runs-sync : (ℓ : NamedLft) → IsSync (value_runs.the_field ℓ).row
value_runs-sync ℓ =
    struct_sync (shape (value_runs.the_type ℓ))
    (lowered-sync ℓ, (search sendable, (search sendable, tt)))

in_runs-sync : (ℓ : NamedLft) → IsSync (in_runs.the_field ℓ).row
in_runs-sync ℓ =
    let runs = value_runs-sync ℓ in
    enum_sync (enum_shape (in_runs.the_type ℓ)) (
      (search sendable depth 60, (runs, tt)),
      ((search sendable depth 60, (contracted.the_field_sync ℓ, tt)), ((runs, (runs, tt)), tt)),
    )

-- an expression, which is recursive too
expr-sync : IsSync (expr.the_field).row
expr-sync =
    sync-Expr (search sendable) (λ h s. Box-sync h s) (search sendable)
    (search (crosses, sendable)) (search sendable) (search (crosses, sendable))
    (search (crosses, sendable) depth 20)

-- the evaluator, by its fields
pub parts-sync : (ℓ : NamedLft) → IsSync (parts.the_field ℓ).row
parts-sync ℓ =
    struct_sync (shape (parts.the_type ℓ)) (
      search sendable depth 20,
      (
        shr_sync ℓ.mir ℓ.lft expr.the_row
            (recorded_sync (expr.the_field).row _ _ (expr.the_type).to_one expr-sync),
        (tensors.the_field_sync ℓ, (in_runs-sync ℓ, tt)),
      ),
    )

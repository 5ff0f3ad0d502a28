-- The dims of a frame's answer go by its header and the number of its values.
use Rattle.std.proofs.Common.{◌≡◌, ℕ, ℤ, List, [], ◌∷◌, ◌++◌, length, map, Result, Ok, Err, ap, ◌∙◌, sym, is_ok}
use Rattle.std.proofs.lemmas.List.{map-append}
use Rattle.std.specs.Result.{result_unwrap_or}
use Rattle.tensor_ops.specs.Bounds.{Bounds}
use Rattle.tensor_ops.proofs.Widening.{dims_of-wider}
use Rattle.tensor_terms.proofs.MoreTensors.{dims_of-same_dims}
use Rattle.expr_reader.specs.Alike.{HaveSameDims, AskAlike}
use Rattle.expr_reader.specs.Contents.{Contents}
use Rattle.expr_reader.specs.Frame.{request_of_frame}
use Rattle.expr_reader.specs.Legal.{widest, IsPossible}
use Rattle.expr_reader.specs.Request.{Asked, tensors_of, asked_tensor}
use Rattle.expr_reader.specs.Result.{dims_of, shape_of}
use Rattle.expr_reader.specs.Sequence.{worked_out}
use Rattle.expr_reader.specs.Term.{Term}
use Rattle.expr_reader.specs.Value.{tensor_of}
use Rattle.expr_reader.specs.declared.fault.Fault.{Fault}
use Rattle.expr_reader.proofs.SameDims.{AskAlike-frame}
use Rattle.prepared_expressions.specs.Ready.{HaveDims}
use Rattle.tensor_c.specs.Answer.{or_fault, answer_dims}

-- dims within bounds are the dims of the term's tensor
pub shape_of-within : (bounds : Bounds) → IsPossible bounds → (t : Term) (ts : List Contents) (dims : List ℕ)
    → dims_of bounds t ts ≡ Ok dims → shape_of t ts ≡ dims
shape_of-within bounds possible t ts dims is =
    ap (λ d. result_unwrap_or d []) ((dims_of-wider bounds possible t ts).same (ap is_ok is) ∙ is)

-- a tensor of a term more, over tensors of the same dims
same-more : (t : Term) (ts us : List Contents) → HaveSameDims ts us
    → HaveSameDims (ts ++ tensor_of t ts ∷ []) (us ++ tensor_of t us ∷ [])
same-more t ts us same =
    map-append (λ x. x.dims) ts (tensor_of t ts ∷ [])
    ∙ ap (λ ds. ds ++ shape_of t ts ∷ []) same
    ∙ ap (λ r. map (λ x. x.dims) us ++ result_unwrap_or r [] ∷ []) (dims_of-same_dims widest t ts us same)
    ∙ sym (map-append (λ x. x.dims) us (tensor_of t us ∷ []))

-- the tensors of several terms more, over tensors of the same dims
pub same-worked_out : (terms : List Term) (ts us : List Contents) → HaveSameDims ts us
    → HaveSameDims (worked_out terms ts) (worked_out terms us)
same-worked_out [] ts us same = same
same-worked_out (t ∷ terms) ts us same =
    same-worked_out terms (ts ++ tensor_of t ts ∷ []) (us ++ tensor_of t us ∷ []) (same-more t ts us same)

-- terms that have dims have them over tensors of the same dims
pub HaveDims-same : (bounds : Bounds) (terms : List Term) (ts us : List Contents) → HaveSameDims ts us
    → HaveDims bounds terms ts → HaveDims bounds terms us
HaveDims-same bounds [] ts us same have = tt
HaveDims-same bounds (t ∷ terms) ts us same have = (
  ap is_ok (sym (dims_of-same_dims bounds t ts us same)) ∙ have.0,
  HaveDims-same bounds terms (ts ++ tensor_of t ts ∷ []) (us ++ tensor_of t us ∷ []) (same-more t ts us same) have.1,
)

pub answer_dims-same : (header : List ℕ) (vs ws : List ℤ) → length vs ≡ length ws → answer_dims header vs ≡ answer_dims header ws
answer_dims-same header vs ws long = by_case (request_of_frame header vs) (request_of_frame header ws) (AskAlike-frame vs ws long header)
  where
    by_case : (a b : Result Asked Fault) → AskAlike a b
        → or_fault (λ t. t.dims) (or_fault asked_tensor a) ≡ or_fault (λ t. t.dims) (or_fault asked_tensor b)
    by_case (Ok a) (Ok b) alike =
        ap (λ t. Ok (shape_of t (tensors_of a))) alike.term
        ∙ ap (λ bindings. Ok (shape_of b.term (worked_out bindings a.inputs))) alike.bindings
        ∙ ap (λ dims. Ok (result_unwrap_or dims []))
        (dims_of-same_dims widest b.term (worked_out b.bindings a.inputs) (tensors_of b)
        (same-worked_out b.bindings a.inputs b.inputs alike.inputs))
    by_case (Ok a) (Err g) alike = absurd alike
    by_case (Err f) (Ok b) alike = absurd alike
    by_case (Err f) (Err g) alike = ap Err alike

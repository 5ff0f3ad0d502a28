-- The answer to a frame, and the frame that says it.
use Rattle.std.specs.Prelude.{◌≡◌, ◌⊎◌, ◌≤◌, ℕ, pos, List, [], ◌∷◌, ◌++◌, map, codes, decimal}
use Rattle.expr_reader.specs.Faults.{fault_number, fault_name}
use Rattle.expr_reader.specs.Frame.{request_of_frame}
use Rattle.expr_reader.specs.Limits.{most_bytes, widest_values}
use Rattle.expr_reader.specs.declared.fault.Fault.{Fault}
use Rattle.expr_reader.specs.declared.fault.Fault.TheVariants.{NoMemory}
use Rattle.tensor_runner.specs.Answer.{Answer, tensor, fault, answer_from, numbers_text}
use Rattle.frame_server.specs.Frame.{Frame, frame_in, frame_bytes, header_len, value_count}

-- the tensor of the request that a frame means, or its first fault
abbrev pub answer_of : Frame → Answer
answer_of f = answer_from (request_of_frame f.header f.values)

-- the header of a tensor's frame, `{"dims":[..]}`
abbrev pub dims_text : List ℕ → List ℕ
dims_text dims = codes "{\"dims\":[" ++ (numbers_text (map pos dims) ++ codes "]}")

-- the header of a fault's frame, `error N Name`
abbrev pub fault_text : Fault → List ℕ
fault_text f = codes "error " ++ decimal (fault_number f) ++ 32 ∷ fault_name f

-- the frame of an answer: the dims of a tensor with its values, or a fault without values
abbrev pub frame_of : Answer → Frame
frame_of (tensor t) = record { header = dims_text t.dims; values = t.values }
frame_of (fault f) = record { header = fault_text f; values = [] }

-- the bytes of the frame of an answer
abbrev pub answer_bytes : Answer → List ℕ
answer_bytes a = frame_bytes (frame_of a)

-- a frame of these sizes isn't too long for every version; it may be too long for its own
pub record IsShort (header_len value_count : ℕ) : Type 0 where
  pub header : header_len ≤ most_bytes
  pub values : value_count ≤ widest_values

-- the answer to the frame that these bytes are, or the fault `NoMemory`; a frame that is too long
-- for every version is never answered by `NoMemory`
abbrev pub IsAnswerTo : List ℕ → Answer → Type 0
IsAnswerTo bytes a =
    (a ≡ answer_of (frame_in bytes))
    ⊎ ((a ≡ fault NoMemory) × IsShort (header_len bytes) (value_count bytes))

-- The answer of a frame, or of a header with arrays: its tensor, or its first fault.
use Rattle.std.specs.Prelude.{ℕ, ℤ, List, Result, Ok, Err}
use Rattle.expr_reader.specs.Arrays.{request_of_arrays}
use Rattle.expr_reader.specs.Contents.{Contents}
use Rattle.expr_reader.specs.Frame.{request_of_frame}
use Rattle.expr_reader.specs.Request.{asked_tensor}
use Rattle.expr_reader.specs.declared.fault.Fault.{Fault}

-- what f makes of what was found, or the fault
abbrev pub or_fault : {A B : Type 0} → (A → B) → Result A Fault → Result B Fault
or_fault f (Ok x) = Ok (f x)
or_fault f (Err fault) = Err fault

-- the tensor that a frame asks for, or its first fault
abbrev pub answer_of_frame : List ℕ → List ℤ → Result Contents Fault
answer_of_frame header values = or_fault asked_tensor (request_of_frame header values)

-- the tensor that a header with arrays asks for, or the first fault
abbrev pub answer_of_arrays : List ℕ → List (List ℤ) → Result Contents Fault
answer_of_arrays header arrays = or_fault asked_tensor (request_of_arrays header arrays)

-- the dims of the tensor that a frame asks for, or its first fault
abbrev pub answer_dims : List ℕ → List ℤ → Result (List ℕ) Fault
answer_dims header values = or_fault (λ t. t.dims) (answer_of_frame header values)

-- the dims of the tensor that a header with arrays asks for, or the first fault
abbrev pub dims_of_arrays : List ℕ → List (List ℤ) → Result (List ℕ) Fault
dims_of_arrays header arrays = or_fault (λ t. t.dims) (answer_of_arrays header arrays)

-- What a text asks for, or its first fault and where it is.
use Rattle.std.specs.Prelude.{ℕ, List, length, codes, nat_lt, Option, Result, Ok, Err, ok_or}
use Rattle.std.specs.Prelude.{option_and_then, if◌then◌else◌}
use Rattle.serde_json.specs.Data.{Data}
use Rattle.tensor_ops.specs.Bounds.{Bounds}
use Rattle.tensor_ops.specs.Contents.{Contents}
use Rattle.tensor_ops.specs.Sequence.{worked_out}
use Rattle.tensor_ops.specs.Term.{Term}
use Rattle.tensor_ops.specs.Value.{tensor_of}
use Rattle.expr_reader.specs.Expression.{expression_at}
use Rattle.expr_reader.specs.Fields.{Fields, fields_of, reading, whole_of, within}
use Rattle.expr_reader.specs.Limits.{most_bytes}
use Rattle.expr_reader.specs.Place.{field, Located, here, at, below, unlocated}
use Rattle.expr_reader.specs.Profile.{Profile, Versions, profile_of}
use Rattle.expr_reader.specs.Steps.{and_then}
use Rattle.expr_reader.specs.Tensors.{Named, inputs_in}
use Rattle.expr_reader.specs.declared.fault.Fault.{Fault}
use Rattle.expr_reader.specs.declared.fault.Fault.TheVariants.{TooLong, NotJson, BadField}
use Rattle.expr_reader.specs.declared.fault.Fault.TheVariants.{BadVersion, BadWorkers, BadBlock}

-- what a text asks for: a term over the inputs and the tensors of the bindings. A binding is
-- evaluated over the inputs and the bindings before it; all results are within `bounds`
pub record Asked : Type 0 where
  pub workers : ℕ
  pub block : ℕ
  pub inputs : List Contents
  pub bounds : Bounds
  pub bindings : List Term
  pub term : Term

-- the inputs, and after them the tensors of the bindings
abbrev pub tensors_of : Asked → List Contents
tensors_of a = worked_out a.bindings a.inputs

-- the tensor that is asked for: the answer
abbrev pub asked_tensor : Asked → Contents
asked_tensor a = tensor_of a.term (tensors_of a)

-- the profile of the version that the fields name
abbrev pub profile_in : Versions → Fields → Option Profile
profile_in versions f = option_and_then versions (whole_of f.version)

-- the number of the version, in data that has the five fields
abbrev pub version_in : Data → Option ℕ
version_in d = option_and_then (λ f. whole_of f.version) (fields_of d)

-- how the inputs are read, within bounds: their names and tensors, or their fault
abbrev pub Naming : Type 0
Naming = Bounds → Data → Result Named Located

module _ (versions : Versions) (named : Naming) where
  -- what the five fields ask for. They are checked in this order; the first fault counts
  abbrev pub fields_asked : Fields → Result Asked Located
  fields_asked f =
      and_then (ok_or (profile_in versions f) (at (field (codes "version")) BadVersion)) (λ p.
      and_then (ok_or (within 1 p.workers f.workers) (at (field (codes "workers")) BadWorkers))
      (λ workers.
      and_then (ok_or (within 1 p.block f.block) (at (field (codes "block")) BadBlock))
      (λ block.
      and_then (below (field (codes "inputs")) (named p.bounds f.inputs)) (λ inputs.
      and_then (below (field (codes "expr")) (expression_at p inputs 0 f.expr)) (λ found.
      Ok (record {
        workers = workers;
        block = block;
        inputs = inputs.tensors;
        bounds = p.bounds;
        bindings = found.bindings;
        term = found.tree.term;
      }))))))

  -- what data asks for, if it is an object of exactly the five fields
  abbrev pub data_asked : Data → Result Asked Located
  data_asked d = and_then (ok_or (fields_of d) (here BadField)) fields_asked

  -- what data asks for, with another expression in place of its own
  abbrev pub part_asked : Data → Data → Result Asked Located
  part_asked d expr =
      and_then (ok_or (fields_of d) (here BadField)) (λ f. fields_asked (record f { expr = expr }))

-- the data of a text, if the text is not too long and is JSON
abbrev pub data_of : List ℕ → Result Data Located
data_of text =
    if nat_lt most_bytes (length text) then Err (here TooLong)
    else ok_or (reading text) (here NotJson)

-- what the bytes of a text ask for
abbrev pub text_asked : Versions → Naming → List ℕ → Result Asked Located
text_asked versions named text = and_then (data_of text) (data_asked versions named)

-- the request of a text, or its first fault and where it is
abbrev pub request_at : List ℕ → Result Asked Located
request_at text = text_asked profile_of inputs_in text

-- the request of a text, or its first fault
abbrev pub request_of : List ℕ → Result Asked Fault
request_of text = unlocated (request_at text)

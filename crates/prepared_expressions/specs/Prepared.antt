-- A prepared expression, its record, and the arrays that give its inputs values.
use Rattle.std.specs.Prelude.{◌≡◌, ◌⊎◌, ◌<◌, ◌≤◌, ◌^◌, ◌+◌, ◌&&◌, ◌==◌, ℕ, ℤ, Bool, true, List, []}
use Rattle.std.specs.Prelude.{◌∷◌, ◌++◌, length}
use Rattle.std.specs.Prelude.{IsTrue, Result, Ok, Err, if◌then◌else◌}
use Rattle.std.specs.List.{All}
use Rattle.tensor_shape.specs.Index.{size_of}
use Rattle.tensor_shape.specs.Legal.{are_legal, text_elements, most_elements}
use Rattle.tensor_shape.specs.declared.bounds.Bounds.{Bounds}
use Rattle.tensor_terms.specs.Contents.{Contents}
use Rattle.tensor_terms.specs.Term.{Term}
use Rattle.expr_reader.specs.Bindings.{have_inputs}
use Rattle.expr_reader.specs.Outline.{outlined}
use Rattle.expr_reader.specs.Request.{Asked}
use Rattle.expr_reader.specs.declared.outline.Outline.{Outline}
use Rattle.prepared_expressions.specs.Recorded.{recorded_all, height_of, HasRanges}
use Rattle.prepared_expressions.specs.declared.refusal.Refusal.{Refusal}
use Rattle.prepared_expressions.specs.declared.refusal.Refusal.TheVariants.{OtherArrays}

-- what is prepared: the bounds of results, the dims of the inputs, the bindings, and a term over
-- the inputs and bindings. A binding is over the inputs and the bindings before it
pub record Prepared : Type 0 where
  pub bounds : Bounds
  pub dims : List (List ℕ)
  pub bindings : List Term
  pub term : Term

-- the terms of a prepared expression: its bindings, and then its own term
abbrev pub terms_of : Prepared → List Term
terms_of p = p.bindings ++ p.term ∷ []

-- the form of a record, from the most elements of a tensor: 3 for the limit of texts, 4 for the
-- limit of frames. Forms 1 and 2 had no bindings
abbrev pub form_of : ℕ → ℕ
form_of elements = if elements == text_elements then 3 else 4

-- the rank and the dims of each input, before other numbers
abbrev pub recorded_dims : List (List ℕ) → List ℕ → List ℕ
recorded_dims [] rest = rest
recorded_dims (d ∷ ds) rest = length d ∷ d ++ recorded_dims ds rest

-- all numbers of the record of a prepared expression
abbrev pub record_of : Prepared → List ℕ
record_of p =
    form_of p.bounds.elements ∷ p.bounds.rank ∷ length p.dims ∷ length p.bindings
    ∷ recorded_dims p.dims (recorded_all (terms_of p) [])

-- the most nodes of an expression that lie one below the other
abbrev pub greatest_height : ℕ
greatest_height = 127

-- all dims are legal within bounds
abbrev pub all_legal : Bounds → List (List ℕ) → Bool
all_legal bounds [] = true
all_legal bounds (d ∷ ds) = are_legal bounds d && all_legal bounds ds

-- the bounds that a record can have
pub record IsRecordable (bounds : Bounds) : Type 0 where
  pub rank : (bounds.rank ≡ 6) ⊎ (bounds.rank ≡ 8)
  pub elements : (bounds.elements ≡ text_elements) ⊎ (bounds.elements ≡ most_elements)

-- numbers that begin as a record does: with a form, a rank, and how many inputs and bindings follow
pub record Begins (numbers : List ℕ) : Type 0 where
  pub bounds : Bounds
  pub inputs : ℕ
  pub bindings : ℕ
  pub rest : List ℕ
  pub recordable : IsRecordable bounds
  pub few : inputs + bindings < 2 ^ 32
  pub here : numbers ≡ form_of bounds.elements ∷ bounds.rank ∷ inputs ∷ bindings ∷ rest

-- a term that a record can have
pub record IsWritable (t : Term) : Type 0 where
  pub ranges : HasRanges t
  pub height : height_of t ≤ greatest_height

-- an expression that can be prepared
pub record IsPrepared (p : Prepared) : Type 0 where
  pub bounds : IsRecordable p.bounds
  pub few : length p.dims + length p.bindings < 2 ^ 32
  pub legal : IsTrue (all_legal p.bounds p.dims)
  pub inputs : IsTrue (have_inputs (terms_of p) (length p.dims))
  pub writable : All IsWritable (terms_of p)

-- the dims of each tensor
abbrev pub dims_of_all : List Contents → List (List ℕ)
dims_of_all [] = []
dims_of_all (t ∷ ts) = t.dims ∷ dims_of_all ts

-- what is prepared of the request of a header
abbrev pub prepared_of : Asked → Prepared
prepared_of a = record {
  bounds = a.bounds;
  dims = dims_of_all a.inputs;
  bindings = a.bindings;
  term = a.term;
}

-- what is prepared of an outline
abbrev pub prepared_outline : Outline → Prepared
prepared_outline o = prepared_of (outlined o)

-- one more tensor before the others, if they have no refusal
abbrev pub before : Contents → Result (List Contents) Refusal → Result (List Contents) Refusal
before t (Ok ts) = Ok (t ∷ ts)
before t (Err f) = Err f

-- the inputs with the values of the arrays. There must be one array for each, with as many values
-- as its dims have places
abbrev pub dealt : List (List ℕ) → List (List ℤ) → Result (List Contents) Refusal
dealt [] [] = Ok []
dealt [] (vs ∷ arrays) = Err OtherArrays
dealt (d ∷ ds) [] = Err OtherArrays
dealt (d ∷ ds) (vs ∷ arrays) =
    if length vs == size_of d then before (record { dims = d; values = vs }) (dealt ds arrays)
    else Err OtherArrays

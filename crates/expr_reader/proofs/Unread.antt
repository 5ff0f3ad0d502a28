-- Values of which only the number is known, as zeroes.
use Rattle.std.proofs.Common.{◌≡◌, ◌⊎◌, ◌-◌, ◌≤◌, ℕ, ℤ, pos, List, Result, Ok, Err, MatchResult, length}
use Rattle.std.proofs.Common.{inl, inr, replicate, refl, ap}
use Rattle.std.proofs.lemmas.Bool.{le-ltb}
use Rattle.std.proofs.lemmas.List.{length-replicate, take-replicate, drop-replicate}
use Rattle.serde_json.specs.Data.{Data}
use Rattle.tensor_ops.specs.Contents.{Contents}
use Rattle.tensor_ops.specs.Index.{size_of}
use Rattle.expr_reader.specs.Frame.{request_of_frame, values_limit}
use Rattle.expr_reader.specs.Outline.{outlined}
use Rattle.expr_reader.specs.Place.{Located, Step, unlocated}
use Rattle.expr_reader.specs.Request.{Asked, data_of}
use Rattle.expr_reader.specs.declared.fault.Fault.{Fault}
use Rattle.expr_reader.specs.declared.fault.Fault.TheVariants.{NoMemory}
use Rattle.expr_reader.specs.declared.outline.Outline.{Outline}
use Rattle.expr_reader.specs.private.Behind.{behind, asked_by, left_by}
use Rattle.expr_reader.specs.private.Known.{zeroed, taken}
use Rattle.expr_reader.specs.private.Outcome.{IsToldAt}

-- a tensor that takes the first of them
pub taken-zeroes : (count : ℕ) (dims : List ℕ) → size_of dims ≤ count → taken (replicate count (pos 0)) dims ≡ zeroed dims
taken-zeroes count dims few =
    ap (λ values. record { dims = dims; values = values }) (take-replicate (size_of dims) count (pos 0) few)

-- those that are left behind a tensor
pub left-zeroes : (count : ℕ) (t : Contents)
    → left_by (behind (replicate count (pos 0))) t ≡ behind (replicate (count - length t.values) (pos 0))
left-zeroes count t = ap behind (drop-replicate (length t.values) count (pos 0))

-- what a header that was read asks for over them
pub frame_of_zeroes : (header : List ℕ) (count : ℕ) (d : Data) → data_of header ≡ Ok d → count ≤ values_limit header
    → request_of_frame header (replicate count (pos 0)) ≡ unlocated (asked_by (behind (replicate count (pos 0))) d)
frame_of_zeroes header count d read few =
    rw (length-replicate {A = ℤ} count (pos 0), le-ltb (values_limit header) count few, read) refl

-- what is said, without the place of its fault
pub told-unlocated : (says : Result Asked Located) (place : List Step) (r : Result Outline Fault)
    → IsToldAt outlined says place r
    → MatchResult r (λ o. unlocated says ≡ Ok (outlined o)) (λ f. (f ≡ NoMemory) ⊎ (unlocated says ≡ Err f))
told-unlocated says place (Ok o) told = ap unlocated told
told-unlocated says place (Err f) (inl memory) = inl memory
told-unlocated says place (Err f) (inr told) = inr (ap unlocated told)

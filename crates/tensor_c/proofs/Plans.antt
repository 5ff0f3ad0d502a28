-- Arrays that are dealt to the inputs of a plan.
use Rattle.std.proofs.Common.{◌≡◌, ◌==◌, ℕ, ℤ, Bool, true, false, List, [], ◌∷◌, length, map, Result, Ok, Err}
use Rattle.std.proofs.Common.{if◌then◌else◌, refl, ap, sym, ◌∙◌}
use Rattle.expr_reader.specs.Alike.{HaveSameDims}
use Rattle.expr_reader.specs.Contents.{Contents}
use Rattle.expr_reader.specs.Index.{size_of}
use Rattle.prepared_expressions.specs.Prepared.{dims_of_all, before, dealt}
use Rattle.prepared_expressions.specs.declared.refusal.Refusal.{Refusal}
use Rattle.prepared_expressions.specs.declared.refusal.Refusal.TheVariants.{OtherArrays}

-- arrays that are not dealt are others
pub dealt-err : (ds : List (List ℕ)) (arrays : List (List ℤ)) (f : Refusal) → dealt ds arrays ≡ Err f → f ≡ OtherArrays
dealt-err [] [] f is = absurd (cc)
dealt-err [] (vs ∷ arrays) f is = cc
dealt-err (d ∷ ds) [] f is = cc
dealt-err (d ∷ ds) (vs ∷ arrays) f is = by_size (length vs == size_of d) (λ g rest. dealt-err ds arrays g rest) (dealt ds arrays) refl is
  where
    by_size : (b : Bool) → ((g : Refusal) → dealt ds arrays ≡ Err g → g ≡ OtherArrays)
        → (r : Result (List Contents) Refusal) → dealt ds arrays ≡ r
        → (if b then before (record { dims = d; values = vs }) r else Err OtherArrays) ≡ Err f → f ≡ OtherArrays
    by_size false behind r rest is = cc
    by_size true behind (Ok us) rest is = absurd (cc)
    by_size true behind (Err g) rest is =
        let same : g ≡ f = cc in sym same ∙ behind g rest

-- tensors of these dims
dims_of_all-map : (ts : List Contents) → dims_of_all ts ≡ map (λ t. t.dims) ts
dims_of_all-map [] = refl
dims_of_all-map (t ∷ ts) = ap (λ ds. t.dims ∷ ds) (dims_of_all-map ts)

pub HaveSameDims-all : (ts us : List Contents) → dims_of_all ts ≡ dims_of_all us → HaveSameDims ts us
HaveSameDims-all ts us is = sym (dims_of_all-map ts) ∙ is ∙ dims_of_all-map us

-- Members taken one after another.
use Rattle.std.proofs.Common.{◌≡◌, ℕ, zero, suc, ◌+◌, List, [], ◌∷◌, ◌++◌, length, Option, Some, None}
use Rattle.std.proofs.Common.{String, Global, string_bytes, refl, ap, sym, ◌∙◌, if◌then◌else◌, arith}
use Rattle.std.proofs.Common.{Bool}
use Rattle.std.proofs.Common.{length-append}
use Rattle.std.specs.List.{position_from}
use Rattle.std.specs.Option.{option_or}
use Rattle.std.specs.Str.{bytes_eq}
use Rattle.serde_json.specs.Data.{Data, Members, no_members, member}
use Rattle.serde_json.specs.View.{view, members_view}
use Rattle.serde_json.specs.declared.value.Value.{Value}
use Rattle.tensor_ops.specs.Bounds.{Bounds}
use Rattle.tensor_ops.specs.Contents.{Contents, AreWithin}
use Rattle.tensor_ops.specs.Legal.{IsWithin}
use Rattle.expr_reader.specs.private.Behind.{Source, in_text, behind, apart, tensor_by, left_by, tensors_by, place_by, is_end}
use Rattle.expr_reader.specs.Fields.{cons_of}
use Rattle.expr_reader.specs.Place.{field}
use Rattle.expr_reader.specs.Tensors.{names_in}
use Rattle.expr_reader.proofs.Lists.{after, after-cons_of}
use Rattle.expr_reader.proofs.Numbers.{position_from-cons, option_or-option_or}

module _ (left : Source) (bounds : Bounds) where
  module _ (name : List ℕ) (d : Data) (ms : Members) where
    -- a tensor, and then those of the members behind it
    pub tensors_by-member : (tensor : Contents) → tensor_by left bounds d ≡ Some tensor
        → tensors_by left bounds (member name d ms)
        ≡ cons_of (Some tensor) (tensors_by (left_by left tensor) bounds ms)
    tensors_by-member = by_place left
      where
        by_place : (places : Source) (tensor : Contents) → tensor_by places bounds d ≡ Some tensor
            → tensors_by places bounds (member name d ms)
            ≡ cons_of (Some tensor) (tensors_by (left_by places tensor) bounds ms)
        by_place in_text tensor read = rw read refl
        by_place (behind values) tensor read = rw read refl
        by_place (apart []) tensor read = (cc)
        by_place (apart (array ∷ arrays)) tensor read = rw read refl

    pub tensors_by-no_tensor : tensor_by left bounds d ≡ None → tensors_by left bounds (member name d ms) ≡ None
    tensors_by-no_tensor = by_place left
      where
        by_place : (places : Source) → tensor_by places bounds d ≡ None → tensors_by places bounds (member name d ms) ≡ None
        by_place in_text none = rw none refl
        by_place (behind values) none = rw none refl
        by_place (apart []) none = refl
        by_place (apart (array ∷ arrays)) none = rw none refl

    -- the place of one that is no tensor
    pub place_by-member : (tensor : Contents) → tensor_by left bounds d ≡ Some tensor
        → place_by left bounds (member name d ms) ≡ place_by (left_by left tensor) bounds ms
    place_by-member = by_place left
      where
        by_place : (places : Source) (tensor : Contents) → tensor_by places bounds d ≡ Some tensor
            → place_by places bounds (member name d ms) ≡ place_by (left_by places tensor) bounds ms
        by_place in_text tensor read = rw read refl
        by_place (behind values) tensor read = rw read refl
        by_place (apart []) tensor read = (cc)
        by_place (apart (array ∷ arrays)) tensor read = rw read refl

    pub place_by-no_tensor : tensor_by left bounds d ≡ None → place_by left bounds (member name d ms) ≡ field name ∷ []
    place_by-no_tensor = by_place left
      where
        by_place : (places : Source) → tensor_by places bounds d ≡ None → place_by places bounds (member name d ms) ≡ field name ∷ []
        by_place in_text none = rw none refl
        by_place (behind values) none = rw none refl
        by_place (apart []) none = refl
        by_place (apart (array ∷ arrays)) none = rw none refl

  -- behind the last member
  pub place_by-end : place_by left bounds no_members ≡ []
  place_by-end = by_place left
    where
      by_place : (places : Source) → place_by places bounds no_members ≡ []
      by_place in_text = refl
      by_place (behind values) = refl
      by_place (apart arrays) = refl

  pub tensors_by-end : (is_last : Bool) → is_last ≡ is_end left → tensors_by left bounds no_members ≡ (if is_last then Some [] else None)
  tensors_by-end is_last is = is_last_by left is
    where
      is_last_by : (places : Source) → is_last ≡ is_end places
          → tensors_by places bounds no_members ≡ (if is_last then Some [] else None)
      is_last_by in_text is = rw is refl
      is_last_by (behind []) is = rw is refl
      is_last_by (behind (v ∷ vs)) is = rw is refl
      is_last_by (apart []) is = rw is refl
      is_last_by (apart (array ∷ arrays)) is = rw is refl

-- the number of a name among those that are left, the first of which has number n
abbrev pub number_from : ℕ → List (String Global × Value) → List ℕ → Option ℕ
number_from n rest q = position_from (λ other. bytes_eq q other) n (names_in (members_view rest))

module _ (bounds : Bounds) (rest more : List (String Global × Value)) (name : String Global) (value : Value)
    (first : rest ≡ (name, value) ∷ more) where
  pub length-turn : (done : List Contents) (tensor : Contents) → length (done ++ tensor ∷ []) + length more ≡ length done + length rest
  length-turn done tensor = rw (first, length-append) (omega arith)

  module _ (left : Source) (done : List Contents) where
    pub after-turn : (tensor : Contents) → tensor_by left bounds (view value) ≡ Some tensor
        → after (done ++ tensor ∷ []) (tensors_by (left_by left tensor) bounds (members_view more))
        ≡ after done (tensors_by left bounds (members_view rest))
    after-turn tensor read =
        sym (ap (λ entries. after done (tensors_by left bounds (members_view entries))) first
        ∙ ap (after done) (tensors_by-member left bounds (string_bytes name) (view value) (members_view more) tensor read)
        ∙ after-cons_of done tensor (tensors_by (left_by left tensor) bounds (members_view more)))

    -- a member that is no tensor
    pub after-no_tensor : tensor_by left bounds (view value) ≡ None → after done (tensors_by left bounds (members_view rest)) ≡ None
    after-no_tensor none =
        ap (λ entries. after done (tensors_by left bounds (members_view entries))) first
        ∙ ap (after done) (tensors_by-no_tensor left bounds (string_bytes name) (view value) (members_view more) none)

  module _ (left : Source) where
    pub place-turn : (tensor : Contents) → tensor_by left bounds (view value) ≡ Some tensor
        → place_by (left_by left tensor) bounds (members_view more) ≡ place_by left bounds (members_view rest)
    place-turn tensor read =
        sym (ap (λ entries. place_by left bounds (members_view entries)) first
        ∙ place_by-member left bounds (string_bytes name) (view value) (members_view more) tensor read)

    pub place-no_tensor : tensor_by left bounds (view value) ≡ None
        → place_by left bounds (members_view rest) ≡ field (string_bytes name) ∷ []
    place-no_tensor none =
        ap (λ entries. place_by left bounds (members_view entries)) first
        ∙ place_by-no_tensor left bounds (string_bytes name) (view value) (members_view more) none

  pub number-turn : (old new : Option ℕ) (n : ℕ) (q : List ℕ)
      → new ≡ option_or old (if bytes_eq q (string_bytes name) then Some n else None)
      → option_or new (number_from (n + 1) more q) ≡ option_or old (number_from n rest q)
  number-turn old new n q put =
      rw (put, first, position_from-cons q (string_bytes name) (names_in (members_view more)) n)
      (option_or-option_or old (if bytes_eq q (string_bytes name) then Some n else None) (number_from (n + 1) more q))

-- as many names as members
pub length-names_in : (entries : List (String Global × Value)) → length (names_in (members_view entries)) ≡ length entries
length-names_in [] = refl
length-names_in (e ∷ es) = ap suc (length-names_in es)

-- one more tensor within bounds
pub AreWithin-append : (bounds : Bounds) (done : List Contents) (tensor : Contents) → AreWithin bounds done → IsWithin bounds tensor.dims
    → AreWithin bounds (done ++ tensor ∷ [])
AreWithin-append bounds [] tensor before low zero within = low
AreWithin-append bounds [] tensor before low (suc n) within = absurd (omega arith)
AreWithin-append bounds (t ∷ done) tensor before low zero within = before 0 (omega arith)
AreWithin-append bounds (t ∷ done) tensor before low (suc n) within =
    AreWithin-append bounds done tensor (λ m inside. before (suc m) (omega arith)) low n (omega arith)

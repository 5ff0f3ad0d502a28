-- Arrays are read as the frame of all of them, where each has as many values as its tensor has places.
use Rattle.std.proofs.Common.{◌≡◌, ◌≢◌, ℕ, ℤ, ◌≤◌, List, [], ◌∷◌, ◌++◌, length, map, take, drop, Bool, true, false}
use Rattle.std.proofs.Common.{Option, Some, None, option_map, option_and_then, refl, ap, sym, ◌∙◌}
use Rattle.std.proofs.Common.{eqb, leb, if◌then◌else◌, arith, length-append, length-take}
use Rattle.std.proofs.Math.Seq.{drop-append_seam}
use Rattle.std.proofs.lemmas.Bool.{leb-true, le-leb, eq-eqb, eqb-true}
use Rattle.std.proofs.lemmas.List.{take_all, take_at}
use Rattle.serde_json.specs.Data.{Data, Members, no_members, member}
use Rattle.serde_json.specs.Find.{as_object}
use Rattle.tensor_ops.specs.Bounds.{Bounds}
use Rattle.tensor_ops.specs.Contents.{Contents}
use Rattle.tensor_ops.specs.Index.{size_of}
use Rattle.tensor_ops.specs.Legal.{are_legal}
use Rattle.expr_reader.specs.Arrays.{joined, with_all, array_tensor, array_tensors, bad_array, array_inputs}
use Rattle.expr_reader.specs.Arrays.{places_in, places_of_each, header_sizes}
use Rattle.expr_reader.specs.Fields.{Fields, whole_of, cons_of, list_in, fields_of}
use Rattle.expr_reader.specs.Frame.{dims_alone, dealt, framed_tensor, framed_tensors, bad_framed, framed_in, frame_inputs}
use Rattle.expr_reader.specs.Place.{here, unlocated}
use Rattle.expr_reader.specs.Profile.{Versions}
use Rattle.expr_reader.specs.Request.{Naming, data_asked}
use Rattle.expr_reader.specs.Tensors.{named_by}
use Rattle.expr_reader.specs.declared.fault.Fault.TheVariants.{BadTensor}
use Rattle.expr_reader.proofs.Filled.{fields_asked-same, or_place-same}
use Rattle.std.specs.Prelude.{Err}

-- what a head and a rest are
cons_of-both : {A : Type 0} (head : Option A) (rest : Option (List A)) (x : A) (xs : List A) → cons_of head rest ≡ Some (x ∷ xs)
    → (head ≡ Some x) × (rest ≡ Some xs)
cons_of-both None rest x xs is = (cc)
cons_of-both (Some y) None x xs is = (cc)
cons_of-both (Some y) (Some ys) x xs is = let first : y ≡ x = cc in let others : ys ≡ xs = cc in (ap Some first, ap Some others)

cons_of-some : {A : Type 0} (head : Option A) (rest : Option (List A)) → cons_of head rest ≢ Some []
cons_of-some None rest = λ is. (cc)
cons_of-some (Some y) None = λ is. (cc)
cons_of-some (Some y) (Some ys) = λ is. (cc)

-- an object of exactly dims that have `size` places
record HasSize (d : Data) (size : ℕ) : Type 0 where
  dims : Data
  sizes : List ℕ
  alone : dims_alone d ≡ Some dims
  listed : list_in whole_of dims ≡ Some sizes
  long : size_of sizes ≡ size

has_size : (d : Data) (size : ℕ) → places_in d ≡ Some size → HasSize d size
has_size d size is = by_dims (dims_alone d) refl
  where
    by_sizes : (dims : Data) → dims_alone d ≡ Some dims → (sizes : Option (List ℕ)) → list_in whole_of dims ≡ sizes → HasSize d size
    by_sizes dims alone None listed = let none : places_in d ≡ None = rw (alone, listed) refl in (cc)
    by_sizes dims alone (Some sizes) listed =
        let found : places_in d ≡ Some (size_of sizes) = rw (alone, listed) refl in
        let long : size_of sizes ≡ size = cc in
        record { dims = dims; sizes = sizes; alone = alone; listed = listed; long = long }

    by_dims : (dims : Option Data) → dims_alone d ≡ dims → HasSize d size
    by_dims None alone = let none : places_in d ≡ None = rw alone refl in (cc)
    by_dims (Some dims) alone = by_sizes dims alone (list_in whole_of dims) refl

module _ (bounds : Bounds) (array : List ℤ) (d : Data) (sized : HasSize d (length array)) where
  -- the tensor, where its dims are legal
  abbrev tensor_if : Bool → Option Contents
  tensor_if is_legal = if is_legal then Some (record { dims = sized.sizes; values = array }) else None

  array_tensor-sized : array_tensor bounds array d ≡ tensor_if (are_legal bounds sized.sizes)
  array_tensor-sized = rw (sized.alone, sized.listed) (by_legal (are_legal bounds sized.sizes))
    where
      whole : take (size_of sized.sizes) array ≡ array
      whole = take_all (size_of sized.sizes) array (omega (arith, sized.long))

      by_legal : (is_legal : Bool)
          → option_and_then (with_all array) (option_and_then (dealt array) (if is_legal then Some sized.sizes else None)) ≡ tensor_if is_legal
      by_legal false = refl
      by_legal true =
          rw (le-leb (size_of sized.sizes) (length array) (omega (arith, sized.long)), whole, eq-eqb (length array) (length array) refl) refl

  framed_tensor-sized : (rest : List ℤ) → framed_tensor bounds (array ++ rest) d ≡ tensor_if (are_legal bounds sized.sizes)
  framed_tensor-sized rest = rw (sized.alone, sized.listed) (by_legal (are_legal bounds sized.sizes))
    where
      first : take (size_of sized.sizes) (array ++ rest) ≡ array
      first = take_at array rest (size_of sized.sizes) (sym sized.long)

      by_legal : (is_legal : Bool) → option_and_then (dealt (array ++ rest)) (if is_legal then Some sized.sizes else None) ≡ tensor_if is_legal
      by_legal false = refl
      by_legal true =
          rw (le-leb (size_of sized.sizes) (length (array ++ rest)) (omega (arith, sized.long, length-append array rest)), first) refl

  framed_tensors-sized : (rest : List ℤ) (name : List ℕ) (ms : Members)
      → framed_tensors bounds (array ++ rest) (member name d ms) ≡ cons_of (array_tensor bounds array d) (framed_tensors bounds rest ms)
  framed_tensors-sized rest name ms = rw (framed_tensor-sized rest, array_tensor-sized) (by_legal (are_legal bounds sized.sizes))
    where
      by_legal : (is_legal : Bool)
          → option_and_then (λ t. option_map (λ ts. t ∷ ts) (framed_tensors bounds (drop (length t.values) (array ++ rest)) ms)) (tensor_if is_legal)
          ≡ cons_of (tensor_if is_legal) (framed_tensors bounds rest ms)
      by_legal false = refl
      by_legal true = rw (drop-append_seam array rest) refl

-- arrays of the members' sizes
array_tensors-joined : (bounds : Bounds) (ms : Members) (arrays : List (List ℤ)) → places_of_each ms ≡ Some (map length arrays)
    → array_tensors bounds arrays ms ≡ framed_tensors bounds (joined arrays) ms
array_tensors-joined bounds no_members [] is = refl
array_tensors-joined bounds no_members (array ∷ arrays) is = (cc)
array_tensors-joined bounds (member name d ms) [] is = absurd (cons_of-some (places_in d) (places_of_each ms) is)
array_tensors-joined bounds (member name d ms) (array ∷ arrays) is =
    let both = cons_of-both (places_in d) (places_of_each ms) (length array) (map length arrays) is in
    ap (cons_of (array_tensor bounds array d)) (array_tensors-joined bounds ms arrays both.1)
    ∙ sym (framed_tensors-sized bounds array d (has_size d (length array) both.0) (joined arrays) name ms)

pub arrays-frame : (versions : Versions) (header : Data) (arrays : List (List ℤ)) → header_sizes header ≡ Some (map length arrays)
    → unlocated (data_asked versions (array_inputs arrays) header) ≡ unlocated (data_asked versions (frame_inputs (joined arrays)) header)
arrays-frame versions header arrays is = by_fields (fields_of header) refl is
  where
    by_inputs : (f : Fields) (ms : Option Members) → fields_of header ≡ Some f → as_object f.inputs ≡ ms
        → option_and_then places_of_each ms ≡ Some (map length arrays)
        → unlocated (data_asked versions (array_inputs arrays) header) ≡ unlocated (data_asked versions (frame_inputs (joined arrays)) header)
    by_inputs f None there found is = (cc)
    by_inputs f (Some ms) there found is =
        rw there
        (fields_asked-same versions (array_inputs arrays) (frame_inputs (joined arrays)) f f.inputs (λ bounds.
        let same : named_by (array_tensors bounds arrays) f.inputs ≡ framed_in (joined arrays) bounds f.inputs =
        rw (found, array_tensors-joined bounds ms arrays is) refl in
        or_place-same (bad_array bounds arrays) (bad_framed bounds (joined arrays)) f.inputs f.inputs
        (named_by (array_tensors bounds arrays) f.inputs) (framed_in (joined arrays) bounds f.inputs) same))

    by_fields : (f : Option Fields) → fields_of header ≡ f
        → option_and_then (λ f. option_and_then places_of_each (as_object f.inputs)) f ≡ Some (map length arrays)
        → unlocated (data_asked versions (array_inputs arrays) header) ≡ unlocated (data_asked versions (frame_inputs (joined arrays)) header)
    by_fields None there is = (cc)
    by_fields (Some f) there is = by_inputs f (as_object f.inputs) there refl is

-- a tensor has its array's size
places_in-tensor : (bounds : Bounds) (array : List ℤ) (d : Data) (t : Contents) → array_tensor bounds array d ≡ Some t → places_in d ≡ Some (length array)
places_in-tensor bounds array d t is = by_dims (dims_alone d) refl is
  where
    by_whole : (sizes : List ℕ) → size_of sizes ≤ length array → (is_whole : Bool) → eqb (length (take (size_of sizes) array)) (length array) ≡ is_whole
        → (if is_whole then Some (record { dims = sizes; values = take (size_of sizes) array }) else None) ≡ Some t → size_of sizes ≡ length array
    by_whole sizes enough false whole is = (cc)
    by_whole sizes enough true whole is =
        omega (arith, enough, length-take (size_of sizes) array, eqb-true (length (take (size_of sizes) array)) (length array) whole)

    by_count : (sizes : List ℕ) (is_enough : Bool) → leb (size_of sizes) (length array) ≡ is_enough
        → option_and_then (with_all array) (if is_enough then Some (record { dims = sizes; values = take (size_of sizes) array }) else None) ≡ Some t
        → size_of sizes ≡ length array
    by_count sizes false enough is = (cc)
    by_count sizes true enough is =
        by_whole sizes (leb-true (size_of sizes) (length array) enough) (eqb (length (take (size_of sizes) array)) (length array)) refl is

    by_legal : (sizes : List ℕ) (is_legal : Bool)
        → option_and_then (with_all array) (option_and_then (dealt array) (if is_legal then Some sizes else None)) ≡ Some t
        → size_of sizes ≡ length array
    by_legal sizes false is = (cc)
    by_legal sizes true is = by_count sizes (leb (size_of sizes) (length array)) refl is

    by_sizes : (dims : Data) → dims_alone d ≡ Some dims → (sizes : Option (List ℕ)) → list_in whole_of dims ≡ sizes
        → option_and_then (with_all array) (option_and_then (dealt array) (option_and_then (λ s. if are_legal bounds s then Some s else None) sizes)) ≡ Some t
        → places_in d ≡ Some (length array)
    by_sizes dims alone None listed is = (cc)
    by_sizes dims alone (Some sizes) listed is = rw (alone, listed) (ap Some (by_legal sizes (are_legal bounds sizes) is))

    by_dims : (dims : Option Data) → dims_alone d ≡ dims
        → option_and_then (with_all array) (option_and_then (λ e. option_and_then (dealt array)
        (option_and_then (λ s. if are_legal bounds s then Some s else None) (list_in whole_of e))) dims) ≡ Some t
        → places_in d ≡ Some (length array)
    by_dims None alone is = (cc)
    by_dims (Some dims) alone is = by_sizes dims alone (list_in whole_of dims) refl is

-- and so do tensors
places_of_each-tensors : (bounds : Bounds) (ms : Members) (arrays : List (List ℤ)) (ts : List Contents) → array_tensors bounds arrays ms ≡ Some ts
    → places_of_each ms ≡ Some (map length arrays)
places_of_each-tensors bounds no_members [] ts is = refl
places_of_each-tensors bounds no_members (array ∷ arrays) ts is = (cc)
places_of_each-tensors bounds (member name d ms) [] ts is = (cc)
places_of_each-tensors bounds (member name d ms) (array ∷ arrays) ts is =
    by_first (places_of_each-tensors bounds ms arrays) (array_tensor bounds array d) refl (array_tensors bounds arrays ms) refl is
  where
    by_first : ((us : List Contents) → array_tensors bounds arrays ms ≡ Some us → places_of_each ms ≡ Some (map length arrays))
        → (first : Option Contents) → array_tensor bounds array d ≡ first → (rest : Option (List Contents)) → array_tensors bounds arrays ms ≡ rest
        → cons_of first rest ≡ Some ts → places_of_each (member name d ms) ≡ Some (map length (array ∷ arrays))
    by_first behind None first rest others is = (cc)
    by_first behind (Some t) first None others is = (cc)
    by_first behind (Some t) first (Some us) others is = rw (places_in-tensor bounds array d t first, behind us others) refl

-- other arrays have no inputs
abbrev no_inputs : Naming
no_inputs bounds inputs = Err (here BadTensor)

pub arrays-no_frame : (versions : Versions) (header : Data) (arrays : List (List ℤ)) → header_sizes header ≢ Some (map length arrays)
    → unlocated (data_asked versions (array_inputs arrays) header) ≡ unlocated (data_asked versions no_inputs header)
arrays-no_frame versions header arrays other = by_fields (fields_of header) refl
  where
    unread : (f : Fields) → fields_of header ≡ Some f → ((bounds : Bounds) → named_by (array_tensors bounds arrays) f.inputs ≡ None)
        → unlocated (data_asked versions (array_inputs arrays) header) ≡ unlocated (data_asked versions no_inputs header)
    unread f there none = rw there (fields_asked-same versions (array_inputs arrays) no_inputs f f.inputs (λ bounds. rw (none bounds) refl))

    none_of : (f : Fields) (ms : Members) → fields_of header ≡ Some f → as_object f.inputs ≡ Some ms
        → (bounds : Bounds) (ts : Option (List Contents)) → array_tensors bounds arrays ms ≡ ts → array_tensors bounds arrays ms ≡ None
    none_of f ms there found bounds None is = is
    none_of f ms there found bounds (Some ts) is =
        let sizes : header_sizes header ≡ Some (map length arrays) = rw (there, found) (places_of_each-tensors bounds ms arrays ts is) in
        absurd (other sizes)

    by_inputs : (f : Fields) (ms : Option Members) → fields_of header ≡ Some f → as_object f.inputs ≡ ms
        → unlocated (data_asked versions (array_inputs arrays) header) ≡ unlocated (data_asked versions no_inputs header)
    by_inputs f None there found = unread f there (λ bounds. rw found refl)
    by_inputs f (Some ms) there found =
        unread f there (λ bounds. rw (found, none_of f ms there found bounds (array_tensors bounds arrays ms) refl) refl)

    by_fields : (f : Option Fields) → fields_of header ≡ f
        → unlocated (data_asked versions (array_inputs arrays) header) ≡ unlocated (data_asked versions no_inputs header)
    by_fields None there = rw there refl
    by_fields (Some f) there = by_inputs f (as_object f.inputs) there refl

-- What a header's plan answers over arrays is what the header does.
use Rattle.std.proofs.Common.{◌≡◌, ◌≢◌, ◌≤◌, ℕ, ℤ, Bool, true, false, List, [], ◌∷◌, ◌++◌, length, take, drop}
use Rattle.std.proofs.Common.{Option, Some, None, ok_or, option_and_then, option_map, Result, Ok, Err, if◌then◌else◌, leb, eqb}
use Rattle.std.proofs.Common.{refl, ap, sym, ◌∙◌, subst, inl, inr, arith, length-append}
use Rattle.std.proofs.lemmas.Bool.{le-leb, leb-true, eq-eqb, eqb-true, le-ltb}
use Rattle.std.proofs.lemmas.Bool.Decides.{eqb_tells}
use Rattle.std.proofs.lemmas.List.{length-take, length-drop, take_all}
use Rattle.std.proofs.Math.Seq.{take-append_seam, drop-append_seam}
use Rattle.std.specs.Prelude.{nat_lt, codes}
use Rattle.std.specs.Option.{option_map_or}
use Rattle.serde_json.specs.Data.{Data, Members, no_members, member}
use Rattle.serde_json.specs.Find.{as_object}
use Rattle.tensor_ops.specs.Bounds.{Bounds}
use Rattle.expr_reader.specs.Alike.{AskAlike}
use Rattle.expr_reader.specs.Arrays.{joined, with_all, array_tensor, array_tensors, bad_array, array_inputs, request_of_arrays}
use Rattle.expr_reader.specs.Contents.{Contents}
use Rattle.expr_reader.specs.Expression.{Expression, expression_at}
use Rattle.expr_reader.specs.Fields.{Fields, fields_of, within}
use Rattle.expr_reader.specs.Frame.{dims_alone, framed_tensor, framed_tensors, bad_framed, frame_inputs, values_limit, request_of_frame}
use Rattle.expr_reader.specs.Frame as frame
use Rattle.expr_reader.specs.Index.{size_of}
use Rattle.expr_reader.specs.Place.{Step, field, Located, here, at, below, unlocated}
use Rattle.expr_reader.specs.Profile.{Profile}
use Rattle.expr_reader.specs.Profile.{frame_profile_of}
use Rattle.expr_reader.specs.Request.{Asked, asked_tensor, profile_in}
use Rattle.expr_reader.specs.Request.{fields_asked, data_asked, data_of, text_asked}
use Rattle.expr_reader.specs.Steps.{and_then}
use Rattle.expr_reader.specs.Tensors.{Named, dims_in, names_in}
use Rattle.expr_reader.specs.Sequence.{worked_out}
use Rattle.expr_reader.specs.Value.{tensor_of}
use Rattle.expr_reader.specs.declared.fault.Fault.{Fault}
use Rattle.expr_reader.specs.declared.fault.Fault.TheVariants.{BadField, BadVersion, BadWorkers, BadBlock, BadTensor, TooLong}
use Rattle.expr_reader.proofs.Chain.{tree_asked, inputs_asked, block_asked, workers_asked}
use Rattle.expr_reader.proofs.SameDims.{AskAlike-frame}
use Rattle.prepared_expressions.specs.Prepared.{prepared_of, dims_of_all, before, dealt}
use Rattle.prepared_expressions.specs.declared.refusal.Refusal.{Refusal}
use Rattle.tensor_c.specs.Answer.{or_fault, answer_of_arrays}
use Rattle.tensor_c.specs.Plan.{tensor_over, answer_of_plan}

module _ (bounds : Bounds) where
  -- the dims that stand at a member
  abbrev sizes_at : Data → Option (List ℕ)
  sizes_at d = option_and_then (dims_in bounds) (dims_alone d)

  -- the first of the values, as many as the dims have places
  abbrev first_of : List ℕ → List ℤ → Contents
  first_of s vs = record { dims = s; values = take (size_of s) vs }

  framed_tensor-sizes : (vs : List ℤ) (d : Data) → framed_tensor bounds vs d ≡ option_and_then (frame.dealt vs) (sizes_at d)
  framed_tensor-sizes vs d = by_dims (dims_alone d)
    where
      by_dims : (dims : Option Data)
          → option_and_then (λ e. option_and_then (frame.dealt vs) (dims_in bounds e)) dims
          ≡ option_and_then (frame.dealt vs) (option_and_then (dims_in bounds) dims)
      by_dims None = refl
      by_dims (Some e) = refl

  -- values of which the first are just as many as there are places
  framed_tensor-first : (vs rest : List ℤ) (d : Data) (s : List ℕ) → sizes_at d ≡ Some s → length vs ≡ size_of s
      → framed_tensor bounds (vs ++ rest) d ≡ Some (record { dims = s; values = vs })
  framed_tensor-first vs rest d s stands fits =
      let enough : leb (size_of s) (length (vs ++ rest)) ≡ true =
      le-leb (size_of s) (length (vs ++ rest)) (omega (arith, fits, length-append vs rest)) in
      let first : take (size_of s) (vs ++ rest) ≡ vs = ap (λ n. take n (vs ++ rest)) (sym fits) ∙ take-append_seam vs rest in
      framed_tensor-sizes (vs ++ rest) d ∙ ap (option_and_then (frame.dealt (vs ++ rest))) stands ∙ rw (enough, first) refl

  array_tensor-fits : (vs : List ℤ) (d : Data) (s : List ℕ) → sizes_at d ≡ Some s → length vs ≡ size_of s
      → array_tensor bounds vs d ≡ Some (record { dims = s; values = vs })
  array_tensor-fits vs d s stands fits =
      let enough : leb (size_of s) (length vs) ≡ true = le-leb (size_of s) (length vs) (omega (arith, fits)) in
      let whole : take (size_of s) vs ≡ vs = take_all (size_of s) vs (omega (arith, fits)) in
      ap (option_and_then (with_all vs)) (framed_tensor-sizes vs d ∙ ap (option_and_then (frame.dealt vs)) stands)
      ∙ rw (enough, whole, eq-eqb (length vs) (length vs) refl) refl

  array_tensor-other : (vs : List ℤ) (d : Data) (s : List ℕ) → sizes_at d ≡ Some s → length vs ≢ size_of s
      → array_tensor bounds vs d ≡ None
  array_tensor-other vs d s stands other =
      ap (option_and_then (with_all vs)) (framed_tensor-sizes vs d ∙ ap (option_and_then (frame.dealt vs)) stands)
      ∙ by_enough (leb (size_of s) (length vs)) refl
    where
      by_whole : size_of s ≤ length vs → (w : Bool) → eqb (length (take (size_of s) vs)) (length vs) ≡ w
          → (if w then Some (first_of s vs) else None) ≡ None
      by_whole enough false is = refl
      by_whole enough true is =
          absurd (other (omega (arith, enough, length-take (size_of s) vs, eqb-true (length (take (size_of s) vs)) (length vs) is)))

      by_enough : (e : Bool) → leb (size_of s) (length vs) ≡ e
          → option_and_then (with_all vs) (if e then Some (first_of s vs) else None) ≡ None
      by_enough false is = refl
      by_enough true is = by_whole (leb-true (size_of s) (length vs) is) (eqb (length (take (size_of s) vs)) (length vs)) refl

  -- tensors that arrays are dealt to: they are those of the arrays, and of the frame of all joined
  pub record IsDealt (ms : Members) (values : List ℤ) (arrays : List (List ℤ)) (us : List Contents) : Type 0 where
    pub apart : array_tensors bounds arrays ms ≡ Some us
    pub behind : framed_tensors bounds (joined arrays) ms ≡ Some us
    pub long : length (joined arrays) ≡ length values

  abbrev Fits : Members → List ℤ → List (List ℤ) → Result (List Contents) Refusal → Type 0
  Fits ms values arrays (Ok us) = IsDealt ms values arrays us
  Fits ms values arrays (Err f) = array_tensors bounds arrays ms ≡ None

  -- a member more, of which these are the dims, where there are values enough for it
  module _ (name : List ℕ) (d : Data) (ms : Members) (values : List ℤ) (s : List ℕ) (stands : sizes_at d ≡ Some s)
      (enough : size_of s ≤ length values) where
    abbrev left : List ℤ
    left = drop (length (take (size_of s) values)) values

    dealt-before : (vs : List ℤ) (more : List (List ℤ)) → length vs ≡ size_of s → (r : Result (List Contents) Refusal) → Fits ms left more r
        → Fits (member name d ms) values (vs ∷ more) (before (record { dims = s; values = vs }) r)
    dealt-before vs more fits (Err f) none = rw (array_tensor-fits vs d s stands fits, none) refl
    dealt-before vs more fits (Ok us) rest =
        let long : length (vs ++ joined more) ≡ length values =
        omega (
          arith,
          fits,
          enough,
          length-append vs (joined more),
          rest.long,
          length-take (size_of s) values,
          length-drop (length (take (size_of s) values)) values,
        ) in
        record {
          apart = rw (array_tensor-fits vs d s stands fits, rest.apart) refl;
          behind = rw (framed_tensor-first vs (joined more) d s stands fits, drop-append_seam vs (joined more), rest.behind) refl;
          long = long;
        }

    dealt-first : (vs : List ℤ) (more : List (List ℤ)) (us : List Contents) → Fits ms left more (dealt (dims_of_all us) more)
        → Fits (member name d ms) values (vs ∷ more) (dealt (s ∷ dims_of_all us) (vs ∷ more))
    dealt-first vs more us rest =
        elim (eqb_tells (length vs) (size_of s)) [
          | inl same ↦ rw same.0 (dealt-before vs more same.1 (dealt (dims_of_all us) more) rest)
          | inr other ↦ rw (other.0, array_tensor-other vs d s stands other.1) refl
        ]

    dealt-member : (us : List Contents) → ((more : List (List ℤ)) → Fits ms left more (dealt (dims_of_all us) more))
        → (arrays : List (List ℤ)) → Fits (member name d ms) values arrays (dealt (s ∷ dims_of_all us) arrays)
    dealt-member us behind [] = refl
    dealt-member us behind (vs ∷ more) = dealt-first vs more us (behind more)

  dealt-members : (ms : Members) (values : List ℤ) (ts : List Contents) → framed_tensors bounds values ms ≡ Some ts
      → (arrays : List (List ℤ)) → Fits ms values arrays (dealt (dims_of_all ts) arrays)
  dealt-members no_members [] ts is arrays =
      let same : [] ≡ ts = cc in
      subst (λ l. Fits no_members [] arrays (dealt (dims_of_all l) arrays)) same (by_arrays arrays)
    where
      by_arrays : (arrays : List (List ℤ)) → Fits no_members [] arrays (dealt [] arrays)
      by_arrays [] = record { apart = refl; behind = refl; long = refl }
      by_arrays (vs ∷ more) = refl
  dealt-members no_members (v ∷ values) ts is arrays = absurd (cc)
  dealt-members (member name d ms) values ts is arrays =
      by_sizes (dealt-members ms) (sizes_at d) refl (ap (option_and_then next) (sym (framed_tensor-sizes values d)) ∙ is)
    where
      next : Contents → Option (List Contents)
      next t = option_map (λ us. t ∷ us) (framed_tensors bounds (drop (length t.values) values) ms)

      Behind : Type 0
      Behind = (vs : List ℤ) (us : List Contents) → framed_tensors bounds vs ms ≡ Some us
          → (more : List (List ℤ)) → Fits ms vs more (dealt (dims_of_all us) more)

      Whole : Type 0
      Whole = Fits (member name d ms) values arrays (dealt (dims_of_all ts) arrays)

      by_rest : Behind → (s : List ℕ) → sizes_at d ≡ Some s → size_of s ≤ length values → (r : Option (List Contents))
          → framed_tensors bounds (drop (length (take (size_of s) values)) values) ms ≡ r
          → option_map (λ us. record { dims = s; values = take (size_of s) values } ∷ us) r ≡ Some ts → Whole
      by_rest behind s stands enough None there is = absurd (cc)
      by_rest behind s stands enough (Some us) there is =
          let t : Contents = record { dims = s; values = take (size_of s) values } in
          let same : t ∷ us ≡ ts = cc in
          subst (λ l. Fits (member name d ms) values arrays (dealt (dims_of_all l) arrays)) same
          (dealt-member name d ms values s stands enough us (behind (drop (length (take (size_of s) values)) values) us there) arrays)

      by_enough : Behind → (s : List ℕ) → sizes_at d ≡ Some s → (e : Bool) → leb (size_of s) (length values) ≡ e
          → option_and_then next (if e then Some (first_of s values) else None) ≡ Some ts → Whole
      by_enough behind s stands false tells is = absurd (cc)
      by_enough behind s stands true tells is =
          by_rest behind s stands (leb-true (size_of s) (length values) tells)
          (framed_tensors bounds (drop (length (take (size_of s) values)) values) ms) refl is

      by_sizes : Behind → (s : Option (List ℕ)) → sizes_at d ≡ s
          → option_and_then next (option_and_then (frame.dealt values) s) ≡ Some ts → Whole
      by_sizes behind None stands is = absurd (cc)
      by_sizes behind (Some s) stands is = by_enough behind s stands (leb (size_of s) (length values)) refl is

-- a request keeps the tensors that it is read over
tree_asked-inputs : (f : Fields) (p : Profile) (workers block : ℕ) (named : Named) (a : Asked)
    → unlocated (tree_asked f p workers block named) ≡ Ok a → a.inputs ≡ named.tensors
tree_asked-inputs f p workers block named a is = by_expression (below (field (codes "expr")) (expression_at p named 0 f.expr)) is
  where
    by_expression : (r : Result Expression Located) → unlocated (and_then r (λ found. Ok (record {
      workers = workers;
      block = block;
      inputs = named.tensors;
      bounds = p.bounds;
      bindings = found.bindings;
      term = found.tree.term;
    }))) ≡ Ok a → a.inputs ≡ named.tensors
    by_expression (Err found) is = absurd (cc)
    by_expression (Ok found) is =
        let made : Asked =
        record { workers = workers; block = block; inputs = named.tensors; bounds = p.bounds; bindings = found.bindings; term = found.tree.term } in
        let same : made ≡ a = cc in
        ap (λ b. b.inputs) (sym same)

module _ (values : List ℤ) (arrays : List (List ℤ)) where
  -- what is asked over arrays, and over all of them joined, where they are dealt
  record IsAskedOver (us : List Contents) (y z : Result Asked Fault) : Type 0 where
    pub same : y ≡ z
    pub inputs : (b : Asked) → y ≡ Ok b → b.inputs ≡ us
    pub long : length (joined arrays) ≡ length values

  abbrev FollowsBy : Result (List Contents) Refusal → Result Asked Fault → Result Asked Fault → Type 0
  FollowsBy (Ok us) y z = IsAskedOver us y z
  FollowsBy (Err f) y z = y ≡ Err BadTensor

  abbrev Follows : Result Asked Fault → Result Asked Fault → Result Asked Fault → Type 0
  Follows x y z = (a : Asked) → x ≡ Ok a → FollowsBy (dealt (dims_of_all a.inputs) arrays) y z

  Follows-and_then : {A : Type 0} (found : Result A Located) (f g h : A → Result Asked Located)
      → ((x : A) → Follows (unlocated (f x)) (unlocated (g x)) (unlocated (h x)))
      → Follows (unlocated (and_then found f)) (unlocated (and_then found g)) (unlocated (and_then found h))
  Follows-and_then (Ok x) f g h follows = follows x
  Follows-and_then (Err found) f g h follows = λ a is. absurd (cc)

  module _ (f : Fields) (p : Profile) (workers block : ℕ) where
    -- what is asked over tensors, or the fault of none
    abbrev over : List (List ℕ) → List Step → Option (List Contents) → Result Asked Fault
    over names place ts =
        unlocated (and_then (below (field (codes "inputs"))
        (ok_or (option_map (λ ts. record { names = names; tensors = ts }) ts) (record { fault = BadTensor; place = place })))
        (tree_asked f p workers block))

    over-inputs : (names : List (List ℕ)) (place : List Step) (us : List Contents) (b : Asked)
        → over names place (Some us) ≡ Ok b → b.inputs ≡ us
    over-inputs names place us b is = tree_asked-inputs f p workers block (record { names = names; tensors = us }) b is

    Follows-members : (ms : Members) (k l m : List Step) (ts : Option (List Contents)) → framed_tensors p.bounds values ms ≡ ts
        → Follows (over (names_in ms) k ts) (over (names_in ms) l (array_tensors p.bounds arrays ms))
        (over (names_in ms) m (framed_tensors p.bounds (joined arrays) ms))
    Follows-members ms k l m None there = λ a is. absurd (cc)
    Follows-members ms k l m (Some ts) there = λ a is.
        subst (λ us. FollowsBy (dealt (dims_of_all us) arrays) (over (names_in ms) l (array_tensors p.bounds arrays ms))
        (over (names_in ms) m (framed_tensors p.bounds (joined arrays) ms)))
        (sym (over-inputs (names_in ms) k ts a is))
        (by_dealt (dealt (dims_of_all ts) arrays) (dealt-members p.bounds ms values ts there arrays))
      where
        by_dealt : (r : Result (List Contents) Refusal) → Fits p.bounds ms values arrays r
            → FollowsBy r (over (names_in ms) l (array_tensors p.bounds arrays ms)) (over (names_in ms) m (framed_tensors p.bounds (joined arrays) ms))
        by_dealt (Err e) none = ap (over (names_in ms) l) none
        by_dealt (Ok us) fits =
            record {
              same = ap (over (names_in ms) l) fits.apart ∙ ap (over (names_in ms) m) (sym fits.behind);
              inputs = λ b is. over-inputs (names_in ms) l us b (ap (over (names_in ms) l) (sym fits.apart) ∙ is);
              long = fits.long;
            }

    Follows-inputs : Follows (unlocated (inputs_asked (frame_inputs values) f p workers block))
        (unlocated (inputs_asked (array_inputs arrays) f p workers block))
        (unlocated (inputs_asked (frame_inputs (joined arrays)) f p workers block))
    Follows-inputs =
        by_object (as_object f.inputs) (option_map_or (bad_framed p.bounds values) (as_object f.inputs) [])
        (option_map_or (bad_array p.bounds arrays) (as_object f.inputs) [])
        (option_map_or (bad_framed p.bounds (joined arrays)) (as_object f.inputs) [])
      where
        read : (Members → Option (List Contents)) → List Step → Option Members → Result Asked Fault
        read tensors place ms =
            unlocated (and_then (below (field (codes "inputs"))
            (ok_or (option_and_then (λ ms. option_map (λ ts. record { names = names_in ms; tensors = ts }) (tensors ms)) ms)
            (record { fault = BadTensor; place = place })))
            (tree_asked f p workers block))

        by_object : (ms : Option Members) (k l m : List Step)
            → Follows (read (framed_tensors p.bounds values) k ms) (read (array_tensors p.bounds arrays) l ms)
            (read (framed_tensors p.bounds (joined arrays)) m ms)
        by_object None k l m = λ a is. absurd (cc)
        by_object (Some ms) k l m = Follows-members ms k l m (framed_tensors p.bounds values ms) refl

  Follows-fields : (f : Fields) → Follows (unlocated (fields_asked frame_profile_of (frame_inputs values) f)) (unlocated (fields_asked frame_profile_of (array_inputs arrays) f))
      (unlocated (fields_asked frame_profile_of (frame_inputs (joined arrays)) f))
  Follows-fields f =
      Follows-and_then (ok_or (profile_in frame_profile_of f) (at (field (codes "version")) BadVersion))
      (workers_asked (frame_inputs values) f) (workers_asked (array_inputs arrays) f) (workers_asked (frame_inputs (joined arrays)) f)
      (λ p. Follows-and_then (ok_or (within 1 p.workers f.workers) (at (field (codes "workers")) BadWorkers))
      (block_asked (frame_inputs values) f p) (block_asked (array_inputs arrays) f p) (block_asked (frame_inputs (joined arrays)) f p)
      (λ workers. Follows-and_then (ok_or (within 1 p.block f.block) (at (field (codes "block")) BadBlock))
      (inputs_asked (frame_inputs values) f p workers) (inputs_asked (array_inputs arrays) f p workers)
      (inputs_asked (frame_inputs (joined arrays)) f p workers)
      (λ block. Follows-inputs f p workers block)))

  Follows-text : (header : List ℕ) → Follows (unlocated (text_asked frame_profile_of (frame_inputs values) header)) (unlocated (text_asked frame_profile_of (array_inputs arrays) header))
      (unlocated (text_asked frame_profile_of (frame_inputs (joined arrays)) header))
  Follows-text header =
      Follows-and_then (data_of header) (data_asked frame_profile_of (frame_inputs values)) (data_asked frame_profile_of (array_inputs arrays)) (data_asked frame_profile_of (frame_inputs (joined arrays)))
      (λ d. Follows-and_then (ok_or (fields_of d) (here BadField)) (fields_asked frame_profile_of (frame_inputs values)) (fields_asked frame_profile_of (array_inputs arrays))
      (fields_asked frame_profile_of (frame_inputs (joined arrays))) Follows-fields)

  pub plan-answers : (header : List ℕ) (a : Asked) → request_of_frame header values ≡ Ok a → length (joined arrays) ≤ values_limit header
      → answer_of_plan (prepared_of a) arrays ≡ answer_of_arrays header arrays
  plan-answers header a is few =
      by_length (nat_lt (values_limit header) (length values)) is
    where
      y : Result Asked Fault
      y = unlocated (text_asked frame_profile_of (array_inputs arrays) header)

      z : Result Asked Fault
      z = unlocated (text_asked frame_profile_of (frame_inputs (joined arrays)) header)

      short : nat_lt (values_limit header) (length (joined arrays)) ≡ false
      short = le-ltb (values_limit header) (length (joined arrays)) few

      apart : request_of_arrays header arrays ≡ y
      apart = rw short refl

      behind : request_of_frame header (joined arrays) ≡ z
      behind = rw short refl

      by_answer : (us : List Contents) (r : Result Asked Fault) → ((b : Asked) → r ≡ Ok b → b.inputs ≡ us) → AskAlike (Ok a) r
          → Ok (tensor_of a.term (worked_out a.bindings us)) ≡ or_fault asked_tensor r
      by_answer us (Err g) inputs alike = absurd alike
      by_answer us (Ok b) inputs alike = rw (alike.term, alike.bindings, inputs b refl) refl

      by_dealt : (r : Result (List Contents) Refusal) → FollowsBy r y z → tensor_over (prepared_of a) r ≡ or_fault asked_tensor y
      by_dealt (Err f) other = ap (or_fault asked_tensor) (sym other)
      by_dealt (Ok us) asked =
          let alike : AskAlike (request_of_frame header values) (request_of_frame header (joined arrays)) =
          AskAlike-frame values (joined arrays) (sym asked.long) header in
          let first : AskAlike (Ok a) (request_of_frame header (joined arrays)) =
          subst (λ x. AskAlike x (request_of_frame header (joined arrays))) is alike in
          let second : AskAlike (Ok a) y = subst (λ x. AskAlike (Ok a) x) (behind ∙ sym asked.same) first in
          by_answer us y asked.inputs second

      by_length : (is_long : Bool) → unlocated (if is_long then Err (here TooLong) else text_asked frame_profile_of (frame_inputs values) header) ≡ Ok a
          → answer_of_plan (prepared_of a) arrays ≡ answer_of_arrays header arrays
      by_length true is = absurd (cc)
      by_length false is =
          by_dealt (dealt (dims_of_all a.inputs) arrays) (Follows-text header a is) ∙ ap (or_fault asked_tensor) (sym apart)

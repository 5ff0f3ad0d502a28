-- A value has at most one member more than its text has bytes.
use Rattle.std.proofs.Common.{◌≡◌, ℕ, suc, ◌+◌, ◌≤◌, List, [], ◌∷◌, length, Bool, true, false}
use Rattle.std.proofs.Common.{Option, Some, None, option_map, option_and_then, Ordering, Less, Equal}
use Rattle.std.proofs.Common.{Greater, subst, if◌then◌else◌, codes, arith, ℤ, drop, ap, Ok}
use Rattle.std.specs.Prelude.{⊤}
use Rattle.std.specs.Ordering.{nat_cmp, match_ordering}
use Rattle.std.specs.Cmp.Lexicographic.{slice_cmp}
use Rattle.std.specs.Str.{is_utf8}
use Rattle.json.specs.Token.{Token}
use Rattle.json.specs.Lex.{tokens}
use Rattle.json.specs.Json as json
use Rattle.serde_json.specs.Data.{Data, null, boolean, number, string, array, object, item}
use Rattle.serde_json.specs.Data.{Members, no_members, member, put}
use Rattle.serde_json.specs.Events.{members_len}
use Rattle.serde_json.specs.Find.{get_member, get, as_object}
use Rattle.serde_json.specs.Read.{number_of, of_json, of_items, of_members, max_depth, read}
use Rattle.tensor_ops.specs.Bounds.{Bounds}
use Rattle.tensor_ops.specs.Contents.{Contents}
use Rattle.expr_reader.specs.Arrays.{array_tensor, array_tensors}
use Rattle.expr_reader.specs.private.Behind.{Source, in_text, behind, apart, tensors_by, place_by, naming_by}
use Rattle.expr_reader.specs.private.Counted.{member_count, count_in_items, count_in_members}
use Rattle.expr_reader.specs.Fields.{Fields, has_members, cons_of, fields_of, reading}
use Rattle.expr_reader.specs.Frame.{none_left, framed_tensor, framed_tensors}
use Rattle.expr_reader.specs.Place.{Step}
use Rattle.expr_reader.specs.Tensors.{Named, tensor_in, tensors_in, names_in, named_by, or_place}
use Rattle.expr_reader.proofs.Grammar as tree
use Rattle.expr_reader.proofs.Grammar.{tree_count, Fits, Fits-more, Fits-value}
use Rattle.expr_reader.proofs.Tokens.{length-tokens}

-- what is there has at most n
abbrev AtMost : {A : Type 0} → (A → ℕ) → ℕ → Option A → Type 0
AtMost f n None = ⊤
AtMost f n (Some a) = f a ≤ n

AtMost-option_map : {A B : Type 0} (f : A → ℕ) (g : B → ℕ) (m n : ℕ) (h : A → B) → ((a : A) → f a ≤ m → g (h a) ≤ n)
    → (o : Option A) → AtMost f m o → AtMost g n (option_map h o)
AtMost-option_map f g m n h le None x = tt
AtMost-option_map f g m n h le (Some a) x = le a x

AtMost-and_then : {A B : Type 0} (f : A → ℕ) (g : B → ℕ) (m n : ℕ) (h : A → Option B) → ((a : A) → f a ≤ m → AtMost g n (h a))
    → (o : Option A) → AtMost f m o → AtMost g n (option_and_then h o)
AtMost-and_then f g m n h le None x = tt
AtMost-and_then f g m n h le (Some a) x = le a x

AtMost-none : {A : Type 0} (o : Option A) → AtMost (λ a. 0) 0 o
AtMost-none None = tt
AtMost-none (Some a) = omega arith

count_in_members-match_ordering : (o : Ordering) (a b c : Members) (n : ℕ) → count_in_members a ≤ n → count_in_members b ≤ n
    → count_in_members c ≤ n → count_in_members (match_ordering o a b c) ≤ n
count_in_members-match_ordering Less a b c n p q r = p
count_in_members-match_ordering Equal a b c n p q r = q
count_in_members-match_ordering Greater a b c n p q r = r

-- one more member, or another value at its name
count_in_members-put : (name : List ℕ) (d : Data) (ms : Members)
    → count_in_members (put name d ms) ≤ suc (member_count d + count_in_members ms)
count_in_members-put name d no_members = omega arith
count_in_members-put name d (member other e ms) =
    count_in_members-match_ordering (slice_cmp nat_cmp name other) (member name d (member other e ms)) (member other d ms)
    (member other e (put name d ms)) (suc (member_count d + count_in_members (member other e ms))) (omega arith) (omega arith)
    (omega (arith, count_in_members-put name d ms))

-- the values of a tree have no more members than it
mutual
  AtMost-of_json : (j : json.Json) (n : ℕ) → tree_count j ≤ n → AtMost member_count n (of_json j)
  AtMost-of_json json.null n h = omega arith
  AtMost-of_json (json.boolean b) n h = omega arith
  AtMost-of_json (json.number s) n h = AtMost-option_map (λ a. 0) member_count 0 n number (λ a x. omega arith) (number_of s) (AtMost-none (number_of s))
  AtMost-of_json (json.string s) n h = omega arith
  AtMost-of_json (json.array js) n h = AtMost-option_map count_in_items member_count n n array (λ a x. x) (of_items js) (AtMost-of_items js n h)
  AtMost-of_json (json.object ms) n h =
      AtMost-option_map count_in_members member_count n n object (λ a x. x) (of_members ms no_members) (AtMost-of_members ms no_members n (omega arith))

  AtMost-of_items : (js : json.Items) (n : ℕ) → tree.count_in_items js ≤ n → AtMost count_in_items n (of_items js)
  AtMost-of_items json.no_items n h = omega arith
  AtMost-of_items (json.item j js) n h =
      AtMost-and_then member_count count_in_items (tree_count j) n (λ d. option_map (item d) (of_items js))
      (λ d x. AtMost-option_map count_in_items count_in_items (tree.count_in_items js) n (item d) (λ ds y. omega arith) (of_items js)
      (AtMost-of_items js (tree.count_in_items js) (omega arith)))
      (of_json j) (AtMost-of_json j (tree_count j) (omega arith))

  AtMost-of_members : (ms : json.Members) (found : Members) (n : ℕ) → tree.count_in_members ms + count_in_members found ≤ n
      → AtMost count_in_members n (of_members ms found)
  AtMost-of_members json.no_members found n h = omega arith
  AtMost-of_members (json.member name j ms) found n h =
      AtMost-and_then member_count count_in_members (tree_count j) n (λ d. of_members ms (put name d found))
      (λ d x. AtMost-of_members ms (put name d found) n (omega (arith, count_in_members-put name d found)))
      (of_json j) (AtMost-of_json j (tree_count j) (omega arith))

AtMost-if_last : (n : ℕ) (o : Option (json.Json × List Token)) → Fits tree_count n o
    → AtMost tree_count n (option_and_then (λ p. json.if_last p.0 p.1) o)
AtMost-if_last n None h = tt
AtMost-if_last n (Some (j, [])) h = omega arith
AtMost-if_last n (Some (j, t ∷ r)) h = tt

AtMost-read : (text : List ℕ) → AtMost member_count (suc (length text)) (read text)
AtMost-read text =
    let n = suc (length text) in
    AtMost-and_then tree_count member_count n n of_json (λ j x. AtMost-of_json j n x) _
    (AtMost-if_last n _ (Fits-more tree_count (length (tokens text)) n _ (length-tokens text) (Fits-value max_depth (tokens text))))

AtMost-if : {A : Type 0} (f : A → ℕ) (n : ℕ) (b : Bool) (o : Option A) → AtMost f n o → AtMost f n (if b then o else None)
AtMost-if f n true o h = h
AtMost-if f n false o h = tt

pub member_count-reading : (text : List ℕ) (d : Data) → reading text ≡ Some d → member_count d ≤ suc (length text)
member_count-reading text d is =
    subst (AtMost member_count (suc (length text))) is (AtMost-if member_count (suc (length text)) (is_utf8 text) (read text) (AtMost-read text))

AtMost-match_ordering : (o : Ordering) (a b c : Option Data) (n : ℕ) → AtMost member_count n a → AtMost member_count n b
    → AtMost member_count n c → AtMost member_count n (match_ordering o a b c)
AtMost-match_ordering Less a b c n p q r = p
AtMost-match_ordering Equal a b c n p q r = q
AtMost-match_ordering Greater a b c n p q r = r

-- a member has no more than the object
AtMost-get_member : (name : List ℕ) (ms : Members) (n : ℕ) → count_in_members ms ≤ n → AtMost member_count n (get_member name ms)
AtMost-get_member name no_members n h = tt
AtMost-get_member name (member other e ms) n h =
    AtMost-match_ordering (slice_cmp nat_cmp name other) (get_member name ms) (Some e) (get_member name ms) n
    (AtMost-get_member name ms n (omega arith)) (omega arith) (AtMost-get_member name ms n (omega arith))

AtMost-get : (name : List ℕ) (d : Data) → AtMost member_count (member_count d) (get name d)
AtMost-get name null = tt
AtMost-get name (boolean b) = tt
AtMost-get name (number x) = tt
AtMost-get name (string s) = tt
AtMost-get name (array ds) = tt
AtMost-get name (object ms) = AtMost-get_member name ms (count_in_members ms) (omega arith)

-- the members of a request's inputs
abbrev inputs_count : Fields → ℕ
inputs_count f = member_count f.inputs

-- the inputs have no more members than the whole
AtMost-five : (version workers block inputs expr : Option Data) (n : ℕ) → AtMost member_count n inputs
    → AtMost inputs_count n (option_and_then (λ v. option_and_then (λ w. option_and_then (λ b. option_and_then (λ i. option_map (λ e.
    record { version = v; workers = w; block = b; inputs = i; expr = e }) expr) inputs) block) workers) version)
AtMost-five None workers block inputs expr n h = tt
AtMost-five (Some v) None block inputs expr n h = tt
AtMost-five (Some v) (Some w) None inputs expr n h = tt
AtMost-five (Some v) (Some w) (Some b) None expr n h = tt
AtMost-five (Some v) (Some w) (Some b) (Some i) None n h = tt
AtMost-five (Some v) (Some w) (Some b) (Some i) (Some e) n h = h

AtMost-fields_of : (d : Data) → AtMost inputs_count (member_count d) (fields_of d)
AtMost-fields_of d =
    AtMost-if inputs_count (member_count d) (has_members 5 d) _
    (AtMost-five (get (codes "version") d) (get (codes "workers") d) (get (codes "block") d) (get (codes "inputs") d) (get (codes "expr") d)
    (member_count d) (AtMost-get (codes "inputs") d))

pub member_count-fields_of : (d : Data) (f : Fields) → fields_of d ≡ Some f → member_count f.inputs ≤ member_count d
member_count-fields_of d f is = subst (AtMost inputs_count (member_count d)) is (AtMost-fields_of d)

-- an object has no more members than are counted
members_len-le-count : (ms : Members) → members_len ms ≤ count_in_members ms
members_len-le-count no_members = omega arith
members_len-le-count (member name d ms) = omega (arith, members_len-le-count ms)

pub members_len-as_object : (d : Data) (ms : Members) → as_object d ≡ Some ms → members_len ms ≤ member_count d
members_len-as_object d ms is = subst (AtMost members_len (member_count d)) is (all d)
  where
    all : (d : Data) → AtMost members_len (member_count d) (as_object d)
    all null = tt
    all (boolean b) = tt
    all (number x) = tt
    all (string s) = tt
    all (array ds) = tt
    all (object ms) = members_len-le-count ms

-- there are no more tensors than members
AtMost-cons_of : (head : Option Contents) (rest : Option (List Contents)) (m n : ℕ) → suc m ≤ n
    → AtMost length m rest → AtMost length n (cons_of head rest)
AtMost-cons_of None rest m n more h = tt
AtMost-cons_of (Some x) rest m n more h =
    AtMost-option_map length length m n (λ xs. x ∷ xs) (λ xs few. omega arith) rest h

AtMost-tensors_in : (bounds : Bounds) (ms : Members)
    → AtMost length (count_in_members ms) (tensors_in bounds ms)
AtMost-tensors_in bounds no_members = omega arith
AtMost-tensors_in bounds (member name d ms) =
    AtMost-cons_of (tensor_in bounds d) (tensors_in bounds ms) (count_in_members ms)
    (count_in_members (member name d ms)) (omega arith) (AtMost-tensors_in bounds ms)

AtMost-none_left : (values : List ℤ) → AtMost length 0 (none_left values)
AtMost-none_left [] = omega arith
AtMost-none_left (v ∷ vs) = tt

AtMost-framed_tensors : (bounds : Bounds) (values : List ℤ) (ms : Members)
    → AtMost length (count_in_members ms) (framed_tensors bounds values ms)
AtMost-framed_tensors bounds values no_members = AtMost-none_left values
AtMost-framed_tensors bounds values (member name d ms) =
    AtMost-and_then (λ t. 0) length 0 (count_in_members (member name d ms))
    (λ t. option_map (λ ts. t ∷ ts) (framed_tensors bounds (drop (length t.values) values) ms))
    (λ t none. AtMost-option_map length length (count_in_members ms) (count_in_members (member name d ms))
    (λ ts. t ∷ ts) (λ ts few. omega arith) (framed_tensors bounds (drop (length t.values) values) ms)
    (AtMost-framed_tensors bounds (drop (length t.values) values) ms))
    (framed_tensor bounds values d) (AtMost-none (framed_tensor bounds values d))

AtMost-array_tensors : (bounds : Bounds) (arrays : List (List ℤ)) (ms : Members)
    → AtMost length (count_in_members ms) (array_tensors bounds arrays ms)
AtMost-array_tensors bounds [] no_members = omega arith
AtMost-array_tensors bounds [] (member name d ms) = tt
AtMost-array_tensors bounds (values ∷ arrays) no_members = tt
AtMost-array_tensors bounds (values ∷ arrays) (member name d ms) =
    AtMost-and_then (λ t. 0) length 0 (count_in_members (member name d ms))
    (λ t. option_map (λ ts. t ∷ ts) (array_tensors bounds arrays ms))
    (λ t none. AtMost-option_map length length (count_in_members ms) (count_in_members (member name d ms))
    (λ ts. t ∷ ts) (λ ts few. omega arith) (array_tensors bounds arrays ms) (AtMost-array_tensors bounds arrays ms))
    (array_tensor bounds values d) (AtMost-none (array_tensor bounds values d))

AtMost-tensors_by : (source : Source) (bounds : Bounds) (ms : Members)
    → AtMost length (count_in_members ms) (tensors_by source bounds ms)
AtMost-tensors_by in_text bounds ms = AtMost-tensors_in bounds ms
AtMost-tensors_by (behind values) bounds ms = AtMost-framed_tensors bounds values ms
AtMost-tensors_by (apart arrays) bounds ms = AtMost-array_tensors bounds arrays ms

-- what is read is there
or_place-Ok : (place : Members → List Step) (d : Data) (named : Option Named) (n : Named) → or_place place d named ≡ Ok n → named ≡ Some n
or_place-Ok place d None n is = (cc)
or_place-Ok place d (Some m) n is = let same : m ≡ n = cc in ap Some same

pub length-naming_by : (left : Source) (bounds : Bounds) (d : Data) (n : Named) → naming_by left bounds d ≡ Ok n
    → length n.tensors ≤ member_count d
length-naming_by left bounds d n is =
    subst (AtMost tensor_count (member_count d)) (or_place-Ok (place_by left bounds) d (named_by (tensors_by left bounds) d) n is) (all d)
  where
    tensor_count : Named → ℕ
    tensor_count named = length named.tensors

    all : (d : Data) → AtMost tensor_count (member_count d) (named_by (tensors_by left bounds) d)
    all null = tt
    all (boolean b) = tt
    all (number x) = tt
    all (string s) = tt
    all (array ds) = tt
    all (object ms) =
        AtMost-option_map length tensor_count (count_in_members ms) (count_in_members ms)
        (λ tensors. record { names = names_in ms; tensors = tensors }) (λ tensors few. few)
        (tensors_by left bounds ms) (AtMost-tensors_by left bounds ms)

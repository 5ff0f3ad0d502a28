-- Bindings are done one after the other.
use Rattle.std.proofs.Common.{◌≡◌, ℕ, ◌+◌, ◌*◌, ◌^◌, ◌<◌, ◌≤◌, List, [], ◌∷◌, ◌++◌, length, map, take, drop, get_or}
use Rattle.std.proofs.Common.{Ok, IsOk, is_ok, refl, ap, sym, ◌∙◌, subst, arith}
use Rattle.std.proofs.lemmas.List.{length-append, drop_more, drop_all, take_more, take_all, map_push, append_assoc}
use Rattle.std.specs.Result.{result_unwrap_or}
use Rattle.expr_reader.specs.Bindings.{term_under, terms_under, nodes_in}
use Rattle.expr_reader.specs.Contents.{Contents}
use Rattle.expr_reader.specs.Legal.{widest, IsPossible}
use Rattle.expr_reader.specs.Result.{dims_of, shape_of}
use Rattle.expr_reader.specs.Sequence.{worked_out}
use Rattle.expr_reader.specs.Term.{Term, input, nodes_of}
use Rattle.expr_reader.specs.Tree.{term_of}
use Rattle.expr_reader.specs.Value.{tensor_of}
use Rattle.expr_reader.specs.declared.binding.Binding.{Binding}
use Rattle.expr_reader.specs.declared.request.Request.{Request}
use Rattle.expr_reader.proofs.Bindings.{AreBound-request, some-nodes}
use Rattle.tensor_ops.specs.Bounds.{Bounds}
use Rattle.tensor_ops.proofs.Widening.{dims_of-wider}
use Rattle.tensor_terms.proofs.MoreTensors.{dims_of-same_dims}
use Rattle.tensor_runner.specs.private.Known.{dims_of_all}
use Rattle.tensor_runner.specs.private.Left.{AreLeft, AreCounted}
use Rattle.tensor_runner.specs.Work.{steps_over, steps_of_all}
use Rattle.tensor_runner.proofs.DimsAlone.{steps_over-same}

-- dims within bounds are dims
pub dims-wider : (bounds : Bounds) (t : Term) (ts : List Contents) (d : List ℕ) → IsPossible bounds
    → dims_of bounds t ts ≡ Ok d → dims_of widest t ts ≡ Ok d
dims-wider bounds t ts d possible is =
    (dims_of-wider bounds possible t ts).same (ap is_ok is) ∙ is

-- what is left, as the first and those behind it
pub left-more : (bindings : List Binding) (k : ℕ) (b : Binding) → k < length bindings
    → b ≡ get_or bindings k b → drop k bindings ≡ b ∷ drop (k + 1) bindings
left-more bindings k b more is =
    drop_more bindings k b more ∙ ap (λ x. x ∷ drop (k + 1) bindings) (sym is)

pub AreLeft-first : {bounds : Bounds} {last : Term} {whole all : List Contents} {b : Binding}
    (bindings : List Binding) (k : ℕ) → AreLeft bounds (drop k bindings) last whole all
    → k < length bindings → b ≡ get_or bindings k b
    → AreLeft bounds (b ∷ drop (k + 1) bindings) last whole all
AreLeft-first {bounds} {last} {whole} {all} {b} bindings k are more is =
    subst (λ l. AreLeft bounds l last whole all) (left-more bindings k b more is) are

module _ {bounds : Bounds} {b : Binding} {left : List Binding} {last : Term} {whole all : List Contents}
    (are : AreLeft bounds (b ∷ left) last whole all) where
  pub AreLeft-next : AreLeft bounds left last whole (all ++ tensor_of (term_under b) all ∷ [])
  AreLeft-next =
      let made : Contents = tensor_of (term_under b) all in
      record {
        bound = are.bound.1;
        gives = are.gives;
        few = omega (
          arith,
          are.few,
          some-nodes (term_under b),
          length-append all (made ∷ []),
        );
      }

  -- the dims of its tensor are its own
  pub dims-first : IsPossible bounds → dims_of widest (term_under b) all ≡ Ok b.dims
  dims-first possible = dims-wider bounds (term_under b) all b.dims possible are.bound.0.dims

  pub shape-first : IsPossible bounds → shape_of (term_under b) all ≡ b.dims
  shape-first possible = ap (λ r. result_unwrap_or r []) (dims-first possible)

-- at the start all bindings of a request are left
pub AreLeft-start : (r : Request) → AreLeft r.inputs.bounds r.bindings.items (term_of r.expr)
    (worked_out (terms_under r.bindings.items) r.inputs.tensors) r.inputs.tensors
AreLeft-start r = record { bound = AreBound-request r; gives = refl; few = r.few }

-- where none is left, the tensors are the whole
pub AreLeft-end : {bounds : Bounds} {left : List Binding} {last : Term} {whole all : List Contents}
    → AreLeft bounds left last whole all → left ≡ [] → all ≡ whole
AreLeft-end {all = all} are none =
    ap (λ l. worked_out (terms_under l) all) (sym none) ∙ are.gives

-- what is known of dims is what is there
module _ (known all : List Contents) {ds : List (List ℕ)} (knows : dims_of_all known ≡ ds)
    (has : dims_of_all all ≡ ds) where
  same-known : dims_of_all known ≡ dims_of_all all
  same-known = knows ∙ sym has

  pub IsOk-known : (t : Term) (d : List ℕ) → dims_of widest t all ≡ Ok d
      → IsOk (dims_of widest t known)
  IsOk-known t d is = ap is_ok (dims_of-same_dims widest t known all same-known ∙ is)

  pub steps_over-known : (t : Term) → steps_over known t ≡ steps_over all t
  steps_over-known t = steps_over-same known all same-known t

-- one more is counted
module _ {bounds : Bounds} {inputs : List Contents} {bindings : List Binding} {last : Term}
    {done steps : ℕ} {all : List Contents} {b : Binding}
    (are : AreCounted bounds inputs bindings last done steps all) (more : done < length bindings)
    (is : b ≡ get_or bindings done b) where
  abbrev behind : List Binding
  behind = drop (done + 1) bindings

  abbrev made : Contents
  made = tensor_of (term_under b) all

  at_first : drop done bindings ≡ b ∷ behind
  at_first = left-more bindings done b more is

  left-first : AreLeft bounds (b ∷ behind) last (worked_out (terms_under bindings) inputs) all
  left-first = AreLeft-first bindings done are.left more is

  pub dims-here : IsPossible bounds → dims_of widest (term_under b) all ≡ Ok b.dims
  dims-here = dims-first left-first

  dims-next : IsPossible bounds
      → dims_of_all (all ++ made ∷ [])
      ≡ dims_of_all inputs ++ map (λ b. b.dims) (take (done + 1) bindings)
  dims-next possible =
      map_push (λ t. t.dims) all made
      ∙ ap (λ d. dims_of_all all ++ d ∷ []) (shape-first left-first possible)
      ∙ ap (λ l. l ++ b.dims ∷ []) are.dims
      ∙ append_assoc (dims_of_all inputs) (map (λ b. b.dims) (take done bindings)) (b.dims ∷ [])
      ∙ ap (λ l. dims_of_all inputs ++ l)
      (sym (map_push (λ b. b.dims) (take done bindings) b)
      ∙ ap (map (λ b. b.dims))
      (ap (λ x. take done bindings ++ x ∷ []) is ∙ sym (take_more bindings done b more)))

  pub AreCounted-next : (own : ℕ) → IsPossible bounds → own ≡ steps_over all (term_under b)
      → own ≤ 2 ^ 63 * nodes_of (term_under b)
      → AreCounted bounds inputs bindings last (done + 1) (steps + own) (all ++ made ∷ [])
  AreCounted-next own possible counts small =
      let first : steps + steps_of_all (terms_under (b ∷ behind)) all
      ≡ steps_of_all (terms_under bindings) inputs =
      subst (λ l. steps + steps_of_all (terms_under l) all ≡ steps_of_all (terms_under bindings) inputs)
      at_first are.counts in
      let below : steps + 2 ^ 63 * nodes_in (terms_under (b ∷ behind))
      ≤ 2 ^ 63 * nodes_in (terms_under bindings) =
      subst (λ l. steps + 2 ^ 63 * nodes_in (terms_under l) ≤ 2 ^ 63 * nodes_in (terms_under bindings))
      at_first are.small in
      record {
        left = AreLeft-next left-first;
        dims = dims-next possible;
        counts = omega (arith, first, counts);
        small = omega (arith, below, small);
      }

-- where no more is left, all are counted
module _ {bounds : Bounds} {inputs : List Contents} {bindings : List Binding} {last : Term}
    {done steps : ℕ} {all : List Contents}
    (are : AreCounted bounds inputs bindings last done steps all) (past : length bindings ≤ done) where
  pub all-end : all ≡ worked_out (terms_under bindings) inputs
  all-end = AreLeft-end are.left (drop_all done bindings past)

  pub dims-end : dims_of_all all ≡ dims_of_all inputs ++ map (λ b. b.dims) bindings
  dims-end =
      are.dims ∙ ap (λ l. dims_of_all inputs ++ map (λ b. b.dims) l) (take_all done bindings past)

  pub steps-end : steps ≡ steps_of_all (terms_under bindings) inputs
  steps-end =
      let none : steps + 0 ≡ steps_of_all (terms_under bindings) inputs =
      subst (λ l. steps + steps_of_all (terms_under l) all ≡ steps_of_all (terms_under bindings) inputs)
      (drop_all done bindings past) are.counts in
      omega (arith, none)

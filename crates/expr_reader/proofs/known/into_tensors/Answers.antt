use Rattle.std.proofs.Common.{◌≡◌, ◌++◌, [], ◌∷◌, List, length, refl, ap, sym, ◌∙◌, arith, rules, append_assoc}
use Rattle.std.proofs.lemmas.List.{append-nil}
use Rattle.std.specs.Vec.Iter.{into_iter_items}
use Rattle.expr_reader.proofs.known.into_tensors.Goals as goal

empty : {A : Type 0} (xs : List A) → length xs ≡ 0 → xs ≡ []
empty [] none = refl
empty (x ∷ xs) none = absurd (omega arith)

pub loop-one-preserved : goal.loop-one-preserved
loop-one-preserved c =
    let done = c.loop-one.tensors.items in
    let rest = into_iter_items c.next.new.self in
    record {
      can = tt;
      finite = tt;
      all =
          ap (λ l. l ++ rest) (c.in_ok-push.ensures.items ∙ ap (λ t. done ++ t ∷ []) c.in_ok-tensor.ensures)
          ∙ append_assoc done (c.in-Some.one ∷ []) rest
          ∙ ap (λ l. done ++ l) (sym c.in-Some.ensures.steps.0)
          ∙ c.loop-one.invariant.all;
    }

pub returns : goal.returns
returns c =
    let done = c.loop-one.tensors.items in
    let rest = into_iter_items c.loop-one.one-iterator in
    let none : length rest ≡ 0 = search rules in
    sym (append-nil done) ∙ ap (λ l. done ++ l) (sym (empty rest none)) ∙ c.loop-one.invariant.all

use Rattle.std.proofs.Common.{◌≡◌, ℕ, List, [], ◌∷◌, ◌++◌, suc, ◌+◌, ◌-◌, length, get_or, take, drop, ap, sym, ◌∙◌, arith, add-one, append_assoc}
use Rattle.std.proofs.lemmas.List.{take_all, length-drop, set_split}
use Rattle.tensor_terms.specs.Shaped.{legal_dims}
use Rattle.tensor_terms.proofs.dims.concatenation_dims.joined_dims.Goals as goal

pub returns : goal.returns
returns c =
    let k : ℕ = c.args.axis in
    let xs : List ℕ = c.args.firsts.now in
    let x : ℕ = get_or xs k 0 + get_or c.args.seconds.now k 0 in
    let behind : List ℕ = take (length xs - (k + 1)) (drop (k + 1) xs) in
    let front : c.extend.new.numbers.items ≡ take k xs = c.extend.ensures ∙ ap (λ l. l ++ take k xs) c.new-joined.ensures in
    let back : behind ≡ drop (suc k) xs =
    take_all (length xs - (k + 1)) (drop (k + 1) xs) (omega (arith, length-drop (k + 1) xs)) ∙ ap (λ n. drop n xs) (add-one k) in
    c.legal_dims.ensures
    ∙ ap (legal_dims c.args.bounds)
    (c.as_slice.ensures.value ∙ c.extend-2.ensures
    ∙ ap (λ l. l ++ behind) (c.push.ensures.items ∙ ap (λ l. l ++ x ∷ []) front)
    ∙ append_assoc (take k xs) (x ∷ []) behind ∙ ap (λ l. take k xs ++ x ∷ l) back ∙ sym (set_split xs k x c.requires.axis))

use Rattle.std.proofs.Common.{◌≡◌, ℕ, suc, ◌+◌, ◌-◌, ◌<◌, List, [], ◌∷◌, ◌++◌, length, take, drop}
use Rattle.std.proofs.Common.{set}
use Rattle.std.proofs.Common.{add-one, append_assoc, length-append, refl, ap, sym, ◌∙◌, arith}
use Rattle.std.proofs.lemmas.List.{length-take-le, set_split, take_rest}
use Rattle.tensor_ops.proofs.lowering.interleaving.zeroes.Goals as goal

-- the sizes before the axis, the new one, and those behind it
sizes-joined : (k x : ℕ) (ds sizes none front more whole : List ℕ) → sizes ≡ ds → k < length ds
    → none ≡ [] → front ≡ none ++ take k sizes → more ≡ front ++ x ∷ []
    → whole ≡ more ++ take (length sizes - (k + 1)) (drop (k + 1) sizes) → whole ≡ set ds k x
sizes-joined k x ds sizes none front more whole is within empty first next last =
    let rest : take (length sizes - (k + 1)) (drop (k + 1) sizes) ≡ drop (suc k) ds =
    take_rest sizes (k + 1) ∙ ap (λ n. drop n sizes) (add-one k) ∙ ap (drop (suc k)) is in
    last ∙ ap (λ l. more ++ l) rest ∙ ap (λ l. l ++ drop (suc k) ds) next
    ∙ append_assoc front (x ∷ []) (drop (suc k) ds)
    ∙ ap (λ l. l ++ x ∷ drop (suc k) ds) (first ∙ ap (λ l. l ++ take k sizes) empty
    ∙ ap (take k) is)
    ∙ sym (set_split ds k x within)

front-length : (k : ℕ) (ds sizes : List ℕ) → sizes ≡ ds → k < length ds → length (take k sizes) ≡ k
front-length k ds sizes is within = length-take-le k sizes (omega (arith, ap length is))

pub extend-requires : goal.extend-requires
extend-requires c =
    omega (
      arith,
      front-length c.args.axis c.args.dims.now c.as_slice-sizes.result.now
          c.as_slice-sizes.ensures.value c.requires.axis,
      ap length c.new-zeroes.ensures,
      c.as_slice-sizes.ensures.legal.rank,
    )

pub slice_bounds-extend-end : goal.slice_bounds-extend-end
slice_bounds-extend-end c =
    sym (front-length c.args.axis c.args.dims.now c.as_slice-sizes.result.now
    c.as_slice-sizes.ensures.value c.requires.axis)

pub push-requires : goal.push-requires
push-requires c = (
  omega arith,
  omega (
    arith,
    ap length (c.extend.ensures ∙ ap (λ l. l ++ take c.args.axis c.as_slice-sizes.result.now)
        c.new-zeroes.ensures),
    front-length c.args.axis c.args.dims.now c.as_slice-sizes.result.now
        c.as_slice-sizes.ensures.value c.requires.axis,
    c.as_slice-sizes.ensures.legal.rank,
  ),
)

pub extend-requires-2 : goal.extend-requires-2
extend-requires-2 c =
    let sizes = c.as_slice-sizes.result.now in
    let rest = take (length sizes - (c.args.axis + 1)) (drop (c.args.axis + 1) sizes) in
    let whole = sizes-joined c.args.axis c.args.size c.args.dims.now sizes _ _ _ _
    c.as_slice-sizes.ensures.value c.requires.axis c.new-zeroes.ensures c.extend.ensures
    c.push.ensures.items refl in
    omega (
      arith,
      length-append c.push.new.self.items rest,
      ap length whole,
      c.requires.legal.rank,
    )

pub returns-clause-dims : goal.returns-clause-dims
returns-clause-dims c =
    c.in-Ok.ensures.ok.0 ∙ c.as_slice.ensures.value
    ∙ sizes-joined c.args.axis c.args.size c.args.dims.now c.as_slice-sizes.result.now _ _ _ _
    c.as_slice-sizes.ensures.value c.requires.axis c.new-zeroes.ensures c.extend.ensures
    c.push.ensures.items c.extend-2.ensures

pub returns-clause-count : goal.returns-clause-count
returns-clause-count c = c.size-count.ensures.value

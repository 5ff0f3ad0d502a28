use Rattle.std.proofs.Common.{◌≡◌, suc, ◌+◌, ◌-◌, true, false, ◌&&◌, length, take, drop, nat_eq, ap, sym, ◌∙◌, arith, add-one}
use Rattle.std.proofs.lemmas.List.{take_all, length-drop}
use Rattle.std.specs.Cmp.Lexicographic.{pointwise}
use Rattle.tensor_terms.proofs.Interleavings.{remove-parts}
use Rattle.tensor_terms.proofs.dims.concatenation_dims.agree_but_at.Goals as goal

pub returns-then-eq : goal.returns-then-eq
returns-then-eq c =
    let k = c.args.axis in
    let xs = c.args.firsts.now in
    let ys = c.args.seconds.now in
    let front : pointwise nat_eq (take k xs) (take k ys) ≡ true = sym c.eq.ensures ∙ c.if-eq.true in
    let first : take (length xs - (k + 1)) (drop (k + 1) xs) ≡ drop (suc k) xs =
    take_all (length xs - (k + 1)) (drop (k + 1) xs) (omega (arith, length-drop (k + 1) xs)) ∙ ap (λ n. drop n xs) (add-one k) in
    let second : take (length ys - (k + 1)) (drop (k + 1) ys) ≡ drop (suc k) ys =
    take_all (length ys - (k + 1)) (drop (k + 1) ys) (omega (arith, length-drop (k + 1) ys)) ∙ ap (λ n. drop n ys) (add-one k) in
    c.eq-then-eq.ensures ∙ ap (λ l. pointwise nat_eq l (take (length ys - (k + 1)) (drop (k + 1) ys))) first
    ∙ ap (λ l. pointwise nat_eq (drop (suc k) xs) l) second
    ∙ sym (remove-parts k xs ys c.requires.same c.requires.axis ∙ ap (λ b. b && pointwise nat_eq (drop (suc k) xs) (drop (suc k) ys)) front)

pub returns-else-eq : goal.returns-else-eq
returns-else-eq c =
    let k = c.args.axis in
    let xs = c.args.firsts.now in
    let ys = c.args.seconds.now in
    let front : pointwise nat_eq (take k xs) (take k ys) ≡ false = sym c.eq.ensures ∙ c.if-eq.false in
    c.if-eq.false
    ∙ sym (remove-parts k xs ys c.requires.same c.requires.axis ∙ ap (λ b. b && pointwise nat_eq (drop (suc k) xs) (drop (suc k) ys)) front)

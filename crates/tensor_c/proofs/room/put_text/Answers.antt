use Rattle.std.proofs.Common.{◌≡◌, ◌<◌, length, ap, sym, ◌∙◌, ◌++◌, arith, suc, ◌+◌, drop, set, [], ◌∷◌, ℕ, List, pos, to_z, w64}
use Rattle.std.proofs.Common.{append_assoc, length-append, refl}
use Rattle.std.proofs.lemmas.Bool.{le-leb}
use Rattle.std.proofs.lemmas.Grind.{common_steps}
use Rattle.std.proofs.lemmas.List.{drop-set}
use Rattle.tensor_c.specs.Call.{begun}
use Rattle.tensor_c.proofs.room.put_text.Goals as goal

pub returns : goal.returns
returns c =
    let text : List ℕ = c.args.text.now in
    let to : List ℕ = c.args.to.now in
    let room : length text < length to = omega (arith, c.if-to-text.false) in
    let count : to_z w64 (length text) ≡ pos (length text) = grind (arith, common_steps) in
    let first : begun text (set to (length text) 0) ≡ text ++ 0 ∷ drop (length text + 1) to =
    ap (λ xs. text ++ xs) (drop-set to (length text) 0 room) in
    let second : begun (text ++ 0 ∷ []) to ≡ text ++ 0 ∷ drop (length text + 1) to = simp (append_assoc, length-append) in
    let name : c.put_first.new.to ≡ begun (text ++ 0 ∷ []) to = c.put_first.ensures ∙ first ∙ sym second in
    rw (count, name, le-leb (suc (length text)) (length to) (omega (arith, room))) refl

-- No list of a World is longer than there are workers.
use Rattle.std.proofs.Common.{◌≡◌, ℕ, zero, suc, ◌≤◌, ◌<◌, List, [], ◌∷◌, length, ap, refl, ◌∙◌}
use Rattle.std.proofs.Common.{⊎_elim, arith}
use Rattle.std.proofs.lemmas.Bool.{cases_eq}
use Rattle.std.proofs.lemmas.List.{get_or_past}
use Rattle.event_word.specs.declared.phase.Phase.{Phase}
use Rattle.event_word.specs.declared.phase.Phase.TheVariants.{Running, Pre, Stacked, Ended}
use Rattle.event_word.specs.Lists.{times, without}
use Rattle.event_word.specs.World.{World, phase_of}
use Rattle.event_word.specs.Lawful.{waits, sleeps, stands, Lawful}
use Rattle.event_word.proofs.Lists.{one_if-same, length-without, times-without, times-without_other}
use Rattle.event_word.proofs.Keeps.{sleeps-le-one}

-- a list of numbers below n, none twice, has at most n
pub length-le-bound : (n : ℕ) (xs : List ℕ) → ((m : ℕ) → times m xs ≤ 1)
    → ((m : ℕ) → n ≤ m → times m xs ≡ 0) → length xs ≤ n
length-le-bound zero [] once below = omega arith
length-le-bound zero (x ∷ xs) once below = let a = below x (omega arith) in
    let b = one_if-same x x refl in absurd (omega arith)
length-le-bound (suc n) xs once below = ⊎_elim
    (λ none. let r = length-le-bound n xs once (λ m le. ⊎_elim (λ e. ap (λ k. times k xs) e ∙ none)
    (λ ne. below m (omega arith)) (cases_eq m n)) in omega arith)
    (λ some. let here : 0 < times n xs = omega arith in let l = length-without n xs here in
    let t = times-without n xs here in let o = once n in
    let r = length-le-bound n (without n xs)
    (λ m. ⊎_elim
    (λ e. let q = ap (λ k. times k (without n xs)) e in omega arith)
    (λ ne. let q = times-without_other m n xs ne in let p = once m in omega arith)
    (cases_eq m n))
    (λ m le. ⊎_elim
    (λ e. let q = ap (λ k. times k (without n xs)) e in omega arith)
    (λ ne. times-without_other m n xs ne ∙ below m (omega arith))
    (cases_eq m n)) in omega arith)
    (cases_eq (times n xs) 0)

waits-le-one : (p : Phase) → waits p ≤ 1
waits-le-one Running = omega arith
waits-le-one Pre = omega arith
waits-le-one Stacked = omega arith
waits-le-one Ended = omega arith

pub length-pre : (w : World) → Lawful w → length w.pre ≤ length w.phases
length-pre w r = length-le-bound (length w.phases) w.pre
    (λ n. let a = r.waiting n in omega (arith, waits-le-one (phase_of w n)))
    (λ n le. r.waiting n ∙ ap waits (get_or_past w.phases n Ended le))

-- seats that stand in a World are at most its workers
pub length-standing : (w : World) (seats : List ℕ) → Lawful w
    → ((n : ℕ) → times n seats ≤ stands w n) → length seats ≤ length w.phases
length-standing w seats r within = length-le-bound (length w.phases) seats
    (λ n. let a = r.standing n in let b = within n in omega (arith, sleeps-le-one (phase_of w n)))
    (λ n le. let a = r.standing n ∙ ap sleeps (get_or_past w.phases n Ended le) in
    let b = within n in omega arith)

-- What a seat that looks at rows has passed.
use Rattle.std.proofs.Common.{◌≡◌, ◌∙◌, ℕ, ◌+◌, ◌<◌, true, false, ap, sym, subst, arith, ⊎_elim}
use Rattle.std.proofs.lemmas.Bool.{cases_eq}
use Rattle.std.proofs.lemmas.List.{get_or-set_other}
use Rattle.event_count.specs.declared.view.Card.{Card}
use Rattle.event_count.specs.Kinds.{has_passed_row}
use Rattle.event_count.specs.Rows.Gains.{passing}

-- after a row was found empty, the other rows are as they were
still_passed : (c : Card) (row other found : ℕ) → found ≡ 0 → (other ≡ row → ⊥)
    → has_passed_row c other ≡ true → has_passed_row (passing c row found) other ≡ true
still_passed c row other found none apart was =
    subst (λ n. has_passed_row (passing c row n) other ≡ true) (sym none)
    (get_or-set_other c.passed row other true false apart ∙ was)

-- a seat that has passed the first rows, and then found the next row empty, has passed them all
pub has_now : (c d : Card) (row found : ℕ) → d ≡ passing c row found → found ≡ 0
    → has_passed_row d row ≡ true
    → ((other : ℕ) → other < row → has_passed_row c other ≡ true)
    → (other : ℕ) → other < row + 1 → has_passed_row d other ≡ true
has_now c d row found is none now before other less =
    ⊎_elim (λ same. ap (λ n. has_passed_row d n) same ∙ now)
    (λ apart. ap (λ e. has_passed_row e other) is
    ∙ still_passed c row other found none apart (before other (omega (arith, less, apart))))
    (cases_eq other row)

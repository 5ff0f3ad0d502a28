-- What the stop word says.
use Rattle.std.proofs.Common.{◌≡◌, ◌≢◌, ◌↔◌, ℕ, Bool, true, false, IsTrue, arith, refl}
use Rattle.std.proofs.lemmas.Bool.{false≢true}
use Rattle.worker_pool.specs.Stops.{open_word, cancelled_word, closing_word, last_word}

-- what was last stored before closing is 2 exactly where the pool was cancelled
pub told-cancelled : (cancelled : Bool) (word : ℕ) → word ≡ last_word cancelled
    → IsTrue cancelled ↔ (word ≡ cancelled_word)
told-cancelled true word is = ((λ _. is), λ _. refl)
told-cancelled false word is =
    ((λ on. absurd (false≢true on)), λ two. absurd (omega arith))

-- a pool that is closing isn't open
pub closing-not_open : (cancelled : Bool) (word : ℕ) → word ≡ closing_word cancelled
    → word ≢ open_word
closing-not_open true word is none = absurd (omega arith)
closing-not_open false word is none = absurd (omega arith)

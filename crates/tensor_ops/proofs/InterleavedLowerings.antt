-- Concatenations and pads lowered, and their terms.
use Rattle.std.proofs.Common.{◌≡◌, ℕ, suc, ◌+◌, ◌*◌, ◌/◌, ◌%◌, ◌<◌, ℤ, List, take, drop}
use Rattle.std.proofs.Common.{true, false, Ok, refl, ap, sym, ◌∙◌, arith, add-one}
use Rattle.std.proofs.lemmas.Bool.{lt-ltb, le-ltb}
use Rattle.std.proofs.lemmas.Nat.{div-add-mod'}
use Rattle.std.proofs.Math.Nat.{mod-lt}
use Rattle.tensor_shape.specs.Index.{size_of, index_of}
use Rattle.tensor_shape.specs.Legal.{widest}
use Rattle.tensor_terms.specs.Concatenation.{joined_dims, concatenated_dims, concatenated}
use Rattle.tensor_ops.specs.private.Meaning.{meaning, count_of, IsSound}
use Rattle.tensor_ops.specs.private.Lowering.{Gives, meaning_at}
use Rattle.tensor_values.specs.Interleaving.{is_of_first, firsts_before, seconds_before, interleaved, HaveTurns}
use Rattle.tensor_ops.specs.declared.lowered.Lowered.{Lowered}
use Rattle.tensor_values.proofs.InTurns.{interleaved-second, interleaved-first}
use Rattle.tensor_terms.proofs.Interleavings.{IsConcatenation, concatenation-known, concatenated-interleaved, have_turns-concatenation, size_of-concatenation, size_of-parts}

-- an interleaving with one operand alone
second-alone : (v w : ℕ) (f g : ℕ → ℤ) (p : ℕ) → v ≡ 0 → g p ≡ interleaved v w f g p
second-alone v w f g p none =
    let second : is_of_first v w p ≡ false = le-ltb (p % (v + w)) v (omega arith) in
    let width : v + w ≡ w = omega arith in
    let place : p ≡ seconds_before v w p =
    sym (div-add-mod' p w) ∙ ap (λ n. p / n * w + p % n) (sym width) ∙ omega (arith, none) in
    ap g place ∙ interleaved-second v w f g p second

first-alone : (v w : ℕ) (f g : ℕ → ℤ) (p : ℕ) → w ≡ 0 → 0 < v → f p ≡ interleaved v w f g p
first-alone v w f g p none some =
    let below : p % (v + w) < v + w = mod-lt p (omega arith) in
    let first : is_of_first v w p ≡ true = lt-ltb (p % (v + w)) v (omega (arith, below)) in
    let width : v + w ≡ v = omega arith in
    let place : p ≡ firsts_before v w p =
    sym (div-add-mod' p v) ∙ ap (λ n. p / n * v + p % n) (sym width) ∙ omega (arith, below) in
    ap f place ∙ interleaved-first v w f g p first

module _ (axis : ℕ) (ds es rs : List ℕ) (a b : Lowered) (dims : concatenated_dims widest axis ds es ≡ Ok rs) where
  known : IsConcatenation axis ds es
  known = concatenation-known axis ds es (rw dims refl)

  result : rs ≡ joined_dims axis ds es
  result = (cc (dims, known.dims))

  -- what has the values of both in turns gives those of the concatenation
  pub gives-interleaved : (whole : Lowered) (v w : ℕ) → v ≡ size_of (take (axis + 1) ds) → w ≡ size_of (take (axis + 1) es)
      → IsSound whole → count_of whole ≡ size_of ds + size_of es
      → ((p : ℕ) → p < size_of rs → meaning whole p ≡ interleaved v w (meaning a) (meaning b) p)
      → Gives whole rs (concatenated axis ds (meaning_at a ds) (meaning_at b es))
  gives-interleaved whole v w first second sound count means = record {
    sound = sound;
    count = count ∙ sym (ap size_of result ∙ size_of-concatenation axis ds es known.same known.in_rank known.others);
    means = λ p below.
        let inside : p < size_of (joined_dims axis ds es) = omega (arith, ap size_of result) in
        means p below
        ∙ ap (λ n. interleaved n w (meaning a) (meaning b) p) (first ∙ ap (λ n. size_of (take n ds)) (add-one axis))
        ∙ ap (λ n. interleaved (size_of (take (suc axis) ds)) n (meaning a) (meaning b) p) (second ∙ ap (λ n. size_of (take n es)) (add-one axis))
        ∙ sym (concatenated-interleaved axis ds es (meaning a) (meaning b) p known.same known.in_rank known.others inside)
        ∙ ap (λ l. concatenated axis ds (meaning_at a ds) (meaning_at b es) (index_of l p)) (sym result);
  }

  -- both in turns
  pub gives-turns : (x y whole : Lowered) (v w : ℕ) → x ≡ a → y ≡ b → IsSound a → IsSound b → count_of a ≡ size_of ds → count_of b ≡ size_of es
      → v ≡ size_of (take (axis + 1) ds) → w ≡ size_of (take (axis + 1) es) → 0 < v → 0 < w
      → (IsSound x → IsSound y → HaveTurns v w (count_of x) (count_of y) → IsSound whole)
      → count_of whole ≡ count_of x + count_of y
      → ((p : ℕ) → meaning whole p ≡ interleaved v w (meaning x) (meaning y) p)
      → Gives whole rs (concatenated axis ds (meaning_at a ds) (meaning_at b es))
  gives-turns x y whole v w same_x same_y sound_a sound_b count_a count_b first second some_v some_w sound count means =
      let left : count_of x ≡ size_of ds = ap count_of same_x ∙ count_a in
      let right : count_of y ≡ size_of es = ap count_of same_y ∙ count_b in
      let v_is : v ≡ size_of (take (suc axis) ds) = first ∙ ap (λ n. size_of (take n ds)) (add-one axis) in
      let w_is : w ≡ size_of (take (suc axis) es) = second ∙ ap (λ n. size_of (take n es)) (add-one axis) in
      let turns : HaveTurns v w (count_of x) (count_of y) =
      rw (v_is, w_is, left, right)
      (have_turns-concatenation axis ds es known.same known.in_rank known.others (omega (arith, v_is)) (omega (arith, w_is))) in
      gives-interleaved whole v w first second (sound (rw same_x sound_a) (rw same_y sound_b) turns) (count ∙ omega (arith, left, right))
      (λ p below. means p ∙ ap (λ z. interleaved v w (meaning z) (meaning y) p) same_x ∙ ap (λ z. interleaved v w (meaning a) (meaning z) p) same_y)

  -- one alone, where the other has no places in a turn
  pub gives-second : (v : ℕ) → v ≡ size_of (take (axis + 1) ds) → v ≡ 0 → IsSound b → count_of b ≡ size_of es
      → Gives b rs (concatenated axis ds (meaning_at a ds) (meaning_at b es))
  gives-second v first none sound count =
      let w : ℕ = size_of (take (axis + 1) es) in
      let empty : size_of (take (suc axis) ds) ≡ 0 = ap (λ n. size_of (take n ds)) (sym (add-one axis)) ∙ sym first ∙ none in
      let no_places : size_of ds ≡ 0 = sym (size_of-parts (suc axis) ds) ∙ ap (λ n. n * size_of (drop (suc axis) ds)) empty ∙ omega arith in
      gives-interleaved b v w first refl sound (count ∙ omega (arith, no_places))
      (λ p below. second-alone v w (meaning a) (meaning b) p none)

  pub gives-first : (v w : ℕ) → v ≡ size_of (take (axis + 1) ds) → w ≡ size_of (take (axis + 1) es) → w ≡ 0 → 0 < v
      → IsSound a → count_of a ≡ size_of ds
      → Gives a rs (concatenated axis ds (meaning_at a ds) (meaning_at b es))
  gives-first v w first second none some sound count =
      let empty : size_of (take (suc axis) es) ≡ 0 = ap (λ n. size_of (take n es)) (sym (add-one axis)) ∙ sym second ∙ none in
      let no_places : size_of es ≡ 0 = sym (size_of-parts (suc axis) es) ∙ ap (λ n. n * size_of (drop (suc axis) es)) empty ∙ omega arith in
      gives-interleaved a v w first second sound (count ∙ omega (arith, no_places))
      (λ p below. first-alone v w (meaning a) (meaning b) p none some)

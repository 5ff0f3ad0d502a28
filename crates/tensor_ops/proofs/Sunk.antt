-- Sunk expressions: how far views reach, and values by index lists.
use Rattle.std.proofs.Common.{◌≡◌, ℕ, ℤ, ◌+◌, ◌-◌, ◌*◌, ◌^◌, ◌<◌, ◌≤◌, List, [], ◌∷◌, if◌then◌else◌}
use Rattle.std.proofs.Common.{refl, ap, sym, subst, ◌∙◌, arith, inl, inr, Bool, Result, IfOk}
use Rattle.std.proofs.lemmas.Bool.{cases_Bool}
use Rattle.std.proofs.lemmas.Result.{IfOk-weaker}
use Rattle.std.proofs.Math.Nat.{mul-le-mul_left}
use Rattle.tensor_shape.specs.Index.{size_of, place, index_of}
use Rattle.tensor_shape.proofs.Places.{place-index_of}
use Rattle.tensor_shape.specs.Legal.{most_elements}
use Rattle.tensor_views.specs.Composing.{span, IsComposition}
use Rattle.tensor_loops.specs.Loops.{either_way, selected}
use Rattle.tensor_ops.specs.private.Meaning.{meaning, count_of, IsSound, IsListOf}
use Rattle.tensor_values.specs.Values.{value_in}
use Rattle.tensor_ops.specs.private.Lowering.{Gives, HasValues, IsOperationOn, meaning_at}
use Rattle.tensor_values.specs.Scalars.{applied}
use Rattle.tensor_ops.specs.private.Sinking.{Follows, meaning_along}
use Rattle.tensor_values.specs.Interleaving.{interleaved, HaveTurns}
use Rattle.tensor_views.specs.View.{view_size, reached, steps_to}
use Rattle.tensor_loops.specs.declared.loops.SelectOrder.{SelectOrder}
use Rattle.tensor_values.specs.declared.operations.UnaryScalar.{UnaryScalar}
use Rattle.tensor_values.specs.declared.operations.BinaryScalar.{BinaryScalar}
use Rattle.tensor_ops.specs.declared.lowered.Lowered.{Lowered}
use Rattle.tensor_views.specs.declared.axis.Axis.{Axis}
use Rattle.tensor_values.proofs.InTurns.{interleaved-other}
use Rattle.tensor_views.proofs.Views.{reached-row, row-within, mul-next}

-- the last place along axes
abbrev last_place : List Axis → ℕ
last_place [] = 0
last_place (a ∷ rest) = (if a.reversed then 0 else a.size - 1) + a.size * last_place rest

last-below : (size m i q : ℕ) → i < size → q < m → i + size * q < size * m
last-below size m i q below row =
    let next : 0 + (q + 1) ≤ m = omega arith in
    omega (arith, mul-next size 0 q, mul-le-mul_left size next)

last-row : (a : Axis) (rest : List Axis) (start i q : ℕ) → i < a.size → steps_to a i ≡ a.size - 1 → q < view_size rest
    → reached start rest q ≡ start + span rest
    → (i + a.size * q < view_size (a ∷ rest)) × (reached start (a ∷ rest) (i + a.size * q) ≡ start + span (a ∷ rest))
last-row a rest start i q below steps row slower =
    let at : reached start (a ∷ rest) (i + a.size * q) ≡ start + span rest + (a.size - 1) * a.step =
    reached-row start a rest q i below ∙ ap (λ n. n + steps_to a i * a.step) slower ∙ ap (λ n. start + span rest + n * a.step) steps in
    let whole : start + span rest + (a.size - 1) * a.step ≡ start + ((a.size - 1) * a.step + span rest) = omega arith in
    (last-below a.size (view_size rest) i q below row, at ∙ whole)

-- which is a place, and reaches as far as the axes span
last-within : (axes : List Axis) (start : ℕ) → 0 < view_size axes
    → (last_place axes < view_size axes) × (reached start axes (last_place axes) ≡ start + span axes)
last-within [] start some = (omega arith, omega arith)
last-within (a ∷ rest) start some =
    let row = row-within start a rest 0 some in
    let slower = last-within rest start (omega (arith, row.1)) in
    let q : ℕ = last_place rest in
    let P : ℕ → Type 0 = λ n. (n < view_size (a ∷ rest)) × (reached start (a ∷ rest) n ≡ start + span (a ∷ rest)) in
    elim (cases_Bool a.reversed) [
      | inl reversed ↦
          let place : last_place (a ∷ rest) ≡ 0 + a.size * q = rw reversed refl in
          let steps : steps_to a 0 ≡ a.size - 1 = rw reversed (omega arith) in
          subst P (sym place) (last-row a rest start 0 q row.0 steps slower.0 slower.1)
      | inr rises ↦
          let place : last_place (a ∷ rest) ≡ a.size - 1 + a.size * q = rw rises refl in
          let steps : steps_to a (a.size - 1) ≡ a.size - 1 = rw rises refl in
          subst P (sym place) (last-row a rest start (a.size - 1) q (omega (arith, row.0)) steps slower.0 slower.1)
    ]

-- so a view that stays below a number spans no more
pub span-below : (axes : List Axis) (start limit : ℕ) → 0 < view_size axes
    → ((p : ℕ) → p < view_size axes → reached start axes p < limit) → start + span axes < limit
span-below axes start limit some inside =
    let last = last-within axes start some in
    omega (arith, last.1, inside (last_place axes) last.0)

-- values at places, by index lists
pub gives-followed : (lowered other : Lowered) (ds : List ℕ) → count_of other ≡ size_of ds
    → Follows lowered (count_of other) (meaning other) → Gives lowered ds (meaning_at other ds)
gives-followed lowered other ds count follows = record {
  sound = follows.sound;
  count = follows.count ∙ count;
  means = λ p below. follows.means p (omega (arith, count)) ∙ ap (meaning other) (sym (place-index_of ds p below));
}

-- two operands in turns that follow others follow those in turns
pub follows-interleaved : (v w : ℕ) (a b inner other x y r : Lowered) → HaveTurns v w (count_of a) (count_of b) → inner ≡ a → other ≡ b
    → Follows x (count_of inner) (meaning inner) → Follows y (count_of other) (meaning other)
    → Follows r (count_of x + count_of y) (interleaved v w (meaning x) (meaning y))
    → Follows r (count_of a + count_of b) (interleaved v w (meaning a) (meaning b))
follows-interleaved v w a b inner other x y r turns same_a same_b first second whole =
    let left : count_of x ≡ count_of a = first.count ∙ ap count_of same_a in
    let right : count_of y ≡ count_of b = second.count ∙ ap count_of same_b in
    record {
      sound = whole.sound;
      count = whole.count ∙ omega (arith, left, right);
      means = λ p below.
          whole.means p (omega (arith, left, right))
          ∙ interleaved-other v w (count_of a) (count_of b) turns (meaning x) (meaning y) (meaning a) (meaning b)
          (λ q inside. first.means q (omega (arith, ap count_of same_a)) ∙ ap (λ z. meaning z q) same_a)
          (λ q inside. second.means q (omega (arith, ap count_of same_b)) ∙ ap (λ z. meaning z q) same_b) p below;
    }

-- and a view over what follows a function follows it along the view
pub follows-along : (r lowered : Lowered) (places : ℕ) (at : ℕ → ℤ) (start : ℕ) (axes : List Axis)
    → Follows r (view_size axes) (meaning_along lowered start axes) → Follows lowered places at
    → ((p : ℕ) → p < view_size axes → reached start axes p < places)
    → Follows r (view_size axes) (λ p. at (reached start axes p))
follows-along r lowered places at start axes view follows inside = record {
  sound = view.sound;
  count = view.count;
  means = λ p below. view.means p below ∙ follows.means (reached start axes p) (inside p below);
}

-- what is asked of an expression that is sunk, and of one that is composed along axes
abbrev pub CanSink : Lowered → Type 0
CanSink a = IsSound a × ((0 < count_of a) × (count_of a ≤ most_elements))

abbrev pub CanCompose : Lowered → ℕ → List Axis → Type 0
CanCompose a start axes =
    IsSound a × ((count_of a ≤ most_elements) × ((0 < view_size axes) × ((view_size axes ≤ most_elements)
    × ((p : ℕ) → p < view_size axes → reached start axes p < count_of a))))

-- which a second operand with as many places can be where the first one can
pub settle-beside : (a b : Lowered) → count_of b ≡ count_of a → IsSound b → CanSink a → CanSink b
settle-beside a b same sound can = (sound, (rw same can.1.0, rw same can.1.1))

pub compose-beside : (a b : Lowered) (start : ℕ) (axes : List Axis) → count_of b ≡ count_of a → IsSound b → CanCompose a start axes
    → CanCompose b start axes
compose-beside a b start axes same sound can = (
  sound,
  (rw same can.1.0, (can.1.1.0, (can.1.1.1.0, λ p below. rw same (can.1.1.1.1 p below)))),
)

-- what a view in a view reads can be sunk, and composed along both as one
pub settle-walked : (a : Lowered) (start from : ℕ) (axes along : List Axis) → IsSound a → count_of a ≤ most_elements
    → ((p : ℕ) → p < view_size axes → reached start axes p < count_of a) → 0 < view_size along
    → ((p : ℕ) → p < view_size along → reached from along p < view_size axes) → CanSink a
settle-walked a start from axes along sound few reaches some inside =
    let read = reaches (reached from along 0) (inside 0 some) in
    (sound, (omega (arith, read), few))

pub compose-both : (a : Lowered) (start from composition : ℕ) (axes along both : List Axis) → IsSound a → count_of a ≤ most_elements
    → ((p : ℕ) → p < view_size axes → reached start axes p < count_of a)
    → 0 < view_size along → view_size along ≤ most_elements
    → ((p : ℕ) → p < view_size along → reached from along p < view_size axes)
    → IsComposition composition both from along start axes → CanCompose a composition both
compose-both a start from composition axes along both sound few reaches some short inside is = (
  sound,
  (
    few,
    (
      rw is.size some,
      (
        rw is.size short,
        λ p below.
            let within : p < view_size along = subst (λ n. p < n) is.size below in
            subst (λ n. n < count_of a) (sym (is.reaches p within)) (reaches (reached from along p) (inside p within)),
      ),
    ),
  ),
)

-- what follows an expression that is the same, or along the same axes
pub follows-same : (r inner a : Lowered) → inner ≡ a → Follows r (count_of inner) (meaning inner) → Follows r (count_of a) (meaning a)
follows-same r inner a same follows = subst (λ z. Follows r (count_of z) (meaning z)) same follows

-- or of as many places
pub follows-beside : (r : Lowered) (places others : ℕ) (at : ℕ → ℤ) → places ≡ others → Follows r places at → Follows r others at
follows-beside r places others at same follows = subst (λ n. Follows r n at) same follows

-- or along two views as one
pub follows-composed : (r a : Lowered) (start from composition : ℕ) (axes along both : List Axis) → IsComposition composition both from along start axes
    → Follows r (view_size both) (meaning_along a composition both)
    → Follows r (view_size along) (λ p. meaning a (reached start axes (reached from along p)))
follows-composed r a start from composition axes along both is follows = record {
  sound = follows.sound;
  count = follows.count ∙ is.size;
  means = λ p below. follows.means p (subst (λ n. p < n) (sym is.size) below) ∙ ap (meaning a) (is.reaches p below);
}

-- an operation over operands that follow functions
pub each-follows : {E : Type 0} (result : Result Lowered E) (o : UnaryScalar) (x : Lowered) (places : ℕ) (f : ℕ → ℤ) → Follows x places f
    → IfOk result (λ r. IsOperationOn r x (λ p. applied o (meaning x p))) → IfOk result (λ r. Follows r places (λ p. applied o (f p)))
each-follows result o x places f first =
    IfOk-weaker result (λ r. IsOperationOn r x (λ p. applied o (meaning x p))) (λ r. Follows r places (λ p. applied o (f p)))
    (λ r joined. record {
      sound = joined.sound;
      count = joined.count ∙ first.count;
      means = λ p below. joined.means p ∙ ap (applied o) (first.means p below);
    })

pub both-follow : {E : Type 0} (result : Result Lowered E) (o : BinaryScalar) (swapped : Bool) (x y : Lowered) (places : ℕ) (f g : ℕ → ℤ)
    → Follows x places f → Follows y places g
    → IfOk result (λ r. IsOperationOn r x (λ p. either_way o swapped (meaning x p) (meaning y p)))
    → IfOk result (λ r. Follows r places (λ p. either_way o swapped (f p) (g p)))
both-follow result o swapped x y places f g first second =
    IfOk-weaker result (λ r. IsOperationOn r x (λ p. either_way o swapped (meaning x p) (meaning y p)))
    (λ r. Follows r places (λ p. either_way o swapped (f p) (g p)))
    (λ r joined. record {
      sound = joined.sound;
      count = joined.count ∙ first.count;
      means = λ p below. joined.means p ∙ ap (λ v. either_way o swapped v (meaning y p)) (first.means p below)
          ∙ ap (either_way o swapped (f p)) (second.means p below);
    })

pub all-follow : {E : Type 0} (result : Result Lowered E) (o : SelectOrder) (x y z : Lowered) (places : ℕ) (f g h : ℕ → ℤ)
    → Follows x places f → Follows y places g → Follows z places h
    → IfOk result (λ r. IsOperationOn r x (λ p. selected o (meaning x p) (meaning y p) (meaning z p)))
    → IfOk result (λ r. Follows r places (λ p. selected o (f p) (g p) (h p)))
all-follow result o x y z places f g h first second third =
    IfOk-weaker result (λ r. IsOperationOn r x (λ p. selected o (meaning x p) (meaning y p) (meaning z p)))
    (λ r. Follows r places (λ p. selected o (f p) (g p) (h p)))
    (λ r joined. record {
      sound = joined.sound;
      count = joined.count ∙ first.count;
      means = λ p below. joined.means p ∙ ap (λ v. selected o v (meaning y p) (meaning z p)) (first.means p below)
          ∙ ap (λ v. selected o (f p) v (meaning z p)) (second.means p below)
          ∙ ap (selected o (f p) (g p)) (third.means p below);
    })

-- each of two parts is no more than both
pub first-few : (m n limit : ℕ) → m + n ≤ limit → m ≤ limit
first-few m n limit few = omega arith

pub second-few : (m n limit : ℕ) → m + n ≤ limit → n ≤ limit
second-few m n limit few = omega arith

pub some-below : {m n : ℕ} → m < n → 0 < n
some-below below = omega arith

-- two views are within bounds where each stays in what it is over
pub composition-takes : (a : Lowered) (start from : ℕ) (axes along given : List Axis) → given ≡ axes → count_of a ≤ most_elements
    → view_size axes ≤ most_elements → ((p : ℕ) → p < view_size axes → reached start axes p < count_of a) → 0 < view_size along
    → ((p : ℕ) → p < view_size along → reached from along p < view_size axes)
    → (0 < view_size given) × ((view_size given < 2 ^ 32) × ((from + span along < 2 ^ 32) × (start + span given < 2 ^ 32)))
composition-takes a start from axes along given same few fewer reaches some inside =
    let within = some-below (inside 0 some) in
    subst (λ l. (0 < view_size l) × ((view_size l < 2 ^ 32) × ((from + span along < 2 ^ 32) × (start + span l < 2 ^ 32)))) (sym same) (
      within,
      (
        omega (arith, fewer),
        (
          omega (arith, fewer, span-below along from (view_size axes) some inside),
          omega (arith, few, span-below axes start (count_of a) within reaches),
        ),
      ),
    )

-- the values of a list along axes whose places are those of dims
pub values-along : (lowered : Lowered) (items : List ℤ) (start : ℕ) (axes : List Axis) (ds : List ℕ)
    → IsListOf lowered items → view_size axes ≡ size_of ds
    → HasValues (view_size axes) (λ p. value_in items (reached start axes p)) ds
    (λ index. meaning_along lowered start axes (place ds index))
values-along lowered items start axes ds is size = record {
  whole = size;
  each = λ p below.
      sym (is.each (reached start axes p))
      ∙ ap (meaning_along lowered start axes) (sym (place-index_of ds p below));
}

-- and those of what follows an expression along them
pub values-followed : (count : ℕ) (of : ℕ → ℤ) (view lowered : Lowered) (start : ℕ)
    (axes : List Axis) (ds : List ℕ) → view_size axes ≡ size_of ds
    → Follows view (view_size axes) (meaning_along lowered start axes)
    → HasValues count of ds (meaning_at view ds)
    → HasValues count of ds (λ index. meaning_along lowered start axes (place ds index))
values-followed count of view lowered start axes ds size follows values = record {
  whole = values.whole;
  each = λ p below.
      values.each p below
      ∙ follows.means (place ds (index_of ds p)) (omega (arith, place-index_of ds p below, size));
}

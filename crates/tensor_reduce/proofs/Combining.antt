-- Values combined in parts: any grouping, any order, and the unit.
use Rattle.std.proofs.Common.{◌≡◌, ℕ, ℤ, ◌*◌, ◌+ℤ◌, ◌*ℤ◌, pos, List, [], ◌∷◌, true, false}
use Rattle.std.proofs.Common.{Bool, ◌&&◌, ◌||◌, refl, ap, sym, ◌∙◌, arith, rules}
use Rattle.std.specs.Int.{w64}
use Rattle.std.specs.Int.RustNames.{FitsSigned}
use Rattle.std.specs.List.{fold}
use Rattle.std.proofs.lemmas.Int.{int_wrap-add_left, int_wrap-add_right, int_wrap-mul_left}
use Rattle.std.proofs.lemmas.Int.{int_wrap-mul_right, int_wrap_fits, ints, clamps}
use Rattle.std.proofs.Math.IntN.{*ℤ_comm, +ℤ_comm, +ℤ_assoc}
use borrow.Author.Differences.{up, down, same_in, product_is}
use Rattle.tensor_ops.specs.Wrap.{wrap}
use Rattle.tensor_ops.specs.Combining.{unit, combine, combination}
use Rattle.tensor_ops.specs.Scalars.{is_true, truth}
use Rattle.tensor_ops.specs.Reducer.{Reducer}
use Rattle.tensor_ops.specs.Reducer.TheVariants.{Sum, Prod, Max, Min, All, Any}
use Rattle.tensor_reduce.specs.Reducers.{alone}

scaled : (k m n : ℕ) → m ≡ n → m * k ≡ n * k
scaled k m n same = ap (λ x. x * k) same

*ℤ-assoc : (x y z : ℤ) → (x *ℤ y) *ℤ z ≡ x *ℤ (y *ℤ z)
*ℤ-assoc x y z =
    let xy = product_is x y in
    let yz = product_is y z in
    let left = product_is (x *ℤ y) z in
    let right = product_is x (y *ℤ z) in
    let ups : up ((x *ℤ y) *ℤ z) ≡ up (x *ℤ (y *ℤ z)) =
    omega (
      arith,
      scaled (up z) _ _ xy.0,
      scaled (down z) _ _ xy.1,
      scaled (up x) _ _ yz.0,
      scaled (down x) _ _ yz.1,
    ) in
    let downs : down ((x *ℤ y) *ℤ z) ≡ down (x *ℤ (y *ℤ z)) =
    omega (
      arith,
      scaled (down z) _ _ xy.0,
      scaled (up z) _ _ xy.1,
      scaled (down x) _ _ yz.0,
      scaled (up x) _ _ yz.1,
    ) in
    same_in _ _ (omega (arith, ups, downs))

is_true-truth : (b : Bool) → is_true (truth b) ≡ b
is_true-truth true = refl
is_true-truth false = refl

and-assoc : (a b c : Bool) → (a && b) && c ≡ a && (b && c)
and-assoc true b c = refl
and-assoc false b c = refl

or-assoc : (a b c : Bool) → (a || b) || c ≡ a || (b || c)
or-assoc true b c = refl
or-assoc false b c = refl

and-comm : (a b : Bool) → a && b ≡ b && a
and-comm true true = refl
and-comm true false = refl
and-comm false true = refl
and-comm false false = refl

or-comm : (a b : Bool) → a || b ≡ b || a
or-comm true true = refl
or-comm true false = refl
or-comm false true = refl
or-comm false false = refl

pub combine-assoc : (r : Reducer) (x y z : ℤ)
    → combine r (combine r x y) z ≡ combine r x (combine r y z)
combine-assoc Sum x y z =
    int_wrap-add_left w64 (x +ℤ y) z ∙ ap wrap (+ℤ_assoc x y z)
    ∙ sym (int_wrap-add_right w64 x (y +ℤ z))
combine-assoc Prod x y z =
    int_wrap-mul_left w64 (x *ℤ y) z ∙ ap wrap (*ℤ-assoc x y z)
    ∙ sym (int_wrap-mul_right w64 x (y *ℤ z))
combine-assoc Max x y z = omega (arith, ints, clamps)
combine-assoc Min x y z = omega (arith, ints, clamps)
combine-assoc All x y z =
    ap (λ b. truth (b && is_true z)) (is_true-truth (is_true x && is_true y))
    ∙ ap truth (and-assoc (is_true x) (is_true y) (is_true z))
    ∙ ap (λ b. truth (is_true x && b)) (sym (is_true-truth (is_true y && is_true z)))
combine-assoc Any x y z =
    ap (λ b. truth (b || is_true z)) (is_true-truth (is_true x || is_true y))
    ∙ ap truth (or-assoc (is_true x) (is_true y) (is_true z))
    ∙ ap (λ b. truth (is_true x || b)) (sym (is_true-truth (is_true y || is_true z)))

pub combine-comm : (r : Reducer) (x y : ℤ) → combine r x y ≡ combine r y x
combine-comm Sum x y = ap wrap (+ℤ_comm x y)
combine-comm Prod x y = ap wrap (*ℤ_comm x y)
combine-comm Max x y = omega (arith, ints, clamps)
combine-comm Min x y = omega (arith, ints, clamps)
combine-comm All x y = ap truth (and-comm (is_true x) (is_true y))
combine-comm Any x y = ap truth (or-comm (is_true x) (is_true y))

pub combine-unit : (r : Reducer) (x : ℤ) → FitsSigned w64 x → combine r (unit r) x ≡ alone r x
combine-unit Sum x fits = ap wrap (omega (arith, ints)) ∙ int_wrap_fits w64 x fits
combine-unit Prod x fits = ap wrap (omega (arith, ints)) ∙ int_wrap_fits w64 x fits
combine-unit Max x fits = omega (arith, ints, clamps, fits)
combine-unit Min x fits = omega (arith, ints, clamps, fits)
combine-unit All x fits = refl
combine-unit Any x fits = refl

-- a value that a combination can have: the unit leaves it as it is
abbrev pub IsWhole : Reducer → ℤ → Type 0
IsWhole r x = combine r x (unit r) ≡ x

pub whole-unit : (r : Reducer) → IsWhole r (unit r)
whole-unit Sum = int_wrap_fits w64 (pos 0) (search rules)
whole-unit Prod = int_wrap_fits w64 (pos 1) (search rules)
whole-unit Max = refl
whole-unit Min = refl
whole-unit All = refl
whole-unit Any = refl

pub whole-combine : (r : Reducer) (x y : ℤ) → IsWhole r x → IsWhole r (combine r x y)
whole-combine r x y whole =
    combine-assoc r x y (unit r) ∙ ap (combine r x) (combine-comm r y (unit r))
    ∙ sym (combine-assoc r x (unit r) y) ∙ ap (λ v. combine r v y) whole

-- to combine values with what is there is to combine their own combination with it
combine-fold : (r : Reducer) (x y : ℤ) (values : List ℤ)
    → combine r x (fold (combine r) y values) ≡ fold (combine r) (combine r x y) values
combine-fold r x y [] = refl
combine-fold r x y (v ∷ values) =
    combine-fold r x (combine r y v) values
    ∙ ap (λ u. fold (combine r) u values) (sym (combine-assoc r x y v))

pub fold-combination : (r : Reducer) (x : ℤ) (values : List ℤ) → IsWhole r x
    → fold (combine r) x values ≡ combine r x (combination r values)
fold-combination r x values whole =
    ap (λ u. fold (combine r) u values) (sym whole) ∙ sym (combine-fold r x (unit r) values)

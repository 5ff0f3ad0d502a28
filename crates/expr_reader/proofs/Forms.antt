-- Arguments that stand one behind another.
use Rattle.std.proofs.Common.{◌≡◌, ◌⊎◌, ℕ, ◌+◌, List, [], ◌∷◌, length, get_or, ok_or, Result, Ok, Err}
use Rattle.std.proofs.Common.{refl, inl, inr, arith}
use Rattle.serde_json.specs.View.{view, items_view}
use Rattle.serde_json.specs.declared.value.Value.{Value}
use Rattle.expr_reader.specs.Arguments.{Form, Argument, Arguments, argument_in, arguments_at}
use Rattle.expr_reader.specs.Place.{Step, Located, index, at}
use Rattle.expr_reader.specs.Steps.{and_then, map_found}
use Rattle.expr_reader.specs.declared.fault.Fault.{Fault}
use Rattle.expr_reader.specs.declared.fault.Fault.TheVariants.{BadArgument, NoMemory}

-- the fault of what is said, at this place
abbrev pub IsUnread : {A : Type 0} → Result A Located → List Step → Fault → Type 0
IsUnread says place fault = (fault ≡ NoMemory) ⊎ (says ≡ Err (record { fault = fault; place = place }))

-- the fault of one thing is that of another
pub IsUnread-err : {A B : Type 0} (says : Result A Located) (more : Result B Located) (place : List Step) (fault : Fault)
    → IsUnread says place fault → ((l : Located) → says ≡ Err l → more ≡ Err l) → IsUnread more place fault
IsUnread-err says more place fault h err = elim h [
  | inl memory ↦ inl memory
  | inr found ↦ inr (err _ found)
]

-- an argument of a form, at its index
abbrev pub argument_at : ℕ → (f : Form) → Value → Result (Argument f) Located
argument_at i f v = ok_or (argument_in f (view v)) (at (index i) BadArgument)

-- no argument
pub none-made : (i : ℕ) (xs : List Value) → length xs ≡ 0 → {A : Type 0} (make : Arguments [] → A)
    → map_found make (arguments_at i [] (items_view xs)) ≡ Ok (make tt)
none-made i [] long make = refl
none-made i (x ∷ xs) long make = absurd (omega arith)

module _ (i : ℕ) (f : Form) (v : Value) where
  arguments_at-one : (xs : List Value) → length xs ≡ 1 → v ≡ get_or xs 0 v
      → arguments_at i (f ∷ []) (items_view xs) ≡ and_then (argument_at i f v) (λ x. Ok (x, tt))
  arguments_at-one [] long first = absurd (omega arith)
  arguments_at-one (x ∷ []) long first = rw first refl
  arguments_at-one (x ∷ y ∷ xs) long first = absurd (omega arith)

  module _ (xs : List Value) (long : length xs ≡ 1) (first : v ≡ get_or xs 0 v) {A : Type 0} (make : Arguments (f ∷ []) → A) where
    pub one-made : (x : Argument f) → argument_at i f v ≡ Ok x
        → map_found make (arguments_at i (f ∷ []) (items_view xs)) ≡ Ok (make (x, tt))
    one-made x is = rw (arguments_at-one xs long first, is) refl

    pub one-unread : (place : List Step) (fault : Fault) → IsUnread (argument_at i f v) place fault
        → IsUnread (map_found make (arguments_at i (f ∷ []) (items_view xs))) place fault
    one-unread place fault h =
        IsUnread-err (argument_at i f v) _ place fault h (λ l err. rw (arguments_at-one xs long first, err) refl)

  module _ (g : Form) (w : Value) where
    arguments_at-two : (xs : List Value) → length xs ≡ 2 → v ≡ get_or xs 0 v → w ≡ get_or xs 1 w
        → arguments_at i (f ∷ g ∷ []) (items_view xs)
        ≡ and_then (argument_at i f v) (λ x. map_found (λ ys. (x, ys)) (and_then (argument_at (i + 1) g w) (λ y. Ok (y, tt))))
    arguments_at-two [] long first second = absurd (omega arith)
    arguments_at-two (x ∷ []) long first second = absurd (omega arith)
    arguments_at-two (x ∷ y ∷ []) long first second = rw (first, second) refl
    arguments_at-two (x ∷ y ∷ z ∷ xs) long first second = absurd (omega arith)

    module _ (xs : List Value) (long : length xs ≡ 2) (first : v ≡ get_or xs 0 v) (second : w ≡ get_or xs 1 w)
        {A : Type 0} (make : Arguments (f ∷ g ∷ []) → A) where
      pub two-made : (x : Argument f) (y : Argument g) → argument_at i f v ≡ Ok x → argument_at (i + 1) g w ≡ Ok y
          → map_found make (arguments_at i (f ∷ g ∷ []) (items_view xs)) ≡ Ok (make (x, (y, tt)))
      two-made x y one two = rw (arguments_at-two xs long first second, one, two) refl

      pub two-unread-second : (x : Argument f) → argument_at i f v ≡ Ok x → (place : List Step) (fault : Fault)
          → IsUnread (argument_at (i + 1) g w) place fault
          → IsUnread (map_found make (arguments_at i (f ∷ g ∷ []) (items_view xs))) place fault
      two-unread-second x one place fault h =
          IsUnread-err (argument_at (i + 1) g w) _ place fault h
          (λ l err. rw (arguments_at-two xs long first second, one, err) refl)

  -- the first of two, whatever the second is
  pub two-unread-first : (g : Form) (xs : List Value) → length xs ≡ 2 → v ≡ get_or xs 0 v
      → {A : Type 0} (make : Arguments (f ∷ g ∷ []) → A) (place : List Step) (fault : Fault) → IsUnread (argument_at i f v) place fault
      → IsUnread (map_found make (arguments_at i (f ∷ g ∷ []) (items_view xs))) place fault
  two-unread-first g [] long first make place fault h = absurd (omega arith)
  two-unread-first g (x ∷ []) long first make place fault h = absurd (omega arith)
  two-unread-first g (x ∷ y ∷ []) long first make place fault h =
      IsUnread-err (argument_at i f v) _ place fault h (λ l err. rw (← first, err) refl)
  two-unread-first g (x ∷ y ∷ z ∷ xs) long first make place fault h = absurd (omega arith)

-- The members that are read take a token each.
use Rattle.std.proofs.Common.{◌≡◌, ℕ, zero, suc, ◌+◌, ◌<◌, ◌≤◌, List, [], ◌∷◌, length, Option}
use Rattle.std.proofs.Common.{Some, None, option_and_then, refl, arith}
use Rattle.std.specs.Prelude.{⊤}
use Rattle.json.specs.Token.{Token}
use Rattle.json.specs.Json as json
use Rattle.json.specs.Json.{Parse, parse_map, after_end_array, read_key, items_step, members_step}
use Rattle.json.specs.Json.{items, members, value_with, value}
use Rattle.json.proofs.Grammar.{after_end_array-shorter, read_key-shorter}

-- how many members the objects of a tree have, at any depth
abbrev mutual
  pub tree_count : json.Json → ℕ
  tree_count json.null = 0
  tree_count (json.boolean b) = 0
  tree_count (json.number s) = 0
  tree_count (json.string s) = 0
  tree_count (json.array js) = count_in_items js
  tree_count (json.object ms) = count_in_members ms

  pub count_in_items : json.Items → ℕ
  count_in_items json.no_items = 0
  count_in_items (json.item j js) = tree_count j + count_in_items js

  pub count_in_members : json.Members → ℕ
  count_in_members json.no_members = 0
  count_in_members (json.member name j ms) = suc (tree_count j + count_in_members ms)

-- what was read and the tokens that are left add up to n at most
abbrev pub Fits : {A : Type 0} → (A → ℕ) → ℕ → Option (A × List Token) → Type 0
Fits f n None = ⊤
Fits f n (Some p) = f p.0 + length p.1 ≤ n

abbrev FitsAll : {A : Type 0} → (A → ℕ) → Parse A → Type 0
FitsAll f p = (ts : List Token) → Fits f (length ts) (p ts)

pub Fits-more : {A : Type 0} (f : A → ℕ) (m n : ℕ) (o : Option (A × List Token)) → m ≤ n → Fits f m o → Fits f n o
Fits-more f m n None le h = tt
Fits-more f m n (Some p) le h = omega arith

Fits-parse_map : {A B : Type 0} (f : A → ℕ) (g : B → ℕ) (k m n : ℕ) → k + m ≤ n → (h : A → B) → ((a : A) → g (h a) ≤ k + f a)
    → (o : Option (A × List Token)) → Fits f m o → Fits g n (parse_map h o)
Fits-parse_map f g k m n room h le None x = tt
Fits-parse_map f g k m n room h le (Some p) x = omega (arith, le p.0)

-- a tree, and then the rest
Fits-and_then : {B : Type 0} (g : B → ℕ) (k m n : ℕ) → k + m ≤ n → (h : json.Json → B → B)
    → ((j : json.Json) (b : B) → g (h j b) ≤ (k + tree_count j) + g b)
    → (rest : Parse B) → FitsAll g rest → (o : Option (json.Json × List Token)) → Fits tree_count m o
    → Fits g n (option_and_then (λ q. parse_map (h q.0) (rest q.1)) o)
Fits-and_then g k m n room h le rest fits None x = tt
Fits-and_then g k m n room h le rest fits (Some q) x =
    Fits-parse_map g g (k + tree_count q.0) (length q.1) n (omega arith) (h q.0) (le q.0) (rest q.1) (fits q.1)

module _ (p : Parse json.Json) (fits : FitsAll tree_count p) where
  Fits-items_step : (rest : Parse json.Items) → FitsAll count_in_items rest → (ts : List Token) (o : Option (List Token))
      → ((r : List Token) → o ≡ Some r → length r < length ts) → Fits count_in_items (length ts) (items_step p rest ts o)
  Fits-items_step rest more ts (Some r) shorter = omega (arith, shorter r refl)
  Fits-items_step rest more ts None shorter =
      Fits-and_then count_in_items 0 (length ts) (length ts) (omega arith) json.item (λ j js. omega arith) rest more (p ts) (fits ts)

  Fits-items : (n : ℕ) → FitsAll count_in_items (items p n)
  unfolding items
  Fits-items zero ts = tt
  Fits-items (suc n) ts = Fits-items_step (items p n) (Fits-items n) ts (after_end_array ts) (after_end_array-shorter ts)

  Fits-members_step : (rest : Parse json.Members) → FitsAll count_in_members rest → (n : ℕ) (o : Option (Option (List ℕ) × List Token))
      → ((k : Option (List ℕ)) (r : List Token) → o ≡ Some (k, r) → length r < n)
      → Fits count_in_members n (option_and_then (λ q. members_step p rest q.0 q.1) o)
  Fits-members_step rest more n None shorter = tt
  Fits-members_step rest more n (Some (None, r)) shorter = omega (arith, shorter None r refl)
  Fits-members_step rest more n (Some (Some k, r)) shorter =
      Fits-and_then count_in_members 1 (length r) n (omega (arith, shorter (Some k) r refl)) (json.member k) (λ j ms. omega arith) rest more
      (p r) (fits r)

  Fits-members : (n : ℕ) → FitsAll count_in_members (members p n)
  unfolding members
  Fits-members zero ts = tt
  Fits-members (suc n) ts = Fits-members_step (members p n) (Fits-members n) (length ts) (read_key ts) (read_key-shorter ts)

Fits-value_with : (a : Parse json.Items) (o : Parse json.Members)
    → ((ts : List Token) → Fits tree_count (suc (length ts)) (parse_map json.array (a ts)))
    → ((ts : List Token) → Fits tree_count (suc (length ts)) (parse_map json.object (o ts))) → FitsAll tree_count (value_with a o)
Fits-value_with a o p q [] = tt
Fits-value_with a o p q (Token.begin_object ∷ ts) = q ts
Fits-value_with a o p q (Token.end_object ∷ ts) = tt
Fits-value_with a o p q (Token.begin_array ∷ ts) = p ts
Fits-value_with a o p q (Token.end_array ∷ ts) = tt
Fits-value_with a o p q (Token.key s ∷ ts) = tt
Fits-value_with a o p q (Token.string s ∷ ts) = omega arith
Fits-value_with a o p q (Token.number s ∷ ts) = omega arith
Fits-value_with a o p q (Token.boolean b ∷ ts) = omega arith
Fits-value_with a o p q (Token.null ∷ ts) = omega arith
Fits-value_with a o p q (Token.bad ∷ ts) = tt

pub Fits-value : (depth : ℕ) → FitsAll tree_count (value depth)
unfolding value
Fits-value zero = Fits-value_with (λ ts. None) (λ ts. None) (λ ts. tt) (λ ts. tt)
Fits-value (suc d) =
    Fits-value_with (λ ts. items (value d) (length ts) ts) (λ ts. members (value d) (length ts) ts)
    (λ ts. Fits-parse_map count_in_items tree_count 0 (length ts) (suc (length ts)) (omega arith) json.array (λ js. omega arith)
    (items (value d) (length ts) ts) (Fits-items (value d) (Fits-value d) (length ts) ts))
    (λ ts. Fits-parse_map count_in_members tree_count 0 (length ts) (suc (length ts)) (omega arith) json.object (λ ms. omega arith)
    (members (value d) (length ts) ts) (Fits-members (value d) (Fits-value d) (length ts) ts))

-- Chains of operations, one operation after the other.
use Rattle.std.proofs.Common.{◌≡◌, ℕ, ℤ, ◌+◌, ◌<◌, List, [], ◌∷◌, ◌++◌, take, length, get_or, refl, ap, ◌∙◌, false}
use Rattle.std.proofs.Common.{add-one}
use Rattle.std.proofs.Math.Seq.{take-suc}
use Rattle.tensor_loops.specs.Chain.{chained}
use Rattle.tensor_loops.specs.Loops.{either_way}
use Rattle.tensor_loops.specs.declared.loops.chain.Link.{Link}
use Rattle.tensor_values.specs.declared.operations.BinaryScalar.TheVariants.{Add}

-- stands where there is no operation
abbrev pub no_link : Link
no_link = record { operation = Add; swapped = false }

-- a chain that is an operation longer
pub chained-longer : (links : List Link) (l : Link) (x y : ℤ)
    → chained (links ++ l ∷ []) x y ≡ either_way l.operation l.swapped (chained links x y) y
chained-longer [] l x y = refl
chained-longer (m ∷ rest) l x y = chained-longer rest l (either_way m.operation m.swapped x y) y

-- and one more operation of those that there are
pub chained-next : (links : List Link) (i : ℕ) (d : Link) (x y : ℤ) → i < length links
    → chained (take (i + 1) links) x y
    ≡ either_way (get_or links i d).operation (get_or links i d).swapped (chained (take i links) x y) y
chained-next links i d x y within =
    ap (λ n. chained (take n links) x y) (add-one i)
    ∙ ap (λ ls. chained ls x y) (take-suc links i d within)
    ∙ chained-longer (take i links) (get_or links i d) x y

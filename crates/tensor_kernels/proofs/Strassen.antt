-- The identity behind seven products for eight. Of a row in the first half of the rows a and b are the
-- values in the earlier and the later chunk, of one in the second half c and d; of a column likewise
-- e f, g h.
use Rattle.std.proofs.Common.{◌≡◌, ℕ, zero, suc, ℤ, ◌+ℤ◌, ◌-ℤ◌, refl, ap, ◌∙◌, arith}
use Rattle.std.proofs.lemmas.Int.{ints}
use Rattle.tensor_shape.specs.Wrap.{wrap}
use Rattle.tensor_kernels.specs.Chunks.{before}
use Rattle.tensor_dots.specs.Products.{dot}
use Rattle.tensor_kernels.specs.private.Strassen.{quadrant_sum}
use Rattle.tensor_kernels.proofs.Congruence.{same-add, same-sub}
use Rattle.tensor_kernels.proofs.DotLaws.{dot-add, dot-sub, dot-add_right, dot-sub_right}

-- the seven products
pub record AreSeven (a b c d e f g h : ℕ → ℤ) (n : ℕ) (m1 m2 m3 m4 m5 m6 m7 : ℤ) : Type 0 where
  pub is1 : m1 ≡ dot (λ q. a q +ℤ d q) (λ q. e q +ℤ h q) n
  pub is2 : m2 ≡ dot (λ q. c q +ℤ d q) e n
  pub is3 : m3 ≡ dot a (λ q. g q -ℤ h q) n
  pub is4 : m4 ≡ dot d (λ q. f q -ℤ e q) n
  pub is5 : m5 ≡ dot (λ q. a q +ℤ b q) h n
  pub is6 : m6 ≡ dot (λ q. c q -ℤ a q) (λ q. e q +ℤ g q) n
  pub is7 : m7 ≡ dot (λ q. b q -ℤ d q) (λ q. f q +ℤ h q) n

module _ {a b c d e f g h : ℕ → ℤ} {n : ℕ} {m1 m2 m3 m4 m5 m6 m7 : ℤ}
    (m : AreSeven a b c d e f g h n m1 m2 m3 m4 m5 m6 m7) where
  first : m1 ≡ (dot a e n +ℤ dot a h n) +ℤ (dot d e n +ℤ dot d h n)
  first =
      m.is1 ∙ dot-add a d (λ q. e q +ℤ h q) n
      ∙ ap (λ s. s +ℤ dot d (λ q. e q +ℤ h q) n) (dot-add_right a e h n)
      ∙ ap (λ s. (dot a e n +ℤ dot a h n) +ℤ s) (dot-add_right d e h n)

  second : m2 ≡ dot c e n +ℤ dot d e n
  second = m.is2 ∙ dot-add c d e n

  third : m3 ≡ dot a g n -ℤ dot a h n
  third = m.is3 ∙ dot-sub_right a g h n

  fourth : m4 ≡ dot d f n -ℤ dot d e n
  fourth = m.is4 ∙ dot-sub_right d f e n

  fifth : m5 ≡ dot a h n +ℤ dot b h n
  fifth = m.is5 ∙ dot-add a b h n

  sixth : m6 ≡ (dot c e n +ℤ dot c g n) -ℤ (dot a e n +ℤ dot a g n)
  sixth =
      m.is6 ∙ dot-sub c a (λ q. e q +ℤ g q) n
      ∙ ap (λ s. s -ℤ dot a (λ q. e q +ℤ g q) n) (dot-add_right c e g n)
      ∙ ap (λ s. (dot c e n +ℤ dot c g n) -ℤ s) (dot-add_right a e g n)

  seventh : m7 ≡ (dot b f n +ℤ dot b h n) -ℤ (dot d f n +ℤ dot d h n)
  seventh =
      m.is7 ∙ dot-sub b d (λ q. f q +ℤ h q) n
      ∙ ap (λ s. s -ℤ dot d (λ q. f q +ℤ h q) n) (dot-add_right b f h n)
      ∙ ap (λ s. (dot b f n +ℤ dot b h n) -ℤ s) (dot-add_right d f h n)

  -- what they make up in each quadrant
  pub first_first : quadrant_sum 0 0 m1 m2 m3 m4 m5 m6 m7 ≡ dot a e n +ℤ dot b f n
  first_first = omega (arith, ints, first, fourth, fifth, seventh)

  pub first_second : quadrant_sum 0 1 m1 m2 m3 m4 m5 m6 m7 ≡ dot a g n +ℤ dot b h n
  first_second = omega (arith, ints, third, fifth)

  pub second_first : quadrant_sum 1 0 m1 m2 m3 m4 m5 m6 m7 ≡ dot c e n +ℤ dot d f n
  second_first = omega (arith, ints, second, fourth)

  pub second_second : quadrant_sum 1 1 m1 m2 m3 m4 m5 m6 m7 ≡ dot c g n +ℤ dot d h n
  second_second = omega (arith, ints, first, second, third, sixth)

-- a quadrant of nothing is nothing
pub before-quadrant : (c r s : ℕ) (m1 m2 m3 m4 m5 m6 m7 : ℤ)
    → quadrant_sum r s (before c m1) (before c m2) (before c m3) (before c m4) (before c m5)
    (before c m6) (before c m7) ≡ before c (quadrant_sum r s m1 m2 m3 m4 m5 m6 m7)
before-quadrant (suc c) r s m1 m2 m3 m4 m5 m6 m7 = refl
before-quadrant zero zero zero m1 m2 m3 m4 m5 m6 m7 = refl
before-quadrant zero zero (suc s) m1 m2 m3 m4 m5 m6 m7 = refl
before-quadrant zero (suc r) zero m1 m2 m3 m4 m5 m6 m7 = refl
before-quadrant zero (suc r) (suc s) m1 m2 m3 m4 m5 m6 m7 = refl

two-and-two : (o p d e : ℤ) → (o +ℤ d) +ℤ (p +ℤ e) ≡ (o +ℤ p) +ℤ (d +ℤ e)
two-and-two o p d e = omega (arith, ints)

four-and-four : (o p q r d e f g : ℤ)
    → (((o +ℤ d) +ℤ (p +ℤ e)) +ℤ (q +ℤ f)) -ℤ (r +ℤ g)
    ≡ (((o +ℤ p) +ℤ q) -ℤ r) +ℤ (((d +ℤ e) +ℤ f) -ℤ g)
four-and-four o p q r d e f g = omega (arith, ints)

-- where each product is a sum of two, modulo 2^64, so is a quadrant
module _ (n1 n2 n3 n4 n5 n6 n7 o1 o2 o3 o4 o5 o6 o7 d1 d2 d3 d4 d5 d6 d7 : ℤ)
    (is1 : wrap n1 ≡ wrap (o1 +ℤ d1)) (is2 : wrap n2 ≡ wrap (o2 +ℤ d2))
    (is3 : wrap n3 ≡ wrap (o3 +ℤ d3)) (is4 : wrap n4 ≡ wrap (o4 +ℤ d4))
    (is5 : wrap n5 ≡ wrap (o5 +ℤ d5)) (is6 : wrap n6 ≡ wrap (o6 +ℤ d6))
    (is7 : wrap n7 ≡ wrap (o7 +ℤ d7)) where
  pub quadrant-add : (r s : ℕ) → wrap (quadrant_sum r s n1 n2 n3 n4 n5 n6 n7)
      ≡ wrap (quadrant_sum r s o1 o2 o3 o4 o5 o6 o7 +ℤ quadrant_sum r s d1 d2 d3 d4 d5 d6 d7)
  quadrant-add zero zero =
      same-sub ((n1 +ℤ n4) +ℤ n7) (((o1 +ℤ d1) +ℤ (o4 +ℤ d4)) +ℤ (o7 +ℤ d7)) n5 (o5 +ℤ d5)
      (same-add (n1 +ℤ n4) ((o1 +ℤ d1) +ℤ (o4 +ℤ d4)) n7 (o7 +ℤ d7)
      (same-add n1 (o1 +ℤ d1) n4 (o4 +ℤ d4) is1 is4) is7) is5
      ∙ ap wrap (four-and-four o1 o4 o7 o5 d1 d4 d7 d5)
  quadrant-add zero (suc s) =
      same-add n3 (o3 +ℤ d3) n5 (o5 +ℤ d5) is3 is5 ∙ ap wrap (two-and-two o3 o5 d3 d5)
  quadrant-add (suc r) zero =
      same-add n2 (o2 +ℤ d2) n4 (o4 +ℤ d4) is2 is4 ∙ ap wrap (two-and-two o2 o4 d2 d4)
  quadrant-add (suc r) (suc s) =
      same-sub ((n1 +ℤ n3) +ℤ n6) (((o1 +ℤ d1) +ℤ (o3 +ℤ d3)) +ℤ (o6 +ℤ d6)) n2 (o2 +ℤ d2)
      (same-add (n1 +ℤ n3) ((o1 +ℤ d1) +ℤ (o3 +ℤ d3)) n6 (o6 +ℤ d6)
      (same-add n1 (o1 +ℤ d1) n3 (o3 +ℤ d3) is1 is3) is6) is2
      ∙ ap wrap (four-and-four o1 o3 o6 o2 d1 d3 d6 d2)

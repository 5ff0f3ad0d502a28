-- Frames as their parts.
use Rattle.std.proofs.Common.{◌≡◌, ◌<◌, ◌≤◌, ◌+◌, ◌*◌, ℕ, zero, suc, ℤ, List, [], ◌∷◌, ◌++◌, length, take, drop, map, get_or}
use Rattle.std.proofs.Common.{refl, ap, sym, ◌∙◌, append_assoc, arith, length-append}
use Rattle.std.specs.Simd.{first_chunks}
use Rattle.std.proofs.lemmas.List.{take-append-le, drop-append-le, drop_at, length-drop, drop-drop, map-append, nil_from_length, take_more}
use Rattle.frame_server.specs.Frame.{value_of, header_len, value_count, frame_in, IsWhole, IsUnfinished}
use Rattle.frame_server.specs.private.Laws.{header_len-append, value_count-append, frame_len-append}
use Rattle.frame_server.specs.private.Taking.{values_of}

-- fewer than 16 bytes are no frame
pub IsUnfinished-short : (xs : List ℕ) → length xs < 16 → IsUnfinished xs
IsUnfinished-short xs few = omega arith

-- a head and fewer bytes than it tells
pub IsUnfinished-head : (head xs : List ℕ) → length head ≡ 16 → length xs < header_len head + 8 * value_count head → IsUnfinished (head ++ xs)
IsUnfinished-head head xs is few =
    omega (arith, is, few, length-append head xs, frame_len-append head xs (omega arith))

-- a head and as many as it tells
pub IsWhole-head : (head rest : List ℕ) → length head ≡ 16 → length rest ≡ header_len head + 8 * value_count head → IsWhole (head ++ rest)
IsWhole-head head rest is all =
    omega (arith, is, all, length-append head rest, frame_len-append head rest (omega arith))

-- what they are
pub frame_in-head : (head rest : List ℕ) → length head ≡ 16
    → frame_in (head ++ rest) ≡ record {
      header = take (header_len head) rest;
      values = values_of (value_count head) (drop (header_len head) rest);
    }
frame_in-head head rest is =
    let h : header_len (head ++ rest) ≡ header_len head = header_len-append head rest (omega arith) in
    let v : value_count (head ++ rest) ≡ value_count head = value_count-append head rest (omega arith) in
    let behind : drop 16 (head ++ rest) ≡ rest = drop_at head rest 16 is in
    let values : drop (16 + header_len (head ++ rest)) (head ++ rest) ≡ drop (header_len head) rest =
    sym (drop-drop (header_len (head ++ rest)) 16 (head ++ rest))
    ∙ ap (λ (l : List ℕ). drop (header_len (head ++ rest)) l) behind
    ∙ ap (λ (n : ℕ). drop n rest) h in
    rw (behind, values, h, v) refl

-- chunks of some bytes and of others
pub first_chunks-append : (m n : ℕ) (xs ys : List ℕ) → length xs ≡ 8 * m → first_chunks 8 (m + n) (xs ++ ys) ≡ first_chunks 8 m xs ++ first_chunks 8 n ys
first_chunks-append zero n xs ys is = let none : xs ≡ [] = nil_from_length xs (omega arith) in
    let sum : 0 + n ≡ n = omega arith in
    rw none (ap (λ (k : ℕ). first_chunks 8 k ys) sum)
first_chunks-append (suc m) n xs ys is =
    let few : 8 ≤ length xs = omega arith in
    let left : length (drop 8 xs) ≡ 8 * m = omega (arith, length-drop 8 xs) in
    let sum : suc m + n ≡ suc (m + n) = omega arith in
    ap (λ (k : ℕ). first_chunks 8 k (xs ++ ys)) sum
    ∙ rw (take-append-le 8 xs ys few, drop-append-le 8 xs ys few, first_chunks-append m n (drop 8 xs) ys left) refl

pub values_of-append : (m n : ℕ) (xs ys : List ℕ) → length xs ≡ 8 * m → values_of (m + n) (xs ++ ys) ≡ values_of m xs ++ values_of n ys
values_of-append m n xs ys is =
    ap (λ (l : List (List ℕ)). map value_of l) (first_chunks-append m n xs ys is)
    ∙ map-append value_of (first_chunks 8 m xs) (first_chunks 8 n ys)

pub length-values_of : (n : ℕ) (xs : List ℕ) → length (values_of n xs) ≡ n
length-values_of zero xs = refl
length-values_of (suc n) xs = ap suc (length-values_of n (drop 8 xs))

-- one value more
pub values-push : (old now : List ℤ) (chunks : List (List ℕ)) (k : ℕ) (x : ℤ) (d : List ℕ) → k < length chunks → x ≡ value_of (get_or chunks k d)
    → now ≡ old ++ map value_of (take k chunks) → now ++ x ∷ [] ≡ old ++ map value_of (take (k + 1) chunks)
values-push old now chunks k x d within is before =
    ap (λ (l : List ℤ). l ++ x ∷ []) before
    ∙ append_assoc old (map value_of (take k chunks)) (x ∷ [])
    ∙ ap (λ (y : ℤ). old ++ (map value_of (take k chunks) ++ y ∷ [])) is
    ∙ ap (λ (l : List ℤ). old ++ l) (sym (map-append value_of (take k chunks) (get_or chunks k d ∷ [])))
    ∙ ap (λ (l : List (List ℕ)). old ++ map value_of l) (sym (take_more chunks k d within))

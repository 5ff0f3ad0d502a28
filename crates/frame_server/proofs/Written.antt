-- Frames that are written and read.
use Rattle.std.proofs.Common.{◌≡◌, ◌<◌, ◌+◌, ◌*◌, ◌^◌, ℕ, ℤ, pos, negsuc, List, [], ◌∷◌, ◌++◌, length, take, drop}
use Rattle.std.proofs.Common.{All, refl, ap, sym, ◌∙◌, subst, append_assoc, arith, length-append, w64}
use Rattle.std.specs.Prelude.{FitsSigned}
use Rattle.std.specs.Int.{cast_signed, cast_unsigned}
use Rattle.std.specs.List.{flat_map}
use Rattle.std.proofs.lemmas.Int.{to_z-of_z}
use Rattle.std.proofs.lemmas.Nat.{from_le_bytes-to_le_bytes_8}
use Rattle.std.proofs.lemmas.List.{take_all, take_at, drop_at}
use Rattle.std.proofs.lemmas.List.Elements.{All-head, All-tail}
use Rattle.frame_server.specs.Frame.{Frame, number_bytes, number_of, value_bytes, value_of, frame_bytes, header_len, value_count, frame_in, IsWhole}
use Rattle.frame_server.specs.Stream.{Fits}
use Rattle.frame_server.specs.private.Taking.{values_of}
use Rattle.frame_server.proofs.Frames.{IsWhole-head, frame_in-head}

pub length-number_bytes : (n : ℕ) → length (number_bytes n) ≡ 8
unfolding number_bytes
length-number_bytes n = refl

pub number_of-number_bytes : (n : ℕ) → n < 2 ^ 64 → number_of (number_bytes n) ≡ n
unfolding number_bytes number_of
number_of-number_bytes n fits = from_le_bytes-to_le_bytes_8 n fits

cast_unsigned-below : (x : ℤ) → FitsSigned w64 x → cast_unsigned w64 x < 2 ^ 64
cast_unsigned-below (pos n) fits = omega (arith, fits)
cast_unsigned-below (negsuc n) fits = omega arith

value_of-value_bytes : (x : ℤ) → FitsSigned w64 x → value_of (value_bytes x) ≡ x
value_of-value_bytes x fits =
    ap (λ (n : ℕ). cast_signed w64 n) (number_of-number_bytes (cast_unsigned w64 x) (cast_unsigned-below x fits)) ∙ to_z-of_z w64 x fits

pub length-values : (xs : List ℤ) → length (flat_map value_bytes xs) ≡ 8 * length xs
length-values [] = refl
length-values (x ∷ xs) =
    omega (arith, length-append (value_bytes x) (flat_map value_bytes xs), length-number_bytes (cast_unsigned w64 x), length-values xs)

-- values are read as they were written
values_of-values : (xs : List ℤ) → All (FitsSigned w64) xs → values_of (length xs) (flat_map value_bytes xs) ≡ xs
values_of-values [] fit = refl
values_of-values (x ∷ xs) fit =
    let len : length (value_bytes x) ≡ 8 = length-number_bytes (cast_unsigned w64 x) in
    let rest = flat_map value_bytes xs in
    rw (
      take_at (value_bytes x) rest 8 len,
      drop_at (value_bytes x) rest 8 len,
      value_of-value_bytes x (All-head (FitsSigned w64) x xs fit),
      values_of-values xs (All-tail (FitsSigned w64) x xs fit),
    ) refl

-- the sizes that a frame begins with
sizes : Frame → List ℕ
sizes f = number_bytes (length f.header) ++ number_bytes (length f.values)

pub read_as_written : (f : Frame) → Fits f → IsWhole (frame_bytes f) × (frame_in (frame_bytes f) ≡ f)
unfolding sizes
read_as_written f fits =
    let h = number_bytes (length f.header) in
    let v = number_bytes (length f.values) in
    let behind = f.header ++ flat_map value_bytes f.values in
    let first : length h ≡ 8 = length-number_bytes (length f.header) in
    let second : length v ≡ 8 = length-number_bytes (length f.values) in
    let both : length (sizes f) ≡ 16 = omega (arith, first, second, length-append h v) in
    let parted : frame_bytes f ≡ sizes f ++ behind = sym (append_assoc h v behind) in
    let told : header_len (sizes f) ≡ length f.header =
    ap number_of (take_at h v 8 first) ∙ number_of-number_bytes (length f.header) fits.header in
    let counted : value_count (sizes f) ≡ length f.values =
    ap (λ (l : List ℕ). number_of (take 8 l)) (drop_at h v 8 first)
    ∙ ap number_of (take_all 8 v (omega arith))
    ∙ number_of-number_bytes (length f.values) fits.values in
    let all : length behind ≡ header_len (sizes f) + 8 * value_count (sizes f) =
    omega (arith, told, counted, length-append f.header (flat_map value_bytes f.values), length-values f.values) in
    let header : take (header_len (sizes f)) behind ≡ f.header =
    ap (λ (n : ℕ). take n behind) told ∙ take_at f.header (flat_map value_bytes f.values) (length f.header) refl in
    let values : values_of (value_count (sizes f)) (drop (header_len (sizes f)) behind) ≡ f.values =
    ap (λ (n : ℕ). values_of n (drop (header_len (sizes f)) behind)) counted
    ∙ ap (λ (n : ℕ). values_of (length f.values) (drop n behind)) told
    ∙ ap (λ (l : List ℕ). values_of (length f.values) l) (drop_at f.header (flat_map value_bytes f.values) (length f.header) refl)
    ∙ values_of-values f.values fits.ranges in (
      subst IsWhole (sym parted) (IsWhole-head (sizes f) behind both all),
      ap frame_in parted ∙ frame_in-head (sizes f) behind both
          ∙ ap (λ (l : List ℕ). record { header = l; values = values_of (value_count (sizes f)) (drop (header_len (sizes f)) behind) }) header
          ∙ ap (λ (l : List ℤ). record { header = f.header; values = l }) values,
    )

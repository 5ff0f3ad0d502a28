-- The laws of frames as messages, which the protocol of frames has.
use Rattle.std.proofs.Common.{◌≡◌, ◌≤◌, ℕ, List, [], ◌∷◌, ◌++◌, length, take, drop, All, refl, ap, sym, ◌∙◌, append_assoc, arith, length-append}
use Rattle.std.specs.List.{concat, flat_map}
use Rattle.std.proofs.lemmas.List.{append_cancel_left, take-append-le, drop-append-le, take_at, length-drop}
use Rattle.std.proofs.lemmas.List.Elements.{All-head, All-tail}
use Rattle.message_server.specs.Parting.{Laws}
use Rattle.tensor_runner.specs.declared.limits.Limits.{Limits}
use Rattle.frame_server.specs.Frame.{number_of, header_len, value_count, frame_len, IsWhole, IsUnfinished}
use Rattle.frame_server.specs.Limited.{whole_frames_within}
use Rattle.frame_server.specs.private.Parting.{by_sizes}

pub header_len-append : (xs ys : List ℕ) → 8 ≤ length xs → header_len (xs ++ ys) ≡ header_len xs
header_len-append xs ys some = ap number_of (take-append-le 8 xs ys some)

pub value_count-append : (xs ys : List ℕ) → 16 ≤ length xs → value_count (xs ++ ys) ≡ value_count xs
value_count-append xs ys some =
    ap (λ (l : List ℕ). number_of (take 8 l)) (drop-append-le 8 xs ys (omega arith))
    ∙ ap number_of (take-append-le 8 (drop 8 xs) ys (omega (arith, length-drop 8 xs)))

-- the first 16 bytes tell how long a frame is
pub frame_len-append : (xs ys : List ℕ) → 16 ≤ length xs → frame_len (xs ++ ys) ≡ frame_len xs
frame_len-append xs ys some =
    let h : header_len (xs ++ ys) ≡ header_len xs = header_len-append xs ys (omega arith) in
    let v : value_count (xs ++ ys) ≡ value_count xs = value_count-append xs ys some in
    omega (arith, h, v)

-- bytes that begin with a whole frame are not a proper prefix of one
whole_at_front : (frame more cut : List ℕ) → IsWhole frame → cut ≡ frame ++ more
    → ¬ IsUnfinished cut
whole_at_front frame more cut whole is few =
    let long : 16 ≤ length frame = omega (arith, whole) in
    omega (
      arith,
      whole,
      few,
      ap length is,
      length-append frame more,
      ap frame_len is,
      frame_len-append frame more long,
    )

-- whole frames that bytes begin with are one and the same
same_front : (frame other more others : List ℕ) → IsWhole frame → IsWhole other
    → frame ++ more ≡ other ++ others → (frame ≡ other) × (more ≡ others)
same_front frame other more others whole too is =
    let long : 16 ≤ length frame = omega (arith, whole) in
    let long_too : 16 ≤ length other = omega (arith, too) in
    let len : length other ≡ length frame =
    too ∙ sym (frame_len-append other others long_too) ∙ sym (ap frame_len is)
    ∙ frame_len-append frame more long ∙ sym whole in
    let same : frame ≡ other =
    sym (take_at frame more (length frame) refl) ∙ ap (λ (l : List ℕ). take (length frame) l) is
    ∙ take_at other others (length frame) len in
    (same, append_cancel_left frame more others (is ∙ ap (λ (l : List ℕ). l ++ others) (sym same)))

-- bytes are frames followed by a prefix of a frame in at most one way
pub parts_in_one_way : (frames others : List (List ℕ)) (cut other : List ℕ)
    → concat frames ++ cut ≡ concat others ++ other → All IsWhole frames → All IsWhole others
    → IsUnfinished cut → IsUnfinished other → (frames ≡ others) × (cut ≡ other)
parts_in_one_way [] [] cut other is whole too few few_too = (refl, is)
parts_in_one_way [] (f ∷ others) cut other is whole too few few_too =
    absurd (whole_at_front f (concat others ++ other) cut (All-head IsWhole f others too)
    (is ∙ append_assoc f (concat others) other) few)
parts_in_one_way (f ∷ frames) [] cut other is whole too few few_too =
    absurd (whole_at_front f (concat frames ++ cut) other (All-head IsWhole f frames whole)
    (sym is ∙ append_assoc f (concat frames) cut) few_too)
parts_in_one_way (f ∷ frames) (g ∷ others) cut other is whole too few few_too =
    let front = same_front f g (concat frames ++ cut) (concat others ++ other)
    (All-head IsWhole f frames whole) (All-head IsWhole g others too)
    (sym (append_assoc f (concat frames) cut) ∙ is ∙ append_assoc g (concat others) other) in
    let rest = parts_in_one_way frames others cut other front.1
    (All-tail IsWhole f frames whole) (All-tail IsWhole g others too) few few_too in
    (ap (λ (l : List (List ℕ)). f ∷ l) rest.0 ∙ ap (λ (x : List ℕ). x ∷ others) front.0, rest.1)

-- a frame is ended by itself
pub joined-frames : (frames : List (List ℕ))
    → flat_map (λ (frame : List ℕ). frame) frames ≡ concat frames
joined-frames [] = refl
joined-frames (frame ∷ frames) = ap (λ (l : List ℕ). frame ++ l) (joined-frames frames)

pub laws : (limits : Limits) → Laws by_sizes (whole_frames_within limits)
laws limits = record {
  whole = λ done cut whole unfinished. (
    cut,
    record {
      joined = ap (λ (l : List ℕ). l ++ cut) (joined-frames done);
      whole = whole;
      unfinished = unfinished;
    },
  );
  one_way = λ bytes frames others is are.
      (parts_in_one_way frames others is.0 are.0 (sym is.1.joined ∙ are.1.joined)
      is.1.whole are.1.whole is.1.unfinished are.1.unfinished).0;
}

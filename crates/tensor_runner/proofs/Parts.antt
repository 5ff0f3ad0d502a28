-- Lines and their line feeds.
use Rattle.std.proofs.Common.{◌≡◌, ◌==◌, ◌<◌, ◌+◌, ◌-◌, ℕ, suc, min, List, [], ◌∷◌, ◌++◌, length, take, drop, get_or}
use Rattle.std.proofs.Common.{true, false, All, refl, ap, sym, ◌∙◌, subst, arith, inl, inr}
use Rattle.std.specs.List.{slice_index}
use Rattle.std.proofs.Math.Seq.{take-append-add, split_at}
use Rattle.std.proofs.lemmas.List.{append-nil, take_all, take-append-le, length-take-le, length-take, get_or-take}
use Rattle.std.proofs.lemmas.List.Elements.{All-head, All-tail, All-from_get_or}
use Rattle.std.proofs.lemmas.Bool.{cases_lt, eqb-true, false_from_ne_true}
use Rattle.memchr.specs.Find.{Passes, is_byte, Nowhere}
use Rattle.message_server.specs.Serving.{AreAnswers}
use Rattle.tensor_runner.specs.Limited.{line_within, lines_within}
use Rattle.tensor_runner.specs.private.Laws.{with_feeds-cons}
use Rattle.tensor_runner.specs.private.Taking.{HasNoFeed, with_feeds}
use Rattle.tensor_runner.specs.Lines.{lines_of}
use Rattle.tensor_runner.specs.declared.limits.Limits.{Limits}

-- a byte that is no line feed
abbrev IsPlain : ℕ → Type 0
IsPlain b = (b == 10) ≡ false

-- a line, its line feed and more
pub lines_of-feed : (line more : List ℕ) → HasNoFeed line → lines_of (line ++ 10 ∷ more) ≡ line ∷ lines_of more
lines_of-feed [] more plain = refl
lines_of-feed (b ∷ line) more plain =
    rw (All-head IsPlain b line plain, lines_of-feed line more (All-tail IsPlain b line plain)) refl

-- lines with their line feeds, and more
pub lines_of-with_feeds : (done : List (List ℕ)) (more : List ℕ) → All HasNoFeed done → lines_of (with_feeds done ++ more) ≡ done ++ lines_of more
lines_of-with_feeds [] more plain = refl
lines_of-with_feeds (line ∷ done) more plain =
    ap lines_of (with_feeds-cons line done more)
    ∙ lines_of-feed line (with_feeds done ++ more) (All-head HasNoFeed line done plain)
    ∙ ap (λ (l : List (List ℕ)). line ∷ l) (lines_of-with_feeds done more (All-tail HasNoFeed line done plain))

-- bytes with no line feed are one line, where there are some
pub lines_of-last : (line : List ℕ) → HasNoFeed line → 0 < length line → lines_of line ≡ line ∷ []
lines_of-last [] plain some = absurd (omega arith)
lines_of-last (b ∷ []) plain some = rw (All-head IsPlain b [] plain) refl
lines_of-last (b ∷ c ∷ line) plain some =
    rw (All-head IsPlain b (c ∷ line) plain, lines_of-last (c ∷ line) (All-tail IsPlain b (c ∷ line) plain) (omega arith)) refl

-- a piece behind what is kept of a line
take-min : (k : ℕ) (piece : List ℕ) → take (min k (length piece)) piece ≡ take k piece
take-min k piece = elim (cases_lt (length piece) k) [
  | inl less ↦ let same : min k (length piece) ≡ length piece = omega arith in
      rw same (take_all (length piece) piece (omega arith) ∙ sym (take_all k piece (omega arith)))
  | inr more ↦ let same : min k (length piece) ≡ k = omega arith in rw same refl
]

pub take-behind : (n : ℕ) (line text piece : List ℕ) → text ≡ take n line
    → text ++ take (min (n - length text) (length piece)) piece ≡ take n (line ++ piece)
take-behind n line text piece is = elim (cases_lt (length line) n) [
  | inl less ↦
      let all : text ≡ line = is ∙ take_all n line (omega arith) in
      let sum : length line + (n - length line) ≡ n = omega arith in
      rw all (ap (λ (t : List ℕ). line ++ t) (take-min (n - length line) piece)
      ∙ sym (take-append-add line piece (n - length line))
      ∙ ap (λ (k : ℕ). take k (line ++ piece)) sum)
  | inr more ↦
      let full : length text ≡ n = ap length is ∙ length-take-le n line more in
      let none : min (n - length text) (length piece) ≡ 0 = omega arith in
      rw none (append-nil text ∙ is ∙ sym (take-append-le n line piece more))
]

-- what texts are answered by under limits
pub answers_of : (limits : Limits) (texts : List (List ℕ)) → (answers : List (List ℕ)) × AreAnswers (lines_within limits) texts answers
answers_of limits [] = ([], tt)
answers_of limits (text ∷ texts) = (line_within limits text ∷ (answers_of limits texts).0, (inl refl, (answers_of limits texts).1))

-- no line feed where none was found
pub HasNoFeed-take : (held : List ℕ) (place : ℕ) → Nowhere (Passes (is_byte 10) held) 0 place → HasNoFeed (take place held)
HasNoFeed-take held place nowhere =
    All-from_get_or IsPlain (take place held) 0 (λ k within.
    let near : k < place = omega (arith, length-take place held) in
    let same : get_or (take place held) k 0 ≡ get_or held k 0 = get_or-take place held k 0 near in
    false_from_ne_true (get_or (take place held) k 0 == 10)
    (λ feed. nowhere k (omega arith) near (subst (λ (b : ℕ). (b == 10) ≡ true) same feed)))

pub HasNoFeed-all : (held : List ℕ) → Nowhere (Passes (is_byte 10) held) 0 (length held) → HasNoFeed held
HasNoFeed-all held nowhere =
    subst HasNoFeed (take_all (length held) held (omega arith)) (HasNoFeed-take held (length held) nowhere)

-- what is held, parted at a line feed
pub parted_at : (held : List ℕ) (place : ℕ) → place < length held → (slice_index held place == 10) ≡ true
    → held ≡ take place held ++ 10 ∷ drop (place + 1) held
parted_at held place within feed =
    let next : suc place ≡ place + 1 = omega arith in
    split_at held place 0 within
    ∙ ap (λ (b : ℕ). take place held ++ b ∷ drop (suc place) held) (eqb-true (get_or held place 0) 10 feed)
    ∙ ap (λ (n : ℕ). take place held ++ 10 ∷ drop n held) next

-- The laws of lines as messages, which the protocol of lines has.
use Rattle.std.proofs.Common.{◌≡◌, ◌==◌, ℕ, List, [], ◌∷◌, ◌++◌, false, All, refl, ap, sym, ◌∙◌, append_assoc}
use Rattle.std.proofs.lemmas.List.{append-nil}
use Rattle.std.proofs.lemmas.List.Elements.{All-head, All-tail}
use Rattle.message_server.specs.Parting.{Laws}
use Rattle.tensor_runner.specs.Limited.{lines_within}
use Rattle.tensor_runner.specs.Lines.{whole_lines}
use Rattle.tensor_runner.specs.private.Parting.{by_feeds}
use Rattle.tensor_runner.specs.private.Taking.{HasNoFeed, with_feeds}
use Rattle.tensor_runner.specs.declared.limits.Limits.{Limits}

-- a byte that is no line feed
abbrev IsPlain : ℕ → Type 0
IsPlain b = (b == 10) ≡ false

whole_lines-feed : (line more : List ℕ) → HasNoFeed line
    → whole_lines (line ++ 10 ∷ more) ≡ line ∷ whole_lines more
whole_lines-feed [] more plain = refl
whole_lines-feed (b ∷ line) more plain =
    rw (All-head IsPlain b line plain, whole_lines-feed line more (All-tail IsPlain b line plain)) refl

pub with_feeds-cons : (line : List ℕ) (done : List (List ℕ)) (more : List ℕ)
    → with_feeds (line ∷ done) ++ more ≡ line ++ 10 ∷ (with_feeds done ++ more)
with_feeds-cons line done more = simp append_assoc

-- lines with their line feeds, and more
whole_lines-with_feeds : (done : List (List ℕ)) (more : List ℕ) → All HasNoFeed done
    → whole_lines (with_feeds done ++ more) ≡ done ++ whole_lines more
whole_lines-with_feeds [] more plain = refl
whole_lines-with_feeds (line ∷ done) more plain =
    ap whole_lines (with_feeds-cons line done more)
    ∙ whole_lines-feed line (with_feeds done ++ more) (All-head HasNoFeed line done plain)
    ∙ ap (λ (l : List (List ℕ)). line ∷ l)
    (whole_lines-with_feeds done more (All-tail HasNoFeed line done plain))

-- bytes with no line feed are no whole line
whole_lines-open : (line : List ℕ) → HasNoFeed line → whole_lines line ≡ []
whole_lines-open [] plain = refl
whole_lines-open (b ∷ line) plain =
    rw (All-head IsPlain b line plain, whole_lines-open line (All-tail IsPlain b line plain)) refl

pub laws : (limits : Limits) → Laws by_feeds (lines_within limits)
laws limits = record {
  whole = λ done cut whole plain. sym (whole_lines-with_feeds done cut whole
      ∙ ap (λ (l : List (List ℕ)). done ++ l) (whole_lines-open cut plain) ∙ append-nil done);
  one_way = λ bytes messages others is are. is ∙ sym are;
}

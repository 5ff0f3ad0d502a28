-- Bytes that are taken and given piece by piece.
use Rattle.std.proofs.Common.{◌≡◌, ℕ, ◌≤◌, List, ◌+◌, ◌-◌, ◌++◌, length}
use Rattle.std.proofs.Common.{take, drop, min, Option, Some, None, ap, sym, ◌∙◌, subst}
use Rattle.std.proofs.Common.{arith}
use Rattle.std.specs.Prelude.{IfSome}
use Rattle.message_server.proofs.Streams.{Consumes-trans}
use Rattle.tensor_runner.specs.private.Kept.{IsKept, kept_len}
use Rattle.tensor_runner.specs.private.Pieces.{IsFrontOf, Takes, HasTaken}
use Rattle.tensor_runner.specs.Run.{most_reads, TakesAtMost}
use Rattle.std.specs.Io.KnownBytes.{Consumes, IsAtEnd}
use Rattle.tensor_runner.specs.declared.kept.KeptText.{KeptText}
use Rattle.tensor_runner.specs.declared.kept.KeptText.TheVariants.{Text, Counted}
use Rattle.std.proofs.lemmas.List.{append-nil, take_all, take_at, drop_all, drop_at, length-take, length-append}

-- at most `most` bytes behind the bytes that were taken
pub TakesAtMost-more : (a b c : Option (List ℕ)) (xs : List ℕ) (n : ℕ) → Consumes a b xs → TakesAtMost (n - length xs) b c → length xs ≤ n
    → TakesAtMost n a c
TakesAtMost-more a b c xs n before more within = record {
  bytes = xs ++ more.bytes;
  within = omega (arith, more.within, within, length-append xs more.bytes);
  consumed = Consumes-trans a b c xs more.bytes before more.consumed;
}

-- how many bytes a text has of which this is kept
pub kept-len : (text : List ℕ) (kept : KeptText) → IsKept text kept → kept_len kept ≡ min most_reads (length text)
kept-len text (Text front) is = ap length is ∙ length-take most_reads text
kept-len text (Counted count) is = is ∙ length-take most_reads text

-- what is kept of a text is kept of all that begins so
IsKept-more : (text all : List ℕ) (kept : KeptText) → take most_reads text ≡ take most_reads all → IsKept text kept → IsKept all kept
IsKept-more text all (Text front) same is = is ∙ same
IsKept-more text all (Counted count) same is = is ∙ ap length same

-- all that there was
HasTaken-end : (a b : Option (List ℕ)) (xs : List ℕ) (kept : KeptText) → Consumes a b xs → IsAtEnd b → length xs ≤ most_reads → IsKept xs kept
    → IfSome a (λ all. IsFrontOf all kept b)
HasTaken-end None b xs kept h end short is = tt
HasTaken-end (Some all) None xs kept h end short is = absurd h
HasTaken-end (Some all) (Some bs) xs kept h end short is =
    let whole : all ≡ xs = h ∙ ap (λ (l : List ℕ). xs ++ l) end ∙ append-nil xs in
    record {
      taken = IsKept-more xs all kept (ap (λ (l : List ℕ). take most_reads l) (sym whole)) is;
      left = ap Some (end ∙ sym (ap (λ (l : List ℕ). drop most_reads l) whole ∙ drop_all most_reads xs short));
    }

-- the prefix of what there was
HasTaken-front : (a b : Option (List ℕ)) (xs : List ℕ) (kept : KeptText) → Consumes a b xs → length xs ≡ most_reads → IsKept xs kept
    → IfSome a (λ all. IsFrontOf all kept b)
HasTaken-front None b xs kept h full is = tt
HasTaken-front (Some all) None xs kept h full is = absurd h
HasTaken-front (Some all) (Some bs) xs kept h full is = record {
  taken = IsKept-more xs all kept
      (take_all most_reads xs (omega (arith, full)) ∙ sym (ap (λ (l : List ℕ). take most_reads l) h ∙ take_at xs bs most_reads full)) is;
  left = ap Some (sym (ap (λ (l : List ℕ). drop most_reads l) h ∙ drop_at xs bs most_reads full));
}

-- how many were taken
pub HasTaken-len : (a b : Option (List ℕ)) (kept : KeptText) (t : HasTaken a b kept) → kept_len kept ≡ length t.bytes
HasTaken-len a b kept t = omega (arith, kept-len t.bytes kept t.kept_of, t.room)

-- more was taken
pub HasTaken-more : (a b c : Option (List ℕ)) (old new : KeptText) (count : ℕ) → HasTaken a b old → Takes b c old new count → HasTaken a c new
HasTaken-more a b c old new count t more = record {
  bytes = t.bytes ++ more.bytes;
  room = omega (arith, HasTaken-len a b old t, more.room, more.counted, length-append t.bytes more.bytes);
  kept_of = more.behind t.bytes t.kept_of;
  consumed = Consumes-trans a b c t.bytes more.bytes t.consumed more.consumed;
}

pub HasTaken-more-len : (a b c : Option (List ℕ)) (old new : KeptText) (count : ℕ) → HasTaken a b old → Takes b c old new count
    → kept_len new ≡ kept_len old + count
HasTaken-more-len a b c old new count t more =
    omega (
      arith,
      kept-len (t.bytes ++ more.bytes) new (more.behind t.bytes t.kept_of),
      HasTaken-len a b old t,
      more.counted,
      more.room,
      length-append t.bytes more.bytes,
    )

-- the text is at its end
pub HasTaken-last : (a b c : Option (List ℕ)) (old new : KeptText) (count : ℕ) → HasTaken a b old → Takes b c old new count → count ≡ 0
    → IfSome a (λ all. IsFrontOf all new c)
HasTaken-last a b c old new count t more none =
    let all = HasTaken-more a b c old new count t more in
    HasTaken-end a c all.bytes new all.consumed (more.ended none) all.room all.kept_of

-- as much was read as is read of a text
pub HasTaken-full : (a b c : Option (List ℕ)) (old new : KeptText) (count : ℕ) → HasTaken a b old → Takes b c old new count → kept_len new ≡ most_reads
    → IfSome a (λ all. IsFrontOf all new c)
HasTaken-full a b c old new count t more full =
    let all = HasTaken-more a b c old new count t more in
    HasTaken-front a c all.bytes new all.consumed (sym (HasTaken-len a c new all) ∙ full) all.kept_of

-- at most `most_reads` bytes were taken
pub HasTaken-at_most : (a b c : Option (List ℕ)) (old : KeptText) → HasTaken a b old → TakesAtMost (most_reads - kept_len old) b c
    → TakesAtMost most_reads a c
HasTaken-at_most a b c old t more =
    TakesAtMost-more a b c t.bytes most_reads t.consumed
    (subst (λ (n : ℕ). TakesAtMost (most_reads - n) b c) (HasTaken-len a b old t) more) t.room

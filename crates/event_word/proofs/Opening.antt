-- The lists of a new World.
use Rattle.std.proofs.Common.{◌≡◌, ℕ, zero, suc, ◌+◌, ◌≤◌, Bool}
use Rattle.std.proofs.Common.{false, List, [], ◌∷◌, length, map}
use Rattle.std.proofs.Common.{replicate, vec_capacity, sym, ap, refl, ◌∙◌, subst, arith}
use Rattle.std.proofs.lemmas.List.{length-replicate}
use Rattle.std.specs.List.{range_with_len}
use Rattle.event_word.specs.declared.phase.Phase.{Phase}
use Rattle.event_word.specs.declared.phase.Phase.TheVariants.{Running}
use Rattle.event_word.specs.declared.world.debts.Debt.{Debt}
use Rattle.event_word.specs.declared.world.World.TheInside.{Inside}
use Rattle.event_word.specs.World.{opening_world}
use Rattle.event_word.specs.Lawful.{Lawful, HasSizes}
use Rattle.event_word.specs.Debts.{seats_owed, owed_lists, AreKnown}
use Rattle.event_word.specs.Stored.{world_view, IsStored}
use Rattle.event_word.proofs.Sizes.{sizes_opening}
use Rattle.event_word.proofs.Histories.{lawful_opening}
use Rattle.event_word.proofs.Stored.{view_of}

owed_lists-nil : (workers notifiers : ℕ)
    → owed_lists (workers + notifiers) [] ≡ replicate (workers + notifiers) []
owed_lists-nil workers notifiers = nothing_owed (workers + notifiers) 0
  where
    nothing_owed : (n from : ℕ)
        → map (λ a. seats_owed a []) (range_with_len from n) ≡ replicate n []
    nothing_owed zero from = refl
    nothing_owed (suc n) from = ap (λ xs. [] ∷ xs) (nothing_owed n (from + 1))

-- the lists of a new World
pub opening_view : (workers notifiers rows : ℕ) (phases : List Phase) (flags : List Bool)
    (passed : List (List Bool)) (tokens : List Bool) (pre stack : List ℕ) (debts : List Debt)
    (announcing : List Bool) (lengths : List ℕ)
    → phases ≡ replicate workers Running → flags ≡ replicate workers false
    → passed ≡ replicate workers (replicate rows false)
    → tokens ≡ replicate workers false → pre ≡ [] → stack ≡ [] → debts ≡ []
    → announcing ≡ replicate (workers + notifiers) false → lengths ≡ replicate rows 0
    → view_of phases flags passed tokens pre 0 stack debts announcing lengths notifiers 0
    ≡ opening_world workers notifiers rows
opening_view workers notifiers rows phases flags passed tokens pre stack debts announcing lengths a
    b g c d e f m h =
    let l = ap length a ∙ length-replicate workers Running in
    let q = ap (λ ds. owed_lists (length phases + notifiers) ds) f in
    let r = ap (λ n. owed_lists (n + notifiers) []) l in
    let t = owed_lists-nil workers notifiers in cc

module _ {A : Type 0} where
  pub opening_stored : (i : Inside A) (workers notifiers rows : ℕ)
      → world_view i ≡ opening_world workers notifiers rows → length i.phases.items ≡ workers
      → i.notifiers ≡ notifiers → length i.lengths.items ≡ rows → workers ≤ 16382
      → i.owed.items ≡ [] → vec_capacity i.pre ≡ workers → vec_capacity i.stack ≡ workers
      → vec_capacity i.owed ≡ workers → IsStored i
  opening_stored i workers notifiers rows is l m n few none pre stack owed =
      let t = subst (HasSizes workers (workers + notifiers) rows) (sym is)
      (sizes_opening workers notifiers rows) in record {
        lawful = subst Lawful (sym is) (lawful_opening workers notifiers rows);
        sizes = record {
          phases = refl;
          flags = t.flags ∙ sym l;
          passed = t.passed ∙ sym l;
          passed_rows = λ seat h. t.passed_rows seat (omega arith) ∙ sym n;
          owed = let o = t.owed in omega arith;
          announcing = let o = t.announcing in omega arith;
          tokens = t.tokens ∙ sym l;
          lengths = refl;
        };
        few = omega arith;
        known = subst (AreKnown (length i.phases.items + i.notifiers)) (sym none) tt;
        room_to_wait = omega arith;
        room_to_park = omega arith;
        room_to_owe = omega arith;
      }

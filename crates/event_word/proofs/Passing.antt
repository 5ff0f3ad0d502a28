-- The rows that a seat has passed, as the program keeps them.
use Rattle.std.proofs.Common.{◌≡◌, ℕ, ◌<◌}
use Rattle.std.proofs.Common.{Bool, true, false, List, []}
use Rattle.std.proofs.Common.{length, map, get_or, set}
use Rattle.std.proofs.Common.{sym, ap, ◌∙◌, arith}
use Rattle.std.proofs.Common.{Vec}
use Rattle.std.proofs.lemmas.List.{get_or_read, get_or_default, get_or-map, map-set}
use Rattle.std.proofs.lemmas.List.{length-map}
use Rattle.std.specs.List.{AllPass}
use Rattle.event_word.specs.declared.phase.Phase.TheVariants.{Pre}
use Rattle.event_word.specs.declared.event.Event.TheVariants.{Pass, Commit}
use Rattle.event_word.specs.declared.world.World.TheInside.{Inside}
use Rattle.event_word.specs.World.{phase_of, rows_passed_by, length_of}
use Rattle.event_word.specs.Step.{HasPassedAll, Possible, effect}
use Rattle.event_word.specs.Stored.{world_view, IsStored}
use Rattle.event_word.proofs.Keeps.{pre_known}
use Rattle.event_word.proofs.Stored.{view_of}

module _ {A : Type 0} (i : Inside A) (s : IsStored i) where
  -- the rows that a seat has passed are those of its list
  pub rows_read : (n place : ℕ) (list : Vec Bool A) → n < length i.phases.items → place ≡ n
      → list ≡ get_or i.passed.items place list → rows_passed_by (world_view i) n ≡ list.items
  rows_read n place list h at read = let l = s.sizes.passed in
      let m = length-map i.passed.items (λ (row : Vec Bool A). row.items) in
      get_or-map (λ (row : Vec Bool A). row.items) i.passed.items n list [] (omega arith)
      ∙ ap (λ (row : Vec Bool A). row.items)
      (ap (λ k. get_or i.passed.items k list) (sym at) ∙ sym read)

  -- a new list of a seat
  pub rows_set : (n place : ℕ) (list : Vec Bool A) (rows : List Bool) → place ≡ n
      → list.items ≡ rows → map (λ row. row.items) (set i.passed.items place list) ≡ set
      (world_view i).passed n rows
  rows_set n place list rows at is =
      map-set (λ (row : Vec Bool A). row.items) i.passed.items place list
      ∙ (ap (λ k. set (world_view i).passed k list.items) at
      ∙ ap (λ ys. set (world_view i).passed n ys) is)

  -- a pass of a row
  pub pass_view : (n r place at : ℕ) (list new : Vec Bool A) → n < length i.phases.items
      → place ≡ n → at ≡ r → list ≡ get_or i.passed.items place list
      → new.items ≡ set list.items at true
      → view_of i.phases.items i.flags.items
      (map (λ row. row.items) (set i.passed.items place new)) i.tokens.items i.pre.items i.signals
      i.stack.items i.owed.items i.announcing.items i.lengths.items i.notifiers i.stop ≡ effect
      (world_view i) (Pass n r)
  pass_view n r place at list new h seat row read is =
      ap (λ (yss : List (List Bool)). record (world_view i) { passed = yss })
      (rows_set n place new (set (rows_passed_by (world_view i) n) r true) seat
      (is ∙ (ap (λ k. set list.items k true) row
      ∙ ap (λ (ys : List Bool). set ys r true) (sym (rows_read n place list h seat read)))))

  -- how many jobs a row has, as it was read
  pub jobs_read : (r at jobs : ℕ) → r < length i.lengths.items → at ≡ r
      → jobs ≡ get_or i.lengths.items at jobs → length_of (world_view i) r ≡ jobs
  jobs_read r at jobs h is read = get_or_default i.lengths.items r 0 jobs h
      ∙ (ap (λ k. get_or i.lengths.items k jobs) (sym is) ∙ sym read)

  -- a seat's list has an entry for each row
  pub rows_long : (n place : ℕ) (list : Vec Bool A) → n < length i.phases.items → place ≡ n
      → list ≡ get_or i.passed.items place list → length list.items ≡ length i.lengths.items
  rows_long n place list h at read =
      ap length (sym (rows_read n place list h at read)) ∙ s.sizes.passed_rows n h

  -- a list of true entries only says that each row was passed, and the other way round
  pub passed_all : (n place : ℕ) (list : Vec Bool A) → n < length i.phases.items → place ≡ n
      → list ≡ get_or i.passed.items place list → get_or i.flags.items n false ≡ true
      → AllPass (λ (b : Bool). b) list.items → HasPassedAll (world_view i) n
  passed_all n place list h at read flag all = record {
    flag = flag;
    rows = λ row lt. ap (λ (ys : List Bool). get_or ys row false) (rows_read n place list h at read)
        ∙ all row false (let l = rows_long n place list h at read in omega arith);
  }

  pub all_passed : (n place : ℕ) (list : Vec Bool A) → n < length i.phases.items → place ≡ n
      → list ≡ get_or i.passed.items place list → HasPassedAll (world_view i) n
      → AllPass (λ (b : Bool). b) list.items
  all_passed n place list h at read p k d lt = get_or_default list.items k d false lt
      ∙ (ap (λ (ys : List Bool). get_or ys k false) (sym (rows_read n place list h at read))
      ∙ p.rows k (let l = rows_long n place list h at read in omega arith))

  -- a pre-waiter whose flag and rows were read may commit
  pub may_commit : (n place : ℕ) (flag : Bool) (list : Vec Bool A)
      → phase_of (world_view i) n ≡ Pre → place ≡ n → flag ≡ get_or i.flags.items place flag
      → flag ≡ true → list ≡ get_or i.passed.items place list
      → AllPass (λ (b : Bool). b) list.items → Possible (world_view i) (Commit n)
  may_commit n place flag list pre at read set_ rows all =
      let z = s.sizes in let a = z.flags in let known = pre_known (world_view i) n pre in (
        pre,
        passed_all n place list known at rows (ap (λ k. get_or i.flags.items k false) (sym at)
            ∙ (sym (get_or_read i.flags.items place flag (omega arith) read false) ∙ set_)) all,
      )

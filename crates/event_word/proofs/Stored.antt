-- The lists that the program keeps, before and after each event.
use Rattle.std.proofs.Common.{◌≡◌, ℕ, suc, ◌+◌, ◌-◌, ◌≤◌, ◌<◌, ◌==◌, min, if◌then◌else◌}
use Rattle.std.proofs.Common.{nat_lt, Bool, true, false, Option, Some, None, List, [], ◌∷◌, ◌++◌}
use Rattle.std.proofs.Common.{length, map, not, position, get_or, set, replicate, vec_len}
use Rattle.std.proofs.Common.{vec_capacity, sym, ap, refl, ◌∙◌, subst, ⊎_elim, arith, length-append}
use Rattle.std.proofs.Common.{length-set}
use Rattle.std.proofs.lemmas.Bool.{cases_eq, cases_lt, cond-true, cond-false, lt-ltb, le-ltb}
use Rattle.std.proofs.lemmas.Bool.{eq-eqb, ne_eqb, eqb-true}
use Rattle.std.proofs.lemmas.List.{get_or_past}
use Rattle.std.proofs.lemmas.List.{append-nil}
use Rattle.std.proofs.lemmas.List.Quantifiers.{position-Some}
use Rattle.std.specs.List.{remove}
use Rattle.std.specs.Option.{is_some}
use Rattle.event_word.specs.declared.phase.Phase.{Phase}
use Rattle.event_word.specs.declared.phase.Phase.TheVariants.{Running, Pre, Stacked, Ended}
use Rattle.event_word.specs.declared.event.Event.{Event}
use Rattle.event_word.specs.declared.event.Event.TheVariants.{Prewait, Cancel, Commit}
use Rattle.event_word.specs.declared.event.Event.TheVariants.{Notify, NotifyAll, Unpark, End}
use Rattle.event_word.specs.declared.world.debts.Debt.{Debt}
use Rattle.event_word.specs.declared.world.World.TheInside.{Inside}
use Rattle.event_word.specs.Lists.{without}
use Rattle.event_word.specs.World.{World, phase_of, owed_by}
use Rattle.event_word.specs.Step.{IsFree, Possible, effect, leave, announced}
use Rattle.event_word.specs.Step.{pop}
use Rattle.event_word.specs.Step.{unpark}
use Rattle.event_word.specs.Lawful.{Lawful, HasSizes}
use Rattle.event_word.specs.Debts.{debt, seats_owed, owed_lists, AreKnown}
use Rattle.event_word.specs.Stored.{world_view, IsStored}
use Rattle.event_word.proofs.Lists.{times-append, times-le-length}
use Rattle.event_word.proofs.Keeps.{lawful_effect, is_waiting, owed_is_stacked}
use Rattle.event_word.proofs.Sizes.{sizes_effect}
use Rattle.event_word.proofs.Owing.{position-None, seats_owed-append, seats_owed-map_debt}
use Rattle.event_word.proofs.Owing.{seats_owed-map_debt_other, seats_owed-first}
use Rattle.event_word.proofs.Owing.{seats_owed-remove_other, seats_owed-none, nowhere-seats_owed}
use Rattle.event_word.proofs.Owing.{AreKnown-append, AreKnown-map_debt, AreKnown-remove}
use Rattle.event_word.proofs.Owing.{actor_known, length-owed_lists, get_or-owed_lists}
use Rattle.event_word.proofs.Owing.{owed_lists-set, total-owed_lists}
use Rattle.event_word.proofs.Rooms.{length-pre, length-standing}

length_seats : (debts : List Debt) → length (map (λ (d : Debt). d.seat) debts) ≡ length debts
length_seats [] = refl
length_seats (d ∷ ds) = ap suc (length_seats ds)

-- the World that lists show
abbrev pub view_of : List Phase → List Bool → List (List Bool) → List Bool → List ℕ → ℕ → List ℕ
    → List Debt → List Bool → List ℕ → ℕ → ℕ → World
view_of phases flags passed tokens pre signals stack debts announcing lengths notifiers stop =
    record {
      phases = phases;
      flags = flags;
      passed = passed;
      pre = pre;
      signals = signals;
      stack = stack;
      owed = owed_lists (length phases + notifiers) debts;
      announcing = announcing;
      tokens = tokens;
      lengths = lengths;
      stop = stop;
    }

-- what a step of the program leaves as it needs it
pub record Keeps {A : Type 0} (i j : Inside A) : Type 0 where
  pub workers : length j.phases.items ≡ length i.phases.items
  pub notifiers : j.notifiers ≡ i.notifiers
  pub pre : vec_capacity i.pre ≤ vec_capacity j.pre
  pub stack : vec_capacity i.stack ≤ vec_capacity j.stack
  pub owed : vec_capacity i.owed ≤ vec_capacity j.owed
  pub known : AreKnown (length i.phases.items + i.notifiers) j.owed.items

module _ {A : Type 0} (i : Inside A) (s : IsStored i) where
  -- an event that is possible leads to a stored World again
  pub stored_step : (j : Inside A) (e : Event) → Possible (world_view i) e
      → world_view j ≡ effect (world_view i) e → Keeps i j → IsStored j
  stored_step j e p is k =
      let z = s.sizes in let w = k.workers in let m = k.notifiers in let few = s.few in
      let to_wait = s.room_to_wait in let to_park = s.room_to_park in
      let to_owe = s.room_to_owe in
      let a = k.pre in let b = k.stack in let c = k.owed in
      let t = subst (HasSizes (length i.phases.items) (length i.phases.items + i.notifiers)
      (length i.lengths.items)) (sym is)
      (sizes_effect (length i.phases.items) (length i.phases.items + i.notifiers)
      (length i.lengths.items) (world_view i) e z) in
      let actors : length i.phases.items + i.notifiers ≡ length j.phases.items + j.notifiers =
      omega arith in record {
        lawful = subst Lawful (sym is)
            (lawful_effect (world_view i) e (z.tokens ∙ sym z.phases) s.lawful p);
        sizes = record {
          phases = refl;
          flags = t.flags ∙ sym w;
          passed = t.passed ∙ sym w;
          passed_rows = λ seat h. t.passed_rows seat (omega arith) ∙ sym t.lengths;
          owed = t.owed ∙ actors;
          announcing = t.announcing ∙ actors;
          tokens = t.tokens ∙ sym w;
          lengths = refl;
        };
        few = omega arith;
        known = subst (λ n. AreKnown n j.owed.items) actors k.known;
        room_to_wait = omega arith;
        room_to_park = omega arith;
        room_to_owe = omega arith;
      }

  -- the stack and the debts together are no longer than there are workers
  pub room : length i.stack.items + length i.owed.items ≤ length i.phases.items
  room = let w = world_view i in let seats = map (λ (d : Debt). d.seat) i.owed.items in
      let l = length-append i.stack.items seats in let m = length_seats i.owed.items in
      let r = length-standing w (i.stack.items ++ seats) s.lawful
      (λ n. let a = times-append n i.stack.items seats in
      let b = total-owed_lists (length i.phases.items + i.notifiers) n i.owed.items s.known in
      omega arith) in omega arith

  pub room_to_prewait : (n : ℕ) → Possible (world_view i) (Prewait n)
      → vec_len i.pre < vec_capacity i.pre
  room_to_prewait n p = let z = s.sizes in let w = effect (world_view i) (Prewait n) in
      let l = length-pre w (lawful_effect (world_view i) (Prewait n) (z.tokens
      ∙ sym z.phases) s.lawful p) in
      let a = length-append i.pre.items (n ∷ []) in let b = length-set i.phases.items n Pre in
      let c = s.room_to_wait in let d = i.pre.ok.0 in omega arith

  pub room_to_push : (n : ℕ) → Possible (world_view i) (Commit n) → i.signals ≡ 0
      → vec_len i.stack < vec_capacity i.stack
  room_to_push n p none = let z = s.sizes in
      let u = record (leave (world_view i) n Stacked i.signals) { stack = n ∷ i.stack.items } in
      let is = cond-false (nat_lt 0 i.signals) (leave (world_view i) n Running (i.signals - 1)) u
      (le-ltb 0 i.signals (omega arith)) in
      let r = subst Lawful is (lawful_effect (world_view i) (Commit n) (z.tokens
      ∙ sym z.phases) s.lawful p) in
      let l = length-standing u (n ∷ i.stack.items) r (λ m. omega arith) in
      let b = length-set i.phases.items n Stacked in let c = s.room_to_park in
      let d = i.stack.ok.0 in omega arith

  pub room_to_owe : 0 < length i.stack.items → vec_len i.owed < vec_capacity i.owed
  room_to_owe some = let r = room in let c = s.room_to_owe in let d = i.owed.ok.0 in omega arith

  pub room_to_owe_all : vec_len i.owed + length i.stack.items ≤ vec_capacity i.owed
  room_to_owe_all = let r = room in let c = s.room_to_owe in let d = i.owed.ok.0 in omega arith

  pub owed_by-view : (a : ℕ) → a < length i.phases.items + i.notifiers
      → owed_by (world_view i) a ≡ seats_owed a i.owed.items
  owed_by-view a h = get_or-owed_lists (length i.phases.items + i.notifiers) i.owed.items a h

  pub owed_by-nothing : (a : ℕ) → seats_owed a i.owed.items ≡ [] → owed_by (world_view i) a ≡ []
  owed_by-nothing a none = ⊎_elim (λ lt. owed_by-view a lt ∙ none)
      (λ le. get_or_past (world_view i).owed a []
      (let l = length-owed_lists (length i.phases.items + i.notifiers) i.owed.items in
      omega arith))
      (cases_lt a (length i.phases.items + i.notifiers))

  -- the actor is free as the lists say
  pub free_from : (a : ℕ) → a < length i.phases.items + i.notifiers
      → (a < length i.phases.items → phase_of (world_view i) a ≡ Running)
      → position (λ (d : Debt). d.actor == a) i.owed.items ≡ None → IsFree (world_view i) a
  free_from a h runs none = record {
    known = let l = length-owed_lists (length i.phases.items + i.notifiers) i.owed.items in
        omega arith;
    owes_none =
        owed_by-nothing a
        (seats_owed-none a i.owed.items (debt 0 0)
        (λ k lt. position-None (λ (d : Debt). d.actor == a) i.owed.items none k (debt 0 0) lt));
    runs = runs;
  }

  pub free_known : (a : ℕ) → IsFree (world_view i) a → a < length i.phases.items + i.notifiers
  free_known a f = let l = length-owed_lists (length i.phases.items + i.notifiers) i.owed.items in
      let k = f.known in omega arith

  pub free_owes_nothing : (a k : ℕ) → IsFree (world_view i) a
      → position (λ (d : Debt). d.actor == a) i.owed.items ≡ Some k → ⊥
  free_owes_nothing a k f found = let q = position-Some (λ (d : Debt). d.actor == a) i.owed.items k
      (debt 0 0) found in
      nowhere-seats_owed a i.owed.items k (debt 0 0) q.0 q.1 (sym (owed_by-view a (free_known a f))
      ∙ f.owes_none)

  pub prewait_view : (n place : ℕ) (passed : List (List Bool)) (pre : List ℕ) → place ≡ n
      → passed ≡ set (world_view i).passed n (replicate (length i.lengths.items) false)
      → pre ≡ i.pre.items ++ n ∷ []
      → view_of (set i.phases.items place Pre) (set i.flags.items place false) passed i.tokens.items
      pre i.signals i.stack.items i.owed.items i.announcing.items i.lengths.items i.notifiers i.stop
      ≡ effect (world_view i) (Prewait n)
  prewait_view n place passed pre at none e =
      let l = length-set i.phases.items n Pre in
      let b = ap (λ m. owed_lists (m + i.notifiers) i.owed.items) l in
      let f = ap (λ p. set i.phases.items p Pre) at in
      let g = ap (λ p. set i.flags.items p false) at in
      let l2 = ap (λ (xs : List Phase). length xs) f in cc

  -- a worker that ends
  pub end_view : (n place : ℕ) → place ≡ n
      → view_of (set i.phases.items place Ended) i.flags.items (world_view i).passed i.tokens.items
      i.pre.items i.signals i.stack.items i.owed.items i.announcing.items i.lengths.items
      i.notifiers i.stop ≡ effect (world_view i) (End n)
  end_view n place at =
      let l = length-set i.phases.items n Ended in
      let b = ap (λ m. owed_lists (m + i.notifiers) i.owed.items) l in
      let f = ap (λ p. set i.phases.items p Ended) at in
      let l2 = ap (λ (xs : List Phase). length xs) f in cc

  pub leave_view : (n place signals : ℕ) (pre : List ℕ) → place ≡ n → pre ≡ without n i.pre.items
      → view_of (set i.phases.items place Running) i.flags.items (world_view i).passed
      i.tokens.items pre signals
      i.stack.items i.owed.items i.announcing.items i.lengths.items i.notifiers i.stop ≡ leave
      (world_view i) n Running signals
  leave_view n place signals pre at e =
      let l = length-set i.phases.items n Running in
      let b = ap (λ m. owed_lists (m + i.notifiers) i.owed.items) l in
      let f = ap (λ p. set i.phases.items p Running) at in
      let l2 = ap (λ (xs : List Phase). length xs) f in cc

  -- each pre-waiter but one can keep its signal
  signals_left : i.signals ≤ length i.pre.items → 0 < length i.pre.items
      → min i.signals (length i.pre.items - 1) ≡
      (if i.signals == length i.pre.items then i.signals - 1 else i.signals)
  signals_left le some = ⊎_elim
      (λ e. let t = cond-true (i.signals == length i.pre.items) (i.signals - 1) i.signals
      (eq-eqb i.signals (length i.pre.items) e) in omega arith)
      (λ ne. let f = cond-false (i.signals == length i.pre.items) (i.signals - 1) i.signals
      (ne_eqb i.signals (length i.pre.items) ne) in omega arith)
      (cases_eq i.signals (length i.pre.items))

  pub cancel_view : (n place signals : ℕ) (pre : List ℕ) → Possible (world_view i) (Cancel n)
      → place ≡ n → signals ≡ min i.signals (length i.pre.items - 1) → pre ≡ without n i.pre.items
      → view_of (set i.phases.items place Running) i.flags.items (world_view i).passed
      i.tokens.items pre signals
      i.stack.items i.owed.items i.announcing.items i.lengths.items i.notifiers i.stop ≡ effect
      (world_view i)
      (Cancel n)
  cancel_view n place signals pre p at few e =
      let one = is_waiting (world_view i) s.lawful n p in let le = times-le-length n i.pre.items in
      leave_view n place signals pre at e ∙ ap (λ m. leave (world_view i) n Running m) (few
      ∙ signals_left s.lawful.answered (omega arith))

  pub consume_view : (n place signals : ℕ) (pre : List ℕ) → 0 < i.signals → place ≡ n
      → signals ≡ i.signals - 1 → pre ≡ without n i.pre.items
      → view_of (set i.phases.items place Running) i.flags.items (world_view i).passed
      i.tokens.items pre signals
      i.stack.items i.owed.items i.announcing.items i.lengths.items i.notifiers i.stop ≡ effect
      (world_view i)
      (Commit n)
  consume_view n place signals pre some at few e =
      leave_view n place signals pre at e ∙ (ap (λ m. leave (world_view i) n Running m) few
      ∙ sym (cond-true (nat_lt 0 i.signals) (leave (world_view i) n Running (i.signals - 1))
      (record (leave (world_view i) n Stacked i.signals) { stack = n ∷ i.stack.items })
      (lt-ltb 0 i.signals some)))

  pub push_view : (n place : ℕ) (pre stack : List ℕ) → i.signals ≡ 0 → place ≡ n
      → pre ≡ without n i.pre.items → stack ≡ n ∷ i.stack.items
      → view_of (set i.phases.items place Stacked) i.flags.items (world_view i).passed
      i.tokens.items pre i.signals stack
      i.owed.items i.announcing.items i.lengths.items i.notifiers i.stop ≡ effect (world_view i)
      (Commit n)
  push_view n place pre stack none at e d =
      let l = length-set i.phases.items n Stacked in
      let b = ap (λ m. owed_lists (m + i.notifiers) i.owed.items) l in
      let f = ap (λ p. set i.phases.items p Stacked) at in
      let l2 = ap (λ (xs : List Phase). length xs) f in
      let u = record (leave (world_view i) n Stacked i.signals) { stack = n ∷ i.stack.items } in
      let g : view_of (set i.phases.items place Stacked) i.flags.items (world_view i).passed
      i.tokens.items pre i.signals
      stack i.owed.items i.announcing.items i.lengths.items i.notifiers i.stop ≡ u = cc in
      g ∙ sym (cond-false (nat_lt 0 i.signals) (leave (world_view i) n Running (i.signals - 1)) u
      (le-ltb 0 i.signals (omega arith)))

  pub signal_view : (a signals : ℕ) → i.signals < length i.pre.items → signals ≡ i.signals + 1
      → view_of i.phases.items i.flags.items (world_view i).passed i.tokens.items i.pre.items
      signals
      i.stack.items i.owed.items (set i.announcing.items a false) i.lengths.items i.notifiers i.stop
      ≡ effect (world_view i) (Notify a)
  signal_view a signals few e = let h = announced (world_view i) a in
      ap (λ m. record h { signals = m }) e
      ∙ sym (cond-true (nat_lt i.signals (length i.pre.items))
      (record h { signals = i.signals + 1 }) (pop h a i.stack.items)
      (lt-ltb i.signals (length i.pre.items) few))

  -- where no pre-waiter lacks a signal, a notification pops
  notify-pop : (a : ℕ) → length i.pre.items ≤ i.signals
      → effect (world_view i) (Notify a) ≡ pop (announced (world_view i) a) a i.stack.items
  notify-pop a le = let h = announced (world_view i) a in
      cond-false (nat_lt i.signals (length i.pre.items)) (record h { signals = i.signals + 1 })
      (pop h a i.stack.items) (le-ltb i.signals (length i.pre.items) le)

  pub nothing_view : (a : ℕ) → length i.pre.items ≤ i.signals → i.stack.items ≡ []
      → announced (world_view i) a ≡ effect (world_view i) (Notify a)
  nothing_view a le none = sym (notify-pop a le
      ∙ ap (λ (xs : List ℕ). pop (announced (world_view i) a) a xs) none)

  pub pop_view : (a seat : ℕ) (stack : List ℕ) (debts : List Debt)
      → a < length i.phases.items + i.notifiers → length i.pre.items ≤ i.signals
      → i.stack.items ≡ seat ∷ stack → debts ≡ i.owed.items ++ debt a seat ∷ []
      → view_of i.phases.items i.flags.items (world_view i).passed i.tokens.items i.pre.items
      i.signals stack debts
      (set i.announcing.items a false) i.lengths.items i.notifiers i.stop ≡ effect (world_view i)
      (Notify a)
  pop_view a seat stack debts lt le e d =
      let more = owed_lists-set (length i.phases.items + i.notifiers) a i.owed.items
      (i.owed.items ++ debt a seat ∷ []) (owed_by (world_view i) a ++ seat ∷ []) lt
      (seats_owed-append a i.owed.items (debt a seat ∷ [])
      ∙ (ap (λ xs. seats_owed a i.owed.items ++ xs) (seats_owed-map_debt a (seat ∷ []))
      ∙ ap (λ xs. xs ++ seat ∷ []) (sym (owed_by-view a lt))))
      (λ b ne. seats_owed-append b i.owed.items (debt a seat ∷ [])
      ∙ (ap (λ xs. seats_owed b i.owed.items ++ xs)
      (seats_owed-map_debt_other a b (seat ∷ []) ne) ∙ append-nil (seats_owed b i.owed.items)))
      in
      let q = ap (λ ds. owed_lists (length i.phases.items + i.notifiers) ds) d ∙ more in
      ap (λ (xs : List (List ℕ)). record (announced (world_view i) a) { stack = stack; owed = xs })
      q
      ∙ sym (notify-pop a le ∙ ap (λ (xs : List ℕ). pop (announced (world_view i) a) a xs) e)

  pub notify_all_view : (a signals stop : ℕ) (stack : List ℕ) (debts : List Debt)
      → a < length i.phases.items + i.notifiers → signals ≡ length i.pre.items → stack ≡ []
      → stop ≡ (if i.stop == 1 then 2 else i.stop)
      → debts ≡ i.owed.items ++ map (debt a) i.stack.items
      → view_of i.phases.items i.flags.items (world_view i).passed i.tokens.items i.pre.items
      signals stack debts
      (set i.announcing.items a false) i.lengths.items i.notifiers stop ≡ effect (world_view i)
      (NotifyAll a)
  notify_all_view a signals stop stack debts lt e none stops d =
      let more = owed_lists-set (length i.phases.items + i.notifiers) a i.owed.items
      (i.owed.items ++ map (debt a) i.stack.items)
      (owed_by (world_view i) a ++ i.stack.items) lt
      (seats_owed-append a i.owed.items (map (debt a) i.stack.items)
      ∙ (ap (λ xs. seats_owed a i.owed.items ++ xs) (seats_owed-map_debt a i.stack.items)
      ∙ ap (λ xs. xs ++ i.stack.items) (sym (owed_by-view a lt))))
      (λ b ne. seats_owed-append b i.owed.items (map (debt a) i.stack.items)
      ∙ (ap (λ xs. seats_owed b i.owed.items ++ xs)
      (seats_owed-map_debt_other a b i.stack.items ne)
      ∙ append-nil (seats_owed b i.owed.items))) in
      let q = ap (λ ds. owed_lists (length i.phases.items + i.notifiers) ds) d ∙ more in
      cc

  -- the place of an actor's first debt, and what is left once it is gone
  pub unpark_view : (a k seat : ℕ) (d : Debt) (debts : List Debt)
      → position (λ (x : Debt). x.actor == a) i.owed.items ≡ Some k → d ≡ get_or i.owed.items k d
      → seat ≡ d.seat → debts ≡ remove i.owed.items k
      → (owed_by (world_view i) a ≡ d.seat ∷ seats_owed a debts) × (seat < length i.tokens.items)
      × (AreKnown (length i.phases.items + i.notifiers) debts)
      × (view_of i.phases.items i.flags.items (world_view i).passed (set i.tokens.items seat true)
      i.pre.items i.signals
      i.stack.items debts i.announcing.items i.lengths.items i.notifiers i.stop ≡ effect
      (world_view i) (Unpark a))
  unpark_view a k seat d debts found at is gone =
      let q = position-Some (λ (x : Debt). x.actor == a) i.owed.items k d found in
      let z = s.sizes in
      let mine = ap (λ (x : Debt). x.actor) at in
      let lt : a < length i.phases.items + i.notifiers =
      subst (λ m. m < length i.phases.items + i.notifiers)
      (eqb-true (get_or i.owed.items k d).actor a q.1)
      (actor_known (length i.phases.items + i.notifiers) i.owed.items k d s.known q.0) in
      let first : owed_by (world_view i) a ≡ d.seat ∷ seats_owed a debts =
      owed_by-view a lt ∙ (seats_owed-first a i.owed.items k d q.0 q.1 q.2
      ∙ (ap (λ (x : Debt). x.seat ∷ seats_owed a (remove i.owed.items k)) (sym at)
      ∙ ap (λ ds. d.seat ∷ seats_owed a ds) (sym gone))) in
      let t = owed_is_stacked (world_view i) s.lawful a d.seat (seats_owed a debts) first in
      let less = owed_lists-set (length i.phases.items + i.notifiers) a i.owed.items debts
      (seats_owed a debts) lt refl
      (λ b ne.
      ap (seats_owed b) gone ∙ seats_owed-remove_other a b i.owed.items k d ne q.0 q.1) in (
        first,
        let sized = z.tokens in omega (arith, t.1),
        subst (AreKnown (length i.phases.items + i.notifiers)) (sym gone)
            (AreKnown-remove (length i.phases.items + i.notifiers) i.owed.items k s.known),
        (ap (λ m. record (world_view i) {
          tokens = set i.tokens.items m true;
          owed = owed_lists (length i.phases.items + i.notifiers) debts;
        }) is
            ∙ ap (λ (xs : List (List ℕ)). record (world_view i) {
              tokens =
                  set i.tokens.items d.seat true;
              owed = xs;
            }) less)
            ∙ sym (ap (λ (xs : List ℕ). unpark (world_view i) a xs) first),
      )

  -- the test of the program, by what it finds among the debts
  free_when : (a : ℕ) (found : Option ℕ) (answer : Bool) → a < length i.phases.items + i.notifiers
      → (a < length i.phases.items → phase_of (world_view i) a ≡ Running)
      → position (λ (d : Debt). d.actor == a) i.owed.items ≡ found → is_some found ≡ not answer
      → (answer ≡ true → IsFree (world_view i) a) × (IsFree (world_view i) a → answer ≡ true)
  free_when a None true h runs e t = (λ _. free_from a h runs e, λ _. refl)
  free_when a None false h runs e t = absurd (cc)
  free_when a (Some k) true h runs e t = absurd (cc)
  free_when a (Some k) false h runs e t =
      (λ q. absurd (cc), λ f. absurd (free_owes_nothing a k f e))

  pub free_iff : (now : World) (a : ℕ) (answer : Bool) → world_view i ≡ now
      → a < length i.phases.items + i.notifiers
      → (a < length i.phases.items → phase_of (world_view i) a ≡ Running)
      → is_some (position (λ (d : Debt). d.actor == a) i.owed.items) ≡ not answer
      → (answer ≡ true → IsFree now a) × (IsFree now a → answer ≡ true)
  free_iff now a answer is h runs t =
      subst (λ w. (answer ≡ true → IsFree w a) × (IsFree w a → answer ≡ true)) is
      (free_when a (position (λ (d : Debt). d.actor == a) i.owed.items) answer h runs refl t)

  pub owes_nothing_from : (a : ℕ) → position (λ (d : Debt). d.actor == a) i.owed.items ≡ None
      → owed_by (world_view i) a ≡ []
  owes_nothing_from a none =
      owed_by-nothing a
      (seats_owed-none a i.owed.items (debt 0 0)
      (λ k lt. position-None (λ (d : Debt). d.actor == a) i.owed.items none k (debt 0 0) lt))

  pub known_more : (a : ℕ) (seats : List ℕ) (debts : List Debt)
      → a < length i.phases.items + i.notifiers → debts ≡ i.owed.items ++ map (debt a) seats
      → AreKnown (length i.phases.items + i.notifiers) debts
  known_more a seats debts lt e = subst (AreKnown (length i.phases.items + i.notifiers)) (sym e)
      (AreKnown-append (length i.phases.items + i.notifiers) i.owed.items
      (map (debt a) seats) s.known
      (AreKnown-map_debt (length i.phases.items + i.notifiers) a seats lt))

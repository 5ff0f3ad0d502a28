-- Each step keeps the account.
use Rattle.std.proofs.Common.{◌≡◌, ◌≢◌, ℕ, eqb, ◌+◌, ◌/◌, ◌^◌, ◌<◌, ◌≤◌, List, [], ◌∷◌}
use Rattle.std.proofs.Common.{◌++◌, Option, Bool, true}
use Rattle.std.proofs.Common.{Some, None, ⊎_elim, length, get_or, set, sym, refl, ap, ◌∙◌, subst}
use Rattle.std.proofs.Common.{arith, length-set, get_or-set_same, get_or-set_other}
use mathlib.Core.Path.{Path}
use mathlib.Core.Option.{some, none, some-injective, some-ne-none}
use native.Mathlib.Decide.{ℕ_discrete}
use prog.Atomic.{either}
use lib.ListN.{get_elem?}
use lib.Seq.{set-get_or}
use Rattle.atomic_table.specs.Table.{State, Act, Valid, Allows, step, stepped}
use Rattle.atomic_table.specs.Table.{keeps, takes, gives, carried_after}
use Rattle.atomic_table.proofs.Lists.{at_set, set_here, set_else, exchanged}
use Rattle.run_queue.specs.declared.slot_rows.view.View.{View}
use Rattle.run_queue.specs.declared.slot_rows.view.Notes.{Notes}
use Rattle.run_queue.specs.Bag.{total}
use Rattle.run_queue.specs.Elements.{Phase, empty, busy, ready, word_of, home_of, namers_of}
use Rattle.run_queue.specs.Elements.{weight_at_home}
use Rattle.run_queue.specs.Lengths.{length_word, in_row, owed_to, total_at}
use Rattle.run_queue.specs.Lengths.{job_in_row}
use Rattle.run_queue.specs.Views.{names, claimed, moved, view_of, noted, nothing, owed_where}
use Rattle.run_queue.specs.RowTable.{Shows, KeepsAccount}
use Rattle.run_queue.specs.Plays.{Sat, claims_in, makes_ready, claims_out, makes_empty}
use Rattle.run_queue.proofs.Options.{same_job, no_job_there}
use Rattle.run_queue.proofs.Totals.{total_set, total_last, at_most_total}
use Rattle.run_queue.proofs.Totals.{names_same, names_other}
use Rattle.run_queue.proofs.InRows.{total_at_set}

abbrev pub St : Type 0 → Type 0
St J = State (Option J) (View J)

module _ {J : Type 0} where
  abbrev pub changed : St J → ℕ → ℕ → Phase J → View J → St J
  changed s i id p w = record {
    words = set s.words i (word_of p);
    homes = set s.homes i (home_of p);
    views = set s.views id w;
  }

  abbrev pub Spent : List (View J) → Type 0
  Spent vs = (j : ℕ) (v : View J) → get_elem? vs j ≡ some v → v.parts ≡ 0 → v ≡ nothing

  -- the words behind the words of these elements have the lengths
  abbrev pub Lengths : St J → ℕ → Type 0
  Lengths s n =
      (r : ℕ) → r ≤ n / 1024 → get_or s.words (length_word n r) 0
      ≡ total_at (job_in_row r) 0 s.homes + total (λ v. owed_to r v.owes) s.views

  -- a view that has a part
  pub spent_set : (vs : List (View J)) (id : ℕ) (w : View J) → 0 < w.parts → Spent vs
      → Spent (set vs id w)
  spent_set vs id w live spent j u at partless =
      ⊎_elim
      (λ t. let is : w.parts ≡ u.parts = ap (λ x. x.parts) t.1 in absurd (omega arith))
      (λ t. spent j u t.1 partless) (at_set vs id j w u at)

  -- one length changes, and what one view owes
  abbrev pub recounted : St J → ℕ → ℕ → ℕ → View J → St J
  recounted s r m id w = record {
    words = set s.words (length_word (length s.homes) r) m;
    homes = s.homes;
    views = set s.views id w;
  }

  -- the length of a row is what it is to be
  abbrev pub Counts : St J → ℕ → Type 0
  Counts s r =
      get_or s.words (length_word (length s.homes) r) 0
      ≡ total_at (job_in_row r) 0 s.homes + total (λ v. owed_to r v.owes) s.views

  -- the step is taken, and the word i becomes n
  abbrev pub Goes : (St J → Type 0) → St J → ℕ → ℕ → Sat J → (Sat J → Type 0) → ℕ → Type 0
  Goes P s i id me then n =
      (w : View J) × (a : Act (Option J)) × Valid s.homes me.1 a
      × P (stepped s i n id me.1 w a) × then (w, carried_after me.1 a)

  is_empty : (p : Phase J) → word_of p ≡ 0 → Path (Phase J) p empty
  is_empty empty e = refl
  is_empty busy e = absurd (omega arith)
  is_empty (ready x) e = absurd (omega arith)

  pub is_busy : (p : Phase J) → 1 ≤ namers_of p → Path (Phase J) p busy
  is_busy empty e = absurd (omega arith)
  is_busy busy e = refl
  is_busy (ready x) e = absurd (omega arith)

  is_ready : (p : Phase J) → word_of p ≡ 2 → (x : J) × Path (Phase J) p (ready x)
  is_ready empty e = absurd (omega arith)
  is_ready busy e = absurd (omega arith)
  is_ready (ready x) e = (x, refl)

module _ {J : Type 0} {F : ℕ → J → Type 0} {b : Bool} where
  -- one element and one view change
  pub turns : {c : ℕ} (s : St J) → KeepsAccount F b c s → (i id : ℕ) (v w : View J) (p q : Phase J)
      → i < length s.homes → get_elem? s.views id ≡ some v → w.parts ≡ v.parts → 0 < v.parts
      → Shows s i p → names i w.busy + namers_of p ≡ names i v.busy + namers_of q
      → ((j : ℕ) → j ≢ i → names j w.busy ≡ names j v.busy)
      → (b ≡ true → (r : ℕ) → job_in_row r i (home_of p) + owed_to r v.owes
      ≡ job_in_row r i (home_of q) + owed_to r w.owes)
      → ((x : J) → home_of q ≡ some (Some x) → F (i / 1024) x)
      → ((h : J → ℕ) → total h w.puts + (total h v.takes + weight_at_home h (home_of p))
      ≡ total h v.puts + (total h w.takes + weight_at_home h (home_of q)))
      → KeepsAccount F b c (changed s i id q w)
  turns {c} s a i id v w p q near at same_parts live shows here other rows fits weights = record {
    long = subst (λ n. length_word n (n / 1024) < length s'.words) (sym same_homes)
        (subst (λ n. length_word (length s.homes) (length s.homes / 1024) < n)
        (sym (length-set s.words i (word_of q))) a.long);
    few = subst (λ n. n + c < 2 ^ 33) (sym same_homes) a.few;
    each = λ j h. pick j h (ℕ_discrete j i);
    fit = λ j x e.
        ⊎_elim (λ t. subst (λ k. F (k / 1024) x) (sym t.0) (fits x t.1)) (λ t. a.fit j x t.1)
        (at_set s.homes i j (home_of q) (some (Some x)) e);
    lengths = λ on. subst (Lengths s') (sym same_homes) (lengths on);
    balance = balance;
    whole =
        (let t = total_set (λ u. u.parts) s.views id v w at in let n = a.whole in omega arith);
    spent = spent_set s.views id w (omega arith) a.spent;
  }
    where
      s' : St J
      s' = changed s i id q w

      same_homes : length s'.homes ≡ length s.homes
      same_homes = length-set s.homes i (home_of q)

      long : i < length s.words
      long = let l = a.long in omega arith

      own : Shows s' i q
      own =
          let t = total_set (λ u. names i u.busy) s.views id v w at in
          let n = shows.2 in (
            get_or-set_same s.words i (word_of q) 0 long,
            set_here s.homes i (home_of q) near,
            omega arith,
          )

      far : (j : ℕ) → j ≢ i → (o : Phase J) → Shows s j o → Shows s' j o
      far j ne o sh =
          let t = total_set (λ u. names j u.busy) s.views id v w at in
          let n = sh.2 in
          let same = other j ne in (
            get_or-set_other s.words i j (word_of q) 0 ne ∙ sh.0,
            set_else s.homes i j (home_of q) ne ∙ sh.1,
            omega arith,
          )

      pick : (j : ℕ) → j < length s'.homes → Dec (j ≡ i) → (o : Phase J) × Shows s' j o
      pick j h (yes e) = subst (λ k. (o : Phase J) × Shows s' k o) (sym e) (q, own)
      pick j h (no ne) =
          let old = a.each j (subst (λ n. j < n) same_homes h) in
          (old.0, far j ne old.0 old.1)

      lengths : b ≡ true → Lengths s' (length s.homes)
      lengths on r h =
          let t = total_set (λ u. owed_to r u.owes) s.views id v w at in
          let u =
          total_at_set (job_in_row r) 0 s.homes i i (home_of p) (home_of q) (omega arith) shows.1 in
          let z = a.lengths on r h in
          let d = rows on r in
          get_or-set_other s.words i (length_word (length s.homes) r) (word_of q) 0
          (λ e. omega arith) ∙ (omega arith)

      balance : (h : J → ℕ) → total (λ u. total h u.puts) s'.views
          ≡ total (λ u. total h u.takes) s'.views + total (weight_at_home h) s'.homes
      balance h =
          let x = total_set (λ u. total h u.puts) s.views id v w at in
          let y = total_set (λ u. total h u.takes) s.views id v w at in
          let z = total_set (weight_at_home h) s.homes i (home_of p) (home_of q) shows.1 in
          let d = weights h in
          let e = a.balance h in
          omega arith

  pub counted : {c : ℕ} (s : St J) → KeepsAccount F b c s → (r m id : ℕ) (v w : View J)
      → r ≤ length s.homes / 1024 → get_elem? s.views id ≡ some v → w.parts ≡ v.parts
      → 0 < v.parts → w.busy ≡ v.busy → w.puts ≡ v.puts → w.takes ≡ v.takes
      → (b ≡ true → m + owed_to r v.owes
      ≡ get_or s.words (length_word (length s.homes) r) 0 + owed_to r w.owes)
      → ((j : ℕ) → j ≢ r → owed_to j w.owes ≡ owed_to j v.owes)
      → KeepsAccount F b c (recounted s r m id w)
  counted {c} s a r m id v w low at same_parts live same_busy same_puts same_takes here other =
      record {
        long = subst (λ n. length_word (length s.homes) (length s.homes / 1024) < n)
            (sym (length-set s.words (length_word (length s.homes) r) m)) a.long;
        few = a.few;
        each = λ i near.
            let el = a.each i near in
            let t = total_set (λ u. names i u.busy) s.views id v w at in
            let z : names i w.busy ≡ names i v.busy = ap (names i) same_busy in
            let n = el.1.2 in (
              el.0,
              (
                get_or-set_other s.words (length_word (length s.homes) r) i m 0 (λ e. omega arith)
                    ∙ el.1.0,
                el.1.1,
                omega arith,
              ),
            );
        fit = a.fit;
        lengths = λ on j h. at_row on j h (ℕ_discrete j r);
        balance = λ h.
            let x = total_set (λ u. total h u.puts) s.views id v w at in
            let y = total_set (λ u. total h u.takes) s.views id v w at in
            let d : total h w.puts ≡ total h v.puts = ap (total h) same_puts in
            let e : total h w.takes ≡ total h v.takes = ap (total h) same_takes in
            let f = a.balance h in
            omega arith;
        whole =
            (let t = total_set (λ u. u.parts) s.views id v w at in
            let n = a.whole in
            omega arith);
        spent = spent_set s.views id w (omega arith) a.spent;
      }
    where
      at_row : b ≡ true → (j : ℕ) → j ≤ length s.homes / 1024 → Dec (j ≡ r)
          → Counts (recounted s r m id w) j
      at_row on j h (yes e) =
          subst (Counts (recounted s r m id w)) (sym e)
          (let t = total_set (λ u. owed_to r u.owes) s.views id v w at in
          let z = a.lengths on r low in
          let y = here on in
          let l = a.long in
          get_or-set_same s.words (length_word (length s.homes) r) m 0 (omega arith)
          ∙ (omega arith))
      at_row on j h (no ne) =
          let t = total_set (λ u. owed_to j u.owes) s.views id v w at in
          let z = a.lengths on j h in
          let d = other j ne in
          get_or-set_other s.words (length_word (length s.homes) r)
          (length_word (length s.homes) j) m 0 (λ e. ne (omega arith)) ∙ (omega arith)

  -- the views change, and what they name, owe and add up to stays
  pub reseated : {c : ℕ} (s : St J) → KeepsAccount F b c s → (vs : List (View J))
      → total (λ u. u.parts) vs ≡ total (λ u. u.parts) s.views → Spent vs
      → ((i : ℕ) → total (λ u. names i u.busy) vs ≡ total (λ u. names i u.busy) s.views)
      → ((r : ℕ) → total (λ u. owed_to r u.owes) vs ≡ total (λ u. owed_to r u.owes) s.views)
      → ((h : J → ℕ) → total (λ u. total h u.puts) vs ≡ total (λ u. total h u.puts) s.views)
      → ((h : J → ℕ) → total (λ u. total h u.takes) vs ≡ total (λ u. total h u.takes) s.views)
      → KeepsAccount F b c record { words = s.words; homes = s.homes; views = vs }
  reseated {c} s r vs parts spent named owed put taken = record {
    long = r.long;
    few = r.few;
    fit = r.fit;
    lengths = λ on k h. let a = owed k in let z = r.lengths on k h in omega arith;
    each = λ i near. let el = r.each i near in (el.0, (el.1.0, el.1.1, named i ∙ el.1.2));
    balance =
        λ h. let a = put h in let z = taken h in let y = r.balance h in omega arith;
    whole = parts ∙ r.whole;
    spent = spent;
  }

  -- only the notes of one view change
  pub stays : {c : ℕ} (s : St J) → KeepsAccount F b c s → (i id : ℕ) (v : View J) (t : Notes)
      → 0 < v.parts → get_elem? s.views id ≡ some v
      → KeepsAccount F b c record {
        words = set s.words i (get_or s.words i 0);
        homes = s.homes;
        views = set s.views id (noted v t);
      }
  stays {c} s r i id v t live at =
      let vs = set s.views id (noted v t) in
      let same : (f : View J → ℕ) → f (noted v t) ≡ f v → total f vs ≡ total f s.views =
      λ f e. let a = total_set f s.views id v (noted v t) at in omega arith in
      subst (λ ws. KeepsAccount F b c record { words = ws; homes = s.homes; views = vs })
      (sym (set-get_or s.words i 0))
      (reseated s r vs (same (λ u. u.parts) refl) (spent_set s.views id (noted v t) live r.spent)
      (λ i. same (λ u. names i u.busy) refl) (λ k. same (λ u. owed_to k u.owes) refl)
      (λ h. same (λ u. total h u.puts) refl)
      (λ h. same (λ u. total h u.takes) refl))

  -- a seat that works on nothing takes an element
  taken : {c : ℕ} (s : St J) → KeepsAccount F b c s → (i id : ℕ) (v w : View J) (p : Phase J)
      → i < length s.homes → get_elem? s.views id ≡ some v → w.parts ≡ v.parts → 0 < v.parts
      → v.busy ≡ None → w.busy ≡ Some i → namers_of p ≡ 0 → Shows s i p
      → (b ≡ true → (r : ℕ) → job_in_row r i (home_of p) + owed_to r v.owes ≡ owed_to r w.owes)
      → ((h : J → ℕ) → total h w.puts + (total h v.takes + weight_at_home h (home_of p))
      ≡ total h v.puts + total h w.takes)
      → KeepsAccount F b c (changed s i id busy w)
  taken {c} s r i id v w p near at same_parts live rests works none_names shows rows weights =
      turns s r i id v w p busy near at same_parts live shows
      (let a : names i w.busy ≡ 1 = ap (names i) works ∙ names_same i in
      let z : names i v.busy ≡ 0 = ap (names i) rests in
      omega arith)
      (λ j ne. ap (names j) works ∙ names_other i j ne ∙ sym (ap (names j) rests))
      (λ on r. let a = rows on r in omega arith) (λ x e. absurd (some-ne-none (Some x) (sym e)))
      (λ h. let a = weights h in omega arith)

  -- the seat that works on an element gives it back
  returned : {c : ℕ} (s : St J) → KeepsAccount F b c s → (i id : ℕ) (v w : View J) (q : Phase J)
      → i < length s.homes → get_elem? s.views id ≡ some v → w.parts ≡ v.parts → 0 < v.parts
      → v.busy ≡ Some i → w.busy ≡ None → namers_of q ≡ 0
      → (b ≡ true → (r : ℕ) → owed_to r v.owes ≡ job_in_row r i (home_of q) + owed_to r w.owes)
      → ((x : J) → home_of q ≡ some (Some x) → F (i / 1024) x)
      → ((h : J → ℕ) → total h w.puts + total h v.takes
      ≡ total h v.puts + (total h w.takes + weight_at_home h (home_of q)))
      → KeepsAccount F b c (changed s i id q w)
  returned {c} s r i id v w q near at same_parts live works rests none_names rows fits weights =
      let el = r.each i near in
      let one : names i v.busy ≡ 1 = ap (names i) works ∙ names_same i in
      let few = at_most_total (λ u. names i u.busy) s.views id v at in
      let named = el.1.2 in
      let shows : Shows s i busy = subst (Shows s i) (is_busy el.0 (omega arith)) el.1 in
      turns s r i id v w busy q near at same_parts live shows
      (let z : names i w.busy ≡ 0 = ap (names i) rests in omega arith)
      (λ j ne. ap (names j) rests ∙ sym (ap (names j) works ∙ names_other i j ne))
      (λ on r. let a = rows on r in omega arith) fits (λ h. let a = weights h in omega arith)

  pub claim_in_keeps : {c : ℕ} (shift : ℕ → ℕ) (n id : ℕ) (me : Sat J) (i : ℕ) → i < n
      → 0 < me.0.parts → me.0.busy ≡ None → me.0.owes ≡ None
      → Allows (KeepsAccount F b c) n id me i (λ y. either (eqb y 0) 1 y)
      (claims_in shift (step n i 0 1 none) me)
  claim_in_keeps {c} shift n id me i near live idle owes_none s r wide at _ =
      let y : ℕ = get_or s.words i 0 in
      let told = claims_in shift (step n i 0 1 none) me y in
      let near' : i < length s.homes = subst (λ m. i < m) (sym wide) near in
      let el = r.each i near' in
      exchanged y 0 1 (Goes (KeepsAccount F b c) s i id me told)
      (λ hit.
      let is = is_empty el.0 (sym el.1.0 ∙ hit) in
      let t : Notes = moved shift (claimed i 0 0 me.0.notes) in
      let w : View J = view_of me.0.parts me.0.puts me.0.takes (Some i) None t in
      let sh : Shows s i empty = subst (Shows s i) is el.1 in (
        w,
        takes i None,
        sh.1,
        taken s r i id me.0 w empty near' at refl live idle refl refl sh
            (λ on k. let a : owed_to k me.0.owes ≡ 0 = ap (owed_to k) owes_none in omega arith)
            (λ h. omega arith),
        ((λ _. (refl, refl)), λ miss. absurd (miss hit)),
      ))
      (λ miss.
      let t : Notes = claimed i 0 y me.0.notes in (
        noted me.0 t,
        keeps,
        tt,
        stays s r i id me.0 t live at,
        ((λ hit. absurd (miss hit)), λ _. (refl, refl)),
      ))

  pub make_ready_keeps : {c : ℕ} (n id : ℕ) (me : Sat J) (i : ℕ) (x : J)
      (more : List (ℕ × Option J)) → i < n → 0 < me.0.parts → me.0.busy ≡ Some i
      → (b ≡ true → me.0.owes ≡ Some i) → F (i / 1024) x → me.1 ≡ (i, Some x) ∷ more
      → Allows (KeepsAccount F b c) n id me i (λ _. 2) (λ _. makes_ready (step n i 2 0 none) me 2)
  make_ready_keeps {c} n id me i x more near live works owed fits has s r wide at _ =
      let w : View J =
      view_of me.0.parts (me.0.puts ++ x ∷ []) me.0.takes None None me.0.notes in
      let near' : i < length s.homes = subst (λ m. i < m) (sym wide) near in
      subst
      (λ (out : List (ℕ × Option J)).
      Goes (KeepsAccount F b c) s i id (me.0, out) (makes_ready (step n i 2 0 none) (me.0, out) 2) 2) (sym has) (
        w,
        gives,
        tt,
        returned s r i id me.0 w (ready x) near' at refl live works refl refl
            (λ on k.
            let a : owed_to k me.0.owes ≡ in_row k i = ap (owed_to k) (owed on) in omega arith)
            (λ y e. subst (F (i / 1024)) (same_job x y (some-injective (Some x) (Some y) e)) fits)
            (λ h. let a = total_last h me.0.puts x in omega arith),
        (x, refl, refl, refl),
      )

  pub claim_out_keeps : {c : ℕ} (G : ℕ → J → Type 0) → ((k : ℕ) (x : J) → F k x → G k x)
      → (shift : ℕ → ℕ) (n id : ℕ) (me : Sat J) (i : ℕ) → i < n
      → 0 < me.0.parts → me.0.busy ≡ None → me.0.owes ≡ None
      → Allows (KeepsAccount F b c) n id me i (λ y. either (eqb y 2) 1 y)
      (claims_out G b shift (step n i 2 1 none) me)
  claim_out_keeps {c} G known shift n id me i near live idle owes_none s r wide at _ =
      let y : ℕ = get_or s.words i 0 in
      let told = claims_out G b shift (step n i 2 1 none) me y in
      let near' : i < length s.homes = subst (λ m. i < m) (sym wide) near in
      let el = r.each i near' in
      exchanged y 2 1 (Goes (KeepsAccount F b c) s i id me told)
      (λ hit.
      let is = is_ready el.0 (sym el.1.0 ∙ hit) in
      let x : J = is.0 in
      let t : Notes = moved shift (claimed i 2 2 me.0.notes) in
      let w : View J =
      view_of me.0.parts me.0.puts (me.0.takes ++ x ∷ []) (Some i) (owed_where b i) t in
      let sh : Shows s i (ready x) = subst (Shows s i) is.1 el.1 in (
        w,
        takes i (Some x),
        sh.1,
        taken s r i id me.0 w (ready x) near' at refl live idle refl refl sh
            (λ on k.
            let a : owed_to k me.0.owes ≡ 0 = ap (owed_to k) owes_none in
            let z : owed_to k (owed_where b i) ≡ in_row k i =
            ap (λ counts. owed_to k (owed_where counts i)) on in
            omega arith)
            (λ h. let a = total_last h me.0.takes x in omega arith),
        (
          (λ _. (x, refl, refl, known (i / 1024) x (r.fit i x (sh.1)))),
          λ miss. absurd (miss hit),
        ),
      ))
      (λ miss.
      let t : Notes = claimed i 2 y me.0.notes in (
        noted me.0 t,
        keeps,
        tt,
        stays s r i id me.0 t live at,
        ((λ hit. absurd (miss hit)), λ _. (refl, refl)),
      ))

  pub make_empty_keeps : {c : ℕ} (n id : ℕ) (me : Sat J) (i : ℕ) (more : List (ℕ × Option J))
      → i < n → 0 < me.0.parts → me.0.busy ≡ Some i → me.1 ≡ (i, None) ∷ more
      → Allows (KeepsAccount F b c) n id me i (λ _. 0) (λ _. makes_empty (step n i 0 0 none) me 0)
  make_empty_keeps {c} n id me i more near live works has s r wide at _ =
      let w : View J = view_of me.0.parts me.0.puts me.0.takes None me.0.owes me.0.notes in
      let near' : i < length s.homes = subst (λ m. i < m) (sym wide) near in
      subst
      (λ (out : List (ℕ × Option J)).
      Goes (KeepsAccount F b c) s i id (me.0, out) (makes_empty (step n i 0 0 none) (me.0, out) 0) 0) (sym has) (
        w,
        gives,
        tt,
        returned s r i id me.0 w empty near' at refl live works refl refl (λ on k. omega arith)
            (λ x e. absurd (no_job_there x (some-injective None (Some x) e))) (λ h. omega arith),
        (refl, refl, refl),
      )

-- The views of seats at a table of rows, and how they change.
use Rattle.std.specs.Prelude.{◌≡◌, ◌≢◌, ℕ, ◌+◌, ◌-◌, ◌==◌, if◌then◌else◌, List, [], ◌++◌}
use Rattle.std.specs.Prelude.{Bool, true, false}
use Rattle.std.specs.Prelude.{Option, Some, None}
use Rattle.run_queue.specs.declared.slot_rows.view.Notes.{Notes}
use Rattle.run_queue.specs.declared.slot_rows.view.View.{View}

-- 1 if the view works on the element, else 0
abbrev pub names : ℕ → Option ℕ → ℕ
names element None = 0
names element (Some other) = if other == element then 1 else 0

-- the element whose row a seat owes after it claimed a job out, until it lowers the length; none if
-- the rows have no length words
abbrev pub owed_where : Bool → ℕ → Option ℕ
owed_where true element = Some element
owed_where false element = None

-- the notes of a new seat: no claim and no look yet, and the front at the first position
abbrev pub no_notes : Notes
no_notes = record {
  claims = 0;
  claim = record { element = 0; wanted = 0; found = 0 };
  looks = 0;
  look = record { row = 0; found = 0 };
  front = 0;
}

-- the notes with one more claim, of an element where it wanted one word and found another
abbrev pub claimed : ℕ → ℕ → ℕ → Notes → Notes
claimed element wanted found notes = record {
  claims = notes.claims + 1;
  claim = record { element = element; wanted = wanted; found = found };
  looks = notes.looks;
  look = notes.look;
  front = notes.front;
}

-- the notes with one more look, which found this length of a row
abbrev pub looked_at : ℕ → ℕ → Notes → Notes
looked_at row found notes = record {
  claims = notes.claims;
  claim = notes.claim;
  looks = notes.looks + 1;
  look = record { row = row; found = found };
  front = notes.front;
}

-- the notes with the front moved
abbrev pub moved : (ℕ → ℕ) → Notes → Notes
moved shift notes = record {
  claims = notes.claims;
  claim = notes.claim;
  looks = notes.looks;
  look = notes.look;
  front = shift notes.front;
}

-- a claim found the word that it wanted, and moved the front
abbrev pub Hit : (ℕ → ℕ) → ℕ → ℕ → Notes → Notes → Type 0
Hit shift element wanted old new = new ≡ moved shift (claimed element wanted wanted old)

-- a claim found another word than it wanted, and is counted
abbrev pub Missed : ℕ → ℕ → Notes → Notes → Type 0
Missed element wanted old new =
    (new ≡ claimed element wanted new.claim.found old) × (new.claim.found ≢ wanted)

module _ {J : Type 0} where
  -- a view by its parts
  abbrev pub view_of : ℕ → List J → List J → Option ℕ → Option ℕ → Notes → View J
  view_of parts puts takes busy owes notes = record {
    parts = parts;
    puts = puts;
    takes = takes;
    busy = busy;
    owes = owes;
    notes = notes;
  }

  -- the view with other notes
  abbrev pub noted : View J → Notes → View J
  noted view notes = view_of view.parts view.puts view.takes view.busy view.owes notes

  -- the view, which now owes the row of this element, or none
  abbrev pub owing : View J → Option ℕ → View J
  owing view owes = view_of view.parts view.puts view.takes view.busy owes view.notes

  -- the view with the accounts of `parts` seats, with nothing in them
  abbrev pub fresh : ℕ → View J
  fresh parts = view_of parts [] [] None None no_notes

  -- the view of no seat
  abbrev pub nothing : View J
  nothing = fresh 0

  -- the view with one account fewer
  abbrev pub after_deal : View J → View J
  after_deal view =
      view_of (view.parts - 1) view.puts view.takes view.busy view.owes view.notes

  -- the view with the accounts of both views
  abbrev pub together : View J → View J → View J
  together view other =
      view_of (view.parts + other.parts) (view.puts ++ other.puts) (view.takes ++ other.takes)
      None None no_notes

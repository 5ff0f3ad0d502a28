-- Which elements belong to a row, and in which order.
use Rattle.std.specs.Prelude.{ℕ, ◌+◌, ◌-◌, ◌*◌, ◌/◌, ◌%◌}
use Rattle.run_queue.specs.Limits.{most_jobs}

-- the position after this one, in a row that is a ring
abbrev pub position_after : ℕ → ℕ
position_after position = (position + 1) % most_jobs

-- the position before this one
abbrev pub position_before : ℕ → ℕ
position_before position = (position + (most_jobs - 1)) % most_jobs

-- the element at a position of a row
abbrev pub element_at : ℕ → ℕ → ℕ
element_at row position = row * most_jobs + position

-- the row to which an element belongs
abbrev pub row_with : ℕ → ℕ
row_with element = element / most_jobs

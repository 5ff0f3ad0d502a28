-- Lists that are read along views.
use Rattle.std.specs.Prelude.{ℕ, ℤ}
use Rattle.tensor_values.specs.Values.{value_in}
use Rattle.tensor_views.specs.View.{reached}
use Rattle.tensor_views.specs.declared.view.Reading.{Reading}

-- the value that is read at a place
abbrev pub read_at : Reading → ℕ → ℤ
read_at r p = value_in r.list.now (reached r.view.start r.view.axes.now p)

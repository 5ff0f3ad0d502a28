-- The limits and operations of each version of texts and frames.
use Rattle.std.specs.Prelude.{ℕ, List, [], ◌∷◌, Bool, true, false, Option, Some, None, ◌==◌}
use Rattle.std.specs.Prelude.{if◌then◌else◌}
use Rattle.std.specs.Str.{bytes_eq}
use Rattle.tensor_ops.specs.Bounds.{Bounds}
use Rattle.tensor_ops.specs.Legal.{text_bounds, widest}
use Rattle.expr_reader.specs.Limits.{greatest_block, widest_block, most_nodes, widest_nodes}
use Rattle.expr_reader.specs.Limits.{most_values, widest_values}
use Rattle.expr_reader.specs.Table.{Operation, operations_1, operations_2, operations_3}

-- what a version allows: the greatest number of workers and of places in a block, the bounds of
-- dims, the most nodes of an expression, the most values after a header, whether an expression may
-- have bindings, and the operations by name
pub record Profile : Type 0 where
  pub workers : ℕ
  pub block : ℕ
  pub bounds : Bounds
  pub nodes : ℕ
  pub values : ℕ
  pub binds : Bool
  pub operations : List (List ℕ × Operation)

abbrev pub version_1 : Profile
version_1 = record {
  workers = 64;
  block = greatest_block;
  bounds = text_bounds 6;
  nodes = most_nodes;
  values = most_values;
  binds = false;
  operations = operations_1;
}

abbrev pub version_2 : Profile
version_2 = record {
  workers = 256;
  block = greatest_block;
  bounds = text_bounds 8;
  nodes = most_nodes;
  values = most_values;
  binds = false;
  operations = operations_2;
}

abbrev pub version_3 : Profile
version_3 = record {
  workers = 256;
  block = widest_block;
  bounds = widest;
  nodes = widest_nodes;
  values = widest_values;
  binds = true;
  operations = operations_3;
}

-- the profile of each version number, if there is such a version
abbrev pub Versions : Type 0
Versions = ℕ → Option Profile

-- the versions of a text: 1 and 2
abbrev pub profile_of : ℕ → Option Profile
profile_of version =
    if version == 1 then Some version_1 else (if version == 2 then Some version_2 else None)

-- the versions of a frame: 1, 2 and 3
abbrev pub frame_profile_of : Versions
frame_profile_of version = if version == 3 then Some version_3 else profile_of version

-- the operation with this name, in a table of operations
abbrev pub operation_named : List ℕ → List (List ℕ × Operation) → Option Operation
operation_named name [] = None
operation_named name (o ∷ os) = if bytes_eq name o.0 then Some o.1 else operation_named name os

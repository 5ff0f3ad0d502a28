-- What is asked for from a field on, where those before it have no fault.
use Rattle.std.specs.Prelude.{ℕ, codes, Result, Ok, ok_or}
use Rattle.expr_reader.specs.Fields.{Fields, within}
use Rattle.expr_reader.specs.Expression.{expression_at}
use Rattle.expr_reader.specs.Place.{field, Located, at, below}
use Rattle.expr_reader.specs.Profile.{Profile}
use Rattle.expr_reader.specs.Request.{Asked, Naming}
use Rattle.expr_reader.specs.Steps.{and_then}
use Rattle.expr_reader.specs.Tensors.{Named}
use Rattle.expr_reader.specs.declared.fault.Fault.TheVariants.{BadWorkers, BadBlock}

-- from the tree on, over inputs
abbrev pub tree_asked : Fields → Profile → ℕ → ℕ → Named → Result Asked Located
tree_asked f p workers block named =
    and_then (below (field (codes "expr")) (expression_at p named 0 f.expr)) (λ found. Ok (record {
      workers = workers;
      block = block;
      inputs = named.tensors;
      bounds = p.bounds;
      bindings = found.bindings;
      term = found.tree.term;
    }))

module _ (named : Naming) where
  -- from the inputs, the block and the workers on
  abbrev pub inputs_asked : Fields → Profile → ℕ → ℕ → Result Asked Located
  inputs_asked f p workers block =
      and_then (below (field (codes "inputs")) (named p.bounds f.inputs))
      (tree_asked f p workers block)

  abbrev pub block_asked : Fields → Profile → ℕ → Result Asked Located
  block_asked f p workers =
      and_then (ok_or (within 1 p.block f.block) (at (field (codes "block")) BadBlock))
      (inputs_asked f p workers)

  abbrev pub workers_asked : Fields → Profile → Result Asked Located
  workers_asked f p =
      and_then (ok_or (within 1 p.workers f.workers) (at (field (codes "workers")) BadWorkers))
      (block_asked f p)

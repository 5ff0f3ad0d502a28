-- Bindings while they are evaluated or counted: some are done, and others are left.
use Rattle.std.specs.Prelude.{◌≡◌, ◌+◌, ◌*◌, ◌^◌, ◌<◌, ◌≤◌, ℕ, List, ◌++◌, length, map, take, drop}
use Rattle.expr_reader.specs.Bindings.{AreBound, terms_under, nodes_in}
use Rattle.expr_reader.specs.Contents.{Contents}
use Rattle.expr_reader.specs.Sequence.{worked_out}
use Rattle.expr_reader.specs.Term.{Term, nodes_of}
use Rattle.expr_reader.specs.declared.binding.Binding.{Binding}
use Rattle.tensor_ops.specs.Bounds.{Bounds}
use Rattle.tensor_runner.specs.private.Known.{dims_of_all}
use Rattle.tensor_runner.specs.Work.{steps_of_all}

-- the bindings left are bound over the tensors `all`, and extend them to `whole`. The nodes that
-- are left, with those of the last term, are few.
pub record AreLeft (bounds : Bounds) (left : List Binding) (last : Term) (whole all : List Contents)
    : Type 0 where
  pub bound : AreBound bounds left all
  pub gives : worked_out (terms_under left) all ≡ whole
  pub few : length all + (nodes_in (terms_under left) + nodes_of last) < 2 ^ 32

-- `done` bindings are counted, and they take `steps` steps
pub record AreCounted (bounds : Bounds) (inputs : List Contents) (bindings : List Binding)
    (last : Term) (done steps : ℕ) (all : List Contents) : Type 0 where
  pub left : AreLeft bounds (drop done bindings) last (worked_out (terms_under bindings) inputs) all
  pub dims : dims_of_all all ≡ dims_of_all inputs ++ map (λ b. b.dims) (take done bindings)
  pub counts : steps + steps_of_all (terms_under (drop done bindings)) all
      ≡ steps_of_all (terms_under bindings) inputs
  pub small : steps + 2 ^ 63 * nodes_in (terms_under (drop done bindings))
      ≤ 2 ^ 63 * nodes_in (terms_under bindings)

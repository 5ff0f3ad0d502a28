-- The tree of an expression: its term, or the first fault on a walk over it and the place of the
-- fault. At each node the walk checks, in this order: the number of nodes, the operation, the
-- number of elements, each operand from the left with all its checks, the arguments, and the dims.
-- The elements of a node are counted from its operation's name, which has the index 0.
use Rattle.std.specs.Prelude.{ℕ, ◌+◌, ◌==◌, nat_le, List, Result, Err}
use Rattle.std.specs.Prelude.{ok_or, option_map, option_and_then, if◌then◌else◌}
use Rattle.std.specs.Result.{result_map_both}
use Rattle.serde_json.specs.Data.{Data, string, array, Items, item}
use Rattle.serde_json.specs.Events.{items_len}
use Rattle.serde_json.specs.Find.{as_str}
use Rattle.tensor_ops.specs.Contents.{Given}
use Rattle.tensor_ops.specs.Result.{dims_of}
use Rattle.tensor_ops.specs.Term.{Term, input, unary, binary, ternary}
use Rattle.expr_reader.specs.Arguments.{Form, Arguments, arguments_at}
use Rattle.expr_reader.specs.Faults.{text_fault}
use Rattle.expr_reader.specs.Place.{Located, index, here, at, below}
use Rattle.expr_reader.specs.Profile.{Profile, operation_named}
use Rattle.expr_reader.specs.Steps.{and_then}
use Rattle.expr_reader.specs.Table.{Operation, one, two, three, arity_of}
use Rattle.expr_reader.specs.Tensors.{Named, number_of}
use Rattle.expr_reader.specs.declared.fault.Fault.TheVariants.{UnknownInput, UnknownOp, BadArity}
use Rattle.expr_reader.specs.declared.fault.Fault.TheVariants.{TooLarge}

-- a tree that was read: its term, and how many nodes the text has up to its end
pub record Tree : Type 0 where
  pub term : Term
  pub end : ℕ

-- what was found of a node that has n nodes before it, if the limit of nodes allows one more
abbrev pub within_limit : {A : Type 0} → Profile → ℕ → Result A Located → Result A Located
within_limit profile n found = if nat_le profile.nodes n then Err (here TooLarge) else found

-- the operation that the first element of a node names
abbrev pub operation_at : Profile → Data → Result Operation Located
operation_at profile head =
    ok_or (option_and_then (λ name. operation_named name profile.operations) (as_str head))
    (at (index 0) UnknownOp)

-- the tensor that a name stands for. `end` is the number of nodes up to and including the name
abbrev pub input_at : Named → List ℕ → ℕ → Result Tree Located
input_at named name end =
    ok_or (option_map (λ k. record { term = input k; end = end }) (number_of named.names name))
    (here UnknownInput)

-- a term whose operands have result dims, if it has result dims too. `end` is the number of nodes
-- up to its end
abbrev pub checked : Given → Term → ℕ → Result Tree Located
checked inputs t end =
    result_map_both (λ dims. record { term = t; end = end }) (λ fault. here (text_fault fault))
    (dims_of inputs.bounds t inputs.tensors)

-- the term that `make` builds from arguments of these forms, or the first fault of the arguments or
-- the dims. `first` is the index of the first argument, `end` the number of nodes up to the term's
-- end
abbrev pub made : Given → (fs : List Form) → ℕ → Items → (Arguments fs → Term) → ℕ
    → Result Tree Located
made inputs fs first items make end =
    and_then (arguments_at first fs items) (λ a. checked inputs (make a) end)

module _ (profile : Profile) (named : Named) where
  -- the term that `make` builds from arguments of these forms, or the first fault of the arguments
  -- or the dims. `first` is the index of the first argument, `end` the number of nodes up to the
  -- term's end; its operands have result dims
  abbrev pub made_of : (fs : List Form) → ℕ → Items → (Arguments fs → Term) → ℕ
      → Result Tree Located
  made_of fs first items make end =
      and_then (arguments_at first fs items) (λ a. result_map_both
      (λ dims. record { term = make a; end = end }) (λ fault. here (text_fault fault))
      (dims_of profile.bounds (make a) named.tensors))

  abbrev mutual
    -- a node that has n nodes before it: a name, or an operation by its name
    pub node_at : ℕ → Data → Result Tree Located
    node_at n (string name) = input_at named name (n + 1)
    node_at n (array (item head rest)) =
        and_then (operation_at profile head) (λ o.
        if items_len rest == arity_of o then applied n o rest else Err (here BadArity))
    node_at n d = Err (here UnknownOp)

    -- the elements after an operation's name: operands from the left, each with all its checks,
    -- and then arguments
    pub applied : ℕ → Operation → Items → Result Tree Located
    applied n (one forms make) (item a rest) =
        and_then (below (index 1) (within_limit profile (n + 1) (node_at (n + 1) a))) (λ x.
        made_of forms 2 rest (λ args. unary (make args) x.term) x.end)
    applied n (two forms make) (item a (item b rest)) =
        and_then (below (index 1) (within_limit profile (n + 1) (node_at (n + 1) a))) (λ x.
        and_then (below (index 2) (within_limit profile x.end (node_at x.end b))) (λ y.
        made_of forms 3 rest (λ args. binary (make args) x.term y.term) y.end))
    applied n (three forms make) (item a (item b (item c rest))) =
        and_then (below (index 1) (within_limit profile (n + 1) (node_at (n + 1) a))) (λ x.
        and_then (below (index 2) (within_limit profile x.end (node_at x.end b))) (λ y.
        and_then (below (index 3) (within_limit profile y.end (node_at y.end c))) (λ z.
        made_of forms 4 rest (λ args. ternary (make args) x.term y.term z.term) z.end)))
    applied n o rest = Err (here BadArity)

  -- a tree that has n nodes before it
  abbrev pub tree_at : ℕ → Data → Result Tree Located
  tree_at n d = within_limit profile n (node_at n d)

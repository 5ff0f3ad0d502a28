use Rattle.std.proofs.Common.{◌≡◌, ◌+◌, ◌≤◌, ℕ, [], ◌++◌, length, Option, Some, None, true, false, refl, ap, sym, ◌∙◌, arith}
use Rattle.std.proofs.lemmas.List.{length-map}
use Rattle.std.specs.Prelude.{option_and_then}
use Rattle.serde_json.specs.View.{view}
use Rattle.tensor_ops.specs.Term.{has_inputs, nodes_of}
use Rattle.tensor_ops.specs.Tree.{term_of}
use Rattle.expr_reader.specs.Bindings.{term_under, terms_under, nodes_in}
use Rattle.expr_reader.specs.Fields.{whole_of}
use Rattle.expr_reader.specs.private.Behind.{source_of}
use Rattle.expr_reader.specs.Limits.{most_workers}
use Rattle.expr_reader.specs.Profile.{Profile, profile_of}
use Rattle.expr_reader.specs.private.Version.{profile_under}
use Rattle.expr_reader.specs.declared.version.Version.{Version}
use Rattle.expr_reader.specs.declared.version.Version.TheVariants as version
use Rattle.expr_reader.proofs.Bindings.{have_inputs-all, dims_in_turn-all}
use Rattle.expr_reader.proofs.Bound.{length-worked_out, bindings-none, items-none, profile_of-binds}
use Rattle.expr_reader.proofs.Counted.{length-naming_by}
use Rattle.expr_reader.proofs.Trees.{nodes_of-expression_at}
use Rattle.expr_reader.proofs.text.read_fields.Goals as goal

-- no version allows more workers
workers-few : (v : Version) → (profile_under v).workers ≤ most_workers
workers-few version.One = omega arith
workers-few version.Two = omega arith
workers-few version.Three = omega arith

pub invariant_of-result-clause-few_workers : goal.invariant_of-result-clause-few_workers
invariant_of-result-clause-few_workers c =
    omega (
      arith,
      c.in-Some-within.ensures.bounds.1,
      c.workers.ensures,
      workers-few c.in-Some.version,
    )

pub read_tree-requires-clause-few : goal.read_tree-requires-clause-few
read_tree-requires-clause-few c =
    let n = c.in_ok-named.ensures.inputs.0 in
    let named = rw c.bounds.ensures.value at c.in_ok-named.ensures.inputs.2 in
    let given : c.in_ok-named.named.inputs.tensors ≡ n.tensors = rw c.in_ok-named.ensures.unbound at named.tensors in
    omega (
      arith,
      c.requires,
      ap length given,
      ap length c.in_ok-named.ensures.unbound,
      length-naming_by (source_of c.args.values) c.bounds.result (view c.args.fields.now.inputs.now) n c.in_ok-named.ensures.inputs.1,
    )

pub invariant_of-result-clause-few : goal.invariant_of-result-clause-few
invariant_of-result-clause-few c =
    let n = c.in_ok-named.ensures.inputs.0 in
    let named = rw c.bounds.ensures.value at c.in_ok-named.ensures.inputs.2 in
    let tree = c.in_ok-tree.ensures n named in
    let given : c.in_ok-named.named.inputs.tensors ≡ n.tensors = rw c.in_ok-named.ensures.unbound at named.tensors in
    let bound : nodes_in (terms_under c.read_tree.new.named.bindings.items) ≡ nodes_in tree.found.bindings =
    ap nodes_in (tree.bindings ∙ ap (λ l. terms_under l ++ tree.found.bindings) c.in_ok-named.ensures.unbound) in
    omega (
      arith,
      c.requires,
      ap length given,
      ap (λ i. length i.tensors) tree.inputs,
      bound,
      ap (λ t. nodes_of t.term) tree.tree_is,
      length-naming_by (source_of c.args.values) c.bounds.result (view c.args.fields.now.inputs.now) n c.in_ok-named.ensures.inputs.1,
      nodes_of-expression_at (profile_under c.in-Some.version) n 0 (view c.args.fields.now.expr.now) tree.found tree.says_so,
      c.nodes-nodes.ensures.limit,
    )

pub invariant_of-result-clause-have_inputs : goal.invariant_of-result-clause-have_inputs
invariant_of-result-clause-have_inputs c =
    let n = c.in_ok-named.ensures.inputs.0 in
    let named = rw c.bounds.ensures.value at c.in_ok-named.ensures.inputs.2 in
    let tree = c.in_ok-tree.ensures n named in
    have_inputs-all (profile_under c.in-Some.version).bounds c.read_tree.new.named.bindings.items
    c.read_tree.new.named.inputs.tensors tree.bound

pub invariant_of-result-clause-have_dims : goal.invariant_of-result-clause-have_dims
invariant_of-result-clause-have_dims c =
    let n = c.in_ok-named.ensures.inputs.0 in
    let named = rw c.bounds.ensures.value at c.in_ok-named.ensures.inputs.2 in
    let tree = c.in_ok-tree.ensures n named in
    rw (ap (λ i. i.bounds) tree.inputs ∙ named.limit)
    (dims_in_turn-all (profile_under c.in-Some.version).bounds c.read_tree.new.named.bindings.items
    c.read_tree.new.named.inputs.tensors tree.bound)

pub invariant_of-result-clause-has_inputs : goal.invariant_of-result-clause-has_inputs
invariant_of-result-clause-has_inputs c =
    let n = c.in_ok-named.ensures.inputs.0 in
    let named = rw c.bounds.ensures.value at c.in_ok-named.ensures.inputs.2 in
    let tree = c.in_ok-tree.ensures n named in
    let new = c.read_tree.new.named in
    let many : length new.inputs.tensors + length new.bindings.items
    ≡ length new.inputs.tensors + length (terms_under new.bindings.items) =
    omega (arith, length-map new.bindings.items term_under) in
    ap (has_inputs (term_of c.in_ok-tree.tree.expr))
    (many ∙ sym (length-worked_out (terms_under new.bindings.items) new.inputs.tensors))
    ∙ tree.shaped.inputs_known

-- a version of a text binds nothing
binds-none : (w : Option ℕ) (p : Profile) → Some p ≡ option_and_then profile_of w → p.binds ≡ false
binds-none None p is = (cc)
binds-none (Some k) p is = profile_of-binds k p (sym is)

pub returns-clause-unbound : goal.returns-clause-unbound
returns-clause-unbound c = λ text.
    let n = c.in_ok-named.ensures.inputs.0 in
    let named = rw c.bounds.ensures.value at c.in_ok-named.ensures.inputs.2 in
    let tree = c.in_ok-tree.ensures n named in
    let new = c.read_tree.new.named in
    let none : (profile_under c.in-Some.version).binds ≡ false =
    binds-none (whole_of (view c.args.fields.now.version.now)) (profile_under c.in-Some.version)
    (rw (c.versions.ensures, text) at c.in-Some.ensures) in
    let found : tree.found.bindings ≡ [] =
    bindings-none (profile_under c.in-Some.version) none n 0 (view c.args.fields.now.expr.now) tree.found tree.says_so in
    let terms : terms_under new.bindings.items ≡ [] =
    tree.bindings ∙ ap (λ l. terms_under l ++ tree.found.bindings) c.in_ok-named.ensures.unbound ∙ found in
    items-none new.bindings.items terms

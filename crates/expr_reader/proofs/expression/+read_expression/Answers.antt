use Rattle.std.proofs.Common.{[], ◌∷◌, ◌≡◌, ◌+◌, ◌<◌, Bool, true, false, ℕ, length, Some, None, option_map, refl, sym, ap, ◌∙◌, inl, inr, arith}
use Rattle.std.proofs.lemmas.List.{length-append}
use Rattle.std.proofs.lemmas.Result.{err_from_is_err_and}
use Rattle.serde_json.specs.View.{view}
use Rattle.tensor_ops.specs.Tree.{term_of}
use Rattle.expr_reader.specs.Bindings.{terms_under, IsBound}
use Rattle.expr_reader.specs.Expression.{new_name, with_binding, expression_at}
use Rattle.expr_reader.specs.Node.{tree_at}
use Rattle.expr_reader.specs.private.Version.{profile_under}
use Rattle.expr_reader.specs.private.Walked.{tree_under, is_binding}
use Rattle.expr_reader.specs.Tensors.{given}
use Rattle.expr_reader.proofs.Bound.{expression_at-arity, expression_at-name, expression_at-tensor, expression_at-behind}
use Rattle.expr_reader.proofs.Bound.{IsReadBehind-alone, IsReadBehind-bound, terms_under-append}
use Rattle.expr_reader.proofs.expression.+read_expression.Goals as goal

pub returns-then-not-is_binding-clause-tree : goal.returns-then-not-is_binding-clause-tree
returns-then-not-is_binding-clause-tree t c = λ n named.
    let other : is_binding (profile_under c.args.version) (view c.args.value.now) ≡ false = cc in
    IsReadBehind-alone (profile_under c.args.version) n c.args.before (view c.args.value.now) c.args.named.now
    c.read_node.new.way.items c.read_node.result other named (c.read_node.ensures.tree n named)

pub returns-then-len-ne-LET_LEN-clause-tree : goal.returns-then-len-ne-LET_LEN-clause-tree
returns-then-len-ne-LET_LEN-clause-tree t c = λ n named.
    let binding : is_binding (profile_under c.args.version) (view c.args.value.now) ≡ true = cc in
    rw c.requires.start
    (inr (expression_at-arity (profile_under c.args.version) n c.args.before c.args.value.now c.in-Array.list c.in-Array.is binding
    (omega (arith, c.if-before-nodes.false, c.nodes.ensures.value))
    (λ four. c.if-len-ne-LET_LEN.true (omega (arith, four, c.in-Array.list.ok.0)))))

pub returns-in_default-new_name-clause-tree : goal.returns-in_default-new_name-clause-tree
returns-in_default-new_name-clause-tree t c = λ n named.
    let binding : is_binding (profile_under c.args.version) (view c.args.value.now) ≡ true = cc in
    let none : new_name n (view c.index.result.now) ≡ None =
    sym (c.new_name.ensures (profile_under c.args.version).bounds n named)
    ∙ ap (option_map (λ name. name.now)) c.in_default-new_name.is in
    rw (c.push.ensures.items, c.requires.start)
    (inr (expression_at-name (profile_under c.args.version) n c.args.before c.args.value.now c.in-Array.list c.in-Array.is binding
    (omega (arith, c.if-before-nodes.false, c.nodes.ensures.value)) c.index.result.now
    (omega (arith, c.if-len-ne-LET_LEN.false, c.in-Array.list.ok.0)) c.index.ensures none))

pub returns-in_err-bound-in-Array-clause-tree : goal.returns-in_err-bound-in-Array-clause-tree
returns-in_err-bound-in-Array-clause-tree t c = λ n named.
    let binding : is_binding (profile_under c.args.version) (view c.args.value.now) ≡ true = cc in
    let is_new : new_name n (view c.index.result.now) ≡ Some c.in-Some.name.now =
    sym (c.in-Some.ensures (profile_under c.args.version).bounds n named) in
    let p = err_from_is_err_and c.from_residual.result c.from_residual.ensures.1 in
    let first = c.in_err-bound-in-Array.ensures.found (given (profile_under c.args.version).bounds n)
    (tree_at (profile_under c.args.version) n (c.args.before + 1) (view c.index-in-Array.result.now)) (c.read_node-bound.ensures.tree n named) in
    rw (p.1, p.2)
    (elim first [
      | inl memory ↦ inl memory
      | inr found ↦ inr (expression_at-tensor (profile_under c.args.version) n c.args.before c.args.value.now c.in-Array.list c.in-Array.is binding
          (omega (arith, c.if-before-nodes.false, c.nodes.ensures.value)) c.index.result.now c.index-in-Array.result.now c.in-Some.name.now _
          (omega (arith, c.if-len-ne-LET_LEN.false, c.in-Array.list.ok.0)) c.index.ensures c.index-in-Array.ensures is_new found)
    ])

pub read_expression-tree-requires : goal.read_expression-tree-requires
read_expression-tree-requires t c =
    let n = c.requires.named.0 in
    let named = c.requires.named.1 in
    let first = c.in_ok-bound-in-Array.ensures.found (given (profile_under c.args.version).bounds n)
    (tree_at (profile_under c.args.version) n (c.args.before + 1) (view c.index-in-Array.result.now)) (c.read_node-bound.ensures.tree n named) in
    let is : IsBound (profile_under c.args.version).bounds
    (record { expr = c.in_ok-bound-in-Array.bound.expr; dims = c.in_ok-bound-in-Array.bound.dims }) n.tensors =
    record { inputs = first.1.inputs_known; dims = first.1.dims_known } in
    let read = rw (← c.in_ok-bound-in-Array.ensures.same) at c.read_node-bound.ensures.kept in
    let after : c.args.before + 1 < c.in_ok-bound-in-Array.bound.end =
    rw (← c.in_ok-bound-in-Array.ensures.same) at c.read_node-bound.ensures.end in (
      omega (arith, after, c.if-before-nodes.false, c.nodes.ensures.value, c.nodes.ensures.limit, c.decreases),
      (
        (
          with_binding n c.in-Some.name.now (term_of c.in_ok-bound-in-Array.bound.expr),
          c.in_ok-bind-in-Array.ensures.ok (profile_under c.args.version).bounds n named is,
        ),
        (
          c.in_ok-bound-in-Array.ensures.kept ∙ read,
          omega (
            arith,
            c.requires.few,
            ap (λ i. length i.tensors) c.bind.ensures.inputs,
            ap length c.in_ok-bind-in-Array.ensures.bindings,
            length-append c.args.named.now.bindings.items
                (record { expr = c.in_ok-bound-in-Array.bound.expr; dims = c.in_ok-bound-in-Array.bound.dims } ∷ []),
            after,
          ),
        ),
      ),
    )

pub returns-clause-tree : goal.returns-clause-tree
returns-clause-tree t c = λ n named.
    let profile = profile_under c.args.version in
    let binding : is_binding (profile_under c.args.version) (view c.args.value.now) ≡ true = cc in
    let is_new : new_name n (view c.index.result.now) ≡ Some c.in-Some.name.now =
    sym (c.in-Some.ensures (profile_under c.args.version).bounds n named) in
    let first = c.in_ok-bound-in-Array.ensures.found (given (profile_under c.args.version).bounds n)
    (tree_at (profile_under c.args.version) n (c.args.before + 1) (view c.index-in-Array.result.now)) (c.read_node-bound.ensures.tree n named) in
    let is : IsBound (profile_under c.args.version).bounds
    (record { expr = c.in_ok-bound-in-Array.bound.expr; dims = c.in_ok-bound-in-Array.bound.dims }) n.tensors =
    record { inputs = first.1.inputs_known; dims = first.1.dims_known } in
    let middle = c.in_ok-bind-in-Array.ensures.ok (profile_under c.args.version).bounds n named is in
    let inner = c.read_expression-tree.ensures.tree
    (with_binding n c.in-Some.name.now (term_of c.in_ok-bound-in-Array.bound.expr)) middle in
    let items = c.in_ok-bind-in-Array.ensures.bindings in
    let says = expression_at-behind (profile_under c.args.version) n c.args.before c.args.value.now c.in-Array.list c.in-Array.is binding
    (omega (arith, c.if-before-nodes.false, c.nodes.ensures.value)) c.index.result.now c.index-in-Array.result.now c.index-in-Array-2.result.now
    c.in-Some.name.now (tree_under c.in_ok-bound-in-Array.bound)
    (omega (arith, c.if-len-ne-LET_LEN.false, c.in-Array.list.ok.0)) c.index.ensures c.index-in-Array.ensures c.index-in-Array-2.ensures
    is_new first.0 in
    IsReadBehind-bound (profile_under c.args.version) n (with_binding n c.in-Some.name.now (term_of c.in_ok-bound-in-Array.bound.expr))
    (term_of c.in_ok-bound-in-Array.bound.expr) _ _ c.args.named.now c.bind.new.self c.read_expression-tree.new.named
    c.read_expression-tree.new.way.items c.behind-in-Array.new.way.items c.read_expression-tree.result c.behind-in-Array.result
    says c.bind.ensures.inputs
    (ap terms_under items ∙ terms_under-append c.args.named.now.bindings.items _)
    inner c.behind-in-Array.ensures.same c.behind-in-Array.ensures.pushed

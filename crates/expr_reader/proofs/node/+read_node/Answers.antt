use Rattle.std.proofs.Common.{sym, ◌≡◌, ◌+◌, ◌-◌, [], Some, slice_get, length, drop, get_or, refl, inl, inr, arith, ◌∙◌}
use Rattle.std.proofs.lemmas.List.{take_all, length-drop}
use Rattle.std.proofs.lemmas.Result.{err_from_is_err_and}
use Rattle.serde_json.specs.View.{view, items_view}
use Rattle.tensor_ops.specs.Term as term
use Rattle.expr_reader.specs.Node.{tree_at}
use Rattle.expr_reader.specs.Tensors.{given}
use Rattle.expr_reader.specs.private.Version.{profile_under, operation_under, forms_of, unary_of}
use Rattle.expr_reader.specs.private.Version.{forms_of_two, binary_of}
use Rattle.expr_reader.proofs.Walk.{tree_at-arity, tree_at-first, tree_at-one, tree_at-two, tree_at-three, get_or-at}
use Rattle.expr_reader.proofs.node.+read_node.Goals as goal

pub returns-then-len-arity-clause-tree : goal.returns-then-len-arity-clause-tree
returns-then-len-arity-clause-tree t c = λ n named.
    let head : Some c.in-Some.head.now ≡ slice_get c.in-Array.list.items 0 = rw c.deref.ensures.value at c.in-Some.ensures.value in
    rw c.in_ok-operation-in-Array.ensures.kept
    (inr (tree_at-arity (profile_under c.args.version) n c.args.before (omega (arith, c.if-before-nodes.false, c.nodes.ensures.value)) (operation_under c.in_ok-operation-in-Array.operation) c.in-Some.head.now c.args.value.now c.in-Array.list c.in-Array.is head
    c.in_ok-operation-in-Array.ensures.operation
    (λ h. c.if-len-arity.true (omega (arith, h, c.in-Array.list.ok.0, c.arity.ensures)))))

pub returns-in_err-first-in-Array-clause-tree : goal.returns-in_err-first-in-Array-clause-tree
returns-in_err-first-in-Array-clause-tree t c = λ n named.
    let head : Some c.in-Some.head.now ≡ slice_get c.in-Array.list.items 0 = rw c.deref.ensures.value at c.in-Some.ensures.value in
    let p = err_from_is_err_and c.from_residual-in_err-first-in-Array.result c.from_residual-in_err-first-in-Array.ensures.1 in
    let first = c.in_err-first-in-Array.ensures.found (given (profile_under c.args.version).bounds n)
    (tree_at (profile_under c.args.version) n (c.args.before + 1) (view c.index.result.now)) (c.read_node-first.ensures.tree n named) in
    rw (p.1, p.2)
    (elim first [
      | inl memory ↦ inl memory
      | inr found ↦ inr (tree_at-first (profile_under c.args.version) n c.args.before (omega (arith, c.if-before-nodes.false, c.nodes.ensures.value)) (operation_under c.in_ok-operation-in-Array.operation) c.in-Some.head.now c.args.value.now c.in-Array.list c.in-Array.is head
          c.in_ok-operation-in-Array.ensures.operation c.index.result.now
          (omega (arith, c.in-Array.list.ok.0, c.arity.ensures, c.if-len-arity.false)) c.index.ensures _ found)
    ])

pub returns-in-One-clause-tree : goal.returns-in-One-clause-tree
returns-in-One-clause-tree t c = λ n named.
    let head : Some c.in-Some.head.now ≡ slice_get c.in-Array.list.items 0 = rw c.deref.ensures.value at c.in-Some.ensures.value in
    let names = rw c.in-One.is at c.in_ok-operation-in-Array.ensures.operation in
    let arity = rw c.in-One.is at c.arity.ensures in
    let long : length c.in-Array.list.items ≡ 2 + length (forms_of c.in-One.unary) = omega (arith, c.in-Array.list.ok.0, arity, c.if-len-arity.false) in
    let first = c.in_ok-first-in-Array.ensures.found (given (profile_under c.args.version).bounds n)
    (tree_at (profile_under c.args.version) n (c.args.before + 1) (view c.index.result.now)) (c.read_node-first.ensures.tree n named) in
    rw (
      tree_at-one (profile_under c.args.version) n c.args.before (omega (arith, c.if-before-nodes.false, c.nodes.ensures.value)) c.in-Some.head.now c.args.value.now c.in-Array.list c.in-Array.is head
          (forms_of c.in-One.unary) (unary_of c.in-One.unary) c.index.result.now names long c.index.ensures,
      first.0,
    )
    (rw (take_all (length c.deref-in-One.result.now - 2) (drop 2 c.deref-in-One.result.now) (omega (arith, length-drop 2 c.deref-in-One.result.now)), c.deref-in-One.ensures.value)
    at (c.read_unary.ensures.tree (given (profile_under c.args.version).bounds n) (sym (c.bounds-bounds.ensures.value ∙ named.limit)) first.1))

pub returns-in_err-second-in-Two-clause-tree : goal.returns-in_err-second-in-Two-clause-tree
returns-in_err-second-in-Two-clause-tree t c = λ n named.
    let head : Some c.in-Some.head.now ≡ slice_get c.in-Array.list.items 0 = rw c.deref.ensures.value at c.in-Some.ensures.value in
    let p = err_from_is_err_and c.from_residual-in_err-second-in-Two.result c.from_residual-in_err-second-in-Two.ensures.1 in
    let names = rw c.in-Two.is at c.in_ok-operation-in-Array.ensures.operation in
    let arity = rw c.in-Two.is at c.arity.ensures in
    let long : length c.in-Array.list.items ≡ 3 + length (forms_of_two c.in-Two.binary) = omega (arith, c.in-Array.list.ok.0, arity, c.if-len-arity.false) in
    let first = c.in_ok-first-in-Array.ensures.found (given (profile_under c.args.version).bounds n)
    (tree_at (profile_under c.args.version) n (c.args.before + 1) (view c.index.result.now)) (c.read_node-first.ensures.tree n named) in
    let second = c.in_err-second-in-Two.ensures.found (given (profile_under c.args.version).bounds n)
    (tree_at (profile_under c.args.version) n c.in_ok-first-in-Array.first.end (view c.index-in-Two.result.now)) (c.read_node-second.ensures.tree n named) in
    rw (p.1, p.2)
    (elim second [
      | inl memory ↦ inl memory
      | inr found ↦ inr (rw (
        tree_at-two (profile_under c.args.version) n c.args.before (omega (arith, c.if-before-nodes.false, c.nodes.ensures.value)) c.in-Some.head.now c.args.value.now c.in-Array.list c.in-Array.is head
            (forms_of_two c.in-Two.binary) (binary_of c.in-Two.binary) c.index.result.now c.index-in-Two.result.now names long c.index.ensures c.index-in-Two.ensures,
        first.0,
        found,
      ) refl)
    ])

pub returns-in_ok-second-in-Two-clause-tree : goal.returns-in_ok-second-in-Two-clause-tree
returns-in_ok-second-in-Two-clause-tree t c = λ n named.
    let head : Some c.in-Some.head.now ≡ slice_get c.in-Array.list.items 0 = rw c.deref.ensures.value at c.in-Some.ensures.value in
    let names = rw c.in-Two.is at c.in_ok-operation-in-Array.ensures.operation in
    let arity = rw c.in-Two.is at c.arity.ensures in
    let long : length c.in-Array.list.items ≡ 3 + length (forms_of_two c.in-Two.binary) = omega (arith, c.in-Array.list.ok.0, arity, c.if-len-arity.false) in
    let first = c.in_ok-first-in-Array.ensures.found (given (profile_under c.args.version).bounds n)
    (tree_at (profile_under c.args.version) n (c.args.before + 1) (view c.index.result.now)) (c.read_node-first.ensures.tree n named) in
    let second = c.in_ok-second-in-Two.ensures.found (given (profile_under c.args.version).bounds n)
    (tree_at (profile_under c.args.version) n c.in_ok-first-in-Array.first.end (view c.index-in-Two.result.now)) (c.read_node-second.ensures.tree n named) in
    rw (
      tree_at-two (profile_under c.args.version) n c.args.before (omega (arith, c.if-before-nodes.false, c.nodes.ensures.value)) c.in-Some.head.now c.args.value.now c.in-Array.list c.in-Array.is head
          (forms_of_two c.in-Two.binary) (binary_of c.in-Two.binary) c.index.result.now c.index-in-Two.result.now names long c.index.ensures c.index-in-Two.ensures,
      first.0,
      second.0,
    )
    (rw (take_all (length c.deref-in-Two.result.now - 3) (drop 3 c.deref-in-Two.result.now) (omega (arith, length-drop 3 c.deref-in-Two.result.now)), c.deref-in-Two.ensures.value)
    at (c.read_binary.ensures.tree (given (profile_under c.args.version).bounds n) (sym (c.bounds-bounds.ensures.value ∙ named.limit)) first.1 second.1))

pub returns-in_err-second-in-Select-clause-tree : goal.returns-in_err-second-in-Select-clause-tree
returns-in_err-second-in-Select-clause-tree t c = λ n named.
    let head : Some c.in-Some.head.now ≡ slice_get c.in-Array.list.items 0 = rw c.deref.ensures.value at c.in-Some.ensures.value in
    let p = err_from_is_err_and c.from_residual-in_err-second-in-Select.result c.from_residual-in_err-second-in-Select.ensures.1 in
    let names = rw c.in-Select.is at c.in_ok-operation-in-Array.ensures.operation in
    let arity = rw c.in-Select.is at c.arity.ensures in
    let long : length c.in-Array.list.items ≡ 4 = omega (arith, c.in-Array.list.ok.0, arity, c.if-len-arity.false) in
    let first = c.in_ok-first-in-Array.ensures.found (given (profile_under c.args.version).bounds n)
    (tree_at (profile_under c.args.version) n (c.args.before + 1) (view c.index.result.now)) (c.read_node-first.ensures.tree n named) in
    let second = c.in_err-second-in-Select.ensures.found (given (profile_under c.args.version).bounds n)
    (tree_at (profile_under c.args.version) n c.in_ok-first-in-Array.first.end (view c.index-in-Select.result.now)) (c.read_node-second-in-Select.ensures.tree n named) in
    rw (p.1, p.2)
    (elim second [
      | inl memory ↦ inl memory
      | inr found ↦ inr (rw (
        tree_at-three (profile_under c.args.version) n c.args.before (omega (arith, c.if-before-nodes.false, c.nodes.ensures.value)) c.in-Some.head.now c.args.value.now c.in-Array.list c.in-Array.is head
            (λ none. term.select) c.index.result.now c.index-in-Select.result.now (get_or c.in-Array.list.items 3 c.index.result.now) names long c.index.ensures c.index-in-Select.ensures (get_or-at c.in-Array.list.items 3 c.index.result.now (omega (arith, long))),
        first.0,
        found,
      ) refl)
    ])

pub returns-in_err-third-in-Select-clause-tree : goal.returns-in_err-third-in-Select-clause-tree
returns-in_err-third-in-Select-clause-tree t c = λ n named.
    let head : Some c.in-Some.head.now ≡ slice_get c.in-Array.list.items 0 = rw c.deref.ensures.value at c.in-Some.ensures.value in
    let p = err_from_is_err_and c.from_residual-in_err-third-in-Select.result c.from_residual-in_err-third-in-Select.ensures.1 in
    let names = rw c.in-Select.is at c.in_ok-operation-in-Array.ensures.operation in
    let arity = rw c.in-Select.is at c.arity.ensures in
    let long : length c.in-Array.list.items ≡ 4 = omega (arith, c.in-Array.list.ok.0, arity, c.if-len-arity.false) in
    let first = c.in_ok-first-in-Array.ensures.found (given (profile_under c.args.version).bounds n)
    (tree_at (profile_under c.args.version) n (c.args.before + 1) (view c.index.result.now)) (c.read_node-first.ensures.tree n named) in
    let second = c.in_ok-second-in-Select.ensures.found (given (profile_under c.args.version).bounds n)
    (tree_at (profile_under c.args.version) n c.in_ok-first-in-Array.first.end (view c.index-in-Select.result.now)) (c.read_node-second-in-Select.ensures.tree n named) in
    let third = c.in_err-third-in-Select.ensures.found (given (profile_under c.args.version).bounds n)
    (tree_at (profile_under c.args.version) n c.in_ok-second-in-Select.second.end (view c.index-in-Select-2.result.now)) (c.read_node-third.ensures.tree n named) in
    rw (p.1, p.2)
    (elim third [
      | inl memory ↦ inl memory
      | inr found ↦ inr (rw (
        tree_at-three (profile_under c.args.version) n c.args.before (omega (arith, c.if-before-nodes.false, c.nodes.ensures.value)) c.in-Some.head.now c.args.value.now c.in-Array.list c.in-Array.is head
            (λ none. term.select) c.index.result.now c.index-in-Select.result.now c.index-in-Select-2.result.now names long c.index.ensures c.index-in-Select.ensures c.index-in-Select-2.ensures,
        first.0,
        second.0,
        found,
      ) refl)
    ])

pub returns-in_ok-third-in-Select-clause-tree : goal.returns-in_ok-third-in-Select-clause-tree
returns-in_ok-third-in-Select-clause-tree t c = λ n named.
    let head : Some c.in-Some.head.now ≡ slice_get c.in-Array.list.items 0 = rw c.deref.ensures.value at c.in-Some.ensures.value in
    let names = rw c.in-Select.is at c.in_ok-operation-in-Array.ensures.operation in
    let arity = rw c.in-Select.is at c.arity.ensures in
    let long : length c.in-Array.list.items ≡ 4 = omega (arith, c.in-Array.list.ok.0, arity, c.if-len-arity.false) in
    let first = c.in_ok-first-in-Array.ensures.found (given (profile_under c.args.version).bounds n)
    (tree_at (profile_under c.args.version) n (c.args.before + 1) (view c.index.result.now)) (c.read_node-first.ensures.tree n named) in
    let second = c.in_ok-second-in-Select.ensures.found (given (profile_under c.args.version).bounds n)
    (tree_at (profile_under c.args.version) n c.in_ok-first-in-Array.first.end (view c.index-in-Select.result.now)) (c.read_node-second-in-Select.ensures.tree n named) in
    let third = c.in_ok-third-in-Select.ensures.found (given (profile_under c.args.version).bounds n)
    (tree_at (profile_under c.args.version) n c.in_ok-second-in-Select.second.end (view c.index-in-Select-2.result.now)) (c.read_node-third.ensures.tree n named) in
    let read = rw (← c.in_ok-third-in-Select.ensures.same) at c.read_node-third.ensures.kept in
    let empty : c.behind-in-Select-2.new.way.items ≡ [] = c.in_ok-third-in-Select.ensures.kept ∙ read in
    rw (
      tree_at-three (profile_under c.args.version) n c.args.before (omega (arith, c.if-before-nodes.false, c.nodes.ensures.value)) c.in-Some.head.now c.args.value.now c.in-Array.list c.in-Array.is head
          (λ none. term.select) c.index.result.now c.index-in-Select.result.now c.index-in-Select-2.result.now names long c.index.ensures c.index-in-Select.ensures c.index-in-Select-2.ensures,
      first.0,
      second.0,
      third.0,
      empty,
    )
    (c.read_ternary.ensures.tree (given (profile_under c.args.version).bounds n) (sym (c.bounds-bounds.ensures.value ∙ named.limit)) first.1 second.1 third.1)

use Rattle.std.proofs.Common.{◌≡◌, Some, Err, Ok, option_map, ap, sym, ◌∙◌, arith}
use Rattle.std.proofs.lemmas.Result.{err_from_is_err_and}
use Rattle.tensor_terms.specs.Term.{Unary, Binary, input, unary, binary, ternary, select}
use Rattle.tensor_terms.specs.Tree.{term_of}
use Rattle.prepared_expressions.specs.declared.kind.Kind.TheVariants.{One}
use Rattle.prepared_expressions.specs.declared.refusal.Refusal.TheVariants.{NoRecord}
use Rattle.prepared_expressions.specs.private.Made.{unary_from, binary_from, of_none, input_from}
use Rattle.prepared_expressions.specs.Recorded.{recorded}
use Rattle.prepared_expressions.proofs.Trees.{told-input, told-one, told-two, told-three, height_of-pos, told-none, only-memory, made-input, made-one, made-two, made-three}
use Rattle.prepared_expressions.proofs.Trees.{recorded-one, recorded-two, recorded-three, Fit-headed}
use Rattle.prepared_expressions.proofs.tree.+read_tree.Goals as goal

pub returns-then-height-eq0-clause-whole : goal.returns-then-height-eq0-clause-whole
returns-then-height-eq0-clause-whole t c = λ u rest is has ranges high. absurd (height_of-pos u (omega arith))

pub returns-in_default-clause-whole : goal.returns-in_default-clause-whole
returns-in_default-clause-whole t c =
    told-none c.args.numbers.now c.args.inputs c.args.height (Err NoRecord) c.in_default.ensures.none

pub returns-in_err-expr-in-Input-clause-whole : goal.returns-in_err-expr-in-Input-clause-whole
returns-in_err-expr-in-Input-clause-whole t c =
    let p = err_from_is_err_and c.from_residual.result c.from_residual.ensures.1 in
    let head = rw c.in-Input.is at c.in-Some.ensures.found in
    rw (p.1, p.2)
    (told-input c.in-Some.head.arguments.now c.in-Some.head.rest.now c.args.numbers.now c.args.inputs c.args.height (Err c.in_err-expr-in-Input.field-0.0) head (λ n rest args is has.
    only-memory c.in_err-expr-in-Input.field-0.0 (input_from c.args.inputs c.in-Some.head.arguments.now) (input n)
    (made-input c.args.inputs n c.in-Some.head.arguments.now args has) c.in_err-expr-in-Input.ensures))

pub returns-in_ok-expr-in-Input-clause-whole : goal.returns-in_ok-expr-in-Input-clause-whole
returns-in_ok-expr-in-Input-clause-whole t c =
    let head = rw c.in-Input.is at c.in-Some.ensures.found in
    told-input c.in-Some.head.arguments.now c.in-Some.head.rest.now c.args.numbers.now c.args.inputs c.args.height (Ok (record { expr = c.in_ok-expr-in-Input.expr; rest = c.in-Some.head.rest })) head (λ n rest args is has.
    let e : Some (term_of c.in_ok-expr-in-Input.expr) ≡ Some (input n) = sym c.in_ok-expr-in-Input.ensures ∙ made-input c.args.inputs n c.in-Some.head.arguments.now args has in
    (cc, is))

pub returns-in_err-first-in-One-clause-whole : goal.returns-in_err-first-in-One-clause-whole
returns-in_err-first-in-One-clause-whole t c =
    let p = err_from_is_err_and c.from_residual-in_err-first-in-One.result c.from_residual-in_err-first-in-One.ensures.1 in
    let head = rw c.in-One.is at c.in-Some.ensures.found in
    rw (p.1, p.2)
    (told-one c.in-Some.head.arguments.now c.in-Some.head.rest.now c.args.numbers.now c.args.inputs c.args.height (Err c.in_err-first-in-One.field-0.0) c.in-One.kind head (λ o a rest made is has ranges high.
    c.in_err-first-in-One.ensures.whole a rest is has ranges high))

pub returns-in_err-expr-in-One-clause-whole : goal.returns-in_err-expr-in-One-clause-whole
returns-in_err-expr-in-One-clause-whole t c =
    let p = err_from_is_err_and c.from_residual-in_err-expr-in-One.result c.from_residual-in_err-expr-in-One.ensures.1 in
    let head = rw c.in-One.is at c.in-Some.ensures.found in
    let over = λ (o : Unary). unary o (term_of c.in_ok-first-in-One.first.expr) in
    rw (p.1, p.2)
    (told-one c.in-Some.head.arguments.now c.in-Some.head.rest.now c.args.numbers.now c.args.inputs c.args.height (Err c.in_err-expr-in-One.field-0.0) c.in-One.kind head (λ o a rest made is has ranges high.
    only-memory c.in_err-expr-in-One.field-0.0 (option_map over (unary_from c.in-One.kind c.in-Some.head.arguments.now)) (over o) (ap (option_map over) made) c.in_err-expr-in-One.ensures))

pub returns-in_ok-expr-in-One-clause-whole : goal.returns-in_ok-expr-in-One-clause-whole
returns-in_ok-expr-in-One-clause-whole t c =
    let head = rw c.in-One.is at c.in-Some.ensures.found in
    told-one c.in-Some.head.arguments.now c.in-Some.head.rest.now c.args.numbers.now c.args.inputs c.args.height (Ok (record { expr = c.in_ok-expr-in-One.expr; rest = c.in_ok-first-in-One.first.rest })) c.in-One.kind head (λ o a rest made is has ranges high.
    let read = c.in_ok-first-in-One.ensures.whole a rest is has ranges high in
    (made-one o c.in-One.kind c.in-Some.head.arguments.now (term_of c.in_ok-first-in-One.first.expr) (term_of c.in_ok-expr-in-One.expr) a made c.in_ok-expr-in-One.ensures read.0, read.1))

pub returns-in_ok-expr-in-One-clause-found : goal.returns-in_ok-expr-in-One-clause-found
returns-in_ok-expr-in-One-clause-found t c =
    let head = rw c.in-One.is at c.in-Some.ensures.found in
    let fit = Fit-headed (One c.in-One.kind) c.in-Some.head.arguments.now c.in-Some.head.rest.now c.args.numbers.now c.type_inv.numbers head in
    (recorded-one c.in-One.kind c.in-Some.head.arguments.now c.in-Some.head.rest.now c.args.numbers.now c.in_ok-first-in-One.first.rest.now
    (term_of c.in_ok-first-in-One.first.expr) (term_of c.in_ok-expr-in-One.expr) c.args.inputs fit head
    c.in_ok-first-in-One.ensures.found c.in_ok-first-in-One.ensures.inputs c.in_ok-expr-in-One.ensures).0

pub returns-in_ok-expr-in-One-clause-inputs : goal.returns-in_ok-expr-in-One-clause-inputs
returns-in_ok-expr-in-One-clause-inputs t c =
    let head = rw c.in-One.is at c.in-Some.ensures.found in
    let fit = Fit-headed (One c.in-One.kind) c.in-Some.head.arguments.now c.in-Some.head.rest.now c.args.numbers.now c.type_inv.numbers head in
    (recorded-one c.in-One.kind c.in-Some.head.arguments.now c.in-Some.head.rest.now c.args.numbers.now c.in_ok-first-in-One.first.rest.now
    (term_of c.in_ok-first-in-One.first.expr) (term_of c.in_ok-expr-in-One.expr) c.args.inputs fit head
    c.in_ok-first-in-One.ensures.found c.in_ok-first-in-One.ensures.inputs c.in_ok-expr-in-One.ensures).1

pub returns-in_err-first-in-Two-clause-whole : goal.returns-in_err-first-in-Two-clause-whole
returns-in_err-first-in-Two-clause-whole t c =
    let p = err_from_is_err_and c.from_residual-in_err-first-in-Two.result c.from_residual-in_err-first-in-Two.ensures.1 in
    let head = rw c.in-Two.is at c.in-Some.ensures.found in
    rw (p.1, p.2)
    (told-two c.in-Some.head.arguments.now c.in-Some.head.rest.now c.args.numbers.now c.args.inputs c.args.height (Err c.in_err-first-in-Two.field-0.0) c.in-Two.kind head (λ o a b rest made is has_a has_b ranges_a ranges_b high_a high_b.
    c.in_err-first-in-Two.ensures.whole a (recorded b rest) is has_a ranges_a high_a))

pub returns-in_err-second-in-Two-clause-whole : goal.returns-in_err-second-in-Two-clause-whole
returns-in_err-second-in-Two-clause-whole t c =
    let p = err_from_is_err_and c.from_residual-in_err-second-in-Two.result c.from_residual-in_err-second-in-Two.ensures.1 in
    let head = rw c.in-Two.is at c.in-Some.ensures.found in
    rw (p.1, p.2)
    (told-two c.in-Some.head.arguments.now c.in-Some.head.rest.now c.args.numbers.now c.args.inputs c.args.height (Err c.in_err-second-in-Two.field-0.0) c.in-Two.kind head (λ o a b rest made is has_a has_b ranges_a ranges_b high_a high_b.
    let one = c.in_ok-first-in-Two.ensures.whole a (recorded b rest) is has_a ranges_a high_a in
    c.in_err-second-in-Two.ensures.whole b rest one.1 has_b ranges_b high_b))

pub returns-in_err-expr-in-Two-clause-whole : goal.returns-in_err-expr-in-Two-clause-whole
returns-in_err-expr-in-Two-clause-whole t c =
    let p = err_from_is_err_and c.from_residual-in_err-expr-in-Two.result c.from_residual-in_err-expr-in-Two.ensures.1 in
    let head = rw c.in-Two.is at c.in-Some.ensures.found in
    let over = λ (o : Binary). binary o (term_of c.in_ok-first-in-Two.first.expr) (term_of c.in_ok-second-in-Two.second.expr) in
    rw (p.1, p.2)
    (told-two c.in-Some.head.arguments.now c.in-Some.head.rest.now c.args.numbers.now c.args.inputs c.args.height (Err c.in_err-expr-in-Two.field-0.0) c.in-Two.kind head (λ o a b rest made is has_a has_b ranges_a ranges_b high_a high_b.
    only-memory c.in_err-expr-in-Two.field-0.0 (option_map over (binary_from c.in-Two.kind c.in-Some.head.arguments.now)) (over o) (ap (option_map over) made) c.in_err-expr-in-Two.ensures))

pub returns-in_ok-expr-in-Two-clause-whole : goal.returns-in_ok-expr-in-Two-clause-whole
returns-in_ok-expr-in-Two-clause-whole t c =
    let head = rw c.in-Two.is at c.in-Some.ensures.found in
    told-two c.in-Some.head.arguments.now c.in-Some.head.rest.now c.args.numbers.now c.args.inputs c.args.height (Ok (record { expr = c.in_ok-expr-in-Two.expr; rest = c.in_ok-second-in-Two.second.rest })) c.in-Two.kind head (λ o a b rest made is has_a has_b ranges_a ranges_b high_a high_b.
    let one = c.in_ok-first-in-Two.ensures.whole a (recorded b rest) is has_a ranges_a high_a in
    let two = c.in_ok-second-in-Two.ensures.whole b rest one.1 has_b ranges_b high_b in
    (made-two o c.in-Two.kind c.in-Some.head.arguments.now (term_of c.in_ok-first-in-Two.first.expr) (term_of c.in_ok-second-in-Two.second.expr) (term_of c.in_ok-expr-in-Two.expr) a b made c.in_ok-expr-in-Two.ensures one.0 two.0, two.1))

pub returns-in_ok-expr-in-Two-clause-found : goal.returns-in_ok-expr-in-Two-clause-found
returns-in_ok-expr-in-Two-clause-found t c =
    let head = rw c.in-Two.is at c.in-Some.ensures.found in
    (recorded-two c.in-Two.kind c.in-Some.head.arguments.now c.in-Some.head.rest.now c.args.numbers.now c.in_ok-first-in-Two.first.rest.now c.in_ok-second-in-Two.second.rest.now
    (term_of c.in_ok-first-in-Two.first.expr) (term_of c.in_ok-second-in-Two.second.expr) (term_of c.in_ok-expr-in-Two.expr) c.args.inputs head
    c.in_ok-first-in-Two.ensures.found c.in_ok-second-in-Two.ensures.found c.in_ok-first-in-Two.ensures.inputs c.in_ok-second-in-Two.ensures.inputs c.in_ok-expr-in-Two.ensures).0

pub returns-in_ok-expr-in-Two-clause-inputs : goal.returns-in_ok-expr-in-Two-clause-inputs
returns-in_ok-expr-in-Two-clause-inputs t c =
    let head = rw c.in-Two.is at c.in-Some.ensures.found in
    (recorded-two c.in-Two.kind c.in-Some.head.arguments.now c.in-Some.head.rest.now c.args.numbers.now c.in_ok-first-in-Two.first.rest.now c.in_ok-second-in-Two.second.rest.now
    (term_of c.in_ok-first-in-Two.first.expr) (term_of c.in_ok-second-in-Two.second.expr) (term_of c.in_ok-expr-in-Two.expr) c.args.inputs head
    c.in_ok-first-in-Two.ensures.found c.in_ok-second-in-Two.ensures.found c.in_ok-first-in-Two.ensures.inputs c.in_ok-second-in-Two.ensures.inputs c.in_ok-expr-in-Two.ensures).1

pub returns-in_err-first-in-Select-clause-whole : goal.returns-in_err-first-in-Select-clause-whole
returns-in_err-first-in-Select-clause-whole t c =
    let p = err_from_is_err_and c.from_residual-in_err-first-in-Select.result c.from_residual-in_err-first-in-Select.ensures.1 in
    let head = rw c.in-Select.is at c.in-Some.ensures.found in
    rw (p.1, p.2)
    (told-three c.in-Some.head.arguments.now c.in-Some.head.rest.now c.args.numbers.now c.args.inputs c.args.height (Err c.in_err-first-in-Select.field-0.0) head (λ x y z rest args is has_x has_y has_z ranges_x ranges_y ranges_z high_x high_y high_z.
    c.in_err-first-in-Select.ensures.whole x (recorded y (recorded z rest)) is has_x ranges_x high_x))

pub returns-in_err-second-in-Select-clause-whole : goal.returns-in_err-second-in-Select-clause-whole
returns-in_err-second-in-Select-clause-whole t c =
    let p = err_from_is_err_and c.from_residual-in_err-second-in-Select.result c.from_residual-in_err-second-in-Select.ensures.1 in
    let head = rw c.in-Select.is at c.in-Some.ensures.found in
    rw (p.1, p.2)
    (told-three c.in-Some.head.arguments.now c.in-Some.head.rest.now c.args.numbers.now c.args.inputs c.args.height (Err c.in_err-second-in-Select.field-0.0) head (λ x y z rest args is has_x has_y has_z ranges_x ranges_y ranges_z high_x high_y high_z.
    let one = c.in_ok-first-in-Select.ensures.whole x (recorded y (recorded z rest)) is has_x ranges_x high_x in
    c.in_err-second-in-Select.ensures.whole y (recorded z rest) one.1 has_y ranges_y high_y))

pub returns-in_err-third-in-Select-clause-whole : goal.returns-in_err-third-in-Select-clause-whole
returns-in_err-third-in-Select-clause-whole t c =
    let p = err_from_is_err_and c.from_residual-in_err-third-in-Select.result c.from_residual-in_err-third-in-Select.ensures.1 in
    let head = rw c.in-Select.is at c.in-Some.ensures.found in
    rw (p.1, p.2)
    (told-three c.in-Some.head.arguments.now c.in-Some.head.rest.now c.args.numbers.now c.args.inputs c.args.height (Err c.in_err-third-in-Select.field-0.0) head (λ x y z rest args is has_x has_y has_z ranges_x ranges_y ranges_z high_x high_y high_z.
    let one = c.in_ok-first-in-Select.ensures.whole x (recorded y (recorded z rest)) is has_x ranges_x high_x in
    let two = c.in_ok-second-in-Select.ensures.whole y (recorded z rest) one.1 has_y ranges_y high_y in
    c.in_err-third-in-Select.ensures.whole z rest two.1 has_z ranges_z high_z))

pub returns-in_err-expr-in-Select-clause-whole : goal.returns-in_err-expr-in-Select-clause-whole
returns-in_err-expr-in-Select-clause-whole t c =
    let p = err_from_is_err_and c.from_residual-in_err-expr-in-Select.result c.from_residual-in_err-expr-in-Select.ensures.1 in
    let head = rw c.in-Select.is at c.in-Some.ensures.found in
    let all = ternary select (term_of c.in_ok-first-in-Select.first.expr) (term_of c.in_ok-second-in-Select.second.expr) (term_of c.in_ok-third-in-Select.third.expr) in
    rw (p.1, p.2)
    (told-three c.in-Some.head.arguments.now c.in-Some.head.rest.now c.args.numbers.now c.args.inputs c.args.height (Err c.in_err-expr-in-Select.field-0.0) head (λ x y z rest args is has_x has_y has_z ranges_x ranges_y ranges_z high_x high_y high_z.
    only-memory c.in_err-expr-in-Select.field-0.0 (of_none all c.in-Some.head.arguments.now) all (ap (of_none all) args) c.in_err-expr-in-Select.ensures))

pub returns-in_ok-expr-in-Select-clause-whole : goal.returns-in_ok-expr-in-Select-clause-whole
returns-in_ok-expr-in-Select-clause-whole t c =
    let head = rw c.in-Select.is at c.in-Some.ensures.found in
    told-three c.in-Some.head.arguments.now c.in-Some.head.rest.now c.args.numbers.now c.args.inputs c.args.height (Ok (record { expr = c.in_ok-expr-in-Select.expr; rest = c.in_ok-third-in-Select.third.rest })) head (λ x y z rest args is has_x has_y has_z ranges_x ranges_y ranges_z high_x high_y high_z.
    let one = c.in_ok-first-in-Select.ensures.whole x (recorded y (recorded z rest)) is has_x ranges_x high_x in
    let two = c.in_ok-second-in-Select.ensures.whole y (recorded z rest) one.1 has_y ranges_y high_y in
    let three = c.in_ok-third-in-Select.ensures.whole z rest two.1 has_z ranges_z high_z in
    (made-three c.in-Some.head.arguments.now (term_of c.in_ok-first-in-Select.first.expr) (term_of c.in_ok-second-in-Select.second.expr) (term_of c.in_ok-third-in-Select.third.expr) (term_of c.in_ok-expr-in-Select.expr) x y z args c.in_ok-expr-in-Select.ensures one.0 two.0 three.0, three.1))

pub returns-in_ok-expr-in-Select-clause-found : goal.returns-in_ok-expr-in-Select-clause-found
returns-in_ok-expr-in-Select-clause-found t c =
    let head = rw c.in-Select.is at c.in-Some.ensures.found in
    (recorded-three c.in-Some.head.arguments.now c.in-Some.head.rest.now c.args.numbers.now c.in_ok-first-in-Select.first.rest.now c.in_ok-second-in-Select.second.rest.now c.in_ok-third-in-Select.third.rest.now
    (term_of c.in_ok-first-in-Select.first.expr) (term_of c.in_ok-second-in-Select.second.expr) (term_of c.in_ok-third-in-Select.third.expr) (term_of c.in_ok-expr-in-Select.expr) c.args.inputs head
    c.in_ok-first-in-Select.ensures.found c.in_ok-second-in-Select.ensures.found c.in_ok-third-in-Select.ensures.found
    c.in_ok-first-in-Select.ensures.inputs c.in_ok-second-in-Select.ensures.inputs c.in_ok-third-in-Select.ensures.inputs c.in_ok-expr-in-Select.ensures).0

pub returns-in_ok-expr-in-Select-clause-inputs : goal.returns-in_ok-expr-in-Select-clause-inputs
returns-in_ok-expr-in-Select-clause-inputs t c =
    let head = rw c.in-Select.is at c.in-Some.ensures.found in
    (recorded-three c.in-Some.head.arguments.now c.in-Some.head.rest.now c.args.numbers.now c.in_ok-first-in-Select.first.rest.now c.in_ok-second-in-Select.second.rest.now c.in_ok-third-in-Select.third.rest.now
    (term_of c.in_ok-first-in-Select.first.expr) (term_of c.in_ok-second-in-Select.second.expr) (term_of c.in_ok-third-in-Select.third.expr) (term_of c.in_ok-expr-in-Select.expr) c.args.inputs head
    c.in_ok-first-in-Select.ensures.found c.in_ok-second-in-Select.ensures.found c.in_ok-third-in-Select.ensures.found
    c.in_ok-first-in-Select.ensures.inputs c.in_ok-second-in-Select.ensures.inputs c.in_ok-third-in-Select.ensures.inputs c.in_ok-expr-in-Select.ensures).1

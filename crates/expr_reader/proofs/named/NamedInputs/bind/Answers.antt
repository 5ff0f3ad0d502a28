use Rattle.std.proofs.Common.{refl, arith}
use Rattle.expr_reader.proofs.Bound.{IsNamed-bind}
use Rattle.expr_reader.proofs.named.NamedInputs.bind.Goals as goal

pub returns-clause-ok : goal.returns-clause-ok
returns-clause-ok c = λ bounds n named is.
    IsNamed-bind bounds n c.args.self.now _ c.args.name.now c.args.binding _ named is refl c.in-Ok.ensures.items
    (omega (arith, c.len.ensures, c.args.self.now.bindings.ok.0)) c.in_ok-put_first.ensures.ok

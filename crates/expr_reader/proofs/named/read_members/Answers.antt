use Rattle.std.proofs.Common.{◌≡◌, ap, ℕ, List, ◌+◌, ◌++◌, [], ◌∷◌, Some, None, true, length, sym, ◌∙◌}
use Rattle.std.proofs.Common.{string_bytes, if◌then◌else◌, arith}
use Rattle.std.specs.Option.{option_or}
use Rattle.std.specs.Str.{bytes_eq}
use Rattle.std.proofs.lemmas.Grind.{common_steps}
use Rattle.std.proofs.lemmas.List.{append-nil}
use Rattle.serde_json.specs.View.{members_view}
use Rattle.expr_reader.specs.private.Behind.{source_of}
use Rattle.expr_reader.specs.private.Numbers.{number_in}
use Rattle.expr_reader.specs.Tensors.{names_in}
use Rattle.expr_reader.proofs.Members.{length-turn, after-turn, place-turn, number-turn, length-names_in, AreWithin-append, tensors_by-end}
use Rattle.expr_reader.proofs.Numbers.{option_or-None}
use Rattle.expr_reader.proofs.named.read_members.Goals as goal

pub loop-name-preserved : goal.loop-name-preserved
loop-name-preserved c =
    let first = c.in-Some.ensures.steps in
    let done = c.loop-name.tensors.items in
    let items : c.push.new.self.items ≡ done ++ c.in-Ok.tensor ∷ [] = c.in-Ok-push.ensures.items in
    let count : c.len-number.result ≡ length done = omega (arith, c.loop-name.tensors.ok.0) in
    let long : length c.push.new.self.items ≡ length done + 1 =
    omega (arith, c.in-Ok-push.ensures.len, c.push.new.self.ok.0, c.loop-name.tensors.ok.0) in
    let put = λ (q : List ℕ).
    let at : number_in c.put_first.new.numbers q
    ≡ option_or (number_in c.loop-name.numbers q) (if bytes_eq q (string_bytes c.in-Some.name.now) then Some (length done) else None) =
    rw (← c.as_str-in-loop-name.ensures.value, ← count) (c.in_ok-put_first.ensures.ok q) in at in (
      tt,
      tt,
      rw (items, length-turn c.args.bounds _ _ _ _ first done c.in-Ok.tensor) c.loop-name.invariant.2,
      rw items (AreWithin-append c.args.bounds done c.in-Ok.tensor c.loop-name.invariant.3 c.in-Ok.ensures.bounds),
      rw (items, c.without-left.ensures, after-turn c.args.bounds _ _ _ _ first (source_of c.loop-name.left) done c.in-Ok.tensor c.in-Ok.ensures.tensor)
          c.loop-name.invariant.4,
      rw (c.without-left.ensures, place-turn c.args.bounds _ _ _ _ first (source_of c.loop-name.left) c.in-Ok.tensor c.in-Ok.ensures.tensor)
          c.loop-name.invariant.5,
      λ q. rw long
          (number-turn c.args.bounds _ _ _ _ first (number_in c.loop-name.numbers q) (number_in c.put_first.new.numbers q) (length done) q (put q)
          ∙ c.loop-name.invariant.6 q),
    )

pub returns-clause-inputs : goal.returns-clause-inputs
returns-clause-inputs c =
    let end = c.in-None.ensures.steps.0 in
    let last : c.is_end.result ≡ true = grind (arith, common_steps) in
    let tensors = rw (end, tensors_by-end (source_of c.loop-name.left) c.args.bounds c.is_end.result c.is_end.ensures, last, append-nil)
    at c.loop-name.invariant.4 in
    let count = rw end at c.loop-name.invariant.2 in (
      record {
        names = names_in (members_view c.args.members.now.entries);
        tensors = c.loop-name.tensors.items;
      },
      sym tensors,
      (λ i. names_in (members_view c.args.members.now.entries)),
      record {
        limit = c.with_bounds-inputs.ensures.limit;
        possible = c.requires.bounds;
        tensors = rw c.new-bindings.ensures.items c.with_bounds-inputs.ensures.tensors;
        bound = rw c.new-bindings.ensures.items tt;
        aligned = length-names_in c.args.members.now.entries ∙ omega (arith, count);
        numbers = λ q. sym (option_or-None (number_in c.loop-name.numbers q)) ∙ rw end at (c.loop-name.invariant.6 q);
      },
    )

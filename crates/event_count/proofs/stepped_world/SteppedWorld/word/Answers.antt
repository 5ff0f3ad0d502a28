-- Each field fits its bits, and is the World's.
use Rattle.std.proofs.Common.{◌≡◌, ℕ, List, [], ◌∷◌, length, slice_get, Option, unwrap_or, ap, refl}
use Rattle.std.proofs.Common.{◌∙◌, arith}
use Rattle.event_word.specs.Word.{nobody}
use Rattle.event_word.specs.Shown.{top_of}
use Rattle.event_word.proofs.Rooms.{length-pre}
use Rattle.event_count.proofs.CountWorlds.{top_of-fits}
use Rattle.event_count.proofs.stepped_world.SteppedWorld.word.Goals as goal

pub overflow_cast-pre : goal.overflow_cast-pre
overflow_cast-pre g c =
    let known = c.args.self.now.lawful in
    let fewer = length-pre c.args.self.now.world known.lawful in
    let phases = known.sizes.phases in let few = known.few in
    let pre = ap length c.pre.ensures in omega arith

pub overflow_cast-signals : goal.overflow_cast-signals
overflow_cast-signals g c =
    let known = c.args.self.now.lawful in
    let fewer = length-pre c.args.self.now.world known.lawful in
    let phases = known.sizes.phases in let few = known.few in omega arith

unwrap_or-slice_get : (stack : List ℕ) → unwrap_or (slice_get stack 0) nobody ≡ top_of stack
unwrap_or-slice_get [] = refl
unwrap_or-slice_get (seat ∷ seats) = refl

-- what is read as the top is the top
top_of-read : (stack read : List ℕ) (first : Option ℕ) (top : ℕ) → read ≡ stack
    → first ≡ slice_get read 0 → top ≡ unwrap_or first nobody → top ≡ top_of stack
top_of-read stack read first top same is or = or
    ∙ (ap (λ o. unwrap_or o nobody) (is ∙ ap (λ seats. slice_get seats 0) same)
    ∙ unwrap_or-slice_get stack)

pub pack-requires : goal.pack-requires
pack-requires g c =
    let w = c.args.self.now.world in let known = c.args.self.now.lawful in
    let fewer = length-pre w known.lawful in
    let phases = known.sizes.phases in let few = known.few in
    let pre = ap length c.pre.ensures in
    let fits = top_of-fits c.args.self.now.sizes w known in
    let top = top_of-read w.stack c.stack.result.now c.copied.result c.unwrap_or.result
    c.stack.ensures (c.copied.ensures ∙ c.first-top.ensures.value) c.unwrap_or.ensures in
    record { top = omega arith; pre = omega arith; signals = omega arith; epoch = omega arith }

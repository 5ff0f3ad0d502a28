use Rattle.std.proofs.Common.{rules, ◌≡◌, ℕ, ◌+◌, ap, arith, ◌∙◌, true}
use Rattle.worker_pool.specs.Starts.{was_asked, was_joined, joined_of}
use Rattle.worker_pool.proofs.Growing.{All-front, All-snoc}
use Rattle.worker_pool.proofs.Starting.{comes-asked, joined-more, joined-same}
use Rattle.worker_pool.proofs.opening.start.+start_all.Goals as goal

-- one more was started before those that are left
told : (started joined : ℕ) → started + (joined + 1) ≡ started + 1 + joined
told started joined = omega arith

pub push_reserved-requires : goal.push_reserved-requires
push_reserved-requires g t c =
    let all = c.start_all-ended.ensures.all in let capacity = c.start_all-ended.ensures.capacity in
    let room = c.requires.room in let len = c.in-Some.ensures.len in
    omega arith

pub start_all-ended-requires-in-Err-after_bounds : goal.start_all-ended-requires-in-Err-after_bounds
start_all-ended-requires-in-Err-after_bounds g t c κs within =
    let few = c.requires.few in let room = c.requires.room in
    let len = c.in-Some.ensures.len in
    record {
      at_work = All-front (g.S.Workplace.is_at_work c.args.workplace.now) _ _ _ c.in-Some.ensures.items
          c.requires.at_work;
      none_ended = c.requires.none_ended;
      few = omega arith;
      room = omega arith;
      begins = λ count most. c.requires.begins count (omega arith);
    }

pub push_reserved-requires-in-Err : goal.push_reserved-requires-in-Err
push_reserved-requires-in-Err g t c =
    let ran = c.start_all-ended-in-Err.ensures in
    let all = ran.all in let capacity = ran.capacity in
    let room = c.requires.room in let len = c.in-Some.ensures.len in
    omega arith

pub returns-in-Ok : goal.returns-in-Ok
returns-in-Ok g t c =
    let work = g.S.Workplace in
    let ran = c.start_all-ended.ensures in
    let all = ran.all in let more = c.push_reserved.ensures.len in
    let len = c.in-Some.ensures.len in
    let asked : was_asked c.joined.result.start ≡ true = ap was_asked c.joined.ensures.start in
    let counted = joined-more c.start_all-ended.result.0.items c.joined.result
    c.push_reserved.new.self.items c.push_reserved.ensures.items c.joined.ensures.start in
    record {
      home = comes-asked work.is_at_work work.has_ended c.args.workplace.now _ _ _ _ _ _
          c.in-Some.ensures.items c.push_reserved.ensures.items ran.home (search rules) asked;
      asked = All-snoc (λ home. was_asked home.start ≡ true) _ _ _ c.push_reserved.ensures.items
          ran.asked asked;
      all = omega arith;
      capacity = c.push_reserved.ensures.capacity ∙ ran.capacity;
      left = rw (counted, told c.args.started (joined_of c.start_all-ended.result.0.items)) ran.left;
    }

pub returns-in-Err : goal.returns-in-Err
returns-in-Err g t c =
    let work = g.S.Workplace in
    let ran = c.start_all-ended-in-Err.ensures in
    let all = ran.all in let more = c.push_reserved-in-Err.ensures.len in
    let len = c.in-Some.ensures.len in
    let asked : was_asked c.refused.result.start ≡ true = ap was_asked c.refused.ensures.start in
    let counted = joined-same c.start_all-ended-in-Err.result.0.items c.refused.result
    c.push_reserved-in-Err.new.self.items c.push_reserved-in-Err.ensures.items
    (ap was_joined c.refused.ensures.start) in
    record {
      home = comes-asked work.is_at_work work.has_ended c.args.workplace.now _ _ _ _ _ _
          c.in-Some.ensures.items c.push_reserved-in-Err.ensures.items ran.home (search rules) asked;
      asked = All-snoc (λ home. was_asked home.start ≡ true) _ _ _
          c.push_reserved-in-Err.ensures.items ran.asked asked;
      all = omega arith;
      capacity = c.push_reserved-in-Err.ensures.capacity ∙ ran.capacity;
      left = rw counted ran.left;
    }

-- The steps that are evaluated together give the tensor of the last one, whatever is fused into it.
use Rattle.std.proofs.Common.{◌≡◌, ℕ, zero, suc, ◌+◌, ◌-◌, List, [], ◌∷◌, ◌++◌}
use Rattle.std.proofs.Common.{true, false, Ok, is_ok, length, take, drop, if◌then◌else◌}
use Rattle.std.proofs.Common.{refl, ap, sym, subst, ◌∙◌, arith}
use Rattle.std.proofs.lemmas.Bool.{eq-eqb, eqb-true, or_parts}
use Rattle.std.proofs.lemmas.List.{append_assoc, drop-drop, length-append}
use Rattle.std.specs.Prelude.{nat_eq}
use Rattle.tensor_ops.specs.Contents.{Contents, input_of}
use Rattle.tensor_ops.specs.Legal.{widest}
use Rattle.tensor_ops.specs.Result.{dims_of}
use Rattle.tensor_ops.specs.Term.{Term, input, unary, binary, ternary, has_inputs}
use Rattle.tensor_ops.specs.Value.{tensor_of}
use Rattle.tensor_reduce.specs.private.Fusing.{fused_with}
use Rattle.tensor_reduce.specs.private.Held.{AreHeldFor, AreHeld, HasMore}
use Rattle.tensor_reduce.specs.private.Next.{fused_in, next_term}
use Rattle.tensor_reduce.specs.Plan.{term_of_step, AreReady}
use Rattle.tensor_reduce.specs.private.Readers.{reads, is_over, are_reading}
use Rattle.tensor_reduce.specs.private.Schedules.{IsScheduleFor}
use Rattle.tensor_reduce.specs.private.Stage.{IsStageOf, IsReducing, HasNumbers, fused_in_stage}
use Rattle.tensor_reduce.specs.private.Stage.{stage_term, stage_dims, stage_schedule}
use Rattle.tensor_reduce.specs.declared.schedule.Schedule.{Schedule}
use Rattle.tensor_reduce.specs.declared.schedule.stage.Stage.{Stage}
use Rattle.tensor_reduce.specs.declared.schedule.stage.Stage.TheVariants.{Plain, Reduced}
use Rattle.tensor_reduce.specs.declared.step.Step.{Step}
use Rattle.tensor_reduce.proofs.FusedTerms.{ReadDirectly-single, same-fused_with}
use Rattle.tensor_reduce.proofs.Held.{IsFusedTensor, IsFusedTensor-term, IsFusedTerm, IsFusedTerm-dims}
use Rattle.tensor_reduce.proofs.Held.{same-as-read, AreHeld-fused}
use Rattle.tensor_reduce.proofs.NextSteps.{names-next, dims-next, schedule-next, numbers-next}
use Rattle.tensor_reduce.proofs.NextSteps.{IsFusedTerm-next, later-steps}
use Rattle.tensor_reduce.proofs.Schedules.{IsScheduleFor-fusing}
use Rattle.tensor_reduce.proofs.Schedules.{IsFusingFor-combining, IsFusingFor-fused_with}

-- an operation on one tensor alone reads no other
over-reads : (n m : ℕ) (t : Term) → is_over n t ≡ true → reads m t ≡ true → nat_eq m n ≡ true
over-reads n m (input k) over reading = (cc)
over-reads n m (unary o (input k)) over reading =
    eq-eqb m n (sym (eqb-true k m reading) ∙ eqb-true k n over)
over-reads n m (unary o (unary p a)) over reading = (cc)
over-reads n m (unary o (binary p a b)) over reading = (cc)
over-reads n m (unary o (ternary p a b c)) over reading = (cc)
over-reads n m (binary o a b) over reading = (cc)
over-reads n m (ternary o a b c) over reading = (cc)

-- with a term in its place it names the tensors that the term names
names-over : (n count : ℕ) (u t : Term) → is_over n t ≡ true → has_inputs u count ≡ true
    → has_inputs (fused_with n u t) count ≡ true
names-over n count u (input k) over names = (cc)
names-over n count u (unary o (input k)) over names =
    let is : (if nat_eq k n then u else input k) ≡ u = rw over refl in
    ap (λ a. has_inputs a count) is ∙ names
names-over n count u (unary o (unary p a)) over names = (cc)
names-over n count u (unary o (binary p a b)) over names = (cc)
names-over n count u (unary o (ternary p a b c)) over names = (cc)
names-over n count u (binary o a b) over names = (cc)
names-over n count u (ternary o a b c) over names = (cc)

-- what none of some steps reads, none of those behind the first does
unread-later : (n : ℕ) (steps : List Step) → are_reading n steps ≡ false
    → are_reading n (drop 1 steps) ≡ false
unread-later n [] unread = refl
unread-later n (s ∷ steps) unread = (or_parts (reads n (term_of_step s)) (are_reading n steps) unread).1

-- a step that reads the tensor of the one before it alone, with what gives that fused into it
IsFusedTerm-more : (f : ℕ) (left behind : List Step) (held all : List Contents) (n : ℕ) (u : Term)
    (r : Step) (schedule : Schedule) → AreReady left all → IsFusedTerm f left held all u
    → drop (suc f) left ≡ behind → n ≡ length all + f → IsReducing behind n r schedule
    → IsFusedTerm (suc f) left held all (fused_with n u (term_of_step r))
IsFusedTerm-more f [] behind held all n u r schedule ready is here place reducing = absurd is
IsFusedTerm-more zero (s ∷ left) behind held all n u r schedule ready is here place reducing =
    let more : List Contents = all ++ tensor_of (term_of_step s) all ∷ [] in
    let now : left ≡ r ∷ drop 1 behind = here ∙ reducing.steps in
    let readied : AreReady (r ∷ drop 1 behind) more =
    subst (λ l. AreReady l more) now ready.1 in
    let combining = IsFusingFor-combining schedule (term_of_step r) reducing.fits in
    let number : n ≡ length all = omega (arith, place) in
    let alone : (m : ℕ) → reads m (term_of_step r) ≡ true → nat_eq m n ≡ false
    → input_of held m ≡ input_of more m =
    λ m reading other.
    let same = over-reads n m (term_of_step r) reducing.over reading in (cc) in
    subst (λ l. IsFusedTerm 1 (s ∷ l) held all (fused_with n u (term_of_step r))) (sym now) (
      ap (λ k. are_reading k (drop 1 behind)) (sym number) ∙ reducing.unread,
      same-fused_with held more n u (term_of_step r) combining
          (ReadDirectly-single n (term_of_step r) combining readied.0.single)
          (ap is_ok readied.0.dims)
          (same-as-read u (term_of_step s) held all n (ap is_ok ready.0.dims) number is) alone,
    )
IsFusedTerm-more (suc f) (s ∷ left) behind held all n u r schedule ready is here place reducing =
    let made : Contents = tensor_of (term_of_step s) all in
    let count : suc f + 1 ≡ suc (suc f) = omega arith in
    let behind_it : drop 1 (drop (suc f) left) ≡ drop (suc (suc f)) left =
    drop-drop 1 (suc f) left ∙ ap (λ k. drop k left) count in (
      ap (are_reading (length all)) (sym behind_it)
          ∙ unread-later (length all) (drop (suc f) left) is.0,
      IsFusedTerm-more f left behind held (all ++ made ∷ []) n u r schedule ready.1 is.1 here
          (omega (arith, place, length-append all (made ∷ []))) reducing,
    )

-- a stage of the steps left, over the tensors that are held
module _ (left : List Step) (held all : List Contents) (are : AreHeldFor left held all) where
  pub names-stage : (stage : Stage) → IsStageOf left (length held) stage
      → has_inputs (stage_term stage) (length held) ≡ true
  names-stage (Plain next) is = names-next left held all are next is
  names-stage (Reduced next n r schedule) is =
      names-over n (length held) (next_term next) (term_of_step r.now) is.1.1.over
      (names-next left held all are next is.0)

  IsFusedTerm-stage : (stage : Stage) → IsStageOf left (length held) stage
      → IsFusedTerm (fused_in_stage stage) left held all (stage_term stage)
  IsFusedTerm-stage (Plain next) is = IsFusedTerm-next left held all are next is
  IsFusedTerm-stage (Reduced next n r schedule) is =
      let f : ℕ = fused_in next in
      let count : suc f ≡ f + 1 = omega arith in
      subst (λ k. IsFusedTerm k left held all (stage_term (Reduced next n r schedule))) count
      (IsFusedTerm-more f left (drop (f + 1) left) held all n (next_term next) r.now schedule
      are.ready (IsFusedTerm-next left held all are next is.0) (ap (λ k. drop k left) count)
      (is.1.0 ∙ ap (λ k. k + f) are.as_many) is.1.1)

  pub dims-stage : (stage : Stage) → IsStageOf left (length held) stage
      → dims_of widest (stage_term stage) held ≡ Ok (stage_dims stage)
  dims-stage (Plain next) is = dims-next left held all are next is
  dims-stage (Reduced next n r schedule) is =
      IsFusedTerm-dims (fused_in next + 1) left (drop 1 (drop (fused_in next + 1) left)) held all
      (stage_term (Reduced next n r schedule)) r.now are.ready
      (IsFusedTerm-stage (Reduced next n r schedule) is) is.1.1.steps

  pub schedule-stage : (stage : Stage) → IsStageOf left (length held) stage
      → IsScheduleFor (stage_schedule stage) (stage_term stage)
  schedule-stage (Plain next) is = schedule-next left held all are next is
  schedule-stage (Reduced next n r schedule) is =
      IsScheduleFor-fusing schedule _
      (IsFusingFor-fused_with schedule n (next_term next) (term_of_step r.now) is.1.1.fits)

  pub numbers-stage : (stage : Stage) → IsStageOf left (length held) stage → HasNumbers stage
  numbers-stage (Plain next) is = numbers-next left held all are next is
  numbers-stage (Reduced next n r schedule) is =
      (numbers-next left held all are next is.0, is.1.1.small)

  pub IsFusedTensor-stage : (stage : Stage) (t : Contents) → IsStageOf left (length held) stage
      → t ≡ tensor_of (stage_term stage) held → IsFusedTensor (fused_in_stage stage) left all t
  IsFusedTensor-stage stage t is made =
      subst (IsFusedTensor (fused_in_stage stage) left all) (sym made)
      (IsFusedTensor-term (fused_in_stage stage) left held all (stage_term stage)
      (IsFusedTerm-stage stage is))

-- the steps left after done ones, as a slice, and the tensors lent
module _ (steps : List Step) (done : ℕ) (inputs items lent whole : List Contents)
    (same : lent ≡ items) (are : AreHeld (drop done steps) whole (inputs ++ items)) where
  abbrev pub steps_left : List Step
  steps_left = take (length steps - done) (drop done steps)

  pub held-left : AreHeldFor steps_left (inputs ++ lent) are.0
  held-left =
      subst (λ l. AreHeldFor l (inputs ++ lent) are.0) (sym (later-steps steps done))
      (subst (λ i. AreHeldFor (drop done steps) (inputs ++ i) are.0) (sym same) are.1.0)

  pub AreHeld-stage : (stage : Stage) (n : ℕ) (t : Contents) (mid new : List Contents)
      → n ≡ fused_in_stage stage → IsStageOf steps_left (length (inputs ++ lent)) stage
      → t ≡ tensor_of (stage_term stage) (inputs ++ lent)
      → HasMore n items mid → new ≡ mid ++ t ∷ []
      → AreHeld (drop (done + n + 1) steps) whole (inputs ++ new)
  AreHeld-stage stage n t mid new count is made more now =
      let others : List Contents = more.0 in
      let given : (all : List Contents) → AreHeldFor (drop done steps) (inputs ++ items) all
      → IsFusedTensor (length others) (drop done steps) all t =
      λ all for.
      subst (λ k. IsFusedTensor k (drop done steps) all t) (sym count ∙ sym more.1.1)
      (subst (λ l. IsFusedTensor (fused_in_stage stage) l all t) (later-steps steps done)
      (IsFusedTensor-stage steps_left (inputs ++ lent) all
      (subst (λ l. AreHeldFor l (inputs ++ lent) all) (sym (later-steps steps done))
      (subst (λ i. AreHeldFor (drop done steps) (inputs ++ i) all) (sym same) for))
      stage t is made)) in
      let behind : inputs ++ items ++ (others ++ t ∷ []) ≡ inputs ++ new =
      append_assoc inputs items (others ++ t ∷ [])
      ∙ ap (λ l. inputs ++ l) (sym (append_assoc items others (t ∷ [])) ∙ ap (λ m. m ++ t ∷ []) (sym more.1.0) ∙ sym now) in
      let past : done + suc (length others) ≡ done + n + 1 = omega (arith, more.1.1) in
      subst (λ k. AreHeld (drop k steps) whole (inputs ++ new)) past
      (subst (λ l. AreHeld l whole (inputs ++ new)) (drop-drop (suc (length others)) done steps)
      (subst (λ l. AreHeld (drop (suc (length others)) (drop done steps)) whole l) behind
      (AreHeld-fused (drop done steps) whole (inputs ++ items) others t are given)))

use Rattle.std.proofs.Common.{◌≡◌, Ok, inl, inr, refl, ap, sym, subst, ◌∙◌, arith, to_z, of_z, w64}
use Rattle.std.proofs.lemmas.Grind.{common_steps}
use Rattle.std.proofs.lemmas.Result.{IfErr-at_err}
use Rattle.expr_reader.specs.Arrays.{arrays_under}
use Rattle.expr_reader.specs.Value.{tensor_of}
use Rattle.prepared_expressions.specs.Ready.{tensor_under}
use Rattle.prepared_expressions.specs.declared.refusal.Refusal.TheVariants as refusal
use Rattle.tensor_c.specs.Part.{IsPartCall}
use Rattle.tensor_c.specs.Plan.{refusal_result, answer_of_plan, tensor_over}
use Rattle.tensor_c.proofs.Plans.{dealt-err}
use Rattle.tensor_c.proofs.tensor_run.Goals as goal

pub returns-in-Ok-clause-call : goal.returns-in-Ok-clause-call
returns-in-Ok-clause-call c = λ p plan is.
    let arrays = arrays_under c.args.arrays.now in
    let ready = c.in-Ok.ready in
    let found = c.in-Ok.ensures.found in
    let q = found.source in
    let answer : Ok (tensor_under ready) ≡ answer_of_plan p arrays =
    ap (λ t. Ok (tensor_of t ready.tensors.tensors)) found.term ∙ ap (λ ts. Ok (tensor_of q.term ts)) found.tensors
    ∙ sym (ap (tensor_over q) found.given) ∙ ap (λ x. answer_of_plan x arrays) (sym (found.only p plan.prepared is)) in
    let fits : to_z w64 (of_z w64 c.put_ready.result) ≡ c.put_ready.result = grind (arith, common_steps) in
    rw fits
    (subst (λ a. IsPartCall a c.args.first c.args.out.now (record { result = c.put_ready.result; out = c.put_ready.new.out }))
    answer c.put_ready.ensures.call)

pub returns-in-Ok-clause-no_plan : goal.returns-in-Ok-clause-no_plan
returns-in-Ok-clause-no_plan c = λ none. absurd (none c.in-Ok.ensures.found.source c.in-Ok.ensures.found.written)

pub returns-in-Err-clause-call : goal.returns-in-Err-clause-call
returns-in-Err-clause-call c = λ p plan is.
    let arrays = arrays_under c.args.arrays.now in
    elim (c.in-Err.ensures.refused p plan.prepared is) [
      | inl memory ↦ inr (rw (c.result_of_refusal.ensures, memory) refl, refl)
      | inr more ↦ elim more [
        | inl other ↦ inl (rw (other, c.result_of_refusal.ensures, dealt-err p.dims arrays c.in-Err.refusal other) refl)
        | inr none ↦ absurd (none.1.none (plan.have_dims arrays none.1.inputs none.1.given))
      ]
    ]

pub returns-in-Err-clause-no_start : goal.returns-in-Err-clause-no_start
returns-in-Err-clause-no_start c = λ none.
    let no_record : c.result_of_refusal.result ≡ refusal_result refusal.NoRecord =
    IfErr-at_err (λ f. c.result_of_refusal.result ≡ refusal_result f) (c.in-Err.ensures.no_start none)
    c.result_of_refusal.ensures in
    rw no_record refl

pub returns-in-Ok-clause-no_start : goal.returns-in-Ok-clause-no_start
returns-in-Ok-clause-no_start c = λ none. absurd (IfErr-at_err (λ f. ⊥) (c.in-Ok.ensures.no_start none) tt)

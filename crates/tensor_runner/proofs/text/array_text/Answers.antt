use Rattle.std.proofs.Common.{◌≡◌, false, map, ap, ◌∙◌}
use Rattle.std.proofs.lemmas.List.{take_all}
use Rattle.std.proofs.lemmas.Result.{IfOk-weaker}
use Rattle.serde_json.specs.Data.{array}
use Rattle.serde_json.specs.View.{view, items_of}
use Rattle.serde_json.specs.Written.{has_float, compact_text}
use Rattle.serde_json.specs.declared.value.Value.TheVariants.{Array}
use Rattle.serde_json.proofs.Views.{view-Array}
use Rattle.tensor_runner.specs.Line.{bracketed, integer, integers}
use Rattle.tensor_runner.proofs.Texts.{items_have_float-integers, compact_text-integers}
use Rattle.tensor_runner.proofs.text.array_text.Goals as goal

pub returns : goal.returns
returns g c = λ f views.
    let values = c.loop-number.values in
    let numbers = map f c.args.numbers.now in
    let same : map view values.items ≡ map integer numbers =
    c.loop-number.invariant.2 f views
    ∙ ap (λ l. map integer (map f l))
    (take_all c.loop-number.number-index c.args.numbers.now c.loop-number-test.false) in
    let value : view (Array values) ≡ array (integers numbers) =
    view-Array values ∙ ap (λ ds. array (items_of ds)) same in
    let plain : has_float (view (Array values)) ≡ false = ap has_float value ∙ items_have_float-integers numbers in
    IfOk-weaker c.to_vec.result _ (λ text. text.items ≡ bracketed numbers)
    (λ text written. written plain ∙ ap compact_text value ∙ compact_text-integers numbers) c.to_vec.ensures.text

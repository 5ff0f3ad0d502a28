-- The option that was read is applied, and the words behind it are left.
use Rattle.std.proofs.Common.{◌≡◌, ◌∷◌, ◌+◌, ◌-◌, map, length, drop, take, ap, sym, ◌∙◌, option_copied, arith, length-drop, Ok, List, String, string_bytes, ℕ}
use Rattle.std.specs.Result.{result_map_both}
use Rattle.std.proofs.lemmas.List.{drop-drop, take_all}
use Rattle.tensor_runner.specs.Options.{Written, command_after, options_in, setting_in}
use Rattle.std.specs.declared.alloc.Global.{Global}
use Rattle.tensor_runner.proofs.OptionWords.{command_after-Ok}
use Rattle.tensor_runner.proofs.options.command_of.Goals as goal

pub loop-at-preserved : goal.loop-at-preserved
loop-at-preserved c =
    let texts : List (String Global) → List (List ℕ) = λ words. map string_bytes words in
    let option : Written = record { name = c.first_option-option.result.name.now; value = option_copied c.first_option-option.result.value } in
    let left : List (String Global) = drop (c.loop-at.at + c.first_option-option.result.word_count) c.args.words.now in
    let rest : take (length c.args.words.now - c.loop-at.at) (drop c.loop-at.at c.args.words.now) ≡ drop c.loop-at.at c.args.words.now =
    take_all _ _ (omega (arith, length-drop c.loop-at.at c.args.words.now)) in
    let begins : options_in (texts (drop c.loop-at.at c.args.words.now)) ≡ option ∷ options_in (texts left) =
    rw (rest, drop-drop) at c.first_option-option.ensures.first in
    let is : setting_in option ≡ Ok c.in-Ok.setting =
    ap (result_map_both (λ setting. setting) (λ fault. record { name = option.name; fault = fault })) (sym c.in-Ok.ensures) in
    record {
      within = omega (arith, c.first_option-option.ensures.within, length-drop c.loop-at.at c.args.words.now);
      follows = c.loop-at.invariant.follows
          ∙ command_after-Ok c.loop-at.command (texts (drop c.loop-at.at c.args.words.now)) (texts left) option c.in-Ok.setting begins is
          ∙ ap (λ command. command_after command (texts left)) (sym c.with_setting-command.ensures);
    }

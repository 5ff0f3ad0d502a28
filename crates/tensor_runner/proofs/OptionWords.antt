-- What a value is as a number, and options one by one.
use Rattle.std.proofs.Common.{◌≡◌, ℕ, ◌<◌, ◌^◌, Bool, true, false, List, [], ◌∷◌, Result, Ok, Err, Some, map, refl, ap, sym, subst}
use Rattle.std.specs.Prelude.{if◌then◌else◌, nat_lt, fold}
use Rattle.std.specs.Bool.{Decides}
use Rattle.std.specs.Char.{digit_value}
use Rattle.std.specs.List.{list_all}
use Rattle.std.specs.Result.{result_map_both}
use Rattle.std.specs.Str.Parse.{AllDigits, IsNumeral, digits_value, without_leading_plus}
use Rattle.std.proofs.lemmas.Bool.Decides.{Decides-and, Decides-ltb}
use Rattle.tensor_runner.specs.Options.{Written, Refusal, is_number, number_in, setting_in, with_setting, command_after, options_in, all_ok}
use Rattle.tensor_runner.specs.declared.options.Command.{Command}
use Rattle.tensor_runner.specs.declared.options.OptionFault.{OptionFault}
use Rattle.tensor_runner.specs.declared.options.OptionFault.TheVariants.{NotANumber}
use Rattle.tensor_runner.specs.declared.options.Setting.{Setting}

-- what `parse` reads as a number of 64 bits
abbrev IsNumber : List ℕ → Type 0
IsNumber word = IsNumeral 10 (without_leading_plus word) × (digits_value 10 (without_leading_plus word) < 2 ^ 64)

AllDigits-decides : (digits : List ℕ) → Decides (list_all (λ c. nat_lt (digit_value c) 10) digits) (AllDigits 10 digits)
AllDigits-decides [] = (λ _. tt, λ _. refl)
AllDigits-decides (c ∷ cs) = Decides-and _ _ (Decides-ltb _ _) (AllDigits-decides cs)

IsNumber-decides : (word : List ℕ) → Decides (is_number word) (IsNumber word)
IsNumber-decides word = Decides-and _ _ (Decides-and _ _ (Decides-ltb _ _) (AllDigits-decides _)) (Decides-ltb _ _)

-- a value that `parse` reads
pub number_in-Ok : (word : List ℕ) (n : ℕ) → IsNumber word × (n ≡ digits_value 10 (without_leading_plus word)) → Ok n ≡ number_in (Some word)
number_in-Ok word n is =
    let value : ℕ = digits_value 10 (without_leading_plus word) in
    let P : Bool → Type 0 = λ b. ◌≡◌ {A = Result ℕ OptionFault} (Ok n) (if b then Ok value else Err NotANumber) in
    subst P (sym ((IsNumber-decides word).1 is.0)) (ap Ok is.1)

-- and one that it doesn't read
pub number_in-Err : (word : List ℕ) → ¬ (IsNumber word) → Err NotANumber ≡ number_in (Some word)
number_in-Err word isnt = from (is_number word) (IsNumber-decides word) where
  from : (b : Bool) → Decides b (IsNumber word)
      → ◌≡◌ {A = Result ℕ OptionFault} (Err NotANumber) (if b then Ok (digits_value 10 (without_leading_plus word)) else Err NotANumber)
  from true decides = absurd (isnt (decides.0 refl))
  from false decides = refl

-- the settings behind the first one are applied to the command that has it
fold-cons_ok : (command : Command) (setting : Setting) (rest : Result (List Setting) Refusal)
    → result_map_both (λ settings. fold with_setting command settings) (λ e. e) (result_map_both (λ settings. setting ∷ settings) (λ e. e) rest)
    ≡ result_map_both (λ settings. fold with_setting (with_setting command setting) settings) (λ e. e) rest
fold-cons_ok command setting (Ok settings) = refl
fold-cons_ok command setting (Err refusal) = refl

-- a command behind its first option
pub command_after-Ok : (command : Command) (words left : List (List ℕ)) (first : Written) (setting : Setting)
    → options_in words ≡ first ∷ options_in left → setting_in first ≡ Ok setting
    → command_after command words ≡ command_after (with_setting command setting) left
command_after-Ok command words left first setting begins is = rw (begins, is) (fold-cons_ok command setting (all_ok (map setting_in (options_in left))))

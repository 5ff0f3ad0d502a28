-- What the words after a program's name ask for. They are options, applied in their order.
use Rattle.std.specs.Prelude.{ℕ, ◌+◌, ◌^◌, Bool, if◌then◌else◌, ◌==◌, ◌||◌, ◌&&◌, nat_lt}
use Rattle.std.specs.Prelude.{true, false, bytes_eq, codes}
use Rattle.std.specs.Prelude.{List, [], ◌∷◌, length, drop, map, fold, position}
use Rattle.std.specs.Prelude.{Option, Some, None, option_map, Result, Ok, Err}
use Rattle.std.specs.Char.{digit_value}
use Rattle.std.specs.List.{before_first, list_all}
use Rattle.std.specs.Result.{result_map_both}
use Rattle.std.specs.Str.Parse.{digits_value, without_leading_plus}
use Rattle.tensor_runner.specs.Limited.{no_limits}
use Rattle.tensor_runner.specs.declared.options.Command.{Command}
use Rattle.tensor_runner.specs.declared.options.Command.TheVariants as command
use Rattle.tensor_runner.specs.declared.options.OptionFault.{OptionFault}
use Rattle.tensor_runner.specs.declared.options.OptionFault.TheVariants.{NoSuchOption}
use Rattle.tensor_runner.specs.declared.options.OptionFault.TheVariants.{NumberMissing}
use Rattle.tensor_runner.specs.declared.options.OptionFault.TheVariants.{NotANumber}
use Rattle.tensor_runner.specs.declared.options.OptionFault.TheVariants.{TakesNoValue}
use Rattle.tensor_runner.specs.declared.options.ServeOptions.{ServeOptions}
use Rattle.tensor_runner.specs.declared.options.Setting.{Setting}
use Rattle.tensor_runner.specs.declared.options.Setting.TheVariants as set

-- an option as it was written: its name, and its value if it has one
pub record Written : Type 0 where
  pub name : List ℕ
  pub value : Option (List ℕ)

-- an option that is refused: its name, and what is wrong with it
pub record Refusal : Type 0 where
  pub name : List ℕ
  pub fault : OptionFault

-- whether a byte is `=`
abbrev pub is_equals_sign : ℕ → Bool
is_equals_sign c = c == 61

-- the option of one word, which is `name` or `name=value`
abbrev pub option_in : List ℕ → Written
option_in word = record {
  name = before_first is_equals_sign word;
  value = option_map (λ place. drop (place + 1) word) (position is_equals_sign word);
}

-- whether the option of this name takes a number
abbrev pub takes_number : List ℕ → Bool
takes_number name = bytes_eq name (codes "--most-workers")
    || bytes_eq name (codes "--most-steps") || bytes_eq name (codes "--most-bytes")
    || bytes_eq name (codes "--most-seconds")

-- the options of some words; the word after the name of an option that takes a number is its value
abbrev pub options_in : List (List ℕ) → List Written
options_in [] = []
options_in (word ∷ []) = option_in word ∷ []
options_in (word ∷ next ∷ rest) = if takes_number word
    then record { name = word; value = Some next } ∷ options_in rest
    else option_in word ∷ options_in (next ∷ rest)

-- whether a word is a whole number below 2^64 in decimal
abbrev pub is_number : List ℕ → Bool
is_number word =
    let digits = without_leading_plus word in
    nat_lt 0 (length digits) && list_all (λ c. nat_lt (digit_value c) 10) digits
    && nat_lt (digits_value 10 digits) (2 ^ 64)

-- the number that is an option's value
abbrev pub number_in : Option (List ℕ) → Result ℕ OptionFault
number_in None = Err NumberMissing
number_in (Some word) = if is_number word
    then Ok (digits_value 10 (without_leading_plus word)) else Err NotANumber

-- the setting of an option that takes no value
abbrev pub without_value : Setting → Option (List ℕ) → Result Setting OptionFault
without_value setting None = Ok setting
without_value setting (Some value) = Err TakesNoValue

-- what the option of this name and this value asks for
abbrev pub setting_of : List ℕ → Option (List ℕ) → Result Setting OptionFault
setting_of name value =
    if bytes_eq name (codes "--most-workers")
    then result_map_both set.MostWorkers (λ fault. fault) (number_in value)
    else (if bytes_eq name (codes "--most-steps")
    then result_map_both set.MostSteps (λ fault. fault) (number_in value)
    else (if bytes_eq name (codes "--most-bytes")
    then result_map_both set.MostBytes (λ fault. fault) (number_in value)
    else (if bytes_eq name (codes "--most-seconds")
    then result_map_both set.MostSeconds (λ fault. fault) (number_in value)
    else (if bytes_eq name (codes "--log") then without_value set.Log value
    else (if bytes_eq name (codes "--help") || bytes_eq name (codes "-h")
    then without_value set.Help value
    else (if bytes_eq name (codes "--version") then without_value set.Version value
    else Err NoSuchOption))))))

-- what an option asks for, or its refusal
abbrev pub setting_in : Written → Result Setting Refusal
setting_in option = result_map_both (λ setting. setting)
    (λ fault. record { name = option.name; fault = fault }) (setting_of option.name option.value)

-- a value put in front of others, or the first error
abbrev pub cons_ok : {A E : Type 0} → Result A E → Result (List A) E → Result (List A) E
cons_ok (Ok x) rest = result_map_both (λ xs. x ∷ xs) (λ e. e) rest
cons_ok (Err e) rest = Err e

-- the values of all results, or the first error
abbrev pub all_ok : {A E : Type 0} → List (Result A E) → Result (List A) E
all_ok [] = Ok []
all_ok (r ∷ rest) = cons_ok r (all_ok rest)

-- the command after a setting was applied to the command to serve by these options
abbrev pub serving_with : ServeOptions → Setting → Command
serving_with options (set.MostWorkers n) = command.Serve
    (record options { limits = record options.limits { workers = Some n } })
serving_with options (set.MostSteps n) = command.Serve
    (record options { limits = record options.limits { steps = Some n } })
serving_with options (set.MostBytes n) = command.Serve
    (record options { limits = record options.limits { bytes = Some n } })
serving_with options (set.MostSeconds n) = command.Serve
    (record options { limits = record options.limits { seconds = Some n } })
serving_with options set.Log = command.Serve (record options { log = true })
serving_with options set.Help = command.Help
serving_with options set.Version = command.Version

-- the command after a setting was applied to it; help and version stay as they are
abbrev pub with_setting : Command → Setting → Command
with_setting (command.Serve options) setting = serving_with options setting
with_setting command.Help setting = command.Help
with_setting command.Version setting = command.Version

-- the command after the options of some words were applied to it in order, or the first option that
-- is refused
abbrev pub command_after : Command → List (List ℕ) → Result Command Refusal
command_after command words =
    result_map_both (λ settings. fold with_setting command settings) (λ refusal. refusal)
    (all_ok (map setting_in (options_in words)))

-- the command that some words ask for; without words it is to serve without limits and without a
-- log
abbrev pub command_in : List (List ℕ) → Result Command Refusal
command_in words =
    command_after (command.Serve (record { limits = no_limits; log = false })) words

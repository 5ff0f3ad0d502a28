-- How many values may stand behind a header, whatever it says.
use Rattle.std.proofs.Common.{◌≤◌, ◌==◌, ℕ, Bool, true, false, List, Option, Some, None, arith}
use Rattle.std.specs.Prelude.{if◌then◌else◌, option_and_then}
use Rattle.std.specs.Option.{option_map_or}
use Rattle.expr_reader.specs.Fields.{reading}
use Rattle.expr_reader.specs.Frame.{values_limit}
use Rattle.expr_reader.specs.Limits.{most_values, widest_values}
use Rattle.expr_reader.specs.Profile.{Profile, frame_profile_of, version_1, version_2, version_3}
use Rattle.expr_reader.specs.Request.{version_in}

-- both ends of what a version allows
abbrev IsBetween : ℕ → Type 0
IsBetween limit = (most_values ≤ limit) × (limit ≤ widest_values)

abbrev limit_of : Option Profile → ℕ
limit_of o = option_map_or (λ (p : Profile). p.values) o most_values

of_version : (third first second : Bool)
    → IsBetween (limit_of (if third then Some version_3
    else (if first then Some version_1 else (if second then Some version_2 else None))))
of_version true first second = (omega arith, omega arith)
of_version false true second = (omega arith, omega arith)
of_version false false true = (omega arith, omega arith)
of_version false false false = (omega arith, omega arith)

of_number : (o : Option ℕ) → IsBetween (limit_of (option_and_then frame_profile_of o))
of_number None = (omega arith, omega arith)
of_number (Some n) = of_version (n == 3) (n == 1) (n == 2)

pub limit-between : (header : List ℕ) → IsBetween (values_limit header)
limit-between header = of_number (option_and_then version_in (reading header))

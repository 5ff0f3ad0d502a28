-- A frame whose version is one of a text's.
use Rattle.std.proofs.Common.{◌≡◌, ◌≢◌, ◌==◌, ap, refl, ℕ, Bool, true, false, if◌then◌else◌}
use Rattle.std.proofs.Common.{Option, Some, None}
use Rattle.std.proofs.lemmas.Bool.Decides.{Decides-eqb}
use Rattle.std.specs.Prelude.{option_and_then}
use Rattle.std.specs.Bool.{Decides}
use Rattle.serde_json.specs.Data.{Data}
use Rattle.expr_reader.specs.Fields.{Fields, fields_of, whole_of}
use Rattle.expr_reader.specs.Profile.{version_3, profile_of, frame_profile_of}
use Rattle.expr_reader.specs.Request.{Naming, profile_in, fields_asked, data_asked, version_in}

-- another number than 3 has the profile of a text
frame_profile_of-other : (n : ℕ) → n ≢ 3 → frame_profile_of n ≡ profile_of n
frame_profile_of-other n other = by (n == 3) (Decides-eqb n 3)
  where
    by : (t : Bool) → Decides t (n ≡ 3) → (if t then Some version_3 else profile_of n) ≡ profile_of n
    by true tells = absurd (other (tells.0 refl))
    by false tells = refl

profile_in-other : (v : Option ℕ) → v ≢ Some 3
    → option_and_then frame_profile_of v ≡ option_and_then profile_of v
profile_in-other None other = refl
profile_in-other (Some n) other = frame_profile_of-other n (λ is. other (ap Some is))

-- what fields ask for depends on the versions by what is allowed
fields_asked-profile : (named : Naming) (f : Fields) → profile_in frame_profile_of f ≡ profile_in profile_of f
    → fields_asked frame_profile_of named f ≡ fields_asked profile_of named f
fields_asked-profile named f same = rw same refl

pub data_asked-other : (named : Naming) (d : Data) → version_in d ≢ Some 3
    → data_asked frame_profile_of named d ≡ data_asked profile_of named d
data_asked-other named d other = by (fields_of d) refl
  where
    by : (f : Option Fields) → fields_of d ≡ f → data_asked frame_profile_of named d ≡ data_asked profile_of named d
    by None there = rw there refl
    by (Some f) there =
        let version : version_in d ≡ whole_of f.version = rw there refl in
        rw there (fields_asked-profile named f
        (profile_in-other (whole_of f.version) (rw version at other)))

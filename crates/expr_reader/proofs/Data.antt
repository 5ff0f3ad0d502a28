-- Data by its kind.
use Rattle.std.proofs.Common.{◌≡◌, ℕ, List, eqb, Some, None, refl, IsUtf8, rules}
use Rattle.serde_json.specs.declared.value.Value.{the_lemmas}
use Rattle.std.specs.Str.{is_utf8}
use Rattle.std.proofs.lemmas.Bool.{false_from_ne_true}
use Rattle.std.proofs.lemmas.Str.{IsUtf8-from_is_utf8, is_utf8-from_IsUtf8}
use Rattle.serde_json.specs.Data.{Data, null, boolean, number, string, array, object, Members}
use Rattle.serde_json.specs.Events.{members_len}
use Rattle.serde_json.specs.Find.{as_object}
use Rattle.serde_json.specs.Read.{read}
use Rattle.expr_reader.specs.Fields.{has_members, reading}

-- UTF-8 reads as the crate reads it, and nothing else has a reading
pub reading-utf8 : (text : List ℕ) → IsUtf8 text → reading text ≡ read text
reading-utf8 text h = rw (is_utf8-from_IsUtf8 text h) refl

pub reading-not_utf8 : (text : List ℕ) → (IsUtf8 text → ⊥) → reading text ≡ None
reading-not_utf8 text h = rw (false_from_ne_true (is_utf8 text) (λ t. h (IsUtf8-from_is_utf8 text t))) refl

-- the members of an object are those that it has
pub has_members-as_object : (n : ℕ) (d : Data) (ms : Members) → as_object d ≡ Some ms → has_members n d ≡ eqb (members_len ms) n
has_members-as_object n null ms h = (cc)
has_members-as_object n (boolean b) ms h = (cc)
has_members-as_object n (number x) ms h = (cc)
has_members-as_object n (string s) ms h = (cc)
has_members-as_object n (array ds) ms h = (cc)
has_members-as_object n (object os) ms h = (cc)

-- What is printed about a fault of a whole text or header, and what a header that was parsed or refused says of
-- its frame.
use Rattle.std.proofs.Common.{◌≡◌, ◌≢◌, ◌≤◌, ℕ, ℤ, pos, List, Some, Ok, Err, Result, replicate, suc, codes, refl, arith, inl, inr}
use Rattle.std.proofs.lemmas.Bool.{le-leb, le-ltb}
use Rattle.std.proofs.lemmas.List.{length-replicate}
use Rattle.serde_json.specs.Data.{Data}
use Rattle.expr_reader.specs.Frame.{IsRefused, frame_at, values_limit}
use Rattle.expr_reader.specs.Place.{Located, here}
use Rattle.expr_reader.specs.Request.{Asked, data_of, request_at}
use Rattle.expr_reader.specs.Valued.{asked_from}
use Rattle.expr_reader.specs.declared.fault.Fault.{Fault}
use Rattle.expr_reader.specs.declared.fault.Fault.TheVariants.{NoMemory}
use Rattle.expr_reader.specs.declared.values.Values.TheVariants.{Unread}
use Rattle.fault_reasons.specs.Explained.{fault_lines, IsOneLine, Tells}

pub tells_whole : (found : Result Asked Located) (fault : Fault) (reason lines : List ℕ)
    → found ≡ Err (here fault) → IsOneLine reason
    → lines ≡ fault_lines fault (codes "the whole text") reason
    → Tells found (Some fault) lines
tells_whole found fault reason lines is one_line all =
    rw is (refl, record { reason = reason; one_line = one_line; all = all })

pub request_at_unread : (text : List ℕ) (fault : Fault) → data_of text ≡ Err (here fault)
    → request_at text ≡ Err (here fault)
request_at_unread text fault unread = rw unread refl

pub frame_at_read : (header : List ℕ) (count : ℕ) (d : Data)
    → count ≤ values_limit header → data_of header ≡ Ok d
    → frame_at header (replicate count (pos 0)) ≡ asked_from (Unread count) d
frame_at_read header count d few read =
    rw (length-replicate {A = ℤ} count (pos 0), le-ltb (values_limit header) count few, read) refl

pub frame_at_refused : (header : List ℕ) (count : ℕ) (fault : Fault) → fault ≢ NoMemory
    → IsRefused fault (values_limit header) count (data_of header)
    → frame_at header (replicate count (pos 0)) ≡ Err (here fault)
frame_at_refused header count fault other refused =
    let long = length-replicate {A = ℤ} count (pos 0) in
    elim refused [
      | inl memory ↦ absurd (other memory)
      | inr (inl many) ↦
          rw (long, le-leb (suc (values_limit header)) count (omega (arith, many.1)), many.0) refl
      | inr (inr few) ↦ rw (long, le-ltb (values_limit header) count few.0, few.1) refl
    ]

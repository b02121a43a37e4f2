-- The filing that digits spell.
use Rattle.std.proofs.Common.{◌≡◌, ◌∙◌, ℕ, ◌/◌, ◌<◌, ◌≤◌, true, List, ◌++◌, length, take, ap, arith, length-append}
use Rattle.std.proofs.lemmas.List.{take_at}
use Rattle.aid_filings.specs.declared.filing.Filing.{Filing}
use Rattle.aid_stamps.specs.StampLaws.{stamp_short}
use Rattle.aid_stamps.specs.Stamps.{IsStamp, stamp_bytes}
use Rattle.aid_stamps.specs.declared.stamp.Stamp.{Stamp}
use Rattle.format_bytes.specs.Spelling.{spelling}
use Rattle.format_bytes.proofs.FilingLaws.{length-spelling}
use Rattle.format_bytes.specs.Numbers.{IsFiling}
use Rattle.hex.specs.Hex.{encode_lower, lower_digits}
use Rattle.hex.proofs.HexLemmas.{length-encode_with}
use Rattle.office_export.specs.Forms.{are_digits}
use Rattle.office_export.proofs.Digits.{are_spelled}

-- a filing fits the room, under a stamp too
pub filing_fits : (f : Filing) → IsFiling f → length (spelling f) ≤ 8192
filing_fits f is_f = omega (arith, length-spelling f is_f)

pub payload_fits : (s : Stamp) (f : Filing) → IsStamp s → IsFiling f → length (stamp_bytes s ++ spelling f) ≤ 8192
payload_fits s f is_s is_f = omega (arith, length-append (stamp_bytes s) (spelling f), (stamp_short s is_s).few, length-spelling f is_f)

-- what was written to the front of a room is what digits spell
pub front_is : (digits out rest : List ℕ) (h : are_digits digits ≡ true) → out ≡ (are_spelled digits h).bytes → take (length digits / 2) (out ++ rest) ≡ (are_spelled digits h).bytes
front_is digits out rest h e =
    let s = are_spelled digits h in
    let size : length out ≡ length digits / 2 = omega (arith, ap (λ (bs : List ℕ). length bs) e, length-encode_with lower_digits s.bytes, ap (λ (cs : List ℕ). length cs) s.spelled) in
    take_at out rest (length digits / 2) size ∙ e

pub front_fits : (digits out rest : List ℕ) (h : are_digits digits ≡ true) → out ≡ (are_spelled digits h).bytes → length digits / 2 ≤ length (out ++ rest)
front_fits digits out rest h e =
    let s = are_spelled digits h in
    omega (arith, length-append out rest, ap (λ (bs : List ℕ). length bs) e, length-encode_with lower_digits s.bytes, ap (λ (cs : List ℕ). length cs) s.spelled)

-- longer digits are those of no bytes that fit
pub longer : (digits bytes : List ℕ) → 8192 < length digits / 2 → length bytes ≤ 8192 → encode_lower bytes ≡ digits → ⊥
longer digits bytes many few e = omega (arith, many, few, length-encode_with lower_digits bytes, ap (λ (cs : List ℕ). length cs) e)

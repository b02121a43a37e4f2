-- A note by its words.
use Rattle.std.proofs.Common.{◌≡◌, ◌∙◌, ℕ, ◌*◌, pos, true, List, length, Some, Result, Ok, Err, refl, sym, ap}
use Rattle.std.specs.Prelude.{◌==◌, MatchResult}
use Rattle.std.specs.List.{list_all}
use Rattle.std.proofs.lemmas.Bool.{and_parts, eqb-true}
use Rattle.aid_types.specs.Whole.{whole_between, whole_of}
use Rattle.hex.specs.Hex.{decode_of, decode_sized}
use Rattle.hex.specs.declared.error.FromHexError.{FromHexError}
use Rattle.hex.proofs.HexLemmas.{decode_sized-twice}
use Rattle.office_export.specs.Forms.{is_digit, is_seal}
use Rattle.audit.specs.Words.{count_by, note_of}

-- what was decoded into the room of a seal is what the digits decode to
written : (d : Result (List ℕ) FromHexError) (r : Result Unit FromHexError) (out : List ℕ) → MatchResult d (λ bytes. (r ≡ Ok tt) × (out ≡ bytes)) (λ e. r ≡ Err e) → r ≡ Ok tt → d ≡ Ok out
written (Ok bytes) r out is good = ap (λ (bs : List ℕ). Ok bs) (sym is.1)
written (Err e) r out is good = absurd (let bad : ⊥ = cc in bad)

pub noted : (count digits : List ℕ) (n : ℕ) (r : Result Unit FromHexError) (out : List ℕ) → is_seal digits ≡ true → count_by (whole_between (pos 0) (pos 4294967295) (whole_of count)) ≡ Some n
    → MatchResult (decode_sized digits 32) (λ bytes. (r ≡ Ok tt) × (out ≡ bytes)) (λ e. r ≡ Err e) → r ≡ Ok tt → Some (record { count = n; seal = record { bytes = out } }) ≡ note_of count digits
noted count digits n r out seal whole decoded good =
    let long : length digits ≡ 2 * 32 = eqb-true (length digits) 64 (and_parts (length digits == 64) (list_all is_digit digits) seal).0 in
    let bytes : decode_of digits ≡ Ok out = sym (decode_sized-twice digits 32 long) ∙ written (decode_sized digits 32) r out decoded good in
    rw (seal, whole, bytes) refl

-- What a line's reading says of its form, and of a filing's line its digits.
use Rattle.std.specs.Prelude.{◌≡◌, ℕ, ℤ, unsigned_abs, Bool, true, false, List, [], ◌∷◌, Option, Some, None, Result, Ok, Err, codes}
use Rattle.aid_types.specs.declared.text.Malformed.{Malformed}
use Rattle.aid_types.specs.declared.text.Malformed.TheVariants.{Spelling, Range}
use Rattle.office_export.specs.Forms as forms
use Rattle.office_export.specs.Forms.{are_digits}
use Rattle.office_export.specs.Lines.{line_of}
use Rattle.office_export.specs.declared.form.LineForm.{LineForm}
use Rattle.office_export.specs.declared.form.LineForm.TheVariants.{Filing, Standing, End}

abbrev pub said : LineForm → forms.LineForm
said (Filing digits) = forms.filing_form
said (Standing student year) = forms.standing_form student year
said End = forms.end_form

-- the line is the word and these digits
abbrev pub HasDigits : List ℕ → LineForm → Type 0
HasDigits line (Filing digits) = (line ≡ line_of (codes "filing" ∷ digits.now ∷ [])) × (are_digits digits.now ≡ true)
HasDigits line _ = Unit {0}

-- a number that was read, without its sign
abbrev pub number_of : Result ℤ Malformed → Option ℕ
number_of (Ok z) = Some (unsigned_abs z)
number_of (Err e) = None

-- a text that was read is well spelled, of whatever size
abbrev pub is_spelled : {A : Type 0} → Result A Malformed → Bool
is_spelled (Ok x) = true
is_spelled (Err Range) = true
is_spelled (Err Spelling) = false

-- The rows of corrections: `replace,REASON,REFERENCE,ROW`, `void,REASON,REFERENCE,SCHOOL,NUMBER` and
-- `insert,REASON,REFERENCE,SCHOOL,NUMBER,ROW`, where ROW is a row of a filing, or `digits` and the digits of its bytes as an export
-- has them. Own format.
use Rattle.std.specs.Prelude.{◌≡◌, ◌≢◌, ℕ, ◌+◌, ◌==◌, Bool, true, false, if◌then◌else◌, ℤ, pos, List, [], ◌∷◌, length, drop, min, nat_le, bytes_eq, codes, Option, Some, None, option_and_then, Result, Ok, Err}
use Rattle.std.specs.Result.{result_map_both}
use Rattle.aid_types.specs.declared.number.Key.{Key}
use Rattle.aid_filings.specs.declared.filing.Filing.{Filing}
use Rattle.csv.specs.Records.{field_at}
use Rattle.format_bytes.specs.Numbers.{IsFiling, key_numbers}
use Rattle.format_bytes.specs.Spelling.{spelling}
use Rattle.format_filings.specs.Rows.{row_meaning, said}
use Rattle.format_rows.specs.Numbers.{refused, whole_spelled}
use Rattle.format_rows.specs.declared.error.Cause.TheVariants.{UnknownKind, WrongCount, Spelling}
use Rattle.format_rows.specs.declared.error.RowError.{RowError}
use Rattle.format_table.specs.Walk.{and_then}
use Rattle.hex.specs.Hex.{encode_lower}
use Rattle.office_amends.specs.declared.correction.Change.{Change}
use Rattle.office_amends.specs.declared.correction.Change.TheVariants as change
use Rattle.office_amends.specs.declared.correction.CorrectionRow.{CorrectionRow}
use Rattle.office_amends.specs.declared.correction.Grounds.{Grounds}
use Rattle.office_amends.specs.declared.correction.Verb.{Verb}
use Rattle.office_amends.specs.declared.correction.Verb.TheVariants.{Replace, Void, Insert}

-- what a row does, by its first field
abbrev pub verb_named : List ℕ → Option Verb
verb_named word =
    if bytes_eq word (codes "replace") then Some Replace
    else if bytes_eq word (codes "void") then Some Void
    else if bytes_eq word (codes "insert") then Some Insert
    else None

abbrev pub verb_of : List (List ℕ) → Option Verb
verb_of texts = option_and_then verb_named (field_at texts 0)

-- there are so many fields as the row has, of the row of a filing at least one
abbrev pub has_fields : Verb → ℕ → Bool
has_fields Replace n = nat_le 4 n
has_fields Void n = n == 5
has_fields Insert n = nat_le 6 n

-- two numbers of a row, one behind the other, each within bounds from a least one on
abbrev pub two_numbers : ℕ → List (List ℕ) → ℕ → ℕ × ℕ → ℕ × ℕ → Result (List ℤ) RowError
two_numbers row texts k one two =
    and_then (whole_spelled row (k + 1) (pos one.0) (pos one.1) (field_at texts k))
    (λ x. and_then (whole_spelled row (k + 2) (pos two.0) (pos two.1) (field_at texts (k + 1))) (λ y. Ok (x ∷ y ∷ [])))

-- the reason and the reference
abbrev pub grounds_in : ℕ → List (List ℕ) → Result (List ℤ) RowError
grounds_in row texts = two_numbers row texts 1 (1, 7) (0, 999999999999)

-- the school and the number of a key
abbrev pub key_in : ℕ → List (List ℕ) → Result (List ℤ) RowError
key_in row texts = two_numbers row texts 3 (0, 999999) (1, 999999999999)

-- these are the grounds, or the key, that the row has; or this is why it has none
abbrev pub HasGrounds : ℕ → List (List ℕ) → Result Grounds RowError → Type 0
HasGrounds row texts read = result_map_both (λ (g : Grounds). pos g.reason ∷ pos g.reference ∷ []) (λ e. e) read ≡ grounds_in row texts

abbrev pub HasKey : ℕ → List (List ℕ) → Result Key RowError → Type 0
HasKey row texts read = result_map_both key_numbers (λ e. e) read ≡ key_in row texts

-- the filing whose bytes have these digits, or that there is none
abbrev pub HasDigits : ℕ → List (List ℕ) → Result Filing RowError → Type 0
HasDigits row (digits ∷ []) (Ok f) = IsFiling f × (encode_lower (spelling f) ≡ digits)
HasDigits row (digits ∷ []) (Err e) = ((f : Filing) → IsFiling f → encode_lower (spelling f) ≢ digits) × (e ≡ refused row 2 Spelling)
HasDigits row _ read = read ≡ Err (refused row 0 WrongCount)

-- the filing of fields that are a row of it
abbrev pub begins_with_digits : List (List ℕ) → Bool
begins_with_digits [] = false
begins_with_digits (first ∷ behind) = bytes_eq first (codes "digits")

abbrev pub HasFilingBy : Bool → ℕ → List (List ℕ) → Result Filing RowError → Type 0
HasFilingBy false row texts read = said read ≡ row_meaning row texts
HasFilingBy true row texts read = HasDigits row (drop 1 texts) read

abbrev pub HasFiling : ℕ → List (List ℕ) → Result Filing RowError → Type 0
HasFiling row texts read = HasFilingBy (begins_with_digits texts) row texts read

-- an error at a field that stands behind so many others; 0 says that there is a wrong number of them
abbrev pub shifted : ℕ → RowError → RowError
shifted n e = if e.field == 0 then e else record { row = e.row; field = min (e.field + n) 65535; cause = e.cause }

-- what is done to the list by a row that does this, or why it says nothing
abbrev pub SaysInsertion : ℕ → List (List ℕ) → Result Key RowError → Result Change RowError → Type 0
SaysInsertion row texts (Err e) says = says ≡ Err e
SaysInsertion row texts (Ok key) says = (read : Result Filing RowError) × HasFiling row (drop 5 texts) read × (says ≡ result_map_both (λ f. change.Insert f key) (shifted 5) read)

abbrev pub SaysChange : ℕ → List (List ℕ) → Verb → Result Change RowError → Type 0
SaysChange row texts Replace says = (read : Result Filing RowError) × HasFiling row (drop 3 texts) read × (says ≡ result_map_both change.Replace (shifted 3) read)
SaysChange row texts Void says = (read : Result Key RowError) × HasKey row texts read × (says ≡ result_map_both change.Void (λ e. e) read)
SaysChange row texts Insert says = (key : Result Key RowError) × HasKey row texts key × SaysInsertion row texts key says

-- What the row with a number says, or why it says nothing: first its verb counts, then the number of its fields, and then the first
-- bad field.
pub data SaysRow (row : ℕ) (texts : List (List ℕ)) : Result CorrectionRow RowError → Type 0 where
  no_verb : verb_of texts ≡ None → SaysRow row texts (Err (refused row 1 UnknownKind))
  wrong_count : (verb : Verb) → verb_of texts ≡ Some verb → has_fields verb (length texts) ≡ false → SaysRow row texts (Err (refused row 0 WrongCount))
  wrong_grounds : (verb : Verb) (error : RowError) → verb_of texts ≡ Some verb → has_fields verb (length texts) ≡ true → HasGrounds row texts (Err error) → SaysRow row texts (Err error)
  wrong_change : (verb : Verb) (grounds : Grounds) (error : RowError) → verb_of texts ≡ Some verb → has_fields verb (length texts) ≡ true → HasGrounds row texts (Ok grounds)
      → SaysChange row texts verb (Err error) → SaysRow row texts (Err error)
  says : (verb : Verb) (grounds : Grounds) (what : Change) → verb_of texts ≡ Some verb → has_fields verb (length texts) ≡ true → HasGrounds row texts (Ok grounds)
      → SaysChange row texts verb (Ok what) → SaysRow row texts (Ok (record { change = what; grounds = grounds }))

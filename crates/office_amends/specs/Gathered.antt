-- What the rows of a text come to, one behind the other, of a list that is read newest first: each is a correction that fits, or has the
-- line that says why it is none. Own format.
use Rattle.std.specs.Prelude.{◌≡◌, ℕ, ◌+◌, ◌||◌, Bool, false, not, if◌then◌else◌, List, [], ◌∷◌, ◌++◌, length, codes, decimal, is_some, Option, Some, None, Ok, Err}
use Rattle.std.specs.List.{flat_map}
use Rattle.aid_types.specs.declared.number.Key.{Key}
use Rattle.aid_filings.specs.declared.filing.AmendFacts.{AmendFacts}
use Rattle.aid_filings.specs.declared.filing.Filing.{Filing}
use Rattle.aid_filings.specs.declared.filing.What.TheVariants.{Amend}
use Rattle.format_bytes.specs.Numbers.{kind_of}
use Rattle.format_kinds.specs.contracts.kind.KindPartialEq.TheImpl.{eq-value as kind_eq}
use Rattle.format_kinds.specs.declared.kind.Kind.TheVariants as kinds
use Rattle.format_rows.specs.Lines.{error_line}
use Rattle.format_rows.specs.declared.error.RowError.{RowError}
use Rattle.office_history.specs.Past.{key_at, same_filing}
use Rattle.office_history.specs.Rows.{filing_in}
use Rattle.office_amends.specs.Amended.{named_at}
use Rattle.office_amends.specs.Rows.{SaysRow}
use Rattle.office_amends.specs.declared.correction.Change.{Change}
use Rattle.office_amends.specs.declared.correction.Change.TheVariants.{Replace, Void, Insert}
use Rattle.office_amends.specs.declared.correction.Correction.{Correction}
use Rattle.office_amends.specs.declared.correction.CorrectionRow.{CorrectionRow}
use Rattle.office_amends.specs.declared.correction.Grounds.{Grounds}
use Rattle.office_amends.specs.declared.gathered.Gathered.{Gathered}

-- the key of the filing of the list that a change names: the one that is replaced or taken out, or in front of which something is put
abbrev pub key_named : Change → Key
key_named (Replace f) = f.key
key_named (Void key) = key
key_named (Insert f key) = key

-- an earlier correction has taken its place
abbrev pub is_taken : List Correction → Change → Bool
is_taken fits (Replace f) = is_some (named_at fits f.key)
is_taken fits (Void key) = is_some (named_at fits key)
is_taken fits (Insert f key) = false

-- a record of a correction is never corrected
abbrev pub is_record : Filing → Bool
is_record f = kind_eq.it (kind_of f.what) kinds.Amend

-- Why a change doesn't fit the filing that has its key, if one has, by its number: 6 none has, 7 it is of another kind or is itself a
-- record, 8 it is this one already.
abbrev pub misfit_with : Option Filing → Change → Option ℕ
misfit_with None change = Some 6
misfit_with (Some old) (Replace f) =
    if is_record old || not (kind_eq.it (kind_of old.what) (kind_of f.what)) then Some 7 else if same_filing old f then Some 8 else None
misfit_with (Some old) (Void key) = if is_record old then Some 7 else None
misfit_with (Some old) (Insert f key) = None

-- the same of a list, behind corrections that fit; 5 one of them has taken its place
abbrev pub misfit : List Filing → List Correction → Change → Option ℕ
misfit past fits change = if is_taken fits change then Some 5 else misfit_with (filing_in past (key_at (key_named change) past)) change

-- ROW error 4 CAUSE
abbrev pub misfit_line : ℕ → ℕ → List ℕ
misfit_line row cause = decimal row ++ codes " error 4 " ++ decimal cause ++ codes "\n"

-- ---- the record of a correction
-- the key of what is corrected, and what was done
abbrev pub key_corrected : Change → Key
key_corrected (Replace f) = f.key
key_corrected (Void key) = key
key_corrected (Insert f key) = f.key

abbrev pub change_number : Change → ℕ
change_number (Replace f) = 1
change_number (Void key) = 2
change_number (Insert f key) = 3

-- how many of the corrections have records with numbers of their own
abbrev pub one_if_own : Change → ℕ
one_if_own (Void key) = 0
one_if_own _ = 1

abbrev pub own_records : List Correction → ℕ
own_records [] = 0
own_records (c ∷ cs) = one_if_own c.change + own_records cs

-- the record has the key of what is taken out, and otherwise the next number of the office's own desk
abbrev pub HasRecordKey : ℕ → Change → Key → Type 0
HasRecordKey next (Void key) own = own ≡ key
HasRecordKey next _ own = (own.school ≡ 0) × (own.number ≡ next)

pub record IsRecord (next : ℕ) (change : Change) (grounds : Grounds) (f : Filing) : Type 0 where
  pub facts : AmendFacts
  pub what : f.what ≡ Amend facts
  pub key : HasRecordKey next change f.key
  pub of : facts.of ≡ key_corrected change
  pub done : facts.change ≡ change_number change
  pub reason : facts.reason ≡ grounds.reason
  pub reference : facts.reference ≡ grounds.reference

-- ---- all rows
-- these corrections fit, and these are the lines of the rows that are none; the first record with a number of its own has this one
pub data Gathers (past : List Filing) (number : ℕ) : List (List (List ℕ)) → List Correction → List (List ℕ) → Type 0 where
  none : Gathers past number [] [] []
  says_nothing : (rows : List (List (List ℕ))) (fits : List Correction) (lines : List (List ℕ)) (texts : List (List ℕ)) (error : RowError) → Gathers past number rows fits lines
      → SaysRow (length rows + 1) texts (Err error) → Gathers past number (rows ++ texts ∷ []) fits (lines ++ error_line error ∷ [])
  doesn't_fit : (rows : List (List (List ℕ))) (fits : List Correction) (lines : List (List ℕ)) (texts : List (List ℕ)) (said : CorrectionRow) (cause : ℕ) → Gathers past number rows fits lines
      → SaysRow (length rows + 1) texts (Ok said) → misfit past fits said.change ≡ Some cause
      → Gathers past number (rows ++ texts ∷ []) fits (lines ++ misfit_line (length rows + 1) cause ∷ [])
  fits : (rows : List (List (List ℕ))) (fits : List Correction) (lines : List (List ℕ)) (texts : List (List ℕ)) (said : CorrectionRow) (mark : Filing) → Gathers past number rows fits lines
      → SaysRow (length rows + 1) texts (Ok said) → misfit past fits said.change ≡ None → IsRecord (number + own_records fits) said.change said.grounds mark
      → Gathers past number (rows ++ texts ∷ []) (fits ++ (record { change = said.change; «record» = mark }) ∷ []) lines

-- what the code keeps of it
pub record HasGathered (past : List Filing) (number : ℕ) (rows : List (List (List ℕ))) (g : Gathered) : Type 0 where
  pub lines : List (List ℕ)
  pub gathers : Gathers past number rows g.fits.items lines
  pub text : g.text.items ≡ flat_map (λ line. line) lines
  pub errors : g.errors ≡ length lines
  pub own : g.own ≡ own_records g.fits.items

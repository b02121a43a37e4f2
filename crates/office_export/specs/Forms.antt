-- The form of a line: what it tells, whether or not that is so.
use Rattle.std.specs.Prelude.{ℕ, ◌-◌, ◌%◌, ◌==◌, ◌&&◌, pos, unsigned_abs, ℤ, Bool, List, [], ◌∷◌, length, take, bytes_eq, codes, is_some, if◌then◌else◌, Option, Some, None, Result, Ok, slice_get}
use Rattle.std.specs.List.{list_all, list_any, slice_split}
use Rattle.aid_types.specs.Cents.{cents_of}
use Rattle.aid_types.specs.Whole.{whole_between, whole_of}
use Rattle.aid_types.specs.declared.text.Malformed.{Malformed}
use Rattle.hex.specs.Hex.{lower_digits}

-- a filing; where a student stands in a year; the counts and the seal
pub data LineForm : Type 0 where
  filing_form : LineForm
  standing_form : ℕ → ℕ → LineForm
  end_form : LineForm

-- two digits of lower case for each byte
abbrev pub is_digit : ℕ → Bool
is_digit c = list_any (λ d. c == d) lower_digits

abbrev pub are_digits : List ℕ → Bool
are_digits text = length text % 2 == 0 && list_all is_digit text

-- the 64 digits of a seal
abbrev pub is_seal : List ℕ → Bool
is_seal text = length text == 64 && list_all is_digit text

-- a number or an amount of any size
abbrev pub is_whole : List ℕ → Bool
is_whole text = is_some (whole_of text)

abbrev pub is_amount : List ℕ → Bool
is_amount text = is_some (cents_of text)

abbrev pub is_formula : List ℕ → Bool
is_formula text = list_any (bytes_eq text) (codes "A" ∷ codes "B" ∷ codes "C" ∷ [])

abbrev pub is_way : List ℕ → Bool
is_way text = list_any (bytes_eq text) (codes "maximum" ∷ codes "calculated" ∷ codes "minimum" ∷ codes "nothing" ∷ [])

-- a student and a year, each of which is one
abbrev pub form_of_student : Result ℤ Malformed → Result ℤ Malformed → Option LineForm
form_of_student (Ok student) (Ok year) = Some (standing_form (unsigned_abs student) (unsigned_abs year))
form_of_student _ _ = None

-- by the words behind the first
abbrev pub form_of_filing : List (List ℕ) → Option LineForm
form_of_filing (digits ∷ []) = if are_digits digits then Some filing_form else None
form_of_filing _ = None

abbrev pub form_of_standing : List (List ℕ) → Option LineForm
form_of_standing (student ∷ year ∷ transaction ∷ formula ∷ sai ∷ way ∷ scheduled ∷ paid ∷ used ∷ []) =
    if is_whole transaction && (is_formula formula && (is_whole sai && (is_way way && (is_whole scheduled && (is_amount paid && is_whole used)))))
    then form_of_student (whole_between (pos 1) (pos 999999999999) (whole_of student)) (whole_between (pos 2000) (pos 2099) (whole_of year)) else None
form_of_standing _ = None

abbrev pub form_of_end : List (List ℕ) → Option LineForm
form_of_end (filings ∷ standings ∷ seal ∷ []) = if is_whole filings && (is_whole standings && is_seal seal) then Some end_form else None
form_of_end _ = None

abbrev pub form_of_words : List (List ℕ) → Option LineForm
form_of_words [] = None
form_of_words (word ∷ words) =
    if bytes_eq word (codes "filing") then form_of_filing words
    else if bytes_eq word (codes "standing") then form_of_standing words
    else if bytes_eq word (codes "end") then form_of_end words
    else None

-- a line has a line feed behind its words
abbrev pub form_behind : Option ℕ → List ℕ → Option LineForm
form_behind (Some last) front = if last == 10 then form_of_words (slice_split (λ b. b == 32) front) else None
form_behind None front = None

abbrev pub form_of : List ℕ → Option LineForm
form_of line = form_behind (slice_get line (length line - 1)) (take (length line - 1) line)

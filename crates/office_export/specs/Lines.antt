-- The lines of an export: what was filed, and where students stand. Own format.
use Rattle.std.specs.Prelude.{ℕ, List, [], ◌∷◌, ◌++◌, codes, decimal}
use Rattle.aid_types.specs.Cents.{cents_text}
use Rattle.aid_types.specs.Whole.{whole_text}
use Rattle.aid_types.specs.Words.{formula_text, way_text}
use Rattle.aid_filings.specs.declared.filing.Filing.{Filing}
use Rattle.aid_filings.specs.declared.reply.StandingRow.{StandingRow}
use Rattle.aid_stamps.specs.Stamps.{stamp_bytes}
use Rattle.aid_stamps.specs.declared.stamp.Stamp.{Stamp}
use Rattle.format_bytes.specs.Spelling.{spelling}
use Rattle.hex.specs.Hex.{encode_lower}

-- words with one space between each two, and a line feed
abbrev pub line_of : List (List ℕ) → List ℕ
line_of [] = codes "\n"
line_of (word ∷ []) = word ++ codes "\n"
line_of (word ∷ next ∷ words) = word ++ codes " " ++ line_of (next ∷ words)

-- the bytes of a filing behind those of its stamp, in digits of lower case
abbrev pub payload_line : List ℕ → List ℕ
payload_line payload = line_of (codes "filing" ∷ encode_lower payload ∷ [])

-- a filing under its stamp, by the one spelling of both
abbrev pub filing_line : Stamp → Filing → List ℕ
filing_line s f = payload_line (stamp_bytes s ++ spelling f)

-- where a student stands in a year
abbrev pub standing_line : ℕ → ℕ → StandingRow → List ℕ
standing_line student year r = line_of (
    codes "standing" ∷ decimal student ∷ decimal year ∷ decimal r.transaction ∷ formula_text r.formula ∷ whole_text r.sai ∷ way_text r.way
    ∷ decimal r.scheduled ∷ cents_text r.paid ∷ decimal r.used ∷ [])

-- how many filings and standings there are, and the seal of the filings in digits of lower case
abbrev pub end_line : ℕ → ℕ → List ℕ → List ℕ
end_line filings standings seal = line_of (codes "end" ∷ decimal filings ∷ decimal standings ∷ encode_lower seal ∷ [])

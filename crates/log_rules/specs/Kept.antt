-- What a list of filings keeps beside them. Filings are read newest first.
use Rattle.std.specs.Prelude.{◌≡◌, ℕ, List, [], ◌∷◌, Option, option_map}
use Rattle.sorted_rows.specs.Places.{value_at}
use Rattle.aid_types.specs.declared.number.Key.{Key}
use Rattle.log_rules.specs.Names.{filing_cmp, filing_name}
use Rattle.log_rules.specs.Ruled.{IsLegal, Standing, entries_of, standing_of}
use Rattle.log_rules.specs.Ruling.{Ruling}
use Rattle.log_rules.specs.declared.number.FilingNumber.{FilingNumber}
use Rattle.log_rules.specs.declared.rules.Filed.{Filed}

-- each filing has the outcome of its admission
abbrev pub HaveOutcomes : {Entry Outcome : Type 0} → Ruling Entry Outcome → List (Filed Entry Outcome) → Type 0
HaveOutcomes ruling [] = Unit {0}
HaveOutcomes ruling (f ∷ past) = HaveOutcomes ruling past × (f.outcome ≡ ruling.outcome (entries_of past) f.entry)

-- a position, where a filing stands
abbrev pub place_of : {Entry Outcome : Type 0} → Option (Standing Entry Outcome) → Option ℕ
place_of standing = option_map (λ s. s.position) standing

-- the rows tell the position of each key that stands
abbrev pub AreKeys : {Entry Outcome : Type 0} → Ruling Entry Outcome → List Entry → List (FilingNumber × ℕ) → Type 0
AreKeys ruling past rows = (key : Key) → value_at filing_cmp (filing_name key) rows ≡ place_of (standing_of ruling key past)

-- Filings that stand: legal, each with the outcome of its admission, with rows that tell each key's position, and an index of
-- just these filings.
pub record IsKept {Entry Outcome : Type 0} (ruling : Ruling Entry Outcome) (filed : List (Filed Entry Outcome)) (rows : List (FilingNumber × ℕ)) (on_file : List Entry) : Type 0 where
  pub legal : IsLegal ruling (entries_of filed)
  pub outcomes : HaveOutcomes ruling filed
  pub keys : AreKeys ruling (entries_of filed) rows
  pub index : on_file ≡ entries_of filed

-- What corrections make of a list. A list is read newest first; the corrections come in the order of their rows.
use Rattle.std.specs.Prelude.{Bool, false, if◌then◌else◌, List, [], ◌∷◌, ◌++◌, Option, Some, None}
use Rattle.aid_types.specs.declared.number.Key.{Key}
use Rattle.aid_filings.specs.declared.filing.Filing.{Filing}
use Rattle.aid_stamps.specs.declared.stamp.Stamp.{Stamp}
use Rattle.log_stamps.specs.Entries.{with_stamp}
use Rattle.log_stamps.specs.declared.entry.StampedEntry.{StampedEntry}
use Rattle.office_history.specs.Past.{same_key}
use Rattle.office_amends.specs.declared.correction.Change.{Change}
use Rattle.office_amends.specs.declared.correction.Change.TheVariants.{Replace, Void, Insert}
use Rattle.office_amends.specs.declared.correction.Correction.{Correction}

-- a correction names the filing with a key, in whose place it puts another, or the record that it was taken out
abbrev pub names : Change → Key → Bool
names (Replace f) key = same_key f.key key
names (Void of) key = same_key of key
names (Insert f at) key = false

abbrev pub put_of : Filing → Change → Filing
put_of mark (Replace f) = f
put_of mark (Void of) = mark
put_of mark (Insert f at) = f

-- the first that names it counts
abbrev pub named_at : List Correction → Key → Option Correction
named_at [] key = None
named_at (c ∷ cs) key = if names c.change key then Some c else named_at cs key

-- what stands in the place of an entry: itself under its own stamp, or what is put there under the run's
abbrev pub in_place : Stamp → StampedEntry Filing → Option Correction → StampedEntry Filing
in_place stamp e None = e
in_place stamp e (Some c) = with_stamp stamp (put_of c.record c.change)

abbrev pub instead : Stamp → List Correction → StampedEntry Filing → StampedEntry Filing
instead stamp cs e = in_place stamp e (named_at cs e.entry.key)

-- what is put in front of the filing with a key, under the run's stamp
abbrev pub inserted : Stamp → Change → Key → List (StampedEntry Filing)
inserted stamp (Insert f at) key = if same_key at key then with_stamp stamp f ∷ [] else []
inserted stamp _ key = []

-- what corrections bring one by one: that of the last row comes last, and is the newest
abbrev pub gathered : (Correction → List (StampedEntry Filing)) → List Correction → List (StampedEntry Filing)
gathered bring [] = []
gathered bring (c ∷ cs) = gathered bring cs ++ bring c

abbrev pub before : Stamp → List Correction → Key → List (StampedEntry Filing)
before stamp cs key = gathered (λ c. inserted stamp c.change key) cs

-- the list with each correction in its place
abbrev pub corrected : Stamp → List Correction → List (StampedEntry Filing) → List (StampedEntry Filing)
corrected stamp cs [] = []
corrected stamp cs (e ∷ past) = instead stamp cs e ∷ (before stamp cs e.entry.key ++ corrected stamp cs past)

-- the records of what was replaced and put in, in the order of the rows; the record of what was taken out stands in its place
abbrev pub recorded : Stamp → Filing → Change → List (StampedEntry Filing)
recorded stamp mark (Void of) = []
recorded stamp mark _ = with_stamp stamp mark ∷ []

abbrev pub records : Stamp → List Correction → List (StampedEntry Filing)
records stamp cs = gathered (λ c. recorded stamp c.record c.change) cs

-- the new list: the corrected one, and behind it the records
abbrev pub amended : Stamp → List Correction → List (StampedEntry Filing) → List (StampedEntry Filing)
amended stamp cs past = records stamp cs ++ corrected stamp cs past

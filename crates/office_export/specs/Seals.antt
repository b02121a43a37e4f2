-- The seal of an office's filings and stamps, the newest first of both. Own.
use Rattle.std.specs.Prelude.{ℕ, List, [], ◌∷◌, ◌++◌, codes}
use Rattle.aid_filings.specs.declared.filing.Filing.{Filing}
use Rattle.aid_seals.specs.Seals.{seal}
use Rattle.aid_stamps.specs.Stamps.{stamp_bytes}
use Rattle.aid_stamps.specs.declared.stamp.Stamp.{Stamp}
use Rattle.format_bytes.specs.Spelling.{spelling}

-- the name in the header of an office's journal, whatever its version
abbrev pub office_name : List ℕ
office_name = codes "AIDPELL1"

-- the bytes of each filing behind those of its stamp, as the journal has them
abbrev pub payloads : List Filing → List Stamp → List (List ℕ)
payloads [] stamps = []
payloads (f ∷ past) [] = []
payloads (f ∷ past) (s ∷ stamps) = (stamp_bytes s ++ spelling f) ∷ payloads past stamps

-- the seal of all filings and stamps
abbrev pub office_seal : List Filing → List Stamp → List ℕ
office_seal past stamps = seal office_name (payloads past stamps)

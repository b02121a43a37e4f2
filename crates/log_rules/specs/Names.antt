-- What names a filing in a table of rows.
use Rattle.std.specs.Ordering.{nat_cmp, ordering_then}
use Rattle.std.specs.declared.cmp.Ordering.{Ordering}
use Rattle.aid_types.specs.declared.number.Key.{Key}
use Rattle.log_rules.specs.declared.number.FilingNumber.{FilingNumber}

-- the order of such names: by the number, and then by the school
abbrev pub filing_cmp : FilingNumber → FilingNumber → Ordering
filing_cmp a b = ordering_then (nat_cmp a.number b.number) (nat_cmp a.school b.school)

-- the name of a key
abbrev pub filing_name : Key → FilingNumber
filing_name key = record { number = key.number; school = key.school }

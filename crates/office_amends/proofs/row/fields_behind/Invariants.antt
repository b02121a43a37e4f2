use Rattle.std.proofs.Common.{◌≡◌, ◌-◌, ◌++◌, [], drop, length}
use Rattle.csv.specs.Records.{fields_of, partial_of}
use Rattle.office_amends.proofs.row.fields_behind.Given as goal

abbrev pub invariant-loop-text : goal.invariant-loop-text
invariant-loop-text l = (fields_of l.fields ++ drop l.place (fields_of l.texts) ≡ drop l.heads (fields_of l.texts)) × (partial_of l.fields ≡ [])

abbrev pub decreases-loop-text : goal.decreases-loop-text
decreases-loop-text l = length (fields_of l.texts) - l.place

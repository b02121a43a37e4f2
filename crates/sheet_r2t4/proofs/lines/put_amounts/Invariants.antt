use Rattle.std.proofs.Common.{◌≡◌, ◌++◌, take}
use Rattle.std.specs.List.{flat_map}
use Rattle.aid_types.specs.Cents.{cents_text}
use Rattle.office_reports.specs.Columns.{right}
use Rattle.sheet_r2t4.proofs.lines.put_amounts.Given as goal

abbrev pub invariant-loop-cents : goal.invariant-loop-cents
invariant-loop-cents l = l.out.items ≡ l.initial.out.items ++ flat_map (λ cents. right 11 (cents_text cents)) (take l.cents-index l.amounts)

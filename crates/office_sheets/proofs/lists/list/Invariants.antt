use Rattle.std.proofs.Common.{◌≡◌, reverse, take}
use Rattle.std.specs.List.{concat}
use Rattle.office_sheets.specs.Lists.{list_lines}
use Rattle.office_sheets.proofs.lists.list.Given as goal

abbrev pub invariant-loop-index : goal.invariant-loop-index
invariant-loop-index l = l.out.items ≡ concat (list_lines (reverse (take l.index l.filings)) (reverse (take l.index l.stamps)))

use Rattle.std.proofs.Common.{◌≡◌, reverse, take}
use Rattle.std.specs.List.{concat}
use Rattle.office_export.specs.Seals.{office_seal}
use Rattle.office_reports.specs.Seals.{seal_lines}
use Rattle.office_reports.proofs.sealed.seal_lines.Given as goal

abbrev pub invariant-loop-index : goal.invariant-loop-index
invariant-loop-index l =
    (l.seal.bytes ≡ office_seal (reverse (take l.index l.filings)) (reverse (take l.index l.stamps)))
    × (l.out.items ≡ concat (seal_lines (reverse (take l.index l.filings)) (reverse (take l.index l.stamps))))

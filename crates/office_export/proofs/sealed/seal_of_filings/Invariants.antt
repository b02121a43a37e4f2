use Rattle.std.proofs.Common.{◌≡◌, reverse, take}
use Rattle.office_export.specs.Seals.{office_seal}
use Rattle.office_export.proofs.sealed.seal_of_filings.Given as goal

abbrev pub invariant-loop-index : goal.invariant-loop-index
invariant-loop-index l = l.seal.bytes ≡ office_seal (reverse (take l.index l.filings)) (reverse (take l.index l.stamps))

use Rattle.std.proofs.Common.{◌≡◌, Bool, reverse, take}
use Rattle.office_history.specs.Past.{FiledTerm}
use Rattle.office_plain.specs.Asked.{Tests}
use Rattle.office_plain.proofs.Terms.{code, place}
use Rattle.office_plain.proofs.plain.PlainHistory.least.Given as goal

abbrev pub invariant-loop-filing : goal.invariant-loop-filing
invariant-loop-filing g l = (test : FiledTerm → Bool) → Tests (goal.F-post g l.passes) test →
    (l.least ≡ code test (reverse (take l.filing-index l.filings))) × (l.first ≡ place test (reverse (take l.filing-index l.filings)))

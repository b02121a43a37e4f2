use Rattle.std.proofs.Common.{◌≡◌, ◌≤◌, List, length, ap, arith}
use Rattle.std.proofs.lemmas.List.{length-reverse}
use Rattle.aid_filings.specs.declared.filing.Filing.{Filing}
use Rattle.office_sheets.proofs.ListLemmas.{list-whole}
use Rattle.office_sheets.proofs.lists.list.Goals as goal

pub returns : goal.returns
returns c =
    let filings = c.filings-filings.result.now in
    let stamps = c.args.stamps.now in
    let size = ap (λ (fs : List Filing). length fs) c.filings-filings.ensures in
    let all : length filings ≤ c.loop-index.index = omega (arith, size, length-reverse filings, c.front-index-end.ensures.value, c.loop-index-test.false) in
    let same : length stamps ≡ length filings = omega (arith, size, length-reverse filings, c.requires) in
    list-whole filings stamps c.args.office.now.history c.loop-index.index all same c.filings-filings.ensures _ _ c.loop-index.invariant c.in_ok-put_count.ensures

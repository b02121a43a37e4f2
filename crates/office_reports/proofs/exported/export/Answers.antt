use Rattle.std.proofs.Common.{◌≡◌, ℕ, List, length, reverse, ap, sym, ◌∙◌, arith}
use Rattle.std.proofs.lemmas.List.{length-reverse}
use Rattle.aid_filings.specs.declared.filing.Filing.{Filing}
use Rattle.office_export.proofs.Exactly.{length-applicants}
use Rattle.office_reports.proofs.WholeExport.{exported}
use Rattle.office_reports.proofs.exported.export.Goals as goal

pub overflow_cast-len : goal.overflow_cast-len
overflow_cast-len c =
    let filings = c.filings-filings.result.now in
    let size = ap (λ (ss : List ℕ). length ss) c.in_ok-students.ensures in
    let all = ap (λ (fs : List Filing). length fs) c.filings-filings.ensures in
    let few = length-applicants (reverse filings) c.args.year in
    omega (arith, size, all, few, c.len.ensures, c.front-front.ensures.value, c.front-front.ensures.few)

pub returns : goal.returns
returns c =
    let same = ap (λ (ss : List ℕ). length ss) c.as_slice.ensures.value in
    let count : c.len.result ≡ length c.in_ok-students.students.items = omega (arith, same, c.len.ensures, c.as_slice.ensures.len) in
    exported c.args.office.now.history c.filings-filings.result.now c.args.stamps.now c.args.year c.in_ok-students.students.items c.front-front.result c.len.result
    c.in_ok-seal.seal.bytes c.in_ok-out.out.items c.put_standings.new.out.items c.put_end_line.new.out.items c.filings-filings.ensures c.in_ok-students.ensures c.front-front.ensures.value count
    c.in_ok-seal.ensures c.in_ok-out.ensures (rw c.as_slice.ensures.value at c.in_ok-put_standings.ensures) c.in_ok-put_end_line.ensures

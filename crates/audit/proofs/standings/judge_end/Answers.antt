use Rattle.std.proofs.Common.{◌≡◌, ◌∙◌, ◌++◌, ap, sym, refl, length, reverse, List}
use Rattle.std.proofs.lemmas.List.{length-reverse}
use Rattle.aid_filings.specs.declared.filing.Filing.{Filing}
use Rattle.office_export.specs.Lines.{end_line}
use Rattle.office_export.specs.Seals.{office_seal}
use Rattle.audit.proofs.Stood.{ends, ends_wrong, told_false}
use Rattle.audit.proofs.standings.judge_end.Goals as goal

pub returns-then-not-is_same : goal.returns-then-not-is_same
returns-then-not-is_same g c = λ told keeps.
    let many : length c.filings-filings.result.now ≡ length (g.L.AuditedList.filings c.args.lines.now.list) = sym (length-reverse c.filings-filings.result.now) ∙ ap (λ (l : List Filing). length l) c.filings-filings.ensures in
    let seal : c.in_ok-seal.seal.bytes ≡ office_seal (g.L.AuditedList.filings c.args.lines.now.list) (reverse c.args.lines.now.stamps.items) =
    c.in_ok-seal.ensures ∙ (λ i. office_seal (c.filings-filings.ensures i) (reverse (c.deref.ensures.value i))) in
    let right = c.as_slice.ensures.value ∙ c.in_ok-put_end_line.ensures ∙ (λ i. c.new-right.ensures.items i ++ end_line (many i) c.args.lines.now.standings (seal i)) in
    ends_wrong g.L.AuditedList.most g.L.AuditedList.filings c.args.lines.now c.args.lines.now c.args.line.now told keeps c.requires.before_end c.requires.form
    (λ e. told_false _ c.is_same.result c.is_same.ensures c.if-not-is_same.true (e ∙ sym right))

pub returns : goal.returns
returns g c = λ told keeps.
    let many : length c.filings-filings.result.now ≡ length (g.L.AuditedList.filings c.args.lines.now.list) = sym (length-reverse c.filings-filings.result.now) ∙ ap (λ (l : List Filing). length l) c.filings-filings.ensures in
    let seal : c.in_ok-seal.seal.bytes ≡ office_seal (g.L.AuditedList.filings c.args.lines.now.list) (reverse c.args.lines.now.stamps.items) =
    c.in_ok-seal.ensures ∙ (λ i. office_seal (c.filings-filings.ensures i) (reverse (c.deref.ensures.value i))) in
    let right = c.as_slice.ensures.value ∙ c.in_ok-put_end_line.ensures ∙ (λ i. c.new-right.ensures.items i ++ end_line (many i) c.args.lines.now.standings (seal i)) in
    ends g.L.AuditedList.most g.L.AuditedList.filings c.args.lines.now _ c.args.line.now told keeps c.requires.before_end c.requires.form
    (c.is_same.ensures.0 c.if-not-is_same.false ∙ right) refl refl refl refl refl

use Rattle.std.proofs.Common.{◌≡◌, ◌<◌, ◌∙◌, ◌++◌, ap, sym, arith, length, List, Option, Ok}
use Rattle.std.proofs.lemmas.List.{length-reverse}
use Rattle.aid_filings.specs.declared.filing.Filing.{Filing}
use Rattle.aid_stamps.specs.Stamps.{stamp_bytes}
use Rattle.aid_stamps.specs.declared.stamp.Stamp.{Stamp}
use Rattle.format_bytes.specs.Spelling.{spelling}
use Rattle.hex.specs.Hex.{encode_lower}
use Rattle.office_export.proofs.Laws.{form_of-filing_line, same_digits}
use Rattle.audit.specs.Findings.{behind_standing, full, stray, unspelled}
use Rattle.audit.proofs.Taken.{has_standings, kept_in_place, kept_length}
use Rattle.audit.proofs.line.judge_digits.Goals as goal

pub returns-then-lines-gt0 : goal.returns-then-lines-gt0
returns-then-lines-gt0 g c = λ told keeps rest.
    stray c.args.line.now rest (behind_standing c.requires.form (has_standings g.L.AuditedList.most g.L.AuditedList.filings c.args.lines.now told keeps c.if-lines-gt0.true))

pub returns-then-filings-most : goal.returns-then-filings-most
returns-then-filings-most g c = λ told keeps rest.
    let same = kept_length g.L.AuditedList.most g.L.AuditedList.filings c.args.lines.now told keeps in
    let many : length c.filings.result.now ≡ length (g.L.AuditedList.filings c.args.lines.now.list) = sym (length-reverse c.filings.result.now) ∙ ap (λ (l : List Filing). length l) c.filings.ensures in
    let all : length told.past ≡ g.L.AuditedList.most = omega (arith, same, many, c.if-filings-most.true, c.most.ensures.value) in
    full c.args.line.now rest (kept_in_place g.L.AuditedList.most g.L.AuditedList.filings c.args.lines.now told keeps c.args.line.now (omega arith) c.requires.before_end c.requires.form) all

pub judge_filing-requires-clause-form : goal.judge_filing-requires-clause-form
judge_filing-requires-clause-form g c = let found = rw c.in-Some.is at c.in_ok-stamp.ensures.found in form_of-filing_line c.in-Some.stamp c.in-Some.filing found.0

pub returns-in-None : goal.returns-in-None
returns-in-None g c = λ told keeps rest.
    let same = kept_length g.L.AuditedList.most g.L.AuditedList.filings c.args.lines.now told keeps in
    let many : length c.filings.result.now ≡ length (g.L.AuditedList.filings c.args.lines.now.list) = sym (length-reverse c.filings.result.now) ∙ ap (λ (l : List Filing). length l) c.filings.ensures in
    let few : length told.past < g.L.AuditedList.most = omega (arith, same, many, c.requires.few, c.if-filings-most.false, c.most.ensures.value) in
    unspelled c.args.line.now rest (kept_in_place g.L.AuditedList.most g.L.AuditedList.filings c.args.lines.now told keeps c.args.line.now (omega arith) c.requires.before_end c.requires.form) few
    (λ z f is_z are e. c.stamped_in.ensures.none (c.in_ok-stamp.was ∙ ap (λ (o : Option (Stamp × Filing)). Ok o) c.in-None.is) z f is_z are
    (same_digits (encode_lower (stamp_bytes z ++ spelling f)) c.args.digits.now (sym e ∙ c.requires.digits)))

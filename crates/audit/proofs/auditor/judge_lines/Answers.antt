use Rattle.audit.proofs.Walk.{so_far_first, so_far_missing, so_far_more, so_far_no}
use Rattle.audit.proofs.auditor.judge_lines.Goals as goal

pub loop-line-init : goal.loop-line-init
loop-line-init g c = so_far_first g.L.AuditedList.most g.L.AuditedList.filings c.args.text.now c.args.lines.now c.requires.first

pub returns-in-Some-2 : goal.returns-in-Some-2
returns-in-Some-2 g c =
    let so = c.loop-line.invariant in
    let judged = rw c.in-Some-2.is at (c.in_ok-cause.ensures so.told so.keeps) in
    so_far_no g.L.AuditedList.most g.L.AuditedList.filings c.args.text.now c.loop-line.rest.now c.loop-line.lines c.loop-line.number so c.in-Some.line.now c.in-Some.behind.now c.judge_line.new.lines c.judge_line.new.lines
    c.in-Some-2.cause c.in-Some.ensures.line judged

pub loop-line-preserved : goal.loop-line-preserved
loop-line-preserved g c =
    let so = c.loop-line.invariant in
    let judged = rw c.in_default-2.is at (c.in_ok-cause.ensures so.told so.keeps) in
    so_far_more g.L.AuditedList.most g.L.AuditedList.filings c.args.text.now c.loop-line.rest.now c.loop-line.lines c.loop-line.number so c.in-Some.line.now c.in-Some.behind.now c.judge_line.new.lines
    c.in-Some.ensures.line c.in-Some.ensures.shorter judged

pub returns-else-lines : goal.returns-else-lines
returns-else-lines g c =
    so_far_missing g.L.AuditedList.most g.L.AuditedList.filings c.args.text.now c.loop-line.rest.now c.loop-line.lines c.loop-line.number c.loop-line.invariant c.in_default.ensures.line c.if-lines.false

use Rattle.std.proofs.Common.{◌<◌, ◌≤◌, ◌∙◌, sym, subst, arith, ℕ, length, Option, Some}
use Rattle.audit.specs.Findings.{FindsBy, fewer, rewritten, stands, unnoted, yes, yes_of}
use Rattle.audit.specs.declared.finding.Finding.{Finding}
use Rattle.audit.specs.declared.finding.Finding.TheVariants.{No}
use Rattle.audit.specs.declared.note.Note.{Note}
use Rattle.audit.proofs.Against.{held_count, held_front, held_yes}
use Rattle.audit.proofs.Stood.{told_false}
use Rattle.audit.proofs.auditor.held_against.Goals.{in-Some+else-filings-count+in_ok-front+else-not-is_same_seal, in_default}
use Rattle.audit.proofs.auditor.held_against.Goals as goal

pub returns-then-filings-count : goal.returns-then-filings-count
returns-then-filings-count g c = λ all told good keeps e.
    let note = c.in-Some.note in
    let many = held_count g.L.AuditedList.filings c.args.lines.now told keeps c.filings-filings.result.now c.as_slice-stamps.result.now c.filings-filings.ensures c.as_slice-stamps.ensures.value in
    let few : length told.past < note.count = omega (arith, c.if-filings-count.true, many) in
    subst (λ (o : Option Note). FindsBy g.L.AuditedList.most all o (No c.args.line 10)) (sym c.in-Some.is)
    (subst (λ (n : ℕ). FindsBy g.L.AuditedList.most all (Some note) (No n 10)) (sym e) (fewer note told.past told.stamps told.asked good few))

pub returns-then-not-is_same_seal : goal.returns-then-not-is_same_seal
returns-then-not-is_same_seal g c = λ all told good keeps e.
    let note = c.in-Some.note in
    let many = held_count g.L.AuditedList.filings c.args.lines.now told keeps c.filings-filings.result.now c.as_slice-stamps.result.now c.filings-filings.ensures c.as_slice-stamps.ensures.value in
    let front = held_front g.L.AuditedList.filings c.args.lines.now told keeps c.filings-filings.result.now c.as_slice-stamps.result.now c.filings-filings.ensures c.as_slice-stamps.ensures.value note.count good.stamped.paired in
    let some : note.count ≤ length told.past = omega (arith, c.if-filings-count.false, many) in
    subst (λ (o : Option Note). FindsBy g.L.AuditedList.most all o (No c.args.line 9)) (sym c.in-Some.is)
    (subst (λ (n : ℕ). FindsBy g.L.AuditedList.most all (Some note) (No n 9)) (sym e)
    (rewritten note told.past told.stamps told.asked good some (λ same. told_false _ c.is_same_seal.result c.is_same_seal.ensures c.if-not-is_same_seal.true (c.in_ok-front.ensures ∙ front ∙ same))))

pub returns : goal.returns
returns g c = λ all told good keeps e.
    let is_yes = held_yes g.L.AuditedList.filings c.args.lines.now told keeps c.filings-filings.result.now c.as_slice-stamps.result.now c.filings-filings.ensures c.as_slice-stamps.ensures.value c.in_ok-seal.seal c.in_ok-seal.ensures in
    let many = held_count g.L.AuditedList.filings c.args.lines.now told keeps c.filings-filings.result.now c.as_slice-stamps.result.now c.filings-filings.ensures c.as_slice-stamps.ensures.value in
    subst (λ (finding : Finding). FindsBy g.L.AuditedList.most all c.args.note finding) is_yes
    (elim c.match-note.branch [
      | in-Some+else-filings-count+in_ok-front+else-not-is_same_seal w ↦
          let note = w.in-Some.note in
          let front = held_front g.L.AuditedList.filings c.args.lines.now told keeps c.filings-filings.result.now c.as_slice-stamps.result.now c.filings-filings.ensures c.as_slice-stamps.ensures.value note.count good.stamped.paired in
          let some : note.count ≤ length told.past = omega (arith, w.if-filings-count.false, many) in
          subst (λ (o : Option Note). FindsBy g.L.AuditedList.most all o (yes_of told.past told.stamps told.asked)) (sym w.in-Some.is)
          (stands note told.past told.stamps told.asked good some (sym (w.in_ok-front.ensures ∙ front) ∙ w.is_same_seal.ensures.0 w.if-not-is_same_seal.false))
      | in_default w ↦
          subst (λ (o : Option Note). FindsBy g.L.AuditedList.most all o (yes_of told.past told.stamps told.asked)) (sym w.in_default.is)
          (unnoted (yes_of told.past told.stamps told.asked) (yes told.past told.stamps told.asked good))
    ])

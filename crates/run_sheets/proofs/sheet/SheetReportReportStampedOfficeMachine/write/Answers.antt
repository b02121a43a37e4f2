use Rattle.std.proofs.Common.{◌≡◌, ◌∙◌, List, ap, false, length, rules, subst, sym, true, ℕ}
use Rattle.std.specs.Prelude.{IfOk, nat_le}
use Rattle.log_stamps.specs.Entries.{stamped}
use Rattle.run_sheets.proofs.Firsts.{as_many, first_text, same_test, upto_first, upto_none}
use Rattle.run_sheets.proofs.sheet.SheetReportReportStampedOfficeMachine.write.Goals as goal

pub sheet-requires : goal.sheet-requires
sheet-requires c =
    as_many c.office-office.result.now.history c.stamps-stamps.result.now (stamped c.args.machine.now.inner.office.history c.args.machine.now.stamps) (c.office-office.ensures ∙ c.inner.ensures) c.stamps-stamps.ensures

pub first_sheet-requires-clause-length : goal.first_sheet-requires-clause-length
first_sheet-requires-clause-length c =
    as_many c.office-office.result.now.history c.stamps-stamps.result.now (stamped c.args.machine.now.inner.office.history c.args.machine.now.stamps) (c.office-office.ensures ∙ c.inner.ensures) c.stamps-stamps.ensures

pub returns-then-last-front : goal.returns-then-last-front
returns-then-last-front c =
    let past = stamped c.args.machine.now.inner.office.history c.args.machine.now.stamps in
    let h = c.office-office.result.now.history in
    let stamps = c.stamps-stamps.result.now in
    let filed = c.office-office.ensures ∙ c.inner.ensures in
    let row = c.args.self.now.row in
    let front = c.in-Some.last.number in
    let few : nat_le front c.front.result ≡ true = search rules in
    let within : nat_le front (length past) ≡ true = sym (same_test h stamps past filed c.stamps-stamps.ensures front) ∙ (ap (λ (k : ℕ). nat_le front k) (sym c.front.ensures.value) ∙ few) in
    subst (λ (bytes : List ℕ). IfOk c.first_sheet.result (λ told. told.items ≡ bytes))
    (first_text h stamps past filed c.stamps-stamps.ensures row.request front ∙ upto_first row.upto c.in-Some.last row.request past c.in-Some.is within) c.first_sheet.ensures

pub returns-else-last-front : goal.returns-else-last-front
returns-else-last-front c =
    let past = stamped c.args.machine.now.inner.office.history c.args.machine.now.stamps in
    let filed = c.office-office.ensures ∙ c.inner.ensures in
    let row = c.args.self.now.row in
    let front = c.in-Some.last.number in
    let more : nat_le front c.front.result ≡ false = search rules in
    let beyond : nat_le front (length past) ≡ false =
    sym (same_test c.office-office.result.now.history c.stamps-stamps.result.now past filed c.stamps-stamps.ensures front) ∙ (ap (λ (k : ℕ). nat_le front k) (sym c.front.ensures.value) ∙ more) in
    subst (λ (bytes : List ℕ). IfOk c.none_text.result (λ told. told.items ≡ bytes)) (upto_none row.upto c.in-Some.last row.request past c.in-Some.is beyond) c.none_text.ensures

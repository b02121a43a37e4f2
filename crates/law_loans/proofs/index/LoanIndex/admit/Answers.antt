use Rattle.std.proofs.Common.{◌≡◌, ℕ, ◌+◌, ◌≤◌, List, [], ◌∷◌, ap, length, reverse, subst, sym, ◌∙◌}
use Rattle.std.proofs.lemmas.List.{reverse-append}
use Rattle.law_loans.specs.declared.filing.LoanFiling.{LoanFiling}
use Rattle.law_loans.specs.Register.{OnFile}
use Rattle.law_loans.specs.Rows.{AreIndexed}
use Rattle.law_loans.proofs.Room.{students_below, years_below}
use Rattle.law_loans.proofs.Grown.{index_grown, places_left, room_left}
use Rattle.law_loans.proofs.index.LoanIndex.admit.Goals as goal

pub write_student-requires-clause-below : goal.write_student-requires-clause-below
write_student-requires-clause-below c = students_below (reverse c.self.inside.filings.items) c.self.inside.students.rows c.self.invariant.0.few c.self.invariant.0.students_told

pub write_year-requires-clause-below : goal.write_year-requires-clause-below
write_year-requires-clause-below c = years_below (reverse c.self.inside.filings.items) c.self.inside.years.rows c.self.invariant.0.few c.self.invariant.0.years_told

pub invariant_of-self : goal.invariant_of-self
invariant_of-self c =
    let past = c.args.self.now.history in
    let f = c.args.filing.now in
    let filings = c.self.inside.filings.items in
    let view : reverse filings ≡ past = ap (λ (o : OnFile). o.history) c.self.view_is in
    let before : AreIndexed past c.self.inside.limits.rows c.self.inside.students.rows c.self.inside.years.rows =
    subst (λ (l : List LoanFiling). AreIndexed l c.self.inside.limits.rows c.self.inside.students.rows c.self.inside.years.rows) view c.self.invariant.0 in
    let here : c.count-position.result + 1 ≡ length past + 1 = ap (λ (n : ℕ). n + 1) c.count-position.ensures in
    let grown : reverse c.push_reserved.new.self.items ≡ f ∷ past =
    ap (λ (l : List LoanFiling). reverse l) c.push_reserved.ensures.items ∙ reverse-append filings (f ∷ []) ∙ ap (λ (l : List LoanFiling). f ∷ l) view in
    let some : 1 ≤ c.self.inside.room = subst (λ (n : ℕ). 1 ≤ n) (sym (ap (λ (o : OnFile). o.room) c.self.view_is)) c.requires.room in (
      index_grown past (reverse c.push_reserved.new.self.items) f c.write_limits.new.limits.rows c.write_student.new.students.rows c.write_year.new.years.rows grown c.requires.few
          (c.write_limits.ensures.rows past here before.limits_told) (c.write_student.ensures.rows past here c.requires.covered before.students_told)
          (c.write_year.ensures.rows past c.requires.covered before.years_told),
      places_left c.self.inside.room _ _ _ _ some c.self.invariant.1 c.push_reserved.ensures.len c.push_reserved.ensures.capacity,
      room_left c.self.inside.room _ _ c.self.invariant.2 c.write_limits.ensures.room,
      room_left c.self.inside.room _ _ c.self.invariant.3 c.write_student.ensures.room,
      room_left c.self.inside.room _ _ c.self.invariant.4 c.write_year.ensures.room,
    )

use Rattle.std.proofs.Common.{◌≡◌, ℕ, ◌+◌, ◌≤◌, ◌∷◌, ◌++◌, [], List, ap, length, reverse, subst, sym, ◌∙◌}
use Rattle.std.proofs.lemmas.List.{reverse-append}
use Rattle.std.specs.Option.{option_copied}
use Rattle.aid_filings.specs.declared.filing.Filing.{Filing}
use Rattle.office_index.specs.Index.{IndexRows, IsIndexed}
use Rattle.office_updates.specs.Links.{AreLinked}
use Rattle.office_index.specs.Register.{Register}
use Rattle.office_updates.specs.declared.links.EnrollmentLink.{EnrollmentLink}
use Rattle.office_index.proofs.IndexGrown.{AreRows, HaveOneMore, few_left, index_grown, linkable, places_left, room_left}
use Rattle.office_index.proofs.RowsWritten.{placed_there, places_after, school_years_after, years_after}
use Rattle.office_index.proofs.RowsFound.{place_before, school_year_before, student_before, year_before}
use Rattle.office_index.specs.Index.{AreSchoolYears, AreStudents, AreYears, position_of, student_or}
use Rattle.office_history.specs.Past.{key_at}
use Rattle.office_index.specs.declared.entries.StudentEntry.{StudentEntry}
use Rattle.office_updates.specs.Placed.{ArePlaces}
use Rattle.office_updates.specs.Changed.{IsPlaceBefore, student_changed}
use Rattle.office_index.proofs.indexed.Indexed.admit.Goals as goal

pub rows_after-written-requires-clause-place : goal.rows_after-written-requires-clause-place
rows_after-written-requires-clause-place c =
    let rows = c.self.inside.places.rows in
    let are : ArePlaces c.args.self.now.history rows = subst (λ (r : Register). ArePlaces r.history rows) c.self.view_is c.self.invariant.0.places in
    place_before c.args.self.now.history c.args.filing rows c.place_changed.result (option_copied c.find-place_slot.result.1) c.place_told-place.result are
    c.place_changed.ensures c.find-place_slot.ensures.row c.place_told-place.ensures

pub rows_after-written-requires-clause-year : goal.rows_after-written-requires-clause-year
rows_after-written-requires-clause-year c =
    let rows = c.self.inside.years.rows in
    let are : AreYears c.args.self.now.history rows = subst (λ (r : Register). AreYears r.history rows) c.self.view_is c.self.invariant.0.years in
    year_before c.args.self.now.history c.args.filing rows c.year_changed.result (option_copied c.find-year_slot.result.1) c.year_told-year.result are
    c.year_changed.ensures c.find-year_slot.ensures.row c.year_told-year.ensures

pub rows_after-written-requires-clause-school_year : goal.rows_after-written-requires-clause-school_year
rows_after-written-requires-clause-school_year c =
    let rows = c.self.inside.school_years.rows in
    let are : AreSchoolYears c.args.self.now.history rows = subst (λ (r : Register). AreSchoolYears r.history rows) c.self.view_is c.self.invariant.0.school_years in
    school_year_before c.args.self.now.history c.args.filing rows c.school_year_changed.result (option_copied c.find-cost_slot.result.1) c.school_year_told-cost.result are
    c.school_year_changed.ensures c.find-cost_slot.ensures.row c.school_year_told-cost.ensures

pub rows_after-written-requires-clause-student : goal.rows_after-written-requires-clause-student
rows_after-written-requires-clause-student c = λ student changed.
    let rows = c.self.inside.students.rows in
    let are : AreStudents c.args.self.now.history rows = subst (λ (r : Register). AreStudents r.history rows) c.self.view_is c.self.invariant.0.students in
    ap (λ (entry : StudentEntry). entry.row)
    (student_before c.args.self.now.history c.args.filing rows c.student_changed.result (option_copied c.find-student_slot.result.1) c.student_told-student.result are
    c.student_changed.ensures c.find-student_slot.ensures.row c.student_told-student.ensures student changed)

pub newest_before-before-requires-clause-place : goal.newest_before-before-requires-clause-place
newest_before-before-requires-clause-place c =
    let rows = c.self.inside.places.rows in
    let are : ArePlaces c.args.self.now.history rows = subst (λ (r : Register). ArePlaces r.history rows) c.self.view_is c.self.invariant.0.places in
    place_before c.args.self.now.history c.args.filing rows c.place_changed.result (option_copied c.find-place_slot.result.1) c.place_told-place.result are
    c.place_changed.ensures c.find-place_slot.ensures.row c.place_told-place.ensures

pub newest_before-before-requires-clause-student : goal.newest_before-before-requires-clause-student
newest_before-before-requires-clause-student c = λ e is.
    let rows = c.self.inside.students.rows in
    let are : AreStudents c.args.self.now.history rows = subst (λ (r : Register). AreStudents r.history rows) c.self.view_is c.self.invariant.0.students in
    student_before c.args.self.now.history c.args.filing rows c.student_changed.result (option_copied c.find-student_slot.result.1) c.student_told-student.result are
    c.student_changed.ensures c.find-student_slot.ensures.row c.student_told-student.ensures e.student (ap student_changed is)

pub write-slot-requires-clause-slot : goal.write-slot-requires-clause-slot
write-slot-requires-clause-slot c = λ name row is.
    c.find-place_slot.ensures.slot name (c.place_changed.ensures ∙ c.rows_after-written.ensures.place_named name row is)

pub write-requires-clause-slot : goal.write-requires-clause-slot
write-requires-clause-slot c = λ name row is.
    c.find-year_slot.ensures.slot name (c.year_changed.ensures ∙ c.rows_after-written.ensures.year_named name row is)

pub write-requires-2-clause-slot : goal.write-requires-2-clause-slot
write-requires-2-clause-slot c = λ name row is.
    c.find-cost_slot.ensures.slot name (c.school_year_changed.ensures ∙ c.rows_after-written.ensures.school_year_named name row is)

-- a filing's key is new, and a name with no slot has no row
pub write_key-requires-clause-new : goal.write_key-requires-clause-new
write_key-requires-clause-new c =
    c.self.invariant.0.keys c.args.filing.key
    ∙ ap (λ (r : Register). position_of (key_at c.args.filing.key r.history)) c.self.view_is
    ∙ ap position_of c.requires.legal.1

pub write-slot-requires-clause-new : goal.write-slot-requires-clause-new
write-slot-requires-clause-new c = λ name row is.
    c.find-place_slot.ensures.none name (c.place_changed.ensures ∙ c.rows_after-written.ensures.place_named name row is)

pub write-requires-clause-new : goal.write-requires-clause-new
write-requires-clause-new c = λ name row is.
    c.find-year_slot.ensures.none name (c.year_changed.ensures ∙ c.rows_after-written.ensures.year_named name row is)

pub write-requires-2-clause-new : goal.write-requires-2-clause-new
write-requires-2-clause-new c = λ name row is.
    c.find-cost_slot.ensures.none name (c.school_year_changed.ensures ∙ c.rows_after-written.ensures.school_year_named name row is)

pub write_student-requires-clause-new : goal.write_student-requires-clause-new
write_student-requires-clause-new c = λ student changed. c.find-student_slot.ensures.none student (c.student_changed.ensures ∙ changed)

pub write_student-requires-clause-slot : goal.write_student-requires-clause-slot
write_student-requires-clause-slot c = λ student changed. c.find-student_slot.ensures.slot student (c.student_changed.ensures ∙ changed)

pub write_student-requires-clause-before : goal.write_student-requires-clause-before
write_student-requires-clause-before c = λ student changed.
    c.student_told-student.ensures ∙ ap student_or (c.find-student_slot.ensures.row student (c.student_changed.ensures ∙ changed))

pub write-slot-requires-clause-few : goal.write-slot-requires-clause-few
write-slot-requires-clause-few c = few_left c.self.inside.filings.items _ c.self.invariant.0.legal c.self.invariant.0.few_places

pub write_school-requires-clause-few : goal.write_school-requires-clause-few
write_school-requires-clause-few c = few_left c.self.inside.filings.items _ c.self.invariant.0.legal c.self.invariant.0.few_schools

pub write_student-requires-clause-few : goal.write_student-requires-clause-few
write_student-requires-clause-few c = few_left c.self.inside.filings.items _ c.self.invariant.0.legal c.self.invariant.0.few_students

pub write-requires-clause-few : goal.write-requires-clause-few
write-requires-clause-few c = few_left c.self.inside.filings.items _ c.self.invariant.0.legal c.self.invariant.0.few_years

pub write-requires-2-clause-few : goal.write-requires-2-clause-few
write-requires-2-clause-few c = few_left c.self.inside.filings.items _ c.self.invariant.0.legal c.self.invariant.0.few_school_years

pub invariant_of-self : goal.invariant_of-self
invariant_of-self c =
    let past = c.args.self.now.history in
    let f = c.args.filing in
    let w = c.rows_after-written.result in
    let written = c.rows_after-written.ensures in
    let filings = c.self.inside.filings.items in
    let old : IndexRows = record {
      keys = c.self.inside.keys.rows;
      books = c.self.inside.books.rows;
      schools = c.self.inside.schools.rows;
      students = c.self.inside.students.rows;
      places = c.self.inside.places.rows;
      years = c.self.inside.years.rows;
      school_years = c.self.inside.school_years.rows;
      befores = c.self.inside.befores.items;
      links = c.self.inside.links.items;
    } in
    let new : IndexRows = record {
      keys = c.write_key.new.keys.rows;
      books = c.write_book.new.books.rows;
      schools = c.write_school.new.schools.rows;
      students = c.write_student.new.students.rows;
      places = c.write-slot.new.rows.rows;
      years = c.write.new.rows.rows;
      school_years = c.write-2.new.rows.rows;
      befores = c.push_reserved.new.self.items;
      links = c.push_reserved-2.new.self.items;
    } in
    let view : reverse filings ≡ past = ap (λ (r : Register). r.history) c.self.view_is in
    let before : IsIndexed past c.self.inside.outcomes.items old =
    subst (λ (l : List Filing). IsIndexed l c.self.inside.outcomes.items old) view c.self.invariant.0 in
    let here : c.front-position.result + 1 ≡ length past + 1 = ap (λ (n : ℕ). n + 1) c.front-position.ensures.value in
    let place : IsPlaceBefore past f c.place_told-place.result =
    place_before past f old.places c.place_changed.result (option_copied c.find-place_slot.result.1) c.place_told-place.result before.places
    c.place_changed.ensures c.find-place_slot.ensures.row c.place_told-place.ensures in
    let rows : AreRows (f ∷ past) new = record {
      keys = c.write_key.ensures.rows past here c.requires.legal.1 before.keys;
      books = c.write_book.ensures.rows past here before.books;
      schools = c.write_school.ensures.rows past here written.school before.schools;
      students = c.write_student.ensures.rows past c.requires.legal.0 here place written.student before.students;
      places = places_after past f w.place old.places new.places c.write-slot.ensures.values before.places written.place;
      years = years_after past f w.year old.years new.years c.write.ensures.values before.years written.year;
      school_years = school_years_after past f w.school_year old.school_years new.school_years c.write-2.ensures.values before.school_years written.school_year;
      links = subst (λ (l : List EnrollmentLink). AreLinked (f ∷ past) new.places new.befores l) (sym c.push_reserved-2.ensures.items)
          (subst (λ (ns : List ℕ). AreLinked (f ∷ past) new.places ns (old.links ++ c.link_of.result ∷ [])) (sym c.push_reserved.ensures.items)
          (c.link_of.ensures past old.places new.places old.befores c.newest_before-before.result old.links
          (linkable past f w old.places new.places c.newest_before-before.result c.write-slot.result c.term_of-school_at.result.0 c.term_of-school_at.result.1
          c.requires.legal written c.write-slot.ensures.stays
          (λ name row is. placed_there name new.places c.write-slot.result (c.write-slot.ensures.slot name row is)) c.newest_before-before.ensures c.term_of-school_at.ensures)
          before.links));
    } in
    let more : HaveOneMore old new = record {
      keys = c.write_key.ensures.count;
      books = c.write_book.ensures.count;
      schools = c.write_school.ensures.count;
      students = c.write_student.ensures.count;
      places = c.write-slot.ensures.count;
      years = c.write.ensures.count;
      school_years = c.write-2.ensures.count;
    } in
    let grown : reverse c.push_reserved-3.new.self.items ≡ f ∷ past =
    ap (λ (l : List Filing). reverse l) c.push_reserved-3.ensures.items ∙ reverse-append filings (f ∷ []) ∙ ap (λ (l : List Filing). f ∷ l) view in
    let some : 1 ≤ c.self.inside.spare = subst (λ (n : ℕ). 1 ≤ n) (sym (ap (λ (r : Register). r.spare) c.self.view_is)) c.requires.room in (
      index_grown past (reverse c.push_reserved-3.new.self.items) f c.self.inside.outcomes.items c.push_reserved-4.new.self.items c.args.outcome old new grown
          c.push_reserved-4.ensures.items c.requires.legal c.requires.outcome before rows more,
      places_left c.self.inside.spare _ _ _ _ some c.self.invariant.1 c.push_reserved-3.ensures.len c.push_reserved-3.ensures.capacity,
      places_left c.self.inside.spare _ _ _ _ some c.self.invariant.2 c.push_reserved-4.ensures.len c.push_reserved-4.ensures.capacity,
      places_left c.self.inside.spare _ _ _ _ some c.self.invariant.3 c.push_reserved-2.ensures.len c.push_reserved-2.ensures.capacity,
      room_left c.self.inside.spare _ _ c.self.invariant.4 c.write_key.ensures.room,
      room_left c.self.inside.spare _ _ c.self.invariant.5 c.write_book.ensures.room,
      room_left c.self.inside.spare _ _ c.self.invariant.6 c.write_school.ensures.room,
      room_left c.self.inside.spare _ _ c.self.invariant.7 c.write_student.ensures.room,
      room_left c.self.inside.spare _ _ c.self.invariant.8 c.write-slot.ensures.room,
      room_left c.self.inside.spare _ _ c.self.invariant.9 c.write.ensures.room,
      room_left c.self.inside.spare _ _ c.self.invariant.10 c.write-2.ensures.room,
      places_left c.self.inside.spare _ _ _ _ some c.self.invariant.11 c.push_reserved.ensures.len c.push_reserved.ensures.capacity,
    )

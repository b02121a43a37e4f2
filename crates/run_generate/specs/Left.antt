-- The rows of a generated year that weren't taken yet.
use Rattle.std.specs.Prelude.{ℕ, ◌+◌, List, [], ◌++◌, drop, Option, Some, None}
use Rattle.run_generate.specs.Rows.{YearRow, founding_rows, student_rows, students_rows}
use Rattle.run_generate.specs.declared.operations.YearOperations.{YearOperations}
use Rattle.run_generate.specs.declared.draws.Students.{Students}
use Rattle.run_generate.specs.declared.student.DrawnStudent.{DrawnStudent}

-- of the rows of a student
abbrev pub student_left : ℕ → Option DrawnStudent → List YearRow
student_left y None = []
student_left y (Some student) = drop student.taken (student_rows y student.number student.draws)

-- of the students
abbrev pub students_left : ℕ → Students → List YearRow
students_left y students = students_rows y students.left (students.last + 1) students.seed

-- of the year behind the book
abbrev pub asks_left : YearOperations → List YearRow
asks_left operations = drop operations.founded (founding_rows operations.year) ++ (student_left operations.year operations.student ++ students_left operations.year operations.students)

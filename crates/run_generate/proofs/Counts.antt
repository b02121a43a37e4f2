-- How many rows of a generated year are left.
use Rattle.std.proofs.Common.{◌≡◌, ℕ, zero, suc, ◌+◌, ◌*◌, ◌%◌, ◌≤◌, ◌==◌, Bool, true, false, List, [], ◌∷◌, ◌++◌, length, drop, Option, Some, None, if◌then◌else◌, arith, length-append, lit≤}
use Rattle.run_generate.specs.Drawn.{draws_behind, later}
use Rattle.run_generate.specs.Rows.{YearRow, founding_rows, student_rows, students_rows, withdraw_row, withdraw_rows}
use Rattle.run_generate.specs.Left.{asks_left, student_left, students_left}
use Rattle.run_generate.specs.declared.draws.Draws.{Draws}
use Rattle.run_generate.specs.declared.operations.YearOperations.{YearOperations}
use Rattle.run_generate.specs.declared.student.DrawnStudent.{DrawnStudent}

-- a list loses by a drop
dropped : {A : Type 0} (n : ℕ) (xs : List A) → length (drop n xs) ≤ length xs
dropped zero xs = omega arith
dropped (suc n) [] = omega arith
dropped (suc n) (x ∷ xs) = let least = dropped n xs in omega (arith, least)

withdraw_short : (y i : ℕ) (d : Draws) → length (withdraw_rows y i d) ≤ 1
withdraw_short y i d = go (d.leave % 16 == 0)
  where
    go : (b : Bool) → length (if b then withdraw_row y i d ∷ [] else []) ≤ 1
    go true = lit≤ tt
    go false = lit≤ tt

student_short : (y i : ℕ) (d : Draws) → length (student_rows y i d) ≤ 5
student_short y i d = let least = withdraw_short y i d in omega (arith, least)

students_short : (y n i x : ℕ) → length (students_rows y n i x) ≤ 5 * n
unfolding students_rows
students_short y zero i x = lit≤ tt
students_short y (suc n) i x =
    let front = student_short y i (draws_behind x) in
    let behind = students_short y n (i + 1) (later x) in
    let both = length-append (student_rows y i (draws_behind x)) (students_rows y n (i + 1) (later x)) in omega (arith, front, behind, both)

student_left_short : (y : ℕ) (student : Option DrawnStudent) → length (student_left y student) ≤ 5
student_left_short y None = lit≤ tt
student_left_short y (Some s) = let least = dropped s.taken (student_rows y s.number s.draws) in let all = student_short y s.number s.draws in omega (arith, least, all)

pub few_left : (operations : YearOperations) → length (asks_left operations) ≤ 5 * operations.students.left + 17
few_left operations =
    let founding = dropped operations.founded (founding_rows operations.year) in
    let student = student_left_short operations.year operations.student in
    let students = students_short operations.year operations.students.left (operations.students.last + 1) operations.students.seed in
    let outer = length-append (drop operations.founded (founding_rows operations.year)) (student_left operations.year operations.student ++ students_left operations.year operations.students) in
    let inner = length-append (student_left operations.year operations.student) (students_left operations.year operations.students) in
    omega (arith, founding, student, students, outer, inner)

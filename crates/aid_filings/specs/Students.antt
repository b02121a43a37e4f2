-- Whom a filing is about.
use Rattle.std.specs.Prelude.{ℕ, Option, Some, None}
use Rattle.aid_filings.specs.declared.filing.What.{What}
use Rattle.aid_filings.specs.declared.filing.What.TheVariants.{Book, School, Calendar, Prior, Apply, Enroll, Originate, Pay, Withdraw, Repay, Adjust, Cost, Sent, Amend}

-- the student of what is filed; a book, a school, a term and a record of a correction are about none
abbrev pub student_of : What → Option ℕ
student_of (Book b) = None
student_of (School s) = None
student_of (Calendar c) = None
student_of (Prior p) = Some p.student
student_of (Apply a) = Some a.student
student_of (Enroll e) = Some e.student
student_of (Originate o) = Some o.student
student_of (Pay a) = Some a.student
student_of (Withdraw w) = Some w.student
student_of (Repay a) = Some a.student
student_of (Adjust a) = Some a.student
student_of (Cost o) = Some o.student
student_of (Sent s) = Some s.student
student_of (Amend a) = None

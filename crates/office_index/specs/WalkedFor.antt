-- How many rows an ask may walk over: the terms of the school that is asked about, and the terms at schools in which the student
-- is enrolled. Where a student stands is told without a walk.
use Rattle.std.specs.Prelude.{ℕ, List, Some}
use Rattle.aid_filings.specs.Students.{student_of}
use Rattle.aid_filings.specs.declared.filing.Filing.{Filing}
use Rattle.aid_filings.specs.declared.reply.Operation.{Operation}
use Rattle.aid_filings.specs.declared.reply.Operation.TheVariants.{File, Quote, Standing}
use Rattle.office_answers.specs.Walked.{walked}

abbrev pub walked_for : List Filing → Operation → ℕ
walked_for past (File f) = walked past f.key.school (student_of f.what)
walked_for past (Quote school student year term) = walked past school (Some student)
walked_for past (Standing student year) = 0

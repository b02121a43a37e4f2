-- Which of the three formulas an application goes by (HEA 475 to 477, 480(d)).
use Rattle.std.specs.Prelude.{◌+◌, nat_le, Bool, ◌||◌, if◌then◌else◌}
use Rattle.aid_types.specs.declared.application.Application.{Application}
use Rattle.aid_books.specs.declared.book.Book.{Book}
use Rattle.aid_types.specs.declared.award.Formula.{Formula}
use Rattle.aid_types.specs.declared.award.Formula.TheVariants.{A, B, C}

-- an independent student: 24 or older in the year, or married, a graduate student, or with a yes to one of seven answers
abbrev pub is_independent : Book → Application → Bool
is_independent book a =
    nat_le (a.birth_year + 24) book.year || a.married || a.graduate || a.veteran || a.dependents
    || a.orphan || a.ward || a.foster || a.emancipated || a.homeless

-- formula A for dependent students, C for independent ones with dependents, B for other independent ones (HEA 475 to 477)
abbrev pub formula : Book → Application → Formula
formula book a = if is_independent book a then (if a.dependents then C else B) else A

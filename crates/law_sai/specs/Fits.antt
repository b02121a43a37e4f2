-- Whether an application is in range for the book: rule 92 (own, on the members of a family that HEA 480(k) counts).
use Rattle.std.specs.Prelude.{◌≡◌, ℕ, ◌≤◌, nat_le, nat_lt, ◌==◌, Bool, if◌then◌else◌, Option, Some, None}
use Rattle.aid_types.specs.declared.application.Application.{Application}
use Rattle.aid_books.specs.declared.book.Book.{Book}
use Rattle.aid_types.specs.declared.award.Formula.{Formula}
use Rattle.aid_types.specs.declared.award.Formula.TheVariants.{A, B, C}
use Rattle.aid_types.specs.declared.award.Refusal.{Refusal}
use Rattle.law_sai.specs.Formulas.{formula}

-- the size of family that a formula asks for: the members that it knows of
abbrev pub size_for : Formula → Bool → ℕ
size_for A married = 2
size_for B married = if married then 2 else 1
size_for C married = if married then 3 else 2

-- formula B knows each member, the others only the least number
abbrev pub is_size : Formula → ℕ → ℕ → Bool
is_size A size family = nat_le size family
is_size B size family = family == size
is_size C size family = nat_le size family

-- the refusal of an application that is out of range: its birth year above the book's year, or its family size
abbrev pub unfit : Book → Application → Option Refusal
unfit book a =
    let size = size_for (formula book a) a.married in
    if nat_lt book.year a.birth_year then Some (record { rule = 92; kept = a.birth_year; bound = book.year })
    else (if is_size (formula book a) size a.family then None else Some (record { rule = 92; kept = a.family; bound = size }))

-- the same in plain numbers: at least two in the family of a dependent student; one in that of a student without
-- dependents, or two if married; at least two in that of a student with dependents, or three if married
abbrev pub HasSize : Formula → Bool → ℕ → Type 0
HasSize A married family = 2 ≤ family
HasSize B married family = family ≡ (if married then 2 else 1)
HasSize C married family = (if married then 3 else 2) ≤ family

-- an application in range: its student is born in the book's year at the latest, and its family has such a size
pub record FitsBook (book : Book) (a : Application) : Type 0 where
  pub born : a.birth_year ≤ book.year
  pub size : HasSize (formula book a) a.married a.family

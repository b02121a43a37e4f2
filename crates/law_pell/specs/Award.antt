-- The award of an application with an index (HEA 401(b); SAI and Pell Grant Eligibility Guide).
use Rattle.std.specs.Prelude.{◌≡◌, ◌⊎◌, ◌↔◌, ◌≤◌, ◌<ℤ◌, ◌≤ℤ◌, IsFalse, IsTrue, ℕ, ◌+◌, ◌*◌, ◌/◌, ◌==◌, nat_lt, ◌||◌, ◌&&◌, Bool, false, not, if◌then◌else◌, ℤ, pos, neg_ℤ, ◌+ℤ◌, ◌-ℤ◌, ◌*ℤ◌, int_le, int_lt, unsigned_abs}
use Rattle.std.specs.Int.{int_max, int_min}
use Rattle.aid_types.specs.Nearest.{to5}
use Rattle.aid_types.specs.declared.application.Application.{Application}
use Rattle.aid_types.specs.declared.application.Region.{Region}
use Rattle.aid_types.specs.declared.application.Side.{Side}
use Rattle.aid_types.specs.declared.application.Region.TheVariants.{Contiguous, Alaska, Hawaii}
use Rattle.aid_books.specs.declared.book.Book.{Book}
use Rattle.aid_books.specs.BySize.{by_size}
use Rattle.aid_books.specs.declared.by_size.BySize.{BySize}
use Rattle.aid_types.specs.Ranges.{IsWithin}
use Rattle.aid_books.specs.declared.book.PellFigures.{PellFigures}
use Rattle.aid_books.specs.declared.book.Percents.{Percents}
use Rattle.aid_books.specs.declared.book.Poverty.{Poverty}
use Rattle.aid_types.specs.declared.award.Formula.{Formula}
use Rattle.aid_types.specs.declared.award.Formula.TheVariants.{A, B, C}
use Rattle.aid_types.specs.declared.award.Way.{Way}
use Rattle.aid_types.specs.declared.award.Way.TheVariants.{Maximum, Calculated, Minimum, Nothing}
use Rattle.law_sai.specs.Formulas.{formula}
use Rattle.law_sai.specs.Indices.{index_of}
use Rattle.law_pell.specs.declared.Ceiling.{Ceiling}
use Rattle.law_pell.specs.declared.Decision.{Decision}

-- the income of one household that counts: the adjusted gross income, and under a book with a ceiling the foreign income as
-- well (HEA 401(a)(2)(A), since Public Law 119-21, section 83001)
abbrev pub counted_income : ℕ → Side → ℤ
counted_income ceiling side = if ceiling == 0 then side.agi else side.agi +ℤ side.foreign

-- the household whose income decides: the parents' for a dependent student, the student's for others (HEA 401(b)(1))
abbrev pub income : Book → Formula → Application → ℤ
income book A a = counted_income book.ceiling a.parents
income book f a = counted_income book.ceiling a.own

-- whether that household was required to file a return (HEA 401(b)(1))
abbrev pub must_file : Formula → Application → Bool
must_file A a = a.parents_file
must_file f a = a.student_file

-- a single parent: the unmarried parent of a dependent student, or an unmarried student with dependents
-- (HEA 401(b)(1))
abbrev pub is_single_parent : Formula → Application → Bool
is_single_parent A a = not a.parents_married
is_single_parent B a = false
is_single_parent C a = not a.married

-- the poverty guideline of a region by size of family (42 U.S.C. 9902(2))
abbrev pub guideline_of : Poverty → Region → BySize 1 8
guideline_of p Contiguous = p.contiguous
guideline_of p Alaska = p.alaska
guideline_of p Hawaii = p.hawaii

abbrev pub guideline : Book → Application → ℤ
guideline book a =
    let g = guideline_of book.poverty a.region in
    by_size 1 g.sizes g.extra a.family

-- the percents of the guideline up to which an award is a Maximum or a Minimum (HEA 401(b)(1))
abbrev pub maximum_percent : Percents → Formula → Application → ℤ
maximum_percent p f a = if is_single_parent f a then p.maximum_single else p.maximum_other

abbrev pub minimum_percent : Percents → Formula → Application → ℤ
minimum_percent p A a = if a.parents_married then p.minimum_dependent_other else p.minimum_dependent_single
minimum_percent p B a = p.minimum_no_dependents
minimum_percent p C a = if a.married then p.minimum_parent else p.minimum_single_parent

-- whether an income is at most so many percent of the guideline (HEA 401(b)(1))
abbrev pub is_within : ℤ → ℤ → ℤ → Bool
is_within income percent g = int_le (pos 100 *ℤ income) (percent *ℤ g)

-- a graduate student or holder of a bachelor's degree, who has no award (HEA 401(d)(1))
abbrev pub is_barred : Application → Bool
is_barred a = a.graduate || a.bachelor

-- an index at or above the book's percent of the Maximum award, where the book has a ceiling (HEA 401(b)(1), since Public
-- Law 119-21, section 83001)
unfoldable pub is_at_ceiling : Book → ℤ → Bool
is_at_ceiling book index = nat_lt 0 book.ceiling && int_le (pos book.ceiling *ℤ book.pell.maximum) (pos 100 *ℤ index)

-- the least index there
abbrev pub ceiling_bound : Book → ℕ
ceiling_bound book = (book.ceiling * unsigned_abs book.pell.maximum + 99) / 100

-- no ceiling decides
abbrev pub no_ceiling : Ceiling
no_ceiling = record { index = 0; bound = 0 }

-- an index at the ceiling with the least such index, where that is why there is no award, else 0 and 0
abbrev pub ceiling_at : Book → Application → ℤ → Ceiling
ceiling_at book a index =
    if not (is_barred a) && is_at_ceiling book index then record { index = unsigned_abs index; bound = ceiling_bound book }
    else no_ceiling

-- an income above 0 and at most so much of the guideline that the award is a Maximum (HEA 401(b)(1))
unfoldable pub is_maximum : Book → Formula → Application → Bool
is_maximum book f a = int_lt (pos 0) (income book f a) && is_within (income book f a) (maximum_percent book.percent f a) (guideline book a)

-- an income at most so much of it that the award is at least a Minimum (HEA 401(b)(1))
unfoldable pub is_minimum : Book → Formula → Application → Bool
is_minimum book f a = is_within (income book f a) (minimum_percent book.percent f a) (guideline book a)

-- the award that the index leaves of the greatest, rounded to five dollars (HEA 401(b)(1); own: the rounding)
unfoldable pub calculated : Book → ℤ → ℤ
calculated book index = to5 (book.pell.maximum -ℤ int_max index (pos 0))

-- a way, an award of so many dollars, and the final index
abbrev pub awarded : Way → ℤ → ℤ → Decision
awarded way dollars sai = record { way = way; scheduled = unsigned_abs dollars; sai = sai }

-- the six cases under a formula, the first that holds (HEA 401(b)(1); own: the final index of a Maximum, and that the ceiling
-- comes before the three ways to an award)
abbrev pub decision_under : Formula → Book → Application → ℤ → Decision
decision_under f book a index =
    if is_barred a then awarded Nothing (pos 0) index
    else (if is_at_ceiling book index then awarded Nothing (pos 0) index
    else (if must_file f a
    then (if is_maximum book f a then awarded Maximum book.pell.maximum (int_min index (pos 0))
    else (if int_le book.pell.minimum (calculated book index) then awarded Calculated (calculated book index) index
    else (if is_minimum book f a then awarded Minimum book.pell.minimum index
    else awarded Nothing (pos 0) index)))
    else awarded Maximum book.pell.maximum (neg_ℤ (pos 1500))))

-- the decision on an application with an index: way, Scheduled Award and final index (HEA 401(b))
abbrev pub decision : Book → Application → ℤ → Decision
decision book a index = decision_under (formula book a) book a index

-- the decision on an application under a book, by its own index
abbrev pub decision_of : Book → Application → Decision
decision_of book a = decision book a (index_of book a)

-- the ceiling that decides on an application by its own index
abbrev pub ceiling_of : Book → Application → Ceiling
ceiling_of book a = ceiling_at book a (index_of book a)

-- what each case says where those before it don't hold
pub record IsDecidedByCase (f : Formula) (book : Book) (a : Application) (index : ℤ) (d : Decision) : Type 0 where
  pub barred : IsTrue (is_barred a) → d ≡ awarded Nothing (pos 0) index
  pub ceiling : IsFalse (is_barred a) → 1 ≤ book.ceiling → (pos book.ceiling *ℤ book.pell.maximum) ≤ℤ (pos 100 *ℤ index)
      → d ≡ awarded Nothing (pos 0) index
  pub not_required : IsFalse (is_barred a) → IsFalse (is_at_ceiling book index) → IsFalse (must_file f a)
      → d ≡ awarded Maximum book.pell.maximum (neg_ℤ (pos 1500))
  pub maximum : IsFalse (is_barred a) → IsFalse (is_at_ceiling book index) → IsTrue (must_file f a) → IsTrue (is_maximum book f a)
      → d ≡ awarded Maximum book.pell.maximum (int_min index (pos 0))
  pub by_index : IsFalse (is_barred a) → IsFalse (is_at_ceiling book index) → IsTrue (must_file f a) → IsFalse (is_maximum book f a)
      → book.pell.minimum ≤ℤ calculated book index → d ≡ awarded Calculated (calculated book index) index
  pub minimum : IsFalse (is_barred a) → IsFalse (is_at_ceiling book index) → IsTrue (must_file f a) → IsFalse (is_maximum book f a)
      → calculated book index <ℤ book.pell.minimum → IsTrue (is_minimum book f a) → d ≡ awarded Minimum book.pell.minimum index
  pub nothing : IsFalse (is_barred a) → IsFalse (is_at_ceiling book index) → IsTrue (must_file f a) → IsFalse (is_maximum book f a)
      → calculated book index <ℤ book.pell.minimum → IsFalse (is_minimum book f a) → d ≡ awarded Nothing (pos 0) index

-- a ceiling is told by an index and the least that it takes, above 0 and no greater; or it isn't, by 0 and 0
pub record IsTold (book : Book) (a : Application) (index : ℤ) (told : Ceiling) : Type 0 where
  pub none : book.ceiling ≡ 0 → told ≡ no_ceiling
  pub decides : IsFalse (is_barred a) → IsTrue (is_at_ceiling book index) → 1 ≤ told.index
  pub kept : 1 ≤ told.index → index ≡ pos told.index
  pub bounded : 1 ≤ told.index → 1 ≤ told.bound
  pub above : told.bound ≤ told.index
  pub least : 1 ≤ told.bound → (other : ℤ) → pos told.bound ≤ℤ other ↔ IsTrue (is_at_ceiling book other)
  pub unawarded : 1 ≤ told.index → (decision book a index).scheduled ≡ 0

-- own: the greatest award there is: the maximum, or the multiple of five nearest to it if that is above it, by at most two dollars
abbrev pub greatest_award : PellFigures → ℤ
greatest_award pell = int_max pell.maximum (to5 pell.maximum)

-- a Scheduled Award is 0, or from the minimum to the greatest award
abbrev pub IsScheduledAward : PellFigures → ℕ → Type 0
IsScheduledAward pell n = (n ≡ 0) ⊎ IsWithin pell.minimum (greatest_award pell) (pos n)

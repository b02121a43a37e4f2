use Rattle.std.proofs.Common.{ℕ, pos, ◌≤◌, List, length, All}
use Rattle.aid_types.specs.Nearest.{share}
use Rattle.aid_books.specs.Ages.{IsAgeRow, IsByAge}
use Rattle.aid_books.specs.Marginal.{IsBracket, IsMarginal}
use Rattle.aid_types.specs.Ranges.{IsBetween}
use Rattle.aid_books.specs.ValidBook.{AreAmountsBySize, IsAgeTable, IsBracketTable, IsValidBook}
use Rattle.aid_books.specs.declared.ages.AgeRow.{AgeRow}
use Rattle.aid_books.specs.declared.book.Book.{Book}
use Rattle.aid_books.specs.declared.by_size.BySize.{BySize}
use Rattle.aid_books.specs.declared.marginal.Bracket.{Bracket}
use Rattle.aid_books.proofs.RangeLemmas.{All-EachIsAmount}
use Rattle.aid_books.proofs.TableLemmas.{IsMarginal-Follows, IsMarginal-length, IsByAge-rises, IsByAge-length, first_row, first_row_at}
use Rattle.aid_books.proofs.book.Book.valid.Goals as goal

bracket_table : (rows : List Bracket) → length rows ≤ 16 → All IsBracket rows → IsMarginal rows → IsBracketTable rows
bracket_table rows few in_range marginal = record {
  count = (IsMarginal-length rows marginal, few);
  in_range = in_range;
  rises = λ k row next n. (IsMarginal-Follows rows marginal k row next n).rises;
  goes_on = λ k row next n. (IsMarginal-Follows rows marginal k row next n).goes_on;
}

age_table : (rows : List AgeRow) → length rows ≤ 64 → All IsAgeRow rows → IsByAge rows → IsAgeTable rows
age_table rows few in_range by_age = record {
  count = (IsByAge-length rows by_age, few);
  in_range = in_range;
  rises = IsByAge-rises rows by_age;
}

by_size : (first count : ℕ) (b : BySize first count) → AreAmountsBySize first count b
by_size first count b = record { sizes = All-EachIsAmount b.sizes b.sizes_in_range; extra = b.extra_in_range }

-- a book is valid by its own facts, and those of its year and its tables
valid_book : (b : Book) → IsBetween 2000 2099 b.year → IsBracketTable b.business → IsAgeTable b.age → IsBracketTable b.bracket → IsValidBook b
valid_book b year business age bracket = record {
  year = year;
  pell = record { maximum = b.pell.maximum_in_range; minimum = b.pell.minimum_in_range };
  percent = let h = b.percent.in_range in record { maximum_single = h.0; maximum_other = h.1; minimum_dependent_single = h.2; minimum_dependent_other = h.3; minimum_single_parent = h.4; minimum_parent = h.5; minimum_no_dependents = h.6 };
  contiguous = by_size 1 8 b.poverty.contiguous;
  alaska = by_size 1 8 b.poverty.alaska;
  hawaii = by_size 1 8 b.poverty.hawaii;
  payroll = let a = b.payroll.amounts_in_range in let r = b.payroll.rates_in_range in record { oasdi_cap = a.0; oasdi_rate = r.0; medicare_rate = r.1; medicare_high = r.2; threshold_single = a.1; threshold_married = a.2 };
  protection = let h = b.protection.in_range in record { parents = by_size 2 5 b.protection.parents; dependent_student = h.0; single_student = h.1; married_student = h.2; single_parent = by_size 2 5 b.protection.single_parent; married_parent = by_size 2 5 b.protection.married_parent };
  employment = let h = b.employment.in_range in record { cap = h.0; rate = h.1 };
  assets = let h = b.assets.in_range in record { parents_rate = h.0; dependent_rate = h.1; no_dependents_rate = h.2; with_dependents_rate = h.3 };
  business = business;
  business_first = λ row is. (first_row_at (λ (r : Bracket). r.over) (pos 0) b.business row b.business_over is, first_row_at (λ (r : Bracket). r.base) (pos 0) b.business row b.business_base is);
  age = age;
  age_first = λ row is. first_row_at (λ (r : AgeRow). r.start) (pos 0) b.age row b.age_start is;
  schedule = let h = b.schedule.in_range in record { low_at = h.0; low = h.1; first_rate = h.2; student_rate = h.3; lowest_student = h.4 };
  bracket = bracket;
  bracket_first = λ row is. first_row (λ (r : Bracket). r.base) (λ (r : Bracket). share r.over b.schedule.first_rate) b.bracket row b.bracket_base is;
  ceiling = b.ceiling_in_range;
}

pub returns : goal.returns
returns c =
    let b = c.args.self.now in
    let x = c.as_slice-business.ensures in
    let y = c.as_slice-age.ensures in
    let z = c.as_slice-bracket.ensures in
    valid_book b c.number-year.ensures.in_range
    (bracket_table b.business x.few x.in_range x.marginal)
    (age_table b.age y.few y.in_range y.by_age)
    (bracket_table b.bracket z.few z.in_range z.marginal)

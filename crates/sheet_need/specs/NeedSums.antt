-- That the lines of the households of a worksheet add up. Own.
use Rattle.std.specs.Prelude.{◌≡◌, ⊤, ℤ, pos, ◌+ℤ◌, ◌-ℤ◌, List, [], ◌∷◌}
use Rattle.aid_books.specs.declared.book.Book.{Book}
use Rattle.aid_types.specs.declared.application.Application.{Application}
use Rattle.aid_types.specs.declared.award.Formula.{Formula}
use Rattle.aid_types.specs.declared.award.Formula.TheVariants.{A, B, C}
use Rattle.law_sai.specs.declared.IndexLines.{IndexLines}
use Rattle.sheet_need.specs.declared.entry.Entry.{Entry}
use Rattle.sheet_need.specs.declared.entry.Figure.{Figure}
use Rattle.sheet_need.specs.declared.entry.Figure.TheVariants.{Worked, Dollars, Answer}
use Rattle.sheet_need.specs.declared.entry.Mark.{Mark}
use Rattle.sheet_need.specs.declared.entry.Mark.TheVariants.{Blank, Equals, Plus, Minus}
use Rattle.sheet_need.specs.NeedEntries.{dependent_entries, family_entries, parent_entries, single_entries}

-- what a figure counts
abbrev pub counted : Figure → ℤ
counted (Worked n) = n
counted (Dollars n) = n
counted (Answer b) = pos 0

-- the sum with a line: one without a mark begins anew
abbrev pub sum_with : Mark → ℤ → ℤ → ℤ
sum_with Blank sum n = n
sum_with Plus sum n = sum +ℤ n
sum_with Minus sum n = sum -ℤ n
sum_with Equals sum n = n

-- a line with ` = ` tells the sum of those above it
abbrev pub Tells : Mark → ℤ → ℤ → Type 0
Tells Equals sum n = n ≡ sum
Tells mark sum n = ⊤

-- so does each of the lines, below such a sum
abbrev pub AddUp : ℤ → List Entry → Type 0
AddUp sum [] = ⊤
AddUp sum (e ∷ es) = Tells e.mark sum (counted e.figure) × AddUp (sum_with e.mark sum (counted e.figure)) es

-- and each of those of the households of a formula
abbrev pub HouseholdsAddUp : Formula → Book → Application → IndexLines → Type 0
HouseholdsAddUp A book a l = AddUp (pos 0) (parent_entries book a l) × AddUp (pos 0) (dependent_entries book a l)
HouseholdsAddUp B book a l = AddUp (pos 0) (single_entries book a l)
HouseholdsAddUp C book a l = AddUp (pos 0) (family_entries book a l)

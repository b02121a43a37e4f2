-- The words of a worksheet's lines. Own format.
use Rattle.std.specs.Prelude.{ℕ, List, [], ◌++◌, codes, unsigned_abs}
use Rattle.aid_types.specs.Cents.{cents_text}
use Rattle.aid_types.specs.Whole.{whole_text}
use Rattle.aid_types.specs.Words.{way_text}
use Rattle.sheet_need.specs.declared.entry.Label.{Label}
use Rattle.sheet_need.specs.declared.entry.Label.TheVariants.{Agi, Ira, Interest, IraUntaxed, Pension, Foreign, Grants, Credits, WorkStudy, TotalIncome, Tax, Payroll, Protection, FamilyProtection, Employment, Shortfall, Allowances, Available, FromIncome, LeastFromIncome, Support, Cash, Investments, Business, AdjustedBusiness, NetWorth, AssetProtection, Discretionary, FromAssets, NoneFromAssets, Adjusted, BySchedule, Contributions, Index, Ceiling, ParentsMustFile, StudentMustFile, Barred, ParentsAgi, StudentAgi, ParentsAgiAndForeign, StudentAgiAndForeign, Guideline, MaximumUpTo, MinimumUpTo, Calculated, CalculatedAtZero, MinimumAward, Scheduled, FinalIndex}
use Rattle.sheet_need.specs.declared.entry.Mark.{Mark}
use Rattle.sheet_need.specs.declared.entry.Mark.TheVariants.{Blank, Equals, Plus, Minus}
use Rattle.sheet_need.specs.declared.entry.Part.{Part}
use Rattle.sheet_need.specs.declared.entry.Part.TheVariants.{Empty, Number, Rate, WayTaken}

abbrev pub mark_text : Mark → List ℕ
mark_text Blank = codes "   "
mark_text Equals = codes " = "
mark_text Plus = codes " + "
mark_text Minus = codes " - "

-- the words before what stands within them
abbrev pub words_before : Label → List ℕ
words_before Agi = codes "adjusted gross income"
words_before Ira = codes "deductions for retirement savings"
words_before Interest = codes "tax-exempt interest"
words_before IraUntaxed = codes "untaxed distributions of retirement savings"
words_before Pension = codes "untaxed pensions"
words_before Foreign = codes "foreign income that isn't taxed"
words_before Grants = codes "taxable grants and scholarships"
words_before Credits = codes "education credits"
words_before WorkStudy = codes "earnings of work-study"
words_before TotalIncome = codes "total income"
words_before Tax = codes "income tax, where above 0"
words_before Payroll = codes "payroll tax allowance"
words_before Protection = codes "income protection"
words_before FamilyProtection = codes "income protection, family of "
words_before Employment = codes "employment expense allowance"
words_before Shortfall = codes "parents' adjusted income below 0"
words_before Allowances = codes "allowances"
words_before Available = codes "available income"
words_before FromIncome = codes "contribution from income, "
words_before LeastFromIncome = codes "least contribution from income"
words_before Support = codes "child support received"
words_before Cash = codes "cash, savings and checking"
words_before Investments = codes "net worth of investments"
words_before Business = codes "net worth of a business"
words_before AdjustedBusiness = codes "adjusted net worth of a business"
words_before NetWorth = codes "net worth"
words_before AssetProtection = codes "asset protection allowance, age "
words_before Discretionary = codes "discretionary net worth"
words_before FromAssets = codes "contribution from assets, "
words_before NoneFromAssets = codes "contribution from assets, none below 0"
words_before Adjusted = codes "adjusted available income"
words_before BySchedule = codes "contribution, by the schedule"
words_before Contributions = codes "sum of the contributions"
words_before Index = codes "Student Aid Index, -1500 to 999999"
words_before Ceiling = codes "ceiling: no award from this index on"
words_before ParentsMustFile = codes "parents required to file a tax return"
words_before StudentMustFile = codes "student required to file a tax return"
words_before Barred = codes "graduate student, or has a bachelor's degree"
words_before ParentsAgi = codes "parents' adjusted gross income"
words_before StudentAgi = codes "student's adjusted gross income"
words_before ParentsAgiAndForeign = codes "parents' adjusted gross and foreign income"
words_before StudentAgiAndForeign = codes "student's adjusted gross and foreign income"
words_before Guideline = codes "poverty guideline, family of "
words_before MaximumUpTo = codes "maximum award up to "
words_before MinimumUpTo = codes "minimum award up to "
words_before Calculated = []
words_before CalculatedAtZero = []
words_before MinimumAward = codes "minimum award of the year"
words_before Scheduled = codes "Scheduled Award: "
words_before FinalIndex = codes "final Student Aid Index"

-- and behind it
abbrev pub words_behind : Label → List ℕ
words_behind FromIncome = codes " percent"
words_behind FromAssets = codes " percent"
words_behind MaximumUpTo = codes " percent"
words_behind MinimumUpTo = codes " percent"
words_behind Calculated = codes " less the index, to the nearest 5"
words_behind CalculatedAtZero = codes " less 0 for the index, to the nearest 5"
words_behind _ = []

-- what stands within the words
abbrev pub part_text : Part → List ℕ
part_text Empty = []
part_text (Number n) = whole_text n
part_text (Rate rate) = cents_text (unsigned_abs rate)
part_text (WayTaken way) = way_text way

abbrev pub words_text : Label → Part → List ℕ
words_text label part = words_before label ++ part_text part ++ words_behind label

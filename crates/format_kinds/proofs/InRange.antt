-- The numbers of a book are in range.
use Rattle.std.proofs.Common.{◌≡◌, ℕ, zero, suc, ◌≤◌, ℤ, pos, int_le, int_lt, true, ◌&&◌, List, [], ◌∷◌, ◌++◌, length, IsTrue, Some, option_map, codes, refl, sym, subst, neg_ℤ, arith}
use Rattle.std.specs.Prelude.{flat_map, slice_get}
use Rattle.std.specs.List.{All, list_all}
use Rattle.std.specs.Ordering.{int_eq}
use Rattle.std.proofs.lemmas.Bool.{and_parts, and_from, true≢false}
use Rattle.std.proofs.lemmas.Bool.Decides.{Decides-int_eq}
use Rattle.std.proofs.lemmas.Int.{ints}
use Rattle.aid_types.proofs.SignedLemmas.{int_le-true}
use Rattle.aid_types.specs.Nearest.{share}
use Rattle.aid_types.specs.Ranges.{EachIsAmount, IsAmount, IsBetween, IsWithin, is_amount}
use Rattle.aid_books.specs.Ages.{IsAgeRow, IsByAge, rises_from}
use Rattle.aid_books.specs.Marginal.{IsBracket, IsMarginal, goes_on, row_value}
use Rattle.aid_books.specs.declared.ages.AgeRow.{AgeRow}
use Rattle.aid_books.proofs.RangeLemmas.{is_amount-true}
use Rattle.aid_books.specs.declared.by_size.BySize.{BySize}
use Rattle.aid_books.specs.declared.book.AssetRates.{AssetRates}
use Rattle.aid_books.specs.declared.book.Book.{Book}
use Rattle.aid_books.specs.declared.book.Employment.{Employment}
use Rattle.aid_books.specs.declared.book.Payroll.{Payroll}
use Rattle.aid_books.specs.declared.book.PellFigures.{PellFigures}
use Rattle.aid_books.specs.declared.book.Percents.{Percents}
use Rattle.aid_books.specs.declared.book.Poverty.{Poverty}
use Rattle.aid_books.specs.declared.book.Protection.{Protection}
use Rattle.aid_books.specs.declared.book.Schedule.{Schedule}
use Rattle.aid_books.specs.declared.marginal.Bracket.{Bracket}
use Rattle.format_kinds.proofs.Amounts.{amount_limit, is_amount_limit, is_amount_slot}
use Rattle.format_kinds.proofs.Behind.{onto}
use Rattle.format_kinds.proofs.Chain.{after_age, after_assets, after_business, after_employment, after_payroll, after_pell, after_percent, after_poverty, after_protection, after_year, form_put, length-poverty, length-protection}
use Rattle.format_kinds.proofs.Plain.{before_plain, is_plain}
use Rattle.format_kinds.proofs.RowsOf.{age_lines, bracket_lines}
use Rattle.format_kinds.specs.Book.{age_numbers, age_row, asset_numbers, bracket_numbers, bracket_row, ceiling_numbers, employment_numbers, form_number, numbers_of, payroll_numbers, pell_numbers, percent_numbers, poverty_numbers, protection_numbers, schedule_numbers, size_numbers}
use Rattle.format_kinds.specs.Sections.{age_slots, asset_slots, bracket_slots, business_slots, employment_slots, last_slots, payroll_slots, pell_slots, percent_slots, poverty_slots, protection_slots, schedule_slots, year_slots}
use Rattle.format_kinds.specs.Kinds.{book_slots}
use Rattle.format_table.specs.declared.field.Limit.{Limit}
use Rattle.format_table.specs.Layout.{AreNumbers, rows_again}
use Rattle.format_table.specs.Limits.{before, fits, is_between}
use Rattle.format_table.specs.Parts.{Slot}

pub between : (low high z : ℤ) → IsWithin low high z → is_between low high z ≡ true
between low high z h = and_from (int_le low z) (int_le z high) (int_le-true low z h.0) (int_le-true z high h.1)

head : {X : Type 0} (P : X → Type 0) (x : X) (xs : List X) → All P (x ∷ xs) → P x
head P x xs h = h zero x (omega arith)

tail : {X : Type 0} (P : X → Type 0) (x : X) (xs : List X) → All P (x ∷ xs) → All P xs
tail P x xs h = λ k d l. h (suc k) d (omega (arith, l))

-- rows of a table, each after the one before it
later_brackets : (name : List ℕ) (slots : List Slot) (zs : List ℤ) (row : Bracket) (rows : List Bracket) (earlier : List ℤ) → All IsBracket rows → goes_on row rows ≡ true
    → AreNumbers slots (onto (flat_map bracket_row rows) (row.rate ∷ row.base ∷ row.over ∷ earlier)) zs
    → AreNumbers (rows_again (length rows) (bracket_lines name) ++ slots) (row.rate ∷ row.base ∷ row.over ∷ earlier) (flat_map bracket_row rows ++ zs)
later_brackets name slots zs row [] earlier h g n = n
later_brackets name slots zs row (next ∷ rows) earlier h g n =
    let first = head IsBracket next rows h in
    let parts = and_parts (int_lt row.over next.over && int_eq next.base (row_value row next.over)) (goes_on next rows) g in
    let both = and_parts (int_lt row.over next.over) (int_eq next.base (row_value row next.over)) parts.0 in (
      and_from (int_lt row.over next.over) (int_le next.over (pos 99999999)) both.0 (int_le-true next.over (pos 99999999) first.over.1),
      (
        and_from (int_eq next.base (row_value row next.over)) (is_between (pos 0) (pos 99999999) next.base) both.1 (between (pos 0) (pos 99999999) next.base first.base),
        (
          between (pos 0) (pos 10000) next.rate first.rate,
          later_brackets name slots zs next rows (row.rate ∷ row.base ∷ row.over ∷ earlier) (tail IsBracket next rows h) parts.1 n,
        ),
      ),
    )

later_ages : (slots : List Slot) (zs : List ℤ) (row : AgeRow) (rows : List AgeRow) (earlier : List ℤ) → All IsAgeRow rows → rises_from row rows ≡ true
    → AreNumbers slots (onto (flat_map age_row rows) (row.married ∷ row.single ∷ row.start ∷ earlier)) zs
    → AreNumbers (rows_again (length rows) age_lines ++ slots) (row.married ∷ row.single ∷ row.start ∷ earlier) (flat_map age_row rows ++ zs)
later_ages slots zs row [] earlier h g n = n
later_ages slots zs row (next ∷ rows) earlier h g n =
    let first = head IsAgeRow next rows h in
    let parts = and_parts (int_lt row.start next.start) (rises_from next rows) g in (
      and_from (int_lt row.start next.start) (int_le next.start (pos 120)) parts.0 (int_le-true next.start (pos 120) first.start.1),
      (
        between (pos 0) (pos 99999999) next.single first.single,
        (
          between (pos 0) (pos 99999999) next.married first.married,
          later_ages slots zs next rows (row.married ∷ row.single ∷ row.start ∷ earlier) (tail IsAgeRow next rows h) parts.1 n,
        ),
      ),
    )

zero_between : (z : ℤ) → Some z ≡ Some (pos 0) → is_between (pos 0) (pos 0) z ≡ true
zero_between z e = let same : z ≡ pos 0 = cc in subst (λ (x : ℤ). is_between (pos 0) (pos 0) x ≡ true) (sym same) refl

count_between : (high n : ℕ) → suc n ≤ high → is_between (pos 1) (pos high) (pos (suc n)) ≡ true
count_between high n h = between (pos 1) (pos high) (pos (suc n)) (omega (arith, ints), omega (arith, ints))

pub business_put : (rows : List Bracket) (slots : List Slot) (earlier zs : List ℤ) → length rows ≤ 16 → All IsBracket rows → IsMarginal rows
    → option_map (λ row. row.over) (slice_get rows 0) ≡ Some (pos 0) → option_map (λ row. row.base) (slice_get rows 0) ≡ Some (pos 0)
    → AreNumbers slots (onto (bracket_numbers rows) earlier) zs → AreNumbers (business_slots ++ slots) earlier (bracket_numbers rows ++ zs)
business_put [] slots earlier zs few h m over base n = cc
business_put (row ∷ rows) slots earlier zs few h m over base n = (
  count_between 16 (length rows) few,
  (
    zero_between row.over over,
    (
      zero_between row.base base,
      (
        between (pos 0) (pos 10000) row.rate (head IsBracket row rows h).rate,
        later_brackets (codes "business") slots zs row rows (pos (suc (length rows)) ∷ earlier) (tail IsBracket row rows h) m n,
      ),
    ),
  ),
)

pub age_put : (rows : List AgeRow) (slots : List Slot) (earlier zs : List ℤ) → length rows ≤ 64 → All IsAgeRow rows → IsByAge rows
    → option_map (λ row. row.start) (slice_get rows 0) ≡ Some (pos 0)
    → AreNumbers slots (onto (age_numbers rows) earlier) zs → AreNumbers (age_slots ++ slots) earlier (age_numbers rows ++ zs)
age_put [] slots earlier zs few h m start n = cc
age_put (row ∷ rows) slots earlier zs few h m start n =
    let first = head IsAgeRow row rows h in (
      count_between 64 (length rows) few,
      (
        zero_between row.start start,
        (
          between (pos 0) (pos 99999999) row.single first.single,
          (
            between (pos 0) (pos 99999999) row.married first.married,
            later_ages slots zs row rows (pos (suc (length rows)) ∷ earlier) (tail IsAgeRow row rows h) m n,
          ),
        ),
      ),
    )

same_base : (base value : ℤ) → Some base ≡ Some value → IsAmount base → (int_eq base value && is_between (pos 0) (pos 99999999) base) ≡ true
same_base base value e h =
    let same : base ≡ value = cc in
    and_from (int_eq base value) (is_between (pos 0) (pos 99999999) base) ((Decides-int_eq base value).1 same) (between (pos 0) (pos 99999999) base h)

pub bracket_put : (rows : List Bracket) (slots : List Slot) (earlier zs : List ℤ) → length rows ≤ 16 → All IsBracket rows → IsMarginal rows
    → option_map (λ row. row.base) (slice_get rows 0) ≡ option_map (λ row. share row.over (before earlier 2)) (slice_get rows 0)
    → AreNumbers slots (onto (bracket_numbers rows) earlier) zs → AreNumbers (bracket_slots ++ slots) earlier (bracket_numbers rows ++ zs)
bracket_put [] slots earlier zs few h m base n = absurd (true≢false (sym m))
bracket_put (row ∷ rows) slots earlier zs few h m base n =
    let first = head IsBracket row rows h in (
      count_between 16 (length rows) few,
      (
        between (pos 0) (pos 99999999) row.over first.over,
        (
          same_base row.base (share row.over (before earlier 2)) base first.base,
          (
            between (pos 0) (pos 10000) row.rate first.rate,
            later_brackets (codes "bracket") slots zs row rows (pos (suc (length rows)) ∷ earlier) (tail IsBracket row rows h) m n,
          ),
        ),
      ),
    )

-- amounts in place of so many fields that are amounts
pub amounts_put : (slots later : List Slot) (earlier xs zs : List ℤ) → list_all is_amount_slot slots ≡ true → length xs ≡ length slots → EachIsAmount xs
    → AreNumbers later (onto xs earlier) zs → AreNumbers (slots ++ later) earlier (xs ++ zs)
amounts_put [] later earlier [] zs h e a n = n
amounts_put [] later earlier (x ∷ xs) zs h e a n = absurd (omega arith)
amounts_put (slot ∷ slots) later earlier [] zs h e a n = absurd (omega arith)
amounts_put (slot ∷ slots) later earlier (x ∷ xs) zs h e a n =
    let both = and_parts (is_amount_slot slot) (list_all is_amount_slot slots) h in
    let here = and_parts (is_amount_limit slot.line.limit) (is_plain slot) both.0 in
    let each = and_parts (is_amount x) (list_all is_amount xs) a in (
      subst (λ (l : Limit). IsTrue (fits l earlier x)) (sym (amount_limit slot.line.limit here.0)) each.0,
      before_plain slot (slots ++ later) (x ∷ earlier) (xs ++ zs) x here.1 (amounts_put slots later (x ∷ earlier) xs zs both.1 (omega arith) each.1 n),
    )

each_append : (xs ys : List ℤ) → EachIsAmount xs → EachIsAmount ys → EachIsAmount (xs ++ ys)
each_append [] ys a b = b
each_append (x ∷ xs) ys a b =
    let each = and_parts (is_amount x) (list_all is_amount xs) a in
    and_from (is_amount x) (list_all is_amount (xs ++ ys)) each.0 (each_append xs ys each.1 b)

each_one : (x : ℤ) → IsAmount x → EachIsAmount (x ∷ [])
each_one x h = and_from (is_amount x) true (is_amount-true x h) refl

each_more : (x : ℤ) (xs : List ℤ) → IsAmount x → EachIsAmount xs → EachIsAmount (x ∷ xs)
each_more x xs h k = and_from (is_amount x) (list_all is_amount xs) (is_amount-true x h) k

size_amounts : {first count : ℕ} (x : BySize first count) → EachIsAmount (size_numbers x)
size_amounts x = each_append x.sizes (x.extra ∷ []) x.sizes_in_range (each_one x.extra x.extra_in_range)

poverty_amounts : (x : Poverty) → EachIsAmount (poverty_numbers x)
poverty_amounts x =
    each_append (size_numbers x.contiguous) (size_numbers x.alaska ++ size_numbers x.hawaii) (size_amounts x.contiguous)
    (each_append (size_numbers x.alaska) (size_numbers x.hawaii) (size_amounts x.alaska) (size_amounts x.hawaii))

protection_amounts : (x : Protection) → EachIsAmount (protection_numbers x)
protection_amounts x =
    let rest = size_numbers x.single_parent ++ size_numbers x.married_parent in
    each_append (size_numbers x.parents) (x.dependent_student ∷ x.single_student ∷ x.married_student ∷ rest) (size_amounts x.parents)
    (each_more x.dependent_student (x.single_student ∷ x.married_student ∷ rest) x.in_range.0
    (each_more x.single_student (x.married_student ∷ rest) x.in_range.1
    (each_more x.married_student rest x.in_range.2
    (each_append (size_numbers x.single_parent) (size_numbers x.married_parent) (size_amounts x.single_parent) (size_amounts x.married_parent)))))

-- the form, and the ceiling, which stands in form 2 alone
form_between : (ceiling : ℕ) → is_between (pos 1) (pos 2) (form_number ceiling) ≡ true
form_between zero = refl
form_between (suc n) = refl

ceiling_put : (ceiling : ℕ) (earlier : List ℤ) → ceiling ≤ 9999 → AreNumbers (last_slots (form_number ceiling)) earlier (ceiling_numbers ceiling)
ceiling_put zero earlier h = tt
ceiling_put (suc n) earlier h = (count_between 9999 n h, tt)

year_put : (year : ℕ) (slots : List Slot) (earlier zs : List ℤ) → IsBetween 2000 2099 year → AreNumbers slots (pos year ∷ earlier) zs → AreNumbers (year_slots ++ slots) earlier (pos year ∷ zs)
year_put year slots earlier zs h n = (between (pos 2000) (pos 2099) (pos year) (omega (arith, ints, h.0), omega (arith, ints, h.1)), n)

pell_put : (x : PellFigures) (slots : List Slot) (earlier zs : List ℤ) → AreNumbers slots (onto (pell_numbers x) earlier) zs → AreNumbers (pell_slots ++ slots) earlier (pell_numbers x ++ zs)
pell_put x slots earlier zs n = (between (pos 1) (pos 99999) x.maximum x.maximum_in_range, (between (pos 1) x.maximum x.minimum x.minimum_in_range, n))

percent_put : (x : Percents) (slots : List Slot) (earlier zs : List ℤ) → AreNumbers slots (onto (percent_numbers x) earlier) zs → AreNumbers (percent_slots ++ slots) earlier (percent_numbers x ++ zs)
percent_put x slots earlier zs n = (
  between (pos 1) (pos 9999) x.maximum_single x.in_range.0,
  (
    between (pos 1) (pos 9999) x.maximum_other x.in_range.1,
    (
      between (pos 1) (pos 9999) x.minimum_dependent_single x.in_range.2,
      (
        between (pos 1) (pos 9999) x.minimum_dependent_other x.in_range.3,
        (
          between (pos 1) (pos 9999) x.minimum_single_parent x.in_range.4,
          (
            between (pos 1) (pos 9999) x.minimum_parent x.in_range.5,
            (between (pos 1) (pos 9999) x.minimum_no_dependents x.in_range.6, n),
          ),
        ),
      ),
    ),
  ),
)

payroll_put : (x : Payroll) (slots : List Slot) (earlier zs : List ℤ) → AreNumbers slots (onto (payroll_numbers x) earlier) zs → AreNumbers (payroll_slots ++ slots) earlier (payroll_numbers x ++ zs)
payroll_put x slots earlier zs n = (
  between (pos 0) (pos 99999999) x.oasdi_cap x.amounts_in_range.0,
  (
    between (pos 0) (pos 10000) x.oasdi_rate x.rates_in_range.0,
    (
      between (pos 0) (pos 10000) x.medicare_rate x.rates_in_range.1,
      (
        between (pos 0) (pos 10000) x.medicare_high x.rates_in_range.2,
        (between (pos 0) (pos 99999999) x.threshold_single x.amounts_in_range.1, (between (pos 0) (pos 99999999) x.threshold_married x.amounts_in_range.2, n)),
      ),
    ),
  ),
)

employment_put : (x : Employment) (slots : List Slot) (earlier zs : List ℤ) → AreNumbers slots (onto (employment_numbers x) earlier) zs → AreNumbers (employment_slots ++ slots) earlier (employment_numbers x ++ zs)
employment_put x slots earlier zs n = (between (pos 0) (pos 99999999) x.cap x.in_range.0, (between (pos 0) (pos 10000) x.rate x.in_range.1, n))

asset_put : (x : AssetRates) (slots : List Slot) (earlier zs : List ℤ) → AreNumbers slots (onto (asset_numbers x) earlier) zs → AreNumbers (asset_slots ++ slots) earlier (asset_numbers x ++ zs)
asset_put x slots earlier zs n = (
  between (pos 0) (pos 10000) x.parents_rate x.in_range.0,
  (
    between (pos 0) (pos 10000) x.dependent_rate x.in_range.1,
    (between (pos 0) (pos 10000) x.no_dependents_rate x.in_range.2, (between (pos 0) (pos 10000) x.with_dependents_rate x.in_range.3, n)),
  ),
)

schedule_put : (x : Schedule) (slots : List Slot) (earlier zs : List ℤ) → AreNumbers slots (onto (schedule_numbers x) earlier) zs → AreNumbers (schedule_slots ++ slots) earlier (schedule_numbers x ++ zs)
schedule_put x slots earlier zs n = (
  between (neg_ℤ (pos 999999)) (pos 0) x.low_at x.in_range.0,
  (
    between (neg_ℤ (pos 999999)) (pos 0) x.low x.in_range.1,
    (
      between (pos 0) (pos 10000) x.first_rate x.in_range.2,
      (
        between (pos 0) (pos 10000) x.student_rate x.in_range.3,
        (between (neg_ℤ (pos 999999)) (pos 0) x.lowest_student x.in_range.4, n),
      ),
    ),
  ),
)

-- what is known of the tables of a book
pub record IsBracketList (rows : List Bracket) : Type 0 where
  pub few : length rows ≤ 16
  pub in_range : All IsBracket rows
  pub marginal : IsMarginal rows

pub record IsAgeList (rows : List AgeRow) : Type 0 where
  pub few : length rows ≤ 64
  pub in_range : All IsAgeRow rows
  pub by_age : IsByAge rows

pub book_in_range : (b : Book) → IsBetween 2000 2099 b.year → IsBracketList b.business → IsAgeList b.age → IsBracketList b.bracket
    → (earlier : List ℤ) → AreNumbers book_slots earlier (numbers_of b)
unfolding numbers_of after_year after_pell after_percent after_poverty after_payroll after_protection after_employment after_assets after_business after_age
book_in_range b year business age bracket earlier =
    let form = form_number b.ceiling in
    let tail = last_slots form in
    let e0 = pos b.year ∷ form ∷ earlier in
    let e1 = onto (pell_numbers b.pell) e0 in
    let e2 = onto (percent_numbers b.percent) e1 in
    let e3 = onto (poverty_numbers b.poverty) e2 in
    let e4 = onto (payroll_numbers b.payroll) e3 in
    let e5 = onto (protection_numbers b.protection) e4 in
    let e6 = onto (employment_numbers b.employment) e5 in
    let e7 = onto (asset_numbers b.assets) e6 in
    let e8 = onto (bracket_numbers b.business) e7 in
    let e9 = onto (age_numbers b.age) e8 in
    let e10 = onto (schedule_numbers b.schedule) e9 in
    let e11 = onto (bracket_numbers b.bracket) e10 in
    let z11 = ceiling_numbers b.ceiling in
    let z10 = bracket_numbers b.bracket ++ z11 in
    let z9 = schedule_numbers b.schedule ++ z10 in
    let z8 = age_numbers b.age ++ z9 in
    let z7 = bracket_numbers b.business ++ z8 in
    let z6 = asset_numbers b.assets ++ z7 in
    let z5 = employment_numbers b.employment ++ z6 in
    let z4 = protection_numbers b.protection ++ z5 in
    let z3 = payroll_numbers b.payroll ++ z4 in
    let z2 = poverty_numbers b.poverty ++ z3 in
    let z1 = percent_numbers b.percent ++ z2 in
    let z0 = pell_numbers b.pell ++ z1 in
    form_put form earlier (pos b.year ∷ z0) (form_between b.ceiling) (
    year_put b.year (after_year tail) (form ∷ earlier) z0 year (
    pell_put b.pell (after_pell tail) e0 z1 (
    percent_put b.percent (after_percent tail) e1 z2 (
    amounts_put poverty_slots (after_poverty tail) e2 (poverty_numbers b.poverty) z3 refl (length-poverty b.poverty) (poverty_amounts b.poverty) (
    payroll_put b.payroll (after_payroll tail) e3 z4 (
    amounts_put protection_slots (after_protection tail) e4 (protection_numbers b.protection) z5 refl (length-protection b.protection) (protection_amounts b.protection) (
    employment_put b.employment (after_employment tail) e5 z6 (
    asset_put b.assets (after_assets tail) e6 z7 (
    business_put b.business (after_business tail) e7 z8 business.few business.in_range business.marginal b.business_over b.business_base (
    age_put b.age (after_age tail) e8 z9 age.few age.in_range age.by_age b.age_start (
    schedule_put b.schedule (bracket_slots ++ tail) e9 z10 (
    bracket_put b.bracket tail e10 z11 bracket.few bracket.in_range bracket.marginal b.bracket_base (
    ceiling_put b.ceiling e11 b.ceiling_in_range)))))))))))))

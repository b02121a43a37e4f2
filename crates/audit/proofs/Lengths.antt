-- How long an export is: at most what an input may have.
use Rattle.std.proofs.Common.{◌≡◌, ◌∙◌, ℕ, zero, suc, ◌+◌, ◌-◌, ◌*◌, ◌/◌, ◌^◌, ◌<◌, ◌≤◌, eqb, Bool, true, false, ◌&&◌, ◌||◌, ℤ, pos, negsuc, List, [], ◌∷◌, ◌++◌, length, take, drop, Option, Some, None, refl, sym, ap, subst, arith, lit≤, zero-le, codes, decimal, length-append, append-nil}
use Rattle.std.specs.Prelude.{◌==◌, IsTrue, int_lt, if◌then◌else◌, map, unsigned_abs}
use Rattle.std.specs.List.{AllByRecursion, IsDistinct, concat, cons_option, list_any}
use Rattle.std.proofs.lemmas.Bool.{eqb-false, eqb-true, ne_eqb, true≢false}
use Rattle.std.proofs.lemmas.Fmt.{length-decimal-le}
use Rattle.std.proofs.lemmas.Int.{ints}
use Rattle.std.proofs.lemmas.List.Folds.{concat-append}
use Rattle.std.proofs.lemmas.Map.Steps.{length-le_from_distinct_below}
use Rattle.aid_types.specs.Cents.{cents_text, fraction_text}
use Rattle.aid_types.specs.Whole.{natural_text, whole_text}
use Rattle.aid_types.proofs.WholeLemmas.{decimal-natural_text}
use Rattle.aid_books.specs.declared.book.Book.{Book as Tables}
use Rattle.aid_filings.specs.declared.filing.Filing.{Filing}
use Rattle.aid_filings.specs.declared.filing.What.{What}
use Rattle.aid_filings.specs.declared.filing.What.TheVariants.{Book as BookFiled, School as SchoolFiled, Calendar as CalendarFiled, Prior as PriorFiled, Apply as ApplyFiled, Enroll as EnrollFiled, Originate as OriginateFiled, Pay as PayFiled, Withdraw as WithdrawFiled, Repay as RepayFiled, Adjust as AdjustFiled, Cost as CostFiled, Sent as SentFiled, Amend as AmendFiled}
use Rattle.aid_seals.proofs.Clashes.{length-seal}
use Rattle.aid_stamps.specs.StampLaws.{stamp_short}
use Rattle.aid_stamps.specs.Stamps.{IsStamp, stamp_bytes}
use Rattle.aid_stamps.specs.declared.stamp.Stamp.{Stamp}
use Rattle.aid_types.specs.Ranges.{IsIndex}
use Rattle.aid_types.specs.Words.{formula_text, way_text}
use Rattle.aid_types.specs.declared.application.Application.{Application}
use Rattle.aid_types.specs.declared.award.Formula.{Formula}
use Rattle.aid_types.specs.declared.award.Formula.TheVariants.{A, B, C}
use Rattle.aid_types.specs.declared.award.Way.{Way}
use Rattle.aid_types.specs.declared.award.Way.TheVariants.{Maximum, Calculated, Minimum, Nothing}
use Rattle.aid_types.specs.declared.number.Key.{Key}
use Rattle.format_kinds.specs.Book.{form_number, numbers_of as book_numbers}
use Rattle.format_table.specs.Layout.{AreNumbers, after, cut, rows}
use Rattle.format_table.specs.Limits.{is_between}
use Rattle.format_table.specs.Parts.{Line, Slot, width_of}
use Rattle.format_table.specs.Tables.{are_plain, has_none}
use Rattle.format_table.proofs.Laws.{AreNumbers-few}
use Rattle.format_table.specs.Spelling.{number_bytes, numbers_bytes}
use Rattle.format_table.proofs.NumberLaws.{length-number_bytes}
use Rattle.format_table.proofs.RowLaws.{numbers_few}
use Rattle.format_kinds.specs.Kinds.{book_slots, slots_of_kind, table_row_of}
use Rattle.format_kinds.specs.declared.kind.Kind.{Kind}
use Rattle.format_kinds.specs.declared.kind.Kind.TheVariants.{Book, School, Calendar, Prior, Apply, Enroll, Originate, Pay, Withdraw, Repay, Adjust, Cost, Sent, Amend}
use Rattle.format_kinds.proofs.Laws.{IsTable-kind}
use Rattle.format_bytes.specs.Numbers.{IsFiling, facts_of, kind_of, numbers_of}
use Rattle.format_bytes.proofs.Ranges.{within}
use Rattle.format_bytes.specs.Spelling.{spelling}
use Rattle.format_bytes.proofs.RowLaws.{length-row_bytes}
use Rattle.hex.specs.Hex.{encode_lower, lower_digits}
use Rattle.hex.proofs.HexLemmas.{length-encode_with}
use Rattle.office_history.specs.Answer.{IsLegal, breaks, standing_of, standing_under}
use Rattle.office_history.specs.Net.{in_year, pell_year, used}
use Rattle.office_history.specs.Past.{application, book_in, earlier, given, the_book}
use Rattle.office_history.proofs.Awards.{book_new}
use Rattle.office_history.proofs.IndexFits.{index_fits}
use Rattle.office_history.proofs.Bounds.{paid-most}
use Rattle.office_history.proofs.Legal.{legal_is_short}
use Rattle.office_export.specs.Applicants.{applicants}
use Rattle.office_export.specs.Exports.{export_text}
use Rattle.office_export.specs.Seals.{office_name, office_seal, payloads}
use Rattle.office_export.specs.Lines.{end_line, filing_line, line_of, standing_line}
use Rattle.office_export.proofs.Exactly.{length-applicants}
use Rattle.audit.specs.Findings.{IsAsked}
use Rattle.audit.specs.Laws.{AreOnFile}
use Rattle.audit.proofs.Exports.{applicants_ask}
use Rattle.audit.proofs.Runs.{filed_lines, last_filed}
use Rattle.audit.proofs.Ranges.{standing_small}

-- ---- the bytes of a filing
-- of fields that count nothing
abbrev widths : List Slot → ℕ
widths [] = 0
widths (slot ∷ slots) = width_of slot.line.form + widths slots

both : (a b : Bool) → (a && b) ≡ true → (a ≡ true) × (b ≡ true)
both true true e = (refl, refl)
both true false e = absurd (true≢false (sym e))
both false b e = absurd (true≢false (sym e))

-- behind such a field stand the others
others : (n : ℕ) (first later : List Line) (ends : ℕ) (z : ℤ) (slots : List Slot) → (has_none first && (ends == 0)) ≡ true → rows n first later ++ cut ends z slots ≡ slots
others n [] later zero z slots e = refl
others n [] later (suc ends) z slots e = absurd (omega (arith, eqb-true (suc ends) 0 e))
others n (line ∷ lines) later ends z slots e = absurd (true≢false (sym e))

plain_few : (slots : List Slot) (zs : List ℤ) → are_plain slots ≡ true → length (numbers_bytes slots zs) ≤ widths slots
plain_few slots [] plain = zero-le
plain_few [] (z ∷ zs) plain = zero-le
plain_few (slot ∷ slots) (z ∷ zs) plain =
    let parts = both (has_none slot.first && (slot.ends == 0)) (are_plain slots) plain in
    let same : after (slot ∷ slots) z ≡ slots = others (unsigned_abs z) slot.first slot.later slot.ends z slots parts.0 in
    let rest : length (numbers_bytes (after (slot ∷ slots) z) zs) ≤ widths slots = rw same (plain_few slots zs parts.1) in
    omega (arith, rest, length-append (number_bytes slot.line.form z) (numbers_bytes (after (slot ∷ slots) z) zs), length-number_bytes slot.line.form z)

-- of all kinds but the book an application has the most
few_bytes : (kind : Kind) (zs : List ℤ) → (kind ≡ Book → ⊥) → AreNumbers (slots_of_kind kind) [] zs → length (numbers_bytes (slots_of_kind kind) zs) ≤ 297
unfolding table_row_of
few_bytes Book zs other are = absurd (other refl)
few_bytes School zs other are = omega (arith, plain_few (slots_of_kind School) zs refl)
few_bytes Calendar zs other are = omega (arith, numbers_few (slots_of_kind Calendar) zs, AreNumbers-few (slots_of_kind Calendar) [] zs (IsTable-kind Calendar).sound are)
few_bytes Prior zs other are = omega (arith, plain_few (slots_of_kind Prior) zs refl)
few_bytes Apply zs other are = omega (arith, plain_few (slots_of_kind Apply) zs refl)
few_bytes Enroll zs other are = omega (arith, plain_few (slots_of_kind Enroll) zs refl)
few_bytes Originate zs other are = omega (arith, plain_few (slots_of_kind Originate) zs refl)
few_bytes Pay zs other are = omega (arith, plain_few (slots_of_kind Pay) zs refl)
few_bytes Withdraw zs other are = omega (arith, plain_few (slots_of_kind Withdraw) zs refl)
few_bytes Repay zs other are = omega (arith, plain_few (slots_of_kind Repay) zs refl)
few_bytes Adjust zs other are = omega (arith, plain_few (slots_of_kind Adjust) zs refl)
few_bytes Cost zs other are = omega (arith, plain_few (slots_of_kind Cost) zs refl)
few_bytes Sent zs other are = omega (arith, plain_few (slots_of_kind Sent) zs refl)
few_bytes Amend zs other are = omega (arith, plain_few (slots_of_kind Amend) zs refl)

-- ---- the years of the books on a legal list, counted from 2000: each once
abbrev year_in : What → Option ℕ
year_in (BookFiled b) = Some (b.year - 2000)
year_in _ = None

abbrev years : List Filing → List ℕ
years [] = []
years (f ∷ past) = cons_option (year_in f.what) (years past)

-- a book's form stands before its year
abbrev behind_form : List Slot
behind_form = drop 1 book_slots

year_fits : (test : Bool) (earlier zs : List ℤ) (year : ℕ) → AreNumbers (if test then behind_form else take (length behind_form - 1) behind_form) earlier (pos year ∷ zs) → IsTrue (is_between (pos 2000) (pos 2099) (pos year))
year_fits true earlier zs year are = are.0
year_fits false earlier zs year are = are.0

between : (year : ℕ) → IsTrue (is_between (pos 2000) (pos 2099) (pos year)) → (2000 ≤ year) × (year ≤ 2099)
between year fits = let range = within (pos 2000) (pos 2099) (pos year) fits in (omega (arith, ints, range), omega (arith, ints, range))

book_numbers_between : (school number form : ℤ) (year : ℕ) (zs : List ℤ) → AreNumbers (slots_of_kind Book) [] (school ∷ number ∷ form ∷ pos year ∷ zs) → (2000 ≤ year) × (year ≤ 2099)
unfolding table_row_of
book_numbers_between school number form year zs are = between year (year_fits (int_lt (pos 1) form) (form ∷ number ∷ school ∷ []) zs year are.1.1.1)

book_begins : (b : Tables) → facts_of (BookFiled b) ≡ form_number b.ceiling ∷ pos b.year ∷ drop 2 (facts_of (BookFiled b))
unfolding facts_of book_numbers
book_begins b = refl

book_between : (key : Key) (b : Tables) → IsFiling (record { key = key; what = BookFiled b }) → (2000 ≤ b.year) × (b.year ≤ 2099)
book_between key b is =
    book_numbers_between (pos key.school) (pos key.number) (form_number b.ceiling) b.year (drop 2 (facts_of (BookFiled b)))
    (subst (λ (zs : List ℤ). AreNumbers (slots_of_kind Book) [] (pos key.school ∷ pos key.number ∷ zs)) (book_begins b) is)

years_few : (past : List Filing) → AllByRecursion IsFiling past → (year : ℕ) → list_any (eqb year) (years past) ≡ true → year < 100
years_few [] are year there = absurd (true≢false (sym there))
years_few (f ∷ past) are year there = go f.key f.what are.0 (years_few past are.1 year) there
  where
    go : (key : Key) (what : What) → IsFiling (record { key = key; what = what }) → (list_any (eqb year) (years past) ≡ true → year < 100) → list_any (eqb year) (cons_option (year_in what) (years past)) ≡ true → year < 100
    go key (BookFiled b) is rest there = here (eqb year (b.year - 2000)) refl there
      where
        here : (same : Bool) → eqb year (b.year - 2000) ≡ same → (same || list_any (eqb year) (years past)) ≡ true → year < 100
        here true e there = let n : year ≡ b.year - 2000 = eqb-true year (b.year - 2000) e in let most = (book_between key b is).1 in omega (arith, n, most)
        here false e there = rest there
    go key (SchoolFiled x) is rest there = rest there
    go key (CalendarFiled x) is rest there = rest there
    go key (PriorFiled x) is rest there = rest there
    go key (ApplyFiled x) is rest there = rest there
    go key (EnrollFiled x) is rest there = rest there
    go key (OriginateFiled x) is rest there = rest there
    go key (PayFiled x) is rest there = rest there
    go key (WithdrawFiled x) is rest there = rest there
    go key (RepayFiled x) is rest there = rest there
    go key (AdjustFiled x) is rest there = rest there
    go key (CostFiled x) is rest there = rest there
    go key (SentFiled x) is rest there = rest there
    go key (AmendFiled x) is rest there = rest there

neither : {A : Type 0} (a b : Option A) → earlier a b ≡ None → (a ≡ None) × (b ≡ None)
neither None b e = (refl, e)
neither (Some a) None e = absurd cc
neither (Some a) (Some b) e = absurd cc

-- a year without a book is none of those of the books
no_year : (past : List Filing) (year : ℕ) → AllByRecursion IsFiling past → 2000 ≤ year → the_book past year ≡ None → AllByRecursion (λ y. eqb (year - 2000) y ≡ false) (years past)
no_year [] year are low none = tt
no_year (f ∷ past) year are low none = go f.key f.what are.0 (no_year past year are.1 low) (neither (book_in year f.what) (the_book past year) none)
  where
    go : (key : Key) (what : What) → IsFiling (record { key = key; what = what }) → (the_book past year ≡ None → AllByRecursion (λ y. eqb (year - 2000) y ≡ false) (years past))
        → (book_in year what ≡ None) × (the_book past year ≡ None)
        → AllByRecursion (λ y. eqb (year - 2000) y ≡ false) (cons_option (year_in what) (years past))
    go key (BookFiled b) is rest nones = (apart (b.year == year) refl nones.0, rest nones.1)
      where
        apart : (same : Bool) → (b.year == year) ≡ same → given same b ≡ None → eqb (year - 2000) (b.year - 2000) ≡ false
        apart true e none = absurd cc
        apart false e none = ne_eqb (year - 2000) (b.year - 2000) (λ same. let low_b = (book_between key b is).0 in eqb-false b.year year e (omega (arith, same, low, low_b)))
    go key (SchoolFiled x) is rest nones = rest nones.1
    go key (CalendarFiled x) is rest nones = rest nones.1
    go key (PriorFiled x) is rest nones = rest nones.1
    go key (ApplyFiled x) is rest nones = rest nones.1
    go key (EnrollFiled x) is rest nones = rest nones.1
    go key (OriginateFiled x) is rest nones = rest nones.1
    go key (PayFiled x) is rest nones = rest nones.1
    go key (WithdrawFiled x) is rest nones = rest nones.1
    go key (RepayFiled x) is rest nones = rest nones.1
    go key (AdjustFiled x) is rest nones = rest nones.1
    go key (CostFiled x) is rest nones = rest nones.1
    go key (SentFiled x) is rest nones = rest nones.1
    go key (AmendFiled x) is rest nones = rest nones.1

years_apart : (past : List Filing) → IsLegal past → AllByRecursion IsFiling past → IsDistinct eqb (years past)
unfolding IsDistinct
years_apart [] legal are = tt
years_apart (f ∷ past) legal are = go f.key f.what are.0 legal.2 (years_apart past legal.0 are.1)
  where
    go : (key : Key) (what : What) → IsFiling (record { key = key; what = what }) → breaks past (record { key = key; what = what }) ≡ None → IsDistinct eqb (years past) → IsDistinct eqb (cons_option (year_in what) (years past))
    go key (BookFiled b) is fine rest = (no_year past b.year are.1 (book_between key b is).0 (book_new past key b fine), rest)
    go key (SchoolFiled x) is fine rest = rest
    go key (CalendarFiled x) is fine rest = rest
    go key (PriorFiled x) is fine rest = rest
    go key (ApplyFiled x) is fine rest = rest
    go key (EnrollFiled x) is fine rest = rest
    go key (OriginateFiled x) is fine rest = rest
    go key (PayFiled x) is fine rest = rest
    go key (WithdrawFiled x) is fine rest = rest
    go key (RepayFiled x) is fine rest = rest
    go key (AdjustFiled x) is fine rest = rest
    go key (CostFiled x) is fine rest = rest
    go key (SentFiled x) is fine rest = rest
    go key (AmendFiled x) is fine rest = rest

books_few : (past : List Filing) → IsLegal past → AllByRecursion IsFiling past → length (years past) ≤ 100
books_few past legal are = length-le_from_distinct_below (years past) 100 (years_apart past legal are) (years_few past are)

-- ---- the lines of filings: one of a book is 15,714 bytes longer than another may be
length-filing_line : (z : Stamp) (f : Filing) → IsStamp z → length (filing_line z f) ≤ 82 + 2 * length (spelling f)
length-filing_line z f is_z =
    let payload : List ℕ = stamp_bytes z ++ spelling f in
    omega (arith, length-append (encode_lower payload) (codes "\n"), length-encode_with lower_digits payload, length-append (stamp_bytes z) (spelling f), (stamp_short z is_z).few)

filing_line_few : (past : List Filing) (z : Stamp) (f : Filing) → IsStamp z → IsFiling f → length (filing_line z f) + 15714 * length (years past) ≤ 678 + 15714 * length (years (f ∷ past))
filing_line_few past z f is_z is = go f.key f.what is (length-filing_line z f is_z)
  where
    short : (key : Key) (what : What) → IsFiling (record { key = key; what = what }) → (kind_of what ≡ Book → ⊥) → length (spelling (record { key = key; what = what })) ≤ 298
    short key what is other = let few = few_bytes (kind_of what) (numbers_of (record { key = key; what = what })) other is in omega (arith, few)

    go : (key : Key) (what : What) → IsFiling (record { key = key; what = what }) → length (filing_line z f) ≤ 82 + 2 * length (spelling (record { key = key; what = what }))
        → length (filing_line z f) + 15714 * length (years past) ≤ 678 + 15714 * length (cons_option (year_in what) (years past))
    go key (BookFiled b) is len = let few = length-row_bytes Book (numbers_of (record { key = key; what = BookFiled b })) is in omega (arith, len, few)
    go key (SchoolFiled x) is len = let few = short key (SchoolFiled x) is (λ e. absurd cc) in omega (arith, len, few)
    go key (CalendarFiled x) is len = let few = short key (CalendarFiled x) is (λ e. absurd cc) in omega (arith, len, few)
    go key (PriorFiled x) is len = let few = short key (PriorFiled x) is (λ e. absurd cc) in omega (arith, len, few)
    go key (ApplyFiled x) is len = let few = short key (ApplyFiled x) is (λ e. absurd cc) in omega (arith, len, few)
    go key (EnrollFiled x) is len = let few = short key (EnrollFiled x) is (λ e. absurd cc) in omega (arith, len, few)
    go key (OriginateFiled x) is len = let few = short key (OriginateFiled x) is (λ e. absurd cc) in omega (arith, len, few)
    go key (PayFiled x) is len = let few = short key (PayFiled x) is (λ e. absurd cc) in omega (arith, len, few)
    go key (WithdrawFiled x) is len = let few = short key (WithdrawFiled x) is (λ e. absurd cc) in omega (arith, len, few)
    go key (RepayFiled x) is len = let few = short key (RepayFiled x) is (λ e. absurd cc) in omega (arith, len, few)
    go key (AdjustFiled x) is len = let few = short key (AdjustFiled x) is (λ e. absurd cc) in omega (arith, len, few)
    go key (CostFiled x) is len = let few = short key (CostFiled x) is (λ e. absurd cc) in omega (arith, len, few)
    go key (SentFiled x) is len = let few = short key (SentFiled x) is (λ e. absurd cc) in omega (arith, len, few)
    go key (AmendFiled x) is len = let few = short key (AmendFiled x) is (λ e. absurd cc) in omega (arith, len, few)

filing_lines_few : (past : List Filing) (stamps : List Stamp) → AllByRecursion IsFiling past → AllByRecursion IsStamp stamps → length (concat (filed_lines past stamps)) ≤ 678 * length past + 15714 * length (years past)
filing_lines_few [] stamps are also = zero-le
filing_lines_few (f ∷ past) [] are also = zero-le
filing_lines_few (f ∷ past) (z ∷ stamps) are also =
    let text = concat (filed_lines past stamps) in
    let last : concat (filing_line z f ∷ []) ≡ filing_line z f = append-nil (filing_line z f) in
    let whole : concat (filed_lines (f ∷ past) (z ∷ stamps)) ≡ text ++ filing_line z f =
    ap concat (last_filed past stamps z f) ∙ concat-append (filed_lines past stamps) (filing_line z f ∷ []) ∙ ap (λ (behind : List ℕ). text ++ behind) last in
    let len : length (text ++ filing_line z f) ≡ length text + length (filing_line z f) = length-append text (filing_line z f) in
    omega (arith, ap length whole, len, filing_lines_few past stamps are.1 also.1, filing_line_few past z f also.0 are.0)

-- ---- the lines of standings
abbrev sizes : List (List ℕ) → ℕ
sizes [] = 0
sizes (word ∷ words) = length word + 1 + sizes words

length-line_of : (word : List ℕ) (words : List (List ℕ)) → length (line_of (word ∷ words)) ≡ sizes (word ∷ words)
length-line_of word [] = omega (arith, length-append word (codes "\n"))
length-line_of word (next ∷ words) = omega (arith, length-append (word ++ codes " ") (line_of (next ∷ words)), length-append word (codes " "), length-line_of next words)

digits_few : (k n : ℕ) → 0 < k → n < 10 ^ k → n < 2 ^ 64 → length (natural_text n) ≤ k
digits_few k n some few small = rw (sym (decimal-natural_text n (omega (arith, small)))) (length-decimal-le k n some few small)

index_few : (z : ℤ) → IsIndex z → length (whole_text z) ≤ 7
index_few (pos n) is = let most = is.1 in let few = digits_few 6 n (omega arith) (omega (arith, ints, most)) (omega (arith, ints, most)) in omega (arith, few)
index_few (negsuc n) is = let least = is.0 in let few = digits_few 6 (suc n) (omega arith) (omega (arith, ints, least)) (omega (arith, ints, least)) in omega (arith, few)

way_few : (way : Way) → length (way_text way) ≤ 10
way_few Maximum = lit≤ tt
way_few Calculated = lit≤ tt
way_few Minimum = lit≤ tt
way_few Nothing = lit≤ tt

formula_few : (formula : Formula) → length (formula_text formula) ≤ 1
formula_few A = lit≤ tt
formula_few B = lit≤ tt
formula_few C = lit≤ tt

paid_told : (b : Option Tables) (a : Option Application) (paid units : ℕ) → (standing_under b a paid units).paid ≡ paid
paid_told None a paid units = refl
paid_told (Some b) None paid units = refl
paid_told (Some b) (Some a) paid units = refl

cents_few : (n : ℕ) → n ≤ 100000000000000 → length (cents_text n) ≤ 16
cents_few n few = omega (arith, length-append (natural_text (n / 100)) (fraction_text n), digits_few 13 (n / 100) (omega arith) (omega (arith, few)) (omega (arith, few)))

standing_line_few : (past : List Filing) (student year : ℕ) → IsLegal past → IsAsked (student, year) → length (standing_line student year (standing_of past student year)) ≤ 82
standing_line_few past student year legal operations =
    let r = standing_of past student year in
    let small = standing_small past student year legal in
    let paid : r.paid ≤ 100000000000000 = omega (arith, paid_told (the_book past year) (application past student year) (pell_year past student year) (used past student), paid-most past legal (in_year student year 3)) in
    let len = length-line_of (codes "standing") (decimal student ∷ decimal year ∷ decimal r.transaction ∷ formula_text r.formula ∷ whole_text r.sai ∷ way_text r.way ∷ decimal r.scheduled ∷ cents_text r.paid ∷ decimal r.used ∷ []) in
    let most_student = operations.most_student in
    let most_year = operations.most_year in
    let most_transaction = small.transaction in
    let most_scheduled = small.scheduled in
    let most_used = small.used in
    omega (
      arith,
      len,
      length-decimal-le 12 student (omega arith) (omega (arith, most_student)) (omega (arith, most_student)),
      length-decimal-le 4 year (omega arith) (omega (arith, most_year)) (omega (arith, most_year)),
      length-decimal-le 2 r.transaction (omega arith) (omega (arith, most_transaction)) (omega (arith, most_transaction)),
      formula_few r.formula,
      index_few r.sai (index_fits past student year),
      way_few r.way,
      length-decimal-le 6 r.scheduled (omega arith) (omega (arith, most_scheduled)) (omega (arith, most_scheduled)),
      cents_few r.paid paid,
      length-decimal-le 6 r.used (omega arith) (omega (arith, most_used)) (omega (arith, most_used)),
    )

standing_lines_few : (past : List Filing) (year : ℕ) (students : List ℕ) → IsLegal past → AllByRecursion (λ student. IsAsked (student, year)) students
    → length (concat (map (λ student. standing_line student year (standing_of past student year)) students)) ≤ 82 * length students
standing_lines_few past year [] legal operations = zero-le
standing_lines_few past year (student ∷ students) legal operations =
    let line = standing_line student year (standing_of past student year) in
    let rest = concat (map (λ s. standing_line s year (standing_of past s year)) students) in
    omega (arith, length-append line rest, standing_line_few past student year legal operations.0, standing_lines_few past year students legal operations.1)

-- ---- the whole
end_line_few : (filings standings : ℕ) (seal : List ℕ) → filings ≤ 1000000 → standings ≤ 1000000 → length seal ≡ 32 → length (end_line filings standings seal) ≤ 85
end_line_few filings standings seal few some size =
    omega (
      arith,
      length-line_of (codes "end") (decimal filings ∷ decimal standings ∷ encode_lower seal ∷ []),
      length-decimal-le 7 filings (omega arith) (omega (arith, few)) (omega (arith, few)),
      length-decimal-le 7 standings (omega arith) (omega (arith, some)) (omega (arith, some)),
      length-encode_with lower_digits seal,
      size,
    )

export_few : (past : List Filing) (stamps : List Stamp) (year : ℕ) → IsLegal past → AreOnFile past stamps → 2000 ≤ year → year ≤ 2099 → length (export_text past stamps year) ≤ 760 * length past + 1571485
export_few past stamps year legal are from to =
    let filings = filed_lines past stamps in
    let standings = map (λ student. standing_line student year (standing_of past student year)) (applicants past year) in
    let last = end_line (length past) (length (applicants past year)) (office_seal past stamps) in
    let few = legal_is_short past legal in
    let some = length-applicants past year in
    let front = filings ++ standings in
    let whole : export_text past stamps year ≡ (concat filings ++ concat standings) ++ concat (last ∷ []) =
    concat-append front (last ∷ []) ∙ ap (λ (text : List ℕ). text ++ concat (last ∷ [])) (concat-append filings standings) in
    omega (
      arith,
      ap length whole,
      length-append (concat filings ++ concat standings) (concat (last ∷ [])),
      length-append (concat filings) (concat standings),
      ap length (append-nil last),
      filing_lines_few past stamps are.filings are.stamped.are_stamps,
      books_few past legal are.filings,
      standing_lines_few past year (applicants past year) legal (applicants_ask past year are.filings from to),
      some,
      end_line_few (length past) (length (applicants past year)) (office_seal past stamps) (omega (arith, few)) (omega (arith, few, some)) (length-seal office_name (payloads past stamps)),
    )

pub export_fits : (past : List Filing) (stamps : List Stamp) (year : ℕ) → IsLegal past → AreOnFile past stamps → length past ≤ 20000 → 2000 ≤ year → year ≤ 2099 → length (export_text past stamps year) ≤ 16777216
export_fits past stamps year legal are few from to = omega (arith, few, export_few past stamps year legal are from to)

pub whole_fits : (past : List Filing) (stamps : List Stamp) (year : ℕ) → IsLegal past → AreOnFile past stamps → length past ≤ 1000000 → 2000 ≤ year → year ≤ 2099 → length (export_text past stamps year) ≤ 1073741824
whole_fits past stamps year legal are few from to = omega (arith, few, export_few past stamps year legal are from to)

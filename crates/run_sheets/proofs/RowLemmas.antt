-- A row of words is that of one sheet at most.
use Rattle.std.proofs.Common.{◌≡◌, ◌≢◌, ℕ, ◌≤◌, List, [], ◌∷◌, ◌++◌, Option, Some, None, Result, Ok, Err, codes, decimal, get_or, length, refl, sym, ap, ◌∙◌, arith}
use Rattle.std.specs.Coded.{le_prop}
use Rattle.std.proofs.lemmas.Fmt.{decimal_injective}
use Rattle.aid_types.proofs.Same.{same_with_fact}
use Rattle.aid_types.specs.Ranges.{IsBetween}
use Rattle.aid_types.specs.declared.text.Malformed.{Malformed}
use Rattle.law_terms.specs.DayText.{IsDayText, day_in}
use Rattle.law_terms.specs.Days.{day_text}
use Rattle.law_terms.proofs.DayTexts.{day_text-is}
use Rattle.format_filings.proofs.Days.{day_again}
use Rattle.run_words.specs.Words.{ReadsReport}
use Rattle.run_words.specs.declared.command.ReportRequest.{ReportRequest}
use Rattle.run_words.proofs.WordsLemmas.{same_report}
use Rattle.run_sheets.specs.Words.{ReadsDay, ReadsPosition, ReadsRequest, ReadsRow, ReadsTerm, request_words, sheet_words, term_words, upto_words}
use Rattle.run_sheets.specs.declared.request.BookRequest.{BookRequest}
use Rattle.run_sheets.specs.declared.request.DueRequest.{DueRequest}
use Rattle.run_sheets.specs.declared.request.Position.{Position}
use Rattle.run_sheets.specs.declared.request.ReturnsRequest.{ReturnsRequest}
use Rattle.run_sheets.specs.declared.request.SheetRequest.{SheetRequest}
use Rattle.run_sheets.specs.declared.request.SheetRequest.TheVariants as sheets
use Rattle.run_sheets.specs.declared.request.SheetRow.{SheetRow}
use Rattle.run_sheets.specs.declared.request.StudentRequest.{StudentRequest}
use Rattle.run_sheets.specs.declared.request.StudentYearRequest.{StudentYearRequest}
use Rattle.run_sheets.specs.declared.request.TermRequest.{TermRequest}
use Rattle.run_sheets.specs.declared.request.WithdrawalRequest.{WithdrawalRequest}

-- a word spells one number at most
same_number : (m n : ℕ) → m ≤ 999999999999 → n ≤ 999999999999 → decimal m ≡ decimal n → m ≡ n
same_number m n h k e = decimal_injective m n (omega arith) (omega arith) e

same_student : (x y : StudentRequest) → decimal x.student ≡ decimal y.student → x ≡ y
same_student x y e =
    let P : ℕ → Type 0 = λ n. IsBetween 1 999999999999 n in
    let make : (n : ℕ) → P n → StudentRequest = λ n p. record { student = n; in_range = p } in
    same_with_fact P make (λ n. hlevel (le_prop)) x.student y.student x.in_range y.in_range (same_number x.student y.student (omega (arith, x.in_range)) (omega (arith, y.in_range)) e)

same_student_year : (x y : StudentYearRequest) → decimal x.student ≡ decimal y.student → decimal x.year ≡ decimal y.year → x ≡ y
same_student_year x y student year =
    let P : ℕ × ℕ → Type 0 = λ b. IsBetween 1 999999999999 b.0 × IsBetween 2000 2099 b.1 in
    let make : (b : ℕ × ℕ) → P b → StudentYearRequest = λ b p. record { student = b.0; year = b.1; in_range = p } in
    let students = same_number x.student y.student (omega (arith, x.in_range)) (omega (arith, y.in_range)) student in
    let years = same_number x.year y.year (omega (arith, x.in_range)) (omega (arith, y.in_range)) year in
    same_with_fact P make (λ b. hlevel (le_prop)) (x.student, x.year) (y.student, y.year) x.in_range y.in_range (λ i. (students i, years i))

same_term : (x y : TermRequest) → decimal x.school ≡ decimal y.school → decimal x.year ≡ decimal y.year → decimal x.term ≡ decimal y.term → x ≡ y
same_term x y school year term =
    let P : ℕ × (ℕ × ℕ) → Type 0 = λ b. IsBetween 1 999999 b.0 × IsBetween 2000 2099 b.1.0 × IsBetween 1 8 b.1.1 in
    let make : (b : ℕ × (ℕ × ℕ)) → P b → TermRequest = λ b p. record { school = b.0; year = b.1.0; term = b.1.1; in_range = p } in
    let schools = same_number x.school y.school (omega (arith, x.in_range)) (omega (arith, y.in_range)) school in
    let years = same_number x.year y.year (omega (arith, x.in_range)) (omega (arith, y.in_range)) year in
    let terms = same_number x.term y.term (omega (arith, x.in_range)) (omega (arith, y.in_range)) term in
    same_with_fact P make (λ b. hlevel (le_prop)) (x.school, (x.year, x.term)) (y.school, (y.year, y.term)) x.in_range y.in_range (λ i. (schools i, (years i, terms i)))

same_withdrawal : (x y : WithdrawalRequest) → decimal x.school ≡ decimal y.school → decimal x.student ≡ decimal y.student → decimal x.year ≡ decimal y.year → decimal x.term ≡ decimal y.term → x ≡ y
same_withdrawal x y school student year term =
    let P : (ℕ × ℕ) × (ℕ × ℕ) → Type 0 = λ b. (IsBetween 1 999999 b.0.0 × IsBetween 1 999999999999 b.0.1) × (IsBetween 2000 2099 b.1.0 × IsBetween 1 8 b.1.1) in
    let make : (b : (ℕ × ℕ) × (ℕ × ℕ)) → P b → WithdrawalRequest = λ b p. record { school = b.0.0; student = b.0.1; year = b.1.0; term = b.1.1; in_range = p } in
    let schools = same_number x.school y.school (omega (arith, x.in_range)) (omega (arith, y.in_range)) school in
    let students = same_number x.student y.student (omega (arith, x.in_range)) (omega (arith, y.in_range)) student in
    let years = same_number x.year y.year (omega (arith, x.in_range)) (omega (arith, y.in_range)) year in
    let terms = same_number x.term y.term (omega (arith, x.in_range)) (omega (arith, y.in_range)) term in
    same_with_fact P make (λ b. hlevel (le_prop)) ((x.school, x.student), (x.year, x.term)) ((y.school, y.student), (y.year, y.term)) x.in_range y.in_range
    (λ i. ((schools i, students i), (years i, terms i)))

-- a word spells one day at most
same_day : (m n : ℕ) → m ≤ 2958463 → n ≤ 2958463 → day_text m ≡ day_text n → m ≡ n
same_day m n h k e = let read : Ok m ≡ Ok n = sym (day_again m h) ∙ ap day_in e ∙ day_again n k in cc

same_due : (x y : DueRequest) → day_text x.day ≡ day_text y.day → decimal x.school ≡ decimal y.school → x ≡ y
same_due x y day school =
    let P : ℕ × ℕ → Type 0 = λ b. (b.0 ≤ 2958463) × IsBetween 1 999999 b.1 in
    let make : (b : ℕ × ℕ) → P b → DueRequest = λ b p. record { day = b.0; school = b.1; in_range = p } in
    let days = same_day x.day y.day x.in_range.0 y.in_range.0 day in
    let schools = same_number x.school y.school (omega (arith, x.in_range)) (omega (arith, y.in_range)) school in
    same_with_fact P make (λ b. hlevel (le_prop)) (x.day, x.school) (y.day, y.school) x.in_range y.in_range (λ i. (days i, schools i))

same_returns : (x y : ReturnsRequest) → decimal x.school ≡ decimal y.school → decimal x.year ≡ decimal y.year → x ≡ y
same_returns x y school year =
    let P : ℕ × ℕ → Type 0 = λ b. IsBetween 1 999999 b.0 × IsBetween 2000 2099 b.1 in
    let make : (b : ℕ × ℕ) → P b → ReturnsRequest = λ b p. record { school = b.0; year = b.1; in_range = p } in
    let schools = same_number x.school y.school (omega (arith, x.in_range)) (omega (arith, y.in_range)) school in
    let years = same_number x.year y.year (omega (arith, x.in_range)) (omega (arith, y.in_range)) year in
    same_with_fact P make (λ b. hlevel (le_prop)) (x.school, x.year) (y.school, y.year) x.in_range y.in_range (λ i. (schools i, years i))

same_book : (x y : BookRequest) → decimal x.year ≡ decimal y.year → x ≡ y
same_book x y e =
    let P : ℕ → Type 0 = λ n. IsBetween 2000 2099 n in
    let make : (n : ℕ) → P n → BookRequest = λ n p. record { year = n; in_range = p } in
    same_with_fact P make (λ n. hlevel (le_prop)) x.year y.year x.in_range y.in_range (same_number x.year y.year (omega (arith, x.in_range)) (omega (arith, y.in_range)) e)

-- words that begin with other letters are others
abbrev first_letter : List (List ℕ) → ℕ
first_letter words = get_or (get_or words 0 []) 0 0

apart : {A : Type 0} (one other : List (List ℕ)) → one ≡ other → (first_letter one ≡ first_letter other → ⊥) → A
apart one other e differ = absurd (differ (ap first_letter e))

-- and so are words whose third letter is another
abbrev third_letter : List (List ℕ) → ℕ
third_letter words = get_or (get_or words 0 []) 2 0

apart_third : {A : Type 0} (one other : List (List ℕ)) → one ≡ other → (third_letter one ≡ third_letter other → ⊥) → A
apart_third one other e differ = absurd (differ (ap third_letter e))

-- words of a term are those of one at most
same_terms : (x y : TermRequest) → term_words x ≡ term_words y → x ≡ y
same_terms x y e =
    let school : decimal x.school ≡ decimal y.school = cc in
    let year : decimal x.year ≡ decimal y.year = cc in
    let term : decimal x.term ≡ decimal y.term = cc in
    same_term x y school year term

-- words are those of one request at most
same_request : (x y : SheetRequest) → request_words x ≡ request_words y → x ≡ y
same_request sheets.List sheets.List e = refl
same_request (sheets.Student x) (sheets.Student y) e = let student : decimal x.student ≡ decimal y.student = cc in ap sheets.Student (same_student x y student)
same_request (sheets.Need x) (sheets.Need y) e =
    let student : decimal x.student ≡ decimal y.student = cc in
    let year : decimal x.year ≡ decimal y.year = cc in
    ap sheets.Need (same_student_year x y student year)
same_request (sheets.Review x) (sheets.Review y) e =
    let student : decimal x.student ≡ decimal y.student = cc in
    let year : decimal x.year ≡ decimal y.year = cc in
    ap sheets.Review (same_student_year x y student year)
same_request (sheets.Quotes x) (sheets.Quotes y) e = ap sheets.Quotes (same_terms x y cc)
same_request (sheets.Payments x) (sheets.Payments y) e = ap sheets.Payments (same_terms x y cc)
same_request (sheets.Withdrawal x) (sheets.Withdrawal y) e =
    let school : decimal x.school ≡ decimal y.school = cc in
    let student : decimal x.student ≡ decimal y.student = cc in
    let year : decimal x.year ≡ decimal y.year = cc in
    let term : decimal x.term ≡ decimal y.term = cc in
    ap sheets.Withdrawal (same_withdrawal x y school student year term)
same_request (sheets.Due x) (sheets.Due y) e =
    let day : day_text x.day ≡ day_text y.day = cc in
    let school : decimal x.school ≡ decimal y.school = cc in
    ap sheets.Due (same_due x y day school)
same_request (sheets.Returns x) (sheets.Returns y) e =
    let school : decimal x.school ≡ decimal y.school = cc in
    let year : decimal x.year ≡ decimal y.year = cc in
    ap sheets.Returns (same_returns x y school year)
same_request (sheets.Book x) (sheets.Book y) e = let year : decimal x.year ≡ decimal y.year = cc in ap sheets.Book (same_book x y year)
same_request (sheets.Report x) (sheets.Report y) e = ap sheets.Report (same_report x y cc)
same_request sheets.List (sheets.Student y) e = apart (request_words sheets.List) (request_words (sheets.Student y)) e (λ is. omega (arith, is))
same_request sheets.List (sheets.Need y) e = apart (request_words sheets.List) (request_words (sheets.Need y)) e (λ is. omega (arith, is))
same_request sheets.List (sheets.Quotes y) e = apart (request_words sheets.List) (request_words (sheets.Quotes y)) e (λ is. omega (arith, is))
same_request sheets.List (sheets.Payments y) e = apart (request_words sheets.List) (request_words (sheets.Payments y)) e (λ is. omega (arith, is))
same_request sheets.List (sheets.Withdrawal y) e = apart (request_words sheets.List) (request_words (sheets.Withdrawal y)) e (λ is. omega (arith, is))
same_request sheets.List (sheets.Due y) e = apart (request_words sheets.List) (request_words (sheets.Due y)) e (λ is. omega (arith, is))
same_request sheets.List (sheets.Returns y) e = apart (request_words sheets.List) (request_words (sheets.Returns y)) e (λ is. omega (arith, is))
same_request sheets.List (sheets.Report y) e = apart (request_words sheets.List) (request_words (sheets.Report y)) e (λ is. omega (arith, is))
same_request (sheets.Student x) sheets.List e = apart (request_words (sheets.Student x)) (request_words sheets.List) e (λ is. omega (arith, is))
same_request (sheets.Student x) (sheets.Need y) e = apart (request_words (sheets.Student x)) (request_words (sheets.Need y)) e (λ is. omega (arith, is))
same_request (sheets.Student x) (sheets.Quotes y) e = apart (request_words (sheets.Student x)) (request_words (sheets.Quotes y)) e (λ is. omega (arith, is))
same_request (sheets.Student x) (sheets.Payments y) e = apart (request_words (sheets.Student x)) (request_words (sheets.Payments y)) e (λ is. omega (arith, is))
same_request (sheets.Student x) (sheets.Withdrawal y) e = apart (request_words (sheets.Student x)) (request_words (sheets.Withdrawal y)) e (λ is. omega (arith, is))
same_request (sheets.Student x) (sheets.Due y) e = apart (request_words (sheets.Student x)) (request_words (sheets.Due y)) e (λ is. omega (arith, is))
same_request (sheets.Student x) (sheets.Returns y) e = apart (request_words (sheets.Student x)) (request_words (sheets.Returns y)) e (λ is. omega (arith, is))
same_request (sheets.Student x) (sheets.Report y) e = apart (request_words (sheets.Student x)) (request_words (sheets.Report y)) e (λ is. omega (arith, is))
same_request (sheets.Need x) sheets.List e = apart (request_words (sheets.Need x)) (request_words sheets.List) e (λ is. omega (arith, is))
same_request (sheets.Need x) (sheets.Student y) e = apart (request_words (sheets.Need x)) (request_words (sheets.Student y)) e (λ is. omega (arith, is))
same_request (sheets.Need x) (sheets.Quotes y) e = apart (request_words (sheets.Need x)) (request_words (sheets.Quotes y)) e (λ is. omega (arith, is))
same_request (sheets.Need x) (sheets.Payments y) e = apart (request_words (sheets.Need x)) (request_words (sheets.Payments y)) e (λ is. omega (arith, is))
same_request (sheets.Need x) (sheets.Withdrawal y) e = apart (request_words (sheets.Need x)) (request_words (sheets.Withdrawal y)) e (λ is. omega (arith, is))
same_request (sheets.Need x) (sheets.Due y) e = apart (request_words (sheets.Need x)) (request_words (sheets.Due y)) e (λ is. omega (arith, is))
same_request (sheets.Need x) (sheets.Returns y) e = apart (request_words (sheets.Need x)) (request_words (sheets.Returns y)) e (λ is. omega (arith, is))
same_request (sheets.Need x) (sheets.Report y) e = apart (request_words (sheets.Need x)) (request_words (sheets.Report y)) e (λ is. omega (arith, is))
same_request (sheets.Quotes x) sheets.List e = apart (request_words (sheets.Quotes x)) (request_words sheets.List) e (λ is. omega (arith, is))
same_request (sheets.Quotes x) (sheets.Student y) e = apart (request_words (sheets.Quotes x)) (request_words (sheets.Student y)) e (λ is. omega (arith, is))
same_request (sheets.Quotes x) (sheets.Need y) e = apart (request_words (sheets.Quotes x)) (request_words (sheets.Need y)) e (λ is. omega (arith, is))
same_request (sheets.Quotes x) (sheets.Payments y) e = apart (request_words (sheets.Quotes x)) (request_words (sheets.Payments y)) e (λ is. omega (arith, is))
same_request (sheets.Quotes x) (sheets.Withdrawal y) e = apart (request_words (sheets.Quotes x)) (request_words (sheets.Withdrawal y)) e (λ is. omega (arith, is))
same_request (sheets.Quotes x) (sheets.Due y) e = apart (request_words (sheets.Quotes x)) (request_words (sheets.Due y)) e (λ is. omega (arith, is))
same_request (sheets.Quotes x) (sheets.Returns y) e = apart (request_words (sheets.Quotes x)) (request_words (sheets.Returns y)) e (λ is. omega (arith, is))
same_request (sheets.Quotes x) (sheets.Report y) e = apart (request_words (sheets.Quotes x)) (request_words (sheets.Report y)) e (λ is. omega (arith, is))
same_request (sheets.Payments x) sheets.List e = apart (request_words (sheets.Payments x)) (request_words sheets.List) e (λ is. omega (arith, is))
same_request (sheets.Payments x) (sheets.Student y) e = apart (request_words (sheets.Payments x)) (request_words (sheets.Student y)) e (λ is. omega (arith, is))
same_request (sheets.Payments x) (sheets.Need y) e = apart (request_words (sheets.Payments x)) (request_words (sheets.Need y)) e (λ is. omega (arith, is))
same_request (sheets.Payments x) (sheets.Quotes y) e = apart (request_words (sheets.Payments x)) (request_words (sheets.Quotes y)) e (λ is. omega (arith, is))
same_request (sheets.Payments x) (sheets.Withdrawal y) e = apart (request_words (sheets.Payments x)) (request_words (sheets.Withdrawal y)) e (λ is. omega (arith, is))
same_request (sheets.Payments x) (sheets.Due y) e = apart (request_words (sheets.Payments x)) (request_words (sheets.Due y)) e (λ is. omega (arith, is))
same_request (sheets.Payments x) (sheets.Returns y) e = apart (request_words (sheets.Payments x)) (request_words (sheets.Returns y)) e (λ is. omega (arith, is))
same_request (sheets.Payments x) (sheets.Report y) e = apart (request_words (sheets.Payments x)) (request_words (sheets.Report y)) e (λ is. omega (arith, is))
same_request (sheets.Withdrawal x) sheets.List e = apart (request_words (sheets.Withdrawal x)) (request_words sheets.List) e (λ is. omega (arith, is))
same_request (sheets.Withdrawal x) (sheets.Student y) e = apart (request_words (sheets.Withdrawal x)) (request_words (sheets.Student y)) e (λ is. omega (arith, is))
same_request (sheets.Withdrawal x) (sheets.Need y) e = apart (request_words (sheets.Withdrawal x)) (request_words (sheets.Need y)) e (λ is. omega (arith, is))
same_request (sheets.Withdrawal x) (sheets.Quotes y) e = apart (request_words (sheets.Withdrawal x)) (request_words (sheets.Quotes y)) e (λ is. omega (arith, is))
same_request (sheets.Withdrawal x) (sheets.Payments y) e = apart (request_words (sheets.Withdrawal x)) (request_words (sheets.Payments y)) e (λ is. omega (arith, is))
same_request (sheets.Withdrawal x) (sheets.Due y) e = apart (request_words (sheets.Withdrawal x)) (request_words (sheets.Due y)) e (λ is. omega (arith, is))
same_request (sheets.Withdrawal x) (sheets.Returns y) e = apart (request_words (sheets.Withdrawal x)) (request_words (sheets.Returns y)) e (λ is. omega (arith, is))
same_request (sheets.Withdrawal x) (sheets.Report y) e = apart (request_words (sheets.Withdrawal x)) (request_words (sheets.Report y)) e (λ is. omega (arith, is))
same_request (sheets.Due x) sheets.List e = apart (request_words (sheets.Due x)) (request_words sheets.List) e (λ is. omega (arith, is))
same_request (sheets.Due x) (sheets.Student y) e = apart (request_words (sheets.Due x)) (request_words (sheets.Student y)) e (λ is. omega (arith, is))
same_request (sheets.Due x) (sheets.Need y) e = apart (request_words (sheets.Due x)) (request_words (sheets.Need y)) e (λ is. omega (arith, is))
same_request (sheets.Due x) (sheets.Quotes y) e = apart (request_words (sheets.Due x)) (request_words (sheets.Quotes y)) e (λ is. omega (arith, is))
same_request (sheets.Due x) (sheets.Payments y) e = apart (request_words (sheets.Due x)) (request_words (sheets.Payments y)) e (λ is. omega (arith, is))
same_request (sheets.Due x) (sheets.Withdrawal y) e = apart (request_words (sheets.Due x)) (request_words (sheets.Withdrawal y)) e (λ is. omega (arith, is))
same_request (sheets.Due x) (sheets.Returns y) e = apart (request_words (sheets.Due x)) (request_words (sheets.Returns y)) e (λ is. omega (arith, is))
same_request (sheets.Due x) (sheets.Report y) e = apart (request_words (sheets.Due x)) (request_words (sheets.Report y)) e (λ is. omega (arith, is))
same_request (sheets.Returns x) sheets.List e = apart (request_words (sheets.Returns x)) (request_words sheets.List) e (λ is. omega (arith, is))
same_request (sheets.Returns x) (sheets.Student y) e = apart (request_words (sheets.Returns x)) (request_words (sheets.Student y)) e (λ is. omega (arith, is))
same_request (sheets.Returns x) (sheets.Need y) e = apart (request_words (sheets.Returns x)) (request_words (sheets.Need y)) e (λ is. omega (arith, is))
same_request (sheets.Returns x) (sheets.Quotes y) e = apart (request_words (sheets.Returns x)) (request_words (sheets.Quotes y)) e (λ is. omega (arith, is))
same_request (sheets.Returns x) (sheets.Payments y) e = apart (request_words (sheets.Returns x)) (request_words (sheets.Payments y)) e (λ is. omega (arith, is))
same_request (sheets.Returns x) (sheets.Withdrawal y) e = apart (request_words (sheets.Returns x)) (request_words (sheets.Withdrawal y)) e (λ is. omega (arith, is))
same_request (sheets.Returns x) (sheets.Due y) e = apart (request_words (sheets.Returns x)) (request_words (sheets.Due y)) e (λ is. omega (arith, is))
same_request (sheets.Returns x) (sheets.Report y) e = apart_third (request_words (sheets.Returns x)) (request_words (sheets.Report y)) e (λ is. omega (arith, is))
same_request (sheets.Report x) sheets.List e = apart (request_words (sheets.Report x)) (request_words sheets.List) e (λ is. omega (arith, is))
same_request (sheets.Report x) (sheets.Student y) e = apart (request_words (sheets.Report x)) (request_words (sheets.Student y)) e (λ is. omega (arith, is))
same_request (sheets.Report x) (sheets.Need y) e = apart (request_words (sheets.Report x)) (request_words (sheets.Need y)) e (λ is. omega (arith, is))
same_request (sheets.Report x) (sheets.Quotes y) e = apart (request_words (sheets.Report x)) (request_words (sheets.Quotes y)) e (λ is. omega (arith, is))
same_request (sheets.Report x) (sheets.Payments y) e = apart (request_words (sheets.Report x)) (request_words (sheets.Payments y)) e (λ is. omega (arith, is))
same_request (sheets.Report x) (sheets.Withdrawal y) e = apart (request_words (sheets.Report x)) (request_words (sheets.Withdrawal y)) e (λ is. omega (arith, is))
same_request (sheets.Report x) (sheets.Due y) e = apart (request_words (sheets.Report x)) (request_words (sheets.Due y)) e (λ is. omega (arith, is))
same_request (sheets.Report x) (sheets.Returns y) e = apart_third (request_words (sheets.Report x)) (request_words (sheets.Returns y)) e (λ is. omega (arith, is))
same_request sheets.List (sheets.Book y) e = apart (request_words sheets.List) (request_words (sheets.Book y)) e (λ is. omega (arith, is))
same_request (sheets.Student x) (sheets.Book y) e = apart (request_words (sheets.Student x)) (request_words (sheets.Book y)) e (λ is. omega (arith, is))
same_request (sheets.Need x) (sheets.Book y) e = apart (request_words (sheets.Need x)) (request_words (sheets.Book y)) e (λ is. omega (arith, is))
same_request (sheets.Quotes x) (sheets.Book y) e = apart (request_words (sheets.Quotes x)) (request_words (sheets.Book y)) e (λ is. omega (arith, is))
same_request (sheets.Payments x) (sheets.Book y) e = apart (request_words (sheets.Payments x)) (request_words (sheets.Book y)) e (λ is. omega (arith, is))
same_request (sheets.Withdrawal x) (sheets.Book y) e = apart (request_words (sheets.Withdrawal x)) (request_words (sheets.Book y)) e (λ is. omega (arith, is))
same_request (sheets.Due x) (sheets.Book y) e = apart (request_words (sheets.Due x)) (request_words (sheets.Book y)) e (λ is. omega (arith, is))
same_request (sheets.Returns x) (sheets.Book y) e = apart (request_words (sheets.Returns x)) (request_words (sheets.Book y)) e (λ is. omega (arith, is))
same_request (sheets.Report x) (sheets.Book y) e = apart (request_words (sheets.Report x)) (request_words (sheets.Book y)) e (λ is. omega (arith, is))
same_request (sheets.Book x) sheets.List e = apart (request_words (sheets.Book x)) (request_words sheets.List) e (λ is. omega (arith, is))
same_request (sheets.Book x) (sheets.Student y) e = apart (request_words (sheets.Book x)) (request_words (sheets.Student y)) e (λ is. omega (arith, is))
same_request (sheets.Book x) (sheets.Need y) e = apart (request_words (sheets.Book x)) (request_words (sheets.Need y)) e (λ is. omega (arith, is))
same_request (sheets.Book x) (sheets.Quotes y) e = apart (request_words (sheets.Book x)) (request_words (sheets.Quotes y)) e (λ is. omega (arith, is))
same_request (sheets.Book x) (sheets.Payments y) e = apart (request_words (sheets.Book x)) (request_words (sheets.Payments y)) e (λ is. omega (arith, is))
same_request (sheets.Book x) (sheets.Withdrawal y) e = apart (request_words (sheets.Book x)) (request_words (sheets.Withdrawal y)) e (λ is. omega (arith, is))
same_request (sheets.Book x) (sheets.Due y) e = apart (request_words (sheets.Book x)) (request_words (sheets.Due y)) e (λ is. omega (arith, is))
same_request (sheets.Book x) (sheets.Returns y) e = apart (request_words (sheets.Book x)) (request_words (sheets.Returns y)) e (λ is. omega (arith, is))
same_request (sheets.Book x) (sheets.Report y) e = apart (request_words (sheets.Book x)) (request_words (sheets.Report y)) e (λ is. omega (arith, is))
same_request sheets.List (sheets.Review y) e = apart (request_words sheets.List) (request_words (sheets.Review y)) e (λ is. omega (arith, is))
same_request (sheets.Student x) (sheets.Review y) e = apart (request_words (sheets.Student x)) (request_words (sheets.Review y)) e (λ is. omega (arith, is))
same_request (sheets.Need x) (sheets.Review y) e = apart (request_words (sheets.Need x)) (request_words (sheets.Review y)) e (λ is. omega (arith, is))
same_request (sheets.Quotes x) (sheets.Review y) e = apart (request_words (sheets.Quotes x)) (request_words (sheets.Review y)) e (λ is. omega (arith, is))
same_request (sheets.Payments x) (sheets.Review y) e = apart (request_words (sheets.Payments x)) (request_words (sheets.Review y)) e (λ is. omega (arith, is))
same_request (sheets.Withdrawal x) (sheets.Review y) e = apart (request_words (sheets.Withdrawal x)) (request_words (sheets.Review y)) e (λ is. omega (arith, is))
same_request (sheets.Due x) (sheets.Review y) e = apart (request_words (sheets.Due x)) (request_words (sheets.Review y)) e (λ is. omega (arith, is))
same_request (sheets.Returns x) (sheets.Review y) e = apart_third (request_words (sheets.Returns x)) (request_words (sheets.Review y)) e (λ is. omega (arith, is))
same_request (sheets.Report x) (sheets.Review y) e = apart_third (request_words (sheets.Report x)) (request_words (sheets.Review y)) e (λ is. omega (arith, is))
same_request (sheets.Book x) (sheets.Review y) e = apart (request_words (sheets.Book x)) (request_words (sheets.Review y)) e (λ is. omega (arith, is))
same_request (sheets.Review x) sheets.List e = apart (request_words (sheets.Review x)) (request_words sheets.List) e (λ is. omega (arith, is))
same_request (sheets.Review x) (sheets.Student y) e = apart (request_words (sheets.Review x)) (request_words (sheets.Student y)) e (λ is. omega (arith, is))
same_request (sheets.Review x) (sheets.Need y) e = apart (request_words (sheets.Review x)) (request_words (sheets.Need y)) e (λ is. omega (arith, is))
same_request (sheets.Review x) (sheets.Quotes y) e = apart (request_words (sheets.Review x)) (request_words (sheets.Quotes y)) e (λ is. omega (arith, is))
same_request (sheets.Review x) (sheets.Payments y) e = apart (request_words (sheets.Review x)) (request_words (sheets.Payments y)) e (λ is. omega (arith, is))
same_request (sheets.Review x) (sheets.Withdrawal y) e = apart (request_words (sheets.Review x)) (request_words (sheets.Withdrawal y)) e (λ is. omega (arith, is))
same_request (sheets.Review x) (sheets.Due y) e = apart (request_words (sheets.Review x)) (request_words (sheets.Due y)) e (λ is. omega (arith, is))
same_request (sheets.Review x) (sheets.Returns y) e = apart_third (request_words (sheets.Review x)) (request_words (sheets.Returns y)) e (λ is. omega (arith, is))
same_request (sheets.Review x) (sheets.Report y) e = apart_third (request_words (sheets.Review x)) (request_words (sheets.Report y)) e (λ is. omega (arith, is))
same_request (sheets.Review x) (sheets.Book y) e = apart (request_words (sheets.Review x)) (request_words (sheets.Book y)) e (λ is. omega (arith, is))

-- the words of a request are read as it
pub reads_request : (words : List (List ℕ)) (r : SheetRequest) → words ≡ request_words r → ReadsRequest words (Some r)
reads_request words r is other = (λ same. let at : r ≡ other = cc in is ∙ ap request_words at, λ told. ap Some (same_request r other (sym is ∙ told)))

-- the words of a term are read as it
pub reads_term : (words : List (List ℕ)) (t : TermRequest) → words ≡ term_words t → ReadsTerm words (Some t)
reads_term words t is other = (λ same. let at : t ≡ other = cc in is ∙ ap term_words at, λ told. ap Some (same_terms t other (sym is ∙ told)))

-- quotes behind their name
pub reads_quotes : (words : List (List ℕ)) (term : TermRequest) → ReadsTerm words (Some term) → ReadsRequest (codes "quotes" ∷ words) (Some (sheets.Quotes term))
reads_quotes words term reads = reads_request (codes "quotes" ∷ words) (sheets.Quotes term) (ap (λ ws. codes "quotes" ∷ ws) ((reads term).0 refl))

pub reads_no_quotes : (words : List (List ℕ)) → ReadsTerm words None → ReadsRequest (codes "quotes" ∷ words) None
reads_no_quotes words reads r = (λ same. absurd cc, λ told. absurd (none r told))
  where
    none : (r : SheetRequest) → codes "quotes" ∷ words ≡ request_words r → ⊥
    none sheets.List told = apart (codes "quotes" ∷ words) (request_words sheets.List) told (λ is. omega (arith, is))
    none (sheets.Student of) told = apart (codes "quotes" ∷ words) (request_words (sheets.Student of)) told (λ is. omega (arith, is))
    none (sheets.Need of) told = apart (codes "quotes" ∷ words) (request_words (sheets.Need of)) told (λ is. omega (arith, is))
    none (sheets.Quotes of) told = let bad : None ≡ Some of = (reads of).1 cc in cc
    none (sheets.Payments of) told = apart (codes "quotes" ∷ words) (request_words (sheets.Payments of)) told (λ is. omega (arith, is))
    none (sheets.Withdrawal of) told = apart (codes "quotes" ∷ words) (request_words (sheets.Withdrawal of)) told (λ is. omega (arith, is))
    none (sheets.Due of) told = apart (codes "quotes" ∷ words) (request_words (sheets.Due of)) told (λ is. omega (arith, is))
    none (sheets.Returns of) told = apart (codes "quotes" ∷ words) (request_words (sheets.Returns of)) told (λ is. omega (arith, is))
    none (sheets.Book of) told = apart (codes "quotes" ∷ words) (request_words (sheets.Book of)) told (λ is. omega (arith, is))
    none (sheets.Review of) told = apart (codes "quotes" ∷ words) (request_words (sheets.Review of)) told (λ is. omega (arith, is))
    none (sheets.Report of) told = apart (codes "quotes" ∷ words) (request_words (sheets.Report of)) told (λ is. omega (arith, is))

-- payments behind theirs
pub reads_payments : (words : List (List ℕ)) (term : TermRequest) → ReadsTerm words (Some term) → ReadsRequest (codes "payments" ∷ words) (Some (sheets.Payments term))
reads_payments words term reads = reads_request (codes "payments" ∷ words) (sheets.Payments term) (ap (λ ws. codes "payments" ∷ ws) ((reads term).0 refl))

pub reads_no_payments : (words : List (List ℕ)) → ReadsTerm words None → ReadsRequest (codes "payments" ∷ words) None
reads_no_payments words reads r = (λ same. absurd cc, λ told. absurd (none r told))
  where
    none : (r : SheetRequest) → codes "payments" ∷ words ≡ request_words r → ⊥
    none sheets.List told = apart (codes "payments" ∷ words) (request_words sheets.List) told (λ is. omega (arith, is))
    none (sheets.Student of) told = apart (codes "payments" ∷ words) (request_words (sheets.Student of)) told (λ is. omega (arith, is))
    none (sheets.Need of) told = apart (codes "payments" ∷ words) (request_words (sheets.Need of)) told (λ is. omega (arith, is))
    none (sheets.Quotes of) told = apart (codes "payments" ∷ words) (request_words (sheets.Quotes of)) told (λ is. omega (arith, is))
    none (sheets.Payments of) told = let bad : None ≡ Some of = (reads of).1 cc in cc
    none (sheets.Withdrawal of) told = apart (codes "payments" ∷ words) (request_words (sheets.Withdrawal of)) told (λ is. omega (arith, is))
    none (sheets.Due of) told = apart (codes "payments" ∷ words) (request_words (sheets.Due of)) told (λ is. omega (arith, is))
    none (sheets.Returns of) told = apart (codes "payments" ∷ words) (request_words (sheets.Returns of)) told (λ is. omega (arith, is))
    none (sheets.Book of) told = apart (codes "payments" ∷ words) (request_words (sheets.Book of)) told (λ is. omega (arith, is))
    none (sheets.Review of) told = apart (codes "payments" ∷ words) (request_words (sheets.Review of)) told (λ is. omega (arith, is))
    none (sheets.Report of) told = apart (codes "payments" ∷ words) (request_words (sheets.Report of)) told (λ is. omega (arith, is))

-- a report behind its name
pub reads_report : (words : List (List ℕ)) (report : ReportRequest) → ReadsReport words (Some report) → ReadsRequest (codes "report" ∷ words) (Some (sheets.Report report))
reads_report words report reads = reads_request (codes "report" ∷ words) (sheets.Report report) (ap (λ ws. codes "report" ∷ ws) ((reads report).0 refl))

pub reads_no_report : (words : List (List ℕ)) → ReadsReport words None → ReadsRequest (codes "report" ∷ words) None
reads_no_report words reads r = (λ same. absurd cc, λ told. absurd (none r told))
  where
    none : (r : SheetRequest) → codes "report" ∷ words ≡ request_words r → ⊥
    none sheets.List told = apart (codes "report" ∷ words) (request_words sheets.List) told (λ is. omega (arith, is))
    none (sheets.Student of) told = apart (codes "report" ∷ words) (request_words (sheets.Student of)) told (λ is. omega (arith, is))
    none (sheets.Need of) told = apart (codes "report" ∷ words) (request_words (sheets.Need of)) told (λ is. omega (arith, is))
    none (sheets.Quotes of) told = apart (codes "report" ∷ words) (request_words (sheets.Quotes of)) told (λ is. omega (arith, is))
    none (sheets.Payments of) told = apart (codes "report" ∷ words) (request_words (sheets.Payments of)) told (λ is. omega (arith, is))
    none (sheets.Withdrawal of) told = apart (codes "report" ∷ words) (request_words (sheets.Withdrawal of)) told (λ is. omega (arith, is))
    none (sheets.Due of) told = apart (codes "report" ∷ words) (request_words (sheets.Due of)) told (λ is. omega (arith, is))
    none (sheets.Returns of) told = apart_third (codes "report" ∷ words) (request_words (sheets.Returns of)) told (λ is. omega (arith, is))
    none (sheets.Book of) told = apart (codes "report" ∷ words) (request_words (sheets.Book of)) told (λ is. omega (arith, is))
    none (sheets.Review of) told = apart_third (codes "report" ∷ words) (request_words (sheets.Review of)) told (λ is. omega (arith, is))
    none (sheets.Report of) told = let bad : None ≡ Some of = (reads of).1 cc in cc

-- a text that is read as a day, and one that is read as none
pub reads_day : (word : List ℕ) (read : Result ℕ Malformed) (day : ℕ) → read ≡ Ok day → read ≡ day_in word → IsDayText word day → ReadsDay word (Some day)
reads_day word read day is value text n few = (
  λ same. let at : day ≡ n = cc in day_text-is word day text ∙ ap day_text at,
  λ told. let again : Ok day ≡ Ok n = sym is ∙ value ∙ ap day_in told ∙ day_again n few in let at : day ≡ n = cc in ap Some at,
)

pub reads_no_day : (word : List ℕ) (read : Result ℕ Malformed) (e : Malformed) → read ≡ Err e → read ≡ day_in word → ReadsDay word None
reads_no_day word read e is value n few =
    (λ same. absurd cc, λ told. let bad : Ok n ≡ Err e = sym (day_again n few) ∙ ap day_in (sym told) ∙ sym value ∙ is in absurd cc)

-- ---- rows
abbrev row_of : Option Position → SheetRequest → SheetRow
row_of upto r = record { upto = upto; request = r }

-- no request begins with `upto`
not_upto : (r : SheetRequest) (rest : List (List ℕ)) → request_words r ≡ codes "upto" ∷ rest → ⊥
not_upto r rest e = letters r (ap (λ (words : List (List ℕ)). get_or (get_or words 0 []) 0 0) e)
  where
    letters : (r : SheetRequest) → get_or (get_or (request_words r) 0 []) 0 0 ≡ get_or (codes "upto") 0 0 → ⊥
    letters sheets.List is = omega (arith, is)
    letters (sheets.Student of) is = omega (arith, is)
    letters (sheets.Need of) is = omega (arith, is)
    letters (sheets.Quotes of) is = omega (arith, is)
    letters (sheets.Payments of) is = omega (arith, is)
    letters (sheets.Withdrawal of) is = omega (arith, is)
    letters (sheets.Due of) is = omega (arith, is)
    letters (sheets.Returns of) is = omega (arith, is)
    letters (sheets.Book of) is = omega (arith, is)
    letters (sheets.Review of) is = omega (arith, is)
    letters (sheets.Report report) is = omega (arith, is)

-- words are those of one position at most
same_position : (x y : Position) → decimal x.number ≡ decimal y.number → x ≡ y
same_position x y e =
    let P : ℕ → Type 0 = λ n. IsBetween 1 4294967295 n in
    let make : (n : ℕ) → P n → Position = λ n p. record { number = n; in_range = p } in
    same_with_fact P make (λ n. hlevel (le_prop)) x.number y.number x.in_range y.in_range (same_number x.number y.number (omega (arith, x.in_range)) (omega (arith, y.in_range)) e)

pub reads_position : (word : List ℕ) (p : Position) → word ≡ decimal p.number → ReadsPosition word (Some p)
reads_position word p is other = (λ same. let at : p ≡ other = cc in is ∙ ap (λ (q : Position). decimal q.number) at, λ told. ap Some (same_position p other (sym is ∙ told)))

-- and of one row
same_parts : (upto other : Option Position) (r s : SheetRequest) → upto_words upto ++ request_words r ≡ upto_words other ++ request_words s → row_of upto r ≡ row_of other s
same_parts None None r s e = ap (row_of None) (same_request r s e)
same_parts None (Some n) r s e = absurd (not_upto r _ e)
same_parts (Some m) None r s e = absurd (not_upto s _ (sym e))
same_parts (Some m) (Some n) r s e =
    let spelled : decimal m.number ≡ decimal n.number = cc in
    let words : request_words r ≡ request_words s = cc in
    let at = same_position m n spelled in
    let is = same_request r s words in
    λ i. row_of (Some (at i)) (is i)

same_row : (x y : SheetRow) → sheet_words x ≡ sheet_words y → x ≡ y
same_row x y e = same_parts x.upto y.upto x.request y.request e

pub reads_row : (words : List (List ℕ)) (row : SheetRow) → words ≡ sheet_words row → ReadsRow words (Some row)
reads_row words row is other = (λ same. let at : row ≡ other = cc in is ∙ ap sheet_words at, λ told. ap Some (same_row row other (sym is ∙ told)))

-- words that aren't read as a row
no_row : (words : List (List ℕ)) → ((upto : Option Position) (r : SheetRequest) → words ≡ upto_words upto ++ request_words r → ⊥) → ReadsRow words None
no_row words none row = (λ same. absurd cc, λ told. absurd (none row.upto row.request told))

pub no_items : {X : Type 0} (xs : List X) → length xs ≡ 0 → xs ≡ []
no_items [] is = refl
no_items (x ∷ xs) is = absurd (omega (arith, is))

-- no words, and words without `upto` that are no request
pub no_words : ReadsRow [] None
no_words = no_row [] none
  where
    none : (upto : Option Position) (r : SheetRequest) → [] ≡ upto_words upto ++ request_words r → ⊥
    none None sheets.List told = cc
    none None (sheets.Student of) told = cc
    none None (sheets.Need of) told = cc
    none None (sheets.Quotes of) told = cc
    none None (sheets.Payments of) told = cc
    none None (sheets.Withdrawal of) told = cc
    none None (sheets.Due of) told = cc
    none None (sheets.Returns of) told = cc
    none None (sheets.Book of) told = cc
    none None (sheets.Review of) told = cc
    none None (sheets.Report report) told = cc
    none (Some n) r told = cc

pub no_whole_row : (first : List ℕ) (behind : List (List ℕ)) → first ≢ codes "upto" → ReadsRequest (first ∷ behind) None → ReadsRow (first ∷ behind) None
no_whole_row first behind other reads = no_row (first ∷ behind) none
  where
    none : (upto : Option Position) (r : SheetRequest) → first ∷ behind ≡ upto_words upto ++ request_words r → ⊥
    none None r told = let bad : None ≡ Some r = (reads r).1 told in cc
    none (Some n) r told = let same : first ≡ codes "upto" = cc in other same

-- `upto` alone, before no position, and before a position behind which there is no request
pub upto_alone : ReadsRow (codes "upto" ∷ []) None
upto_alone = no_row (codes "upto" ∷ []) none
  where
    none : (upto : Option Position) (r : SheetRequest) → codes "upto" ∷ [] ≡ upto_words upto ++ request_words r → ⊥
    none None r told = not_upto r _ (sym told)
    none (Some n) r told = cc

pub no_position : (position : List ℕ) (words : List (List ℕ)) → ReadsPosition position None → ReadsRow (codes "upto" ∷ position ∷ words) None
no_position position words reads = no_row (codes "upto" ∷ position ∷ words) none
  where
    none : (upto : Option Position) (r : SheetRequest) → codes "upto" ∷ position ∷ words ≡ upto_words upto ++ request_words r → ⊥
    none None r told = not_upto r _ (sym told)
    none (Some n) r told = let bad : None ≡ Some n = (reads n).1 cc in cc

pub no_request : (position : List ℕ) (words : List (List ℕ)) → ReadsRequest words None → ReadsRow (codes "upto" ∷ position ∷ words) None
no_request position words reads = no_row (codes "upto" ∷ position ∷ words) none
  where
    none : (upto : Option Position) (r : SheetRequest) → codes "upto" ∷ position ∷ words ≡ upto_words upto ++ request_words r → ⊥
    none None r told = not_upto r _ (sym told)
    none (Some n) r told = let bad : None ≡ Some r = (reads r).1 cc in cc

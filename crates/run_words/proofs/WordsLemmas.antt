-- A row of words is that of one command at most.
use Rattle.std.proofs.Common.{◌≡◌, ◌≢◌, ◌⊎◌, inl, inr, ℕ, ◌≤◌, Bool, true, false, not, List, [], ◌∷◌, Option, Some, None, Result, Ok, Err, IfSome, codes, decimal, get_or, map, rules, refl, subst, sym, ap, ◌∙◌, arith}
use Rattle.std.specs.Prelude.{IfOk}
use Rattle.std.specs.List.{list_all}
use Rattle.std.specs.Coded.{le_prop}
use Rattle.std.proofs.lemmas.Bool.{true≢false}
use Rattle.std.proofs.lemmas.Fmt.{decimal_injective}
use Rattle.aid_types.proofs.Same.{same_with_fact}
use Rattle.aid_types.specs.Ranges.{IsBetween}
use Rattle.run_words.specs.Words.{ArePlain, AreWords, HasPolicy, IsRow, Reads, ReadsGenerate, ReadsOf, ReadsQuote, ReadsYear, begins_with_hyphen, fund_words, generate_words, quote_words, report_words, words_of}
use Rattle.run_words.specs.declared.command.BookNumber.{BookNumber}
use Rattle.run_words.specs.declared.command.Command.{Command}
use Rattle.run_words.specs.declared.command.Command.TheVariants.{Found, File, Book, Quote, Report, Fund, Generate, CheckRows, CheckBook}
use Rattle.run_words.specs.declared.command.GenerateRequest.{GenerateRequest}
use Rattle.run_words.specs.declared.command.QuoteRequest.{QuoteRequest}
use Rattle.run_words.specs.declared.command.ReportRequest.{ReportRequest}
use Rattle.run_words.specs.declared.command.ReportRequest.TheVariants.{Standing, Awards, Returns, Lifetime, Stamps, Seal, Seals, Export}
use Rattle.run_words.specs.declared.command.ReportYear.{ReportYear}
use Rattle.run_words.proofs.ClapLemmas.{plain_tail}
use Rattle.run_words.proofs.DeskWords.{all_map}
use Rattle.run_words.proofs.PolicyWords.{same_fund}

same_book : (x y : BookNumber) → x.number ≡ y.number → x ≡ y
same_book x y e =
    let P : ℕ → Type 0 = λ n. IsBetween 1 999999999999 n in
    let make : (n : ℕ) → P n → BookNumber = λ n p. record { number = n; in_range = p } in
    same_with_fact P make (λ n. hlevel (le_prop)) x.number y.number x.in_range y.in_range e

same_request : (x y : QuoteRequest) → x.school ≡ y.school → x.student ≡ y.student → x.year ≡ y.year → x.term ≡ y.term → x ≡ y
same_request x y school student year term =
    let P : ℕ × (ℕ × (ℕ × ℕ)) → Type 0 = λ b. (b.0 ≤ 999999) × IsBetween 1 999999999999 b.1.0 × IsBetween 2000 2099 b.1.1.0 × IsBetween 1 8 b.1.1.1 in
    let make : (b : ℕ × (ℕ × (ℕ × ℕ))) → P b → QuoteRequest = λ b p. record { school = b.0; student = b.1.0; year = b.1.1.0; term = b.1.1.1; in_range = p } in
    same_with_fact P make (λ b. hlevel (le_prop)) (x.school, (x.student, (x.year, x.term))) (y.school, (y.student, (y.year, y.term))) x.in_range y.in_range (λ i. (school i, (student i, (year i, term i))))

-- a word spells one number at most
same_number : (m n : ℕ) → m ≤ 999999999999 → n ≤ 999999999999 → decimal m ≡ decimal n → m ≡ n
same_number m n h k e = decimal_injective m n (omega arith) (omega arith) e

pub same_quote : (x y : QuoteRequest) → quote_words x ≡ quote_words y → x ≡ y
same_quote x y e =
    let school : decimal x.school ≡ decimal y.school = cc in
    let student : decimal x.student ≡ decimal y.student = cc in
    let year : decimal x.year ≡ decimal y.year = cc in
    let term : decimal x.term ≡ decimal y.term = cc in
    same_request x y
    (same_number x.school y.school (omega (arith, x.in_range)) (omega (arith, y.in_range)) school)
    (same_number x.student y.student (omega (arith, x.in_range)) (omega (arith, y.in_range)) student)
    (same_number x.year y.year (omega (arith, x.in_range)) (omega (arith, y.in_range)) year)
    (same_number x.term y.term (omega (arith, x.in_range)) (omega (arith, y.in_range)) term)

-- the same of a generated year
same_generated : (x y : GenerateRequest) → x.seed ≡ y.seed → x.students ≡ y.students → x ≡ y
same_generated x y seed students =
    let P : ℕ × ℕ → Type 0 = λ b. (b.0 ≤ 999999999999) × IsBetween 1 20000 b.1 in
    let make : (b : ℕ × ℕ) → P b → GenerateRequest = λ b p. record { seed = b.0; students = b.1; in_range = p } in
    same_with_fact P make (λ b. hlevel (le_prop)) (x.seed, x.students) (y.seed, y.students) x.in_range y.in_range (λ i. (seed i, students i))

pub same_generate : (x y : GenerateRequest) → generate_words x ≡ generate_words y → x ≡ y
same_generate x y e =
    let seed : decimal x.seed ≡ decimal y.seed = cc in
    let students : decimal x.students ≡ decimal y.students = cc in
    same_generated x y
    (same_number x.seed y.seed (omega (arith, x.in_range)) (omega (arith, y.in_range)) seed)
    (same_number x.students y.students (omega (arith, x.in_range)) (omega (arith, y.in_range)) students)

-- the words of one year and one report at most
same_year : (x y : ReportYear) → decimal x.year ≡ decimal y.year → x ≡ y
same_year x y e =
    let P : ℕ → Type 0 = λ n. IsBetween 2000 2099 n in
    let make : (n : ℕ) → P n → ReportYear = λ n p. record { year = n; in_range = p } in
    same_with_fact P make (λ n. hlevel (le_prop)) x.year y.year x.in_range y.in_range (same_number x.year y.year (omega (arith, x.in_range)) (omega (arith, y.in_range)) e)

-- texts with other first letters aren't one
first_letters : {A : Type 0} (one other : List (List ℕ)) → one ≡ other → (get_or (get_or one 0 []) 0 0 ≡ get_or (get_or other 0 []) 0 0 → ⊥) → A
first_letters one other e differ = absurd (differ (ap (λ (words : List (List ℕ)). get_or (get_or words 0 []) 0 0) e))

-- and of reports
pub same_report : (x y : ReportRequest) → report_words x ≡ report_words y → x ≡ y
same_report (Standing x) (Standing y) e = let year : decimal x.year ≡ decimal y.year = cc in ap Standing (same_year x y year)
same_report (Awards x) (Awards y) e = let year : decimal x.year ≡ decimal y.year = cc in ap Awards (same_year x y year)
same_report (Returns x) (Returns y) e = let year : decimal x.year ≡ decimal y.year = cc in ap Returns (same_year x y year)
same_report Lifetime Lifetime e = refl
same_report Stamps Stamps e = refl
same_report Seal Seal e = refl
same_report Seals Seals e = refl
same_report (Export x) (Export y) e = let year : decimal x.year ≡ decimal y.year = cc in ap Export (same_year x y year)
same_report (Standing x) Stamps e = absurd cc
same_report (Standing x) Seal e = absurd cc
same_report (Standing x) Seals e = absurd cc
same_report Stamps (Standing y) e = absurd cc
same_report Stamps Seal e = absurd cc
same_report Stamps Seals e = absurd cc
same_report Seal (Standing y) e = absurd cc
same_report Seal Stamps e = absurd cc
same_report Seal Seals e = absurd cc
same_report Seals (Standing y) e = absurd cc
same_report Seals Stamps e = absurd cc
same_report Seals Seal e = absurd cc
same_report x y e = first_letters (report_words x) (report_words y) e (λ is. omega (arith, is))

rows_book : {A : Type 0} (names : List (List ℕ)) → words_of names CheckRows ≡ words_of names CheckBook → A
rows_book names e = let first : ◌≡◌ {A = ℕ} 114 98 = ap (λ (words : List (List ℕ)). get_or (get_or words 1 []) 0 0) e in absurd (omega arith)

-- commands with the same words are the same
pub same_command : (names : List (List ℕ)) (c d : Command) → words_of names c ≡ words_of names d → HasPolicy names c → HasPolicy names d → c ≡ d
same_command names Found Found e p q = refl
same_command names File File e p q = refl
same_command names CheckRows CheckRows e p q = refl
same_command names CheckBook CheckBook e p q = refl
same_command names (Book x) (Book y) e p q = let number : decimal x.number ≡ decimal y.number = cc in ap Book (same_book x y (same_number x.number y.number (omega (arith, x.in_range)) (omega (arith, y.in_range)) number))
same_command names (Quote x) (Quote y) e p q = ap Quote (same_quote x y cc)
same_command names (Report x) (Report y) e p q = ap Report (same_report x y cc)
same_command names (Fund x) (Fund y) e p q =
    let words : fund_words names x ≡ fund_words names y = cc in
    ap Fund (same_fund names x y words p q)
same_command names (Generate x) (Generate y) e p q = ap Generate (same_generate x y cc)
same_command names CheckRows CheckBook e p q = rows_book names e
same_command names CheckBook CheckRows e p q = rows_book names (sym e)
same_command names _ _ e p q = absurd cc

-- words of a command are read as it
pub reads_of : (names words : List (List ℕ)) (c : Command) → AreWords names words c → ReadsOf names words (Some c)
reads_of names words c is d = (
  λ same. let at : c ≡ d = cc in subst (AreWords names words) at is,
  λ told. ap Some (same_command names c d (sym is.0 ∙ told.0) is.1 told.1),
)

pub reads_some : (words : List (List ℕ)) (c : Command) → ((names : List (List ℕ)) → AreWords names words c) → Reads words (Some c)
reads_some words c is names = reads_of names words c (is names)

pub reads_request : (words : List (List ℕ)) (q : QuoteRequest) → words ≡ quote_words q → ReadsQuote words (Some q)
reads_request words q is r = (λ same. let at : q ≡ r = cc in is ∙ ap quote_words at, λ told. ap Some (same_quote q r (sym is ∙ told)))

pub reads_generate : (words : List (List ℕ)) (g : GenerateRequest) → words ≡ generate_words g → ReadsGenerate words (Some g)
reads_generate words g is r = (λ same. let at : g ≡ r = cc in is ∙ ap generate_words at, λ told. ap Some (same_generate g r (sym is ∙ told)))

pub reads_year : (word : List ℕ) (of : ReportYear) → word ≡ decimal of.year → ReadsYear word (Some of)
reads_year word of is other = (λ same. let at : of ≡ other = cc in is ∙ ap (λ (y : ReportYear). decimal y.year) at, λ told. ap Some (same_year of other (sym is ∙ told)))

-- what was read of plain words is their row
pub if_row : (names words : List (List ℕ)) (read : Option Command) → ArePlain words → ReadsOf names words read → IfSome read (λ c. IsRow names words c)
if_row names words None plain reads = search rules
if_row names words (Some c) plain reads = let is = (reads c).0 refl in (plain, is.0, is.1)

pub none_row : (names words : List (List ℕ)) (read : Option Command) → ReadsOf names words read → read ≡ None → (c : Command) → IsRow names words c → ⊥
none_row names words read reads none c (plain, is, known) = let bad : ◌≡◌ {A = Option Command} None (Some c) = sym none ∙ (reads c).1 (is, known) in absurd cc

-- an answer that is read, or want of memory
module _ {E : Type 0} (names words : List (List ℕ)) where
  pub answer_words : (answer : Result (Option Command) E) → ArePlain words → IfOk answer (ReadsOf names words) → IfOk answer (λ r. IfSome r (λ c. IsRow names words c))
  answer_words (Ok read) plain reads = if_row names words read plain reads
  answer_words (Err e) plain reads = reads

  pub answer_none : (answer : Result (Option Command) E) → IfOk answer (ReadsOf names words) → IfOk answer (λ r. r ≡ None → (c : Command) → ¬ (IsRow names words c))
  answer_none (Ok read) reads = none_row names words read reads
  answer_none (Err e) reads = reads

  pub answer_only : (answer : Result (Option Command) E) → IfOk answer (ReadsOf names words) → (c : Command) → IsRow names words c → IfOk answer (λ r. r ≡ Some c)
  answer_only (Ok read) reads c (plain, is, known) = (reads c).1 (is, known)
  answer_only (Err e) reads c row = reads

-- a command of none of these names is a check
pub is_check : (name : List ℕ) (behind : List (List ℕ)) → name ≢ codes "found" → name ≢ codes "file" → name ≢ codes "book" → name ≢ codes "quote" → name ≢ codes "report" → name ≢ codes "fund" → name ≢ codes "generate"
    → (names : List (List ℕ)) (c : Command) → name ∷ behind ≡ words_of names c → (c ≡ CheckRows) ⊎ (c ≡ CheckBook)
is_check name behind no_found no_file no_book no_quote no_report no_fund no_generate names Found is = absurd (no_found (ap (λ (words : List (List ℕ)). get_or words 0 []) is))
is_check name behind no_found no_file no_book no_quote no_report no_fund no_generate names File is = absurd (no_file (ap (λ (words : List (List ℕ)). get_or words 0 []) is))
is_check name behind no_found no_file no_book no_quote no_report no_fund no_generate names (Book book) is = absurd (no_book (ap (λ (words : List (List ℕ)). get_or words 0 []) is))
is_check name behind no_found no_file no_book no_quote no_report no_fund no_generate names (Quote quote) is = absurd (no_quote (ap (λ (words : List (List ℕ)). get_or words 0 []) is))
is_check name behind no_found no_file no_book no_quote no_report no_fund no_generate names (Report report) is = absurd (no_report (ap (λ (words : List (List ℕ)). get_or words 0 []) is))
is_check name behind no_found no_file no_book no_quote no_report no_fund no_generate names (Fund fund) is = absurd (no_fund (ap (λ (words : List (List ℕ)). get_or words 0 []) is))
is_check name behind no_found no_file no_book no_quote no_report no_fund no_generate names (Generate generate) is = absurd (no_generate (ap (λ (words : List (List ℕ)). get_or words 0 []) is))
is_check name behind no_found no_file no_book no_quote no_report no_fund no_generate names CheckRows is = inl refl
is_check name behind no_found no_file no_book no_quote no_report no_fund no_generate names CheckBook is = inr refl

-- the same words are read alike
pub fund_as : (names words other : List (List ℕ)) (read : Option Command) → other ≡ words → ReadsOf names words read → ReadsOf names other read
fund_as names words other read same reads = subst (λ (ws : List (List ℕ)). ReadsOf names ws read) (sym same) reads

-- ---- the name of a command and the words behind it
module _ {S : Type 0} (text : S → List ℕ) where
  pub split_words : (words : List S) (first : S) (behind : List S) (name : List ℕ) → words ≡ first ∷ behind → name ≡ text first → map text words ≡ name ∷ map text behind
  split_words words first behind name whole is = ap (map text) whole ∙ ap (λ w. w ∷ map text behind) (sym is)

  pub plain_words : (words : List S) (b : Bool) → b ≡ list_all (λ w. not (begins_with_hyphen (text w))) words → b ≡ true → ArePlain (map text words)
  plain_words words b told is = all_map text (λ w. not (begins_with_hyphen w)) words ∙ (sym told ∙ is)

  pub hyphened : (words : List S) (b : Bool) → b ≡ list_all (λ w. not (begins_with_hyphen (text w))) words → b ≡ false → ArePlain (map text words) → ⊥
  hyphened words b told is plain = true≢false (sym plain ∙ (all_map text (λ w. not (begins_with_hyphen w)) words ∙ (sym told ∙ is)))

  pub plain_behind : (words : List S) (first : S) (behind : List S) (name : List ℕ) → words ≡ first ∷ behind → name ≡ text first → ArePlain (map text words) → ArePlain (map text behind)
  plain_behind words first behind name whole is plain = plain_tail name (map text behind) (subst ArePlain (split_words words first behind name whole is) plain)

  pub named_reads : {E : Type 0} (names : List (List ℕ)) (words : List S) (first : S) (behind : List S) (name : List ℕ) → words ≡ first ∷ behind → name ≡ text first → (answer : Result (Option Command) E)
      → IfOk answer (ReadsOf names (name ∷ map text behind)) → IfOk answer (ReadsOf names (map text words))
  named_reads names words first behind name whole is answer reads = subst (λ (ws : List (List ℕ)). IfOk answer (ReadsOf names ws)) (sym (split_words words first behind name whole is)) reads

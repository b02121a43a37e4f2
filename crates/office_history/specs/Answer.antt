-- What the office answers on a history.
use Rattle.std.specs.Prelude.{◌≡◌, ℕ, zero, suc, ◌-◌, ◌==◌, ◌&&◌, Bool, true, false, List, [], ◌∷◌, length, drop, sum, pos, Option, Some, None, is_none}
use Rattle.aid_types.specs.Programs.{rank}
use Rattle.aid_books.specs.declared.book.Book.{Book}
use Rattle.aid_types.specs.declared.application.Application.{Application}
use Rattle.aid_filings.specs.declared.filing.Filing.{Filing}
use Rattle.aid_filings.specs.declared.filing.What.{What}
use Rattle.aid_filings.specs.declared.filing.What.TheVariants.{Apply, Pay, Withdraw}
use Rattle.aid_filings.specs.declared.reply.Operation.{Operation}
use Rattle.aid_filings.specs.declared.reply.Operation.TheVariants.{File, Quote, Standing as StandingAsked}
use Rattle.aid_types.specs.declared.award.Formula.TheVariants.{A}
use Rattle.aid_types.specs.declared.award.Way.TheVariants.{Nothing}
use Rattle.aid_types.specs.declared.award.Refusal.{Refusal}
use Rattle.aid_filings.specs.declared.reply.Outcome.{Outcome}
use Rattle.aid_filings.specs.declared.reply.Outcome.TheVariants.{Noted, Indexed, Paid, Returned}
use Rattle.aid_filings.specs.declared.reply.StandingRow.{StandingRow}
use Rattle.aid_filings.specs.declared.reply.Response.{Response}
use Rattle.aid_filings.specs.declared.reply.Response.TheVariants.{Again, Refused, Admit, Quoted, Standing}
use Rattle.law_sai.specs.Formulas.{formula}
use Rattle.law_rules.specs.Quote.{greatest_payment}
use Rattle.aid_types.specs.RuleLines.{first_broken}
use Rattle.office_history.specs.Past.{key_at, filing_at, the_book, application}
use Rattle.law_pell.specs.Award.{decision_of}
use Rattle.office_history.specs.Net.{net, in_year, pell_year, sheet, used}
use Rattle.office_history.specs.Rules.{rules_of, payment_rules}

-- the first rule that a filing breaks after the filings past
abbrev pub breaks : List Filing → Filing → Option Refusal
breaks past f = first_broken (rules_of past f.key f.what)

-- no key stands twice, and each filing breaks no rule on those before it
abbrev pub IsLegal : List Filing → Type 0
IsLegal [] = Unit {0}
IsLegal (f ∷ past) = IsLegal past × (key_at f.key past ≡ 0) × (breaks past f ≡ None)

-- the same as a test
abbrev pub is_legal : List Filing → Bool
is_legal [] = true
is_legal (f ∷ past) = is_legal past && (key_at f.key past == 0 && is_none (breaks past f))

-- the formula, final index, way and award of an application under a book
abbrev pub indexed_by : Book → Application → Outcome
indexed_by b a = let d = decision_of b a in Indexed (formula b a) d.sai d.way d.scheduled

-- of the application in force under the year's book
abbrev pub indexed : Option Book → Option Application → Outcome
indexed (Some b) (Some a) = indexed_by b a
indexed _ _ = Noted

-- with what a filing is admitted after the filings past: an application with the award it brings, a payment with the year's
-- net of its program and the lifetime use, both with it, and a withdrawal with its worksheet
abbrev pub outcome_in : List Filing → Filing → What → Outcome
outcome_in past f (Apply a) = indexed (the_book (f ∷ past) a.year) (application (f ∷ past) a.student a.year)
outcome_in past f (Pay a) = Paid (net (f ∷ past) (in_year a.student a.year (rank a.program))) (used (f ∷ past) a.student)
outcome_in past f (Withdraw w) = let s = sheet past f.key w in Returned s.percent s.school (sum s.owed) s.post
outcome_in past f _ = Noted

abbrev pub outcome_of : List Filing → Filing → Outcome
outcome_of past f = outcome_in past f f.what

abbrev pub outcome_of_newest : List Filing → Outcome
outcome_of_newest [] = Noted
outcome_of_newest (f ∷ past) = outcome_of past f

-- with what the filing at a position was admitted
abbrev pub outcome_at : List Filing → ℕ → Outcome
outcome_at past position = outcome_of_newest (drop (length past - position) past)

-- a filing that breaks no rule is admitted, and any other is refused by the first that it breaks
abbrev pub judged : List Filing → Filing → Option Refusal → Response
judged past f (Some refusal) = Refused refusal
judged past f None = Admit (outcome_of past f)

-- 15: the key is used for another filing. A filing with a new key is judged by its rules
abbrev pub answer_new : List Filing → Filing → ℕ → Response
answer_new past f (suc n) = Refused (record { rule = 15; kept = suc n; bound = f.key.number })
answer_new past f zero = judged past f (breaks past f)

-- a filing that stands is answered by its position and the outcome of its admission
abbrev pub answer_at : List Filing → Filing → ℕ → Response
answer_at past f (suc n) = Again (suc n) (outcome_at past (suc n))
answer_at past f zero = answer_new past f (key_at f.key past)

-- the answer to a filing
abbrev pub answer_of : List Filing → Filing → Response
answer_of past f = answer_at past f (filing_at f past)

-- the quote in cents: the greatest whole-dollar Pell payment that a school could file under a new key, 0 where there is none
abbrev pub quote_of : List Filing → ℕ → ℕ → ℕ → ℕ → ℕ
quote_of past school student year term = greatest_payment (payment_rules past school student year term 3)

-- where a student stands in a year
abbrev pub standing_under : Option Book → Option Application → ℕ → ℕ → StandingRow
standing_under (Some b) (Some a) paid used =
    let d = decision_of b a in
    record { transaction = a.transaction; formula = formula b a; sai = d.sai; way = d.way; scheduled = d.scheduled; paid = paid; used = used }
standing_under _ _ paid used =
    record { transaction = 0; formula = A; sai = pos 0; way = Nothing; scheduled = 0; paid = paid; used = used }

abbrev pub standing_of : List Filing → ℕ → ℕ → StandingRow
standing_of past student year =
    standing_under (the_book past year) (application past student year) (pell_year past student year) (used past student)

-- the answer to an ask
abbrev pub answer_to : List Filing → Operation → Response
answer_to past (File f) = answer_of past f
answer_to past (Quote school student year term) = Quoted (quote_of past school student year term)
answer_to past (StandingAsked student year) = Standing (standing_of past student year)

-- the verdict admits
abbrev pub is_admit : Response → Bool
is_admit (Admit outcome) = true
is_admit _ = false

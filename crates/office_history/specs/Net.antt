-- Net amounts: sums over all positions of a history.
use Rattle.std.specs.Prelude.{ℕ, ◌+◌, ◌-◌, ◌==◌, ◌&&◌, Bool, not, List, [], ◌∷◌, Option, Some, None, is_some, if◌then◌else◌}
use Rattle.std.specs.List.{range_with_len}
use Rattle.aid_types.specs.Programs.{rank, six}
use Rattle.aid_types.specs.declared.number.Key.{Key}
use Rattle.aid_types.specs.declared.term.Term.{Term}
use Rattle.aid_filings.specs.declared.filing.Amount.{Amount}
use Rattle.aid_filings.specs.declared.filing.WithdrawFacts.{WithdrawFacts}
use Rattle.aid_filings.specs.declared.filing.Filing.{Filing}
use Rattle.aid_filings.specs.declared.filing.What.{What}
use Rattle.aid_filings.specs.declared.filing.What.TheVariants.{Pay, Withdraw, Repay, Adjust, Sent}
use Rattle.aid_filings.specs.declared.filing.SentFacts.{SentFacts}
use Rattle.law_terms.specs.Terms.{days_upto}
use Rattle.law_terms.specs.Used.{use_of}
use Rattle.office_history.specs.Past.{the_term, is_extra, the_withdrawal, prior_units}
use Rattle.office_history.specs.Award.{scheduled}
use Rattle.law_r2t4.specs.Worksheet.{worksheet_of}
use Rattle.law_r2t4.specs.declared.Lines.{Lines}

-- where money stands: a student's program in a term of a school
pub record Cell : Type 0 where
  pub student : ℕ
  pub school : ℕ
  pub year : ℕ
  pub term : ℕ
  pub program : ℕ

-- cents that move at a cell
pub record Move : Type 0 where
  pub at : Cell
  pub cents : ℕ

abbrev pub cell_of : Key → Amount → Cell
cell_of key a = record { student = a.student; school = key.school; year = a.year; term = a.term; program = rank a.program }

-- the cell of a student's program in a term of a school's year
abbrev pub cell_at : ℕ → ℕ → ℕ → ℕ → ℕ → Cell
cell_at school student year term program = record { student = student; school = school; year = year; term = term; program = program }

abbrev pub is_cell : Cell → Cell → Bool
is_cell c d =
    d.student == c.student && (d.school == c.school && (d.year == c.year && (d.term == c.term && d.program == c.program)))

-- the sum of the moves at the cells that pass
abbrev pub moved : (Cell → Bool) → List Move → ℕ
moved sel [] = 0
moved sel (m ∷ ms) = (if sel m.at then m.cents else 0) + moved sel ms

-- the same, on top of a sum
abbrev pub onto : (Cell → Bool) → List Move → ℕ → ℕ
onto sel [] n = n
onto sel (m ∷ ms) n = (if sel m.at then m.cents else 0) + onto sel ms n

-- what a filing pays
abbrev pub payments_in : Key → What → List Move
payments_in key (Pay a) = record { at = cell_of key a; cents = a.cents } ∷ []
payments_in key _ = []

-- what was paid at the cells that pass
abbrev pub paid : List Filing → (Cell → Bool) → ℕ
paid [] sel = 0
paid (f ∷ past) sel = onto sel (payments_in f.key f.what) (paid past sel)

-- a cell of a withdrawal
abbrev pub withdrawn_cell : Key → WithdrawFacts → ℕ → Cell
withdrawn_cell key w program = record { student = w.student; school = key.school; year = w.year; term = w.term; program = program }

-- the days of a term up to a day, 0 where the term isn't on file
abbrev pub days_of : Option Term → ℕ → ℕ
days_of None upto = 0
days_of (Some t) upto = days_upto t upto

abbrev pub last_of : Option Term → ℕ
last_of None = 0
last_of (Some t) = t.last

-- the worksheet of a withdrawal: on the term, and on the nets before it
abbrev pub sheet_of : Option Term → (Cell → ℕ) → Key → WithdrawFacts → Lines
sheet_of term before key w =
    worksheet_of (days_of term w.last) (days_of term (last_of term)) w.charges (six (λ p. before (withdrawn_cell key w p))) w.could

-- moves at the six cells of a withdrawal
abbrev pub moves_at : Key → WithdrawFacts → ℕ → List ℕ → List Move
moves_at key w p [] = []
moves_at key w p (n ∷ ns) = record { at = withdrawn_cell key w p; cents = n } ∷ moves_at key w (p + 1) ns

-- what a filing takes back, on the filings before it and their nets
abbrev pub takings_in : List Filing → (Cell → ℕ) → Key → What → List Move
takings_in past before key (Withdraw w) =
    moves_at key w 0 (sheet_of (the_term past key.school w.year w.term) before key w).returned
takings_in past before key (Repay a) = record { at = cell_of key a; cents = a.cents } ∷ []
takings_in past before key (Adjust a) = record { at = cell_of key a; cents = a.cents } ∷ []
takings_in past before key _ = []

-- what was taken back at the cells that pass
abbrev pub taken : List Filing → (Cell → Bool) → ℕ
taken [] sel = 0
taken (f ∷ past) sel =
    onto sel (takings_in past (λ c. paid past (is_cell c) - taken past (is_cell c)) f.key f.what) (taken past sel)

-- payments less school returns, repayments and adjustments
abbrev pub net : List Filing → (Cell → Bool) → ℕ
net past sel = paid past sel - taken past sel

abbrev pub net_at : List Filing → Cell → ℕ
net_at past c = net past (is_cell c)

-- the worksheet of a withdrawal on the filings before it
abbrev pub sheet : List Filing → Key → WithdrawFacts → Lines
sheet past key w = sheet_of (the_term past key.school w.year w.term) (net_at past) key w

-- what withdrawals left the student to repay
abbrev pub owings_in : List Filing → Key → What → List Move
owings_in past key (Withdraw w) = moves_at key w 0 (sheet past key w).owed
owings_in past key _ = []

abbrev pub owed : List Filing → (Cell → Bool) → ℕ
owed [] sel = 0
owed (f ∷ past) sel = onto sel (owings_in past f.key f.what) (owed past sel)

abbrev pub repayments_in : Key → What → List Move
repayments_in key (Repay a) = record { at = cell_of key a; cents = a.cents } ∷ []
repayments_in key _ = []

abbrev pub repaid : List Filing → (Cell → Bool) → ℕ
repaid [] sel = 0
repaid (f ∷ past) sel = onto sel (repayments_in f.key f.what) (repaid past sel)

-- what withdrawals return, and what the school sent back of it
abbrev pub returns_in : List Filing → Key → What → List Move
returns_in past key (Withdraw w) = moves_at key w 0 (sheet past key w).returned
returns_in past key _ = []

abbrev pub returned : List Filing → (Cell → Bool) → ℕ
returned [] sel = 0
returned (f ∷ past) sel = onto sel (returns_in past f.key f.what) (returned past sel)

abbrev pub sent_cell : Key → SentFacts → Cell
sent_cell key s = record { student = s.student; school = key.school; year = s.year; term = s.term; program = rank s.program }

abbrev pub sendings_in : Key → What → List Move
sendings_in key (Sent s) = record { at = sent_cell key s; cents = s.cents } ∷ []
sendings_in key _ = []

abbrev pub sent : List Filing → (Cell → Bool) → ℕ
sent [] sel = 0
sent (f ∷ past) sel = onto sel (sendings_in f.key f.what) (sent past sel)

-- the post-withdrawal amount of a term, over all its withdrawals
abbrev pub posts_in : List Filing → Key → What → List Move
posts_in past key (Withdraw w) = record { at = withdrawn_cell key w 0; cents = (sheet past key w).post } ∷ []
posts_in past key _ = []

abbrev pub post : List Filing → (Cell → Bool) → ℕ
post [] sel = 0
post (f ∷ past) sel = onto sel (posts_in past f.key f.what) (post past sel)

-- what was paid in a term after the withdrawal from it
abbrev pub payments_after : List Filing → Key → What → List Move
payments_after past key (Pay a) =
    if is_some (the_withdrawal past key.school a.student a.year a.term)
    then record { at = cell_of key a; cents = a.cents } ∷ [] else []
payments_after past key _ = []

abbrev pub paid_after : List Filing → (Cell → Bool) → ℕ
paid_after [] sel = 0
paid_after (f ∷ past) sel = onto sel (payments_after past f.key f.what) (paid_after past sel)

-- the cells of a student's program in a year, of his term at a school, of a school in a year
abbrev pub in_year : ℕ → ℕ → ℕ → Cell → Bool
in_year student year program c = c.student == student && (c.year == year && c.program == program)

abbrev pub in_main_terms : List Filing → ℕ → ℕ → ℕ → Cell → Bool
in_main_terms past student year program c =
    in_year student year program c && not (is_extra (the_term past c.school c.year c.term))

abbrev pub in_term : ℕ → ℕ → ℕ → ℕ → Cell → Bool
in_term school student year term c =
    c.school == school && (c.student == student && (c.year == year && c.term == term))

abbrev pub at_school_in_year : ℕ → ℕ → ℕ → Cell → Bool
at_school_in_year school student year c = c.school == school && (c.student == student && c.year == year)

-- net Pell of a term, of the year, of the year's main terms
abbrev pub pell_term : List Filing → ℕ → ℕ → ℕ → ℕ → ℕ
pell_term past school student year term = net_at past (cell_at school student year term 3)

abbrev pub pell_year : List Filing → ℕ → ℕ → ℕ
pell_year past student year = net past (in_year student year 3)

abbrev pub pell_main : List Filing → ℕ → ℕ → ℕ
pell_main past student year = net past (in_main_terms past student year 3)

-- the years of `Year`
unfoldable pub all_years : List ℕ
all_years = range_with_len 2000 100

abbrev pub sum_over : (ℕ → ℕ) → List ℕ → ℕ
sum_over g [] = 0
sum_over g (y ∷ ys) = g y + sum_over g ys

-- lifetime units used in a year, and in all other years with the prior units
abbrev pub use_in : List Filing → ℕ → ℕ → ℕ
use_in past student year = use_of (pell_year past student year) (scheduled past student year)

abbrev pub used_else : List Filing → ℕ → ℕ → ℕ
used_else past student year =
    prior_units past student + sum_over (λ y. if y == year then 0 else use_in past student y) all_years

-- lifetime units used
abbrev pub used : List Filing → ℕ → ℕ
used past student = prior_units past student + sum_over (use_in past student) all_years

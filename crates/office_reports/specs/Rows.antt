-- Which lines a report has, on a history with its newest filing first.
use Rattle.std.specs.Prelude.{ℕ, ◌+◌, ◌==◌, nat_le, nat_lt, List, [], ◌∷◌, ◌++◌, map, sum, Option, Some, None, if◌then◌else◌}
use Rattle.std.specs.List.{flat_map}
use Rattle.std.specs.Ordering.{nat_cmp, ordering_then}
use Rattle.std.specs.declared.cmp.Ordering.{Ordering}
use Rattle.aid_types.specs.Programs.{rank}
use Rattle.aid_types.specs.declared.number.Key.{Key}
use Rattle.aid_types.specs.declared.number.Program.{Program}
use Rattle.aid_types.specs.declared.number.Program.TheVariants.{Unsub, Sub, Plus, Pell, Fseog, Teach}
use Rattle.aid_filings.specs.declared.filing.Filing.{Filing}
use Rattle.aid_filings.specs.declared.filing.What.{What}
use Rattle.aid_filings.specs.declared.filing.What.TheVariants.{Prior, Pay, Withdraw}
use Rattle.aid_filings.specs.declared.filing.WithdrawFacts.{WithdrawFacts}
use Rattle.law_terms.specs.CivilDays.{LAST_DAY}
use Rattle.office_history.specs.Answer.{standing_of}
use Rattle.office_history.specs.Net.{cell_at, net_at, sheet, used}
use Rattle.office_history.specs.Past.{given, prior_units}
use Rattle.law_r2t4.specs.declared.Lines.{Lines}
use Rattle.office_export.specs.Applicants.{applicants, told_by}
use Rattle.office_export.specs.InOrder.{in_order}
use Rattle.office_reports.specs.declared.rows.LifetimeOf.{LifetimeOf}
use Rattle.office_reports.specs.declared.rows.NetOf.{NetOf}
use Rattle.office_reports.specs.declared.rows.PaidPlace.{PaidPlace}
use Rattle.office_reports.specs.declared.rows.ReturnOf.{ReturnOf}
use Rattle.office_reports.specs.declared.rows.StandingOf.{StandingOf}
use Rattle.aid_types.specs.Limits.{is_pell}

-- ---- standing: the students with an application in the year, by number
abbrev pub standing_rows : List Filing → ℕ → List StandingOf
standing_rows past year = map (λ student. record { student = student; row = standing_of past student year }) (applicants past year)

-- ---- awards: where a student was paid in the year, by school, student and term, and there each program with net above 0
abbrev pub place_order : PaidPlace → PaidPlace → Ordering
place_order p q = ordering_then (ordering_then (nat_cmp p.school q.school) (nat_cmp p.student q.student)) (nat_cmp p.term q.term)

abbrev pub paid_place : ℕ → Key → What → Option PaidPlace
paid_place year key (Pay a) = given (a.year == year) (record { school = key.school; student = a.student; term = a.term })
paid_place year key _ = None

abbrev pub paid_places : List Filing → ℕ → List PaidPlace
paid_places past year = in_order place_order (told_by (λ f. paid_place year f.key f.what) past)

abbrev pub net_of : List Filing → ℕ → PaidPlace → Program → ℕ
net_of past year p program = net_at past (cell_at p.school p.student year p.term (rank program))

abbrev pub net_row : PaidPlace → Program → ℕ → List NetOf
net_row p program cents =
    if nat_lt 0 cents then record { school = p.school; student = p.student; term = p.term; program = program; cents = cents } ∷ [] else []

abbrev pub all_programs : List Program
all_programs = Unsub ∷ Sub ∷ Plus ∷ Pell ∷ Fseog ∷ Teach ∷ []

abbrev pub nets_at : List Filing → ℕ → PaidPlace → List NetOf
nets_at past year p = flat_map (λ program. net_row p program (net_of past year p program)) all_programs

abbrev pub award_rows : List Filing → ℕ → List NetOf
award_rows past year = flat_map (nets_at past year) (paid_places past year)

-- ---- returns: the withdrawals in the year, by position, each with its worksheet on the filings before it (34 CFR 668.22)
-- a return is due 45 days after the school determined the withdrawal (34 CFR 668.22(j)(1)), where there is such a day
abbrev pub due_day : ℕ → Option ℕ
due_day determined = given (nat_le (determined + 45) LAST_DAY) (determined + 45)

abbrev pub return_row : ℕ → WithdrawFacts → Lines → ReturnOf
return_row school w s = record {
  school = school;
  student = w.student;
  term = w.term;
  percent = s.percent;
  returned = s.school;
  owed = sum s.owed;
  post = s.post;
  due = due_day w.determined;
}

abbrev pub returns_in : List Filing → ℕ → Filing → What → List ReturnOf
returns_in past year f (Withdraw w) = if w.year == year then return_row f.key.school w (sheet past f.key w) ∷ [] else []
returns_in past year f _ = []

abbrev pub return_rows : List Filing → ℕ → List ReturnOf
return_rows [] year = []
return_rows (f ∷ past) year = return_rows past year ++ returns_in past year f f.what

-- ---- lifetime: the students with a prior use or a Pell payment, by number
abbrev pub lifetime_user : What → Option ℕ
lifetime_user (Prior p) = Some p.student
lifetime_user (Pay a) = given (is_pell (rank a.program)) a.student
lifetime_user _ = None

abbrev pub lifetime_users : List Filing → List ℕ
lifetime_users past = in_order nat_cmp (told_by (λ f. lifetime_user f.what) past)

abbrev pub lifetime_rows : List Filing → List LifetimeOf
lifetime_rows past =
    map (λ student. record { student = student; prior = prior_units past student; used = used past student }) (lifetime_users past)

-- What a school sent back, filing by filing, and when (34 CFR 668.22(j)).
use Rattle.std.specs.Prelude.{ℕ, ◌+◌, ◌==◌, ◌&&◌, nat_lt, Bool, List, [], ◌∷◌, Option, Some, None, if◌then◌else◌}
use Rattle.aid_types.specs.Programs.{rank}
use Rattle.aid_types.specs.declared.number.Key.{Key}
use Rattle.aid_types.specs.declared.number.Program.{Program}
use Rattle.aid_filings.specs.declared.filing.Filing.{Filing}
use Rattle.aid_filings.specs.declared.filing.SentFacts.{SentFacts}
use Rattle.aid_filings.specs.declared.filing.What.{What}
use Rattle.aid_filings.specs.declared.filing.What.TheVariants.{Sent}
use Rattle.aid_filings.specs.declared.filing.WithdrawFacts.{WithdrawFacts}
use Rattle.office_export.specs.Applicants.{told_by}
use Rattle.office_history.specs.Past.{given}

-- what a filing says that the school sent back of a year's returns; and all of them, the newest first
abbrev pub sending : ℕ → ℕ → Key → What → Option SentFacts
sending school year key (Sent s) = given (key.school == school && s.year == year) s
sending school year key _ = None

abbrev pub sendings : ℕ → ℕ → List Filing → List SentFacts
sendings school year now = told_by (λ f. sending school year f.key f.what) now

-- it was sent back of a program of the withdrawal, which is of that year
abbrev pub is_of : WithdrawFacts → Program → SentFacts → Bool
is_of w program s = s.student == w.student && s.term == w.term && rank s.program == rank program

-- the last day on which something was
abbrev pub later_of : ℕ → Option ℕ → ℕ
later_of day None = day
later_of day (Some other) = if nat_lt day other then other else day

abbrev pub last_sent : WithdrawFacts → Program → List SentFacts → Option ℕ
last_sent w program [] = None
last_sent w program (s ∷ sent) = if is_of w program s then Some (later_of s.day (last_sent w program sent)) else last_sent w program sent

-- what was, after the 45 days in which it was due (34 CFR 668.22(j)(1))
abbrev pub sent_late : WithdrawFacts → Program → List SentFacts → ℕ
sent_late w program [] = 0
sent_late w program (s ∷ sent) =
    (if is_of w program s && nat_lt (w.determined + 45) s.day then s.cents else 0) + sent_late w program sent

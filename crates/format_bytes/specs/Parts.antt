-- The numbers of a part of a filing, which stand behind others.
use Rattle.std.specs.Prelude.{ℕ, ℤ, pos, List, [], drop, map, replicate, take}
use Rattle.aid_types.specs.declared.application.Application.{Application}
use Rattle.aid_filings.specs.declared.filing.AmendFacts.{AmendFacts}
use Rattle.aid_filings.specs.declared.filing.CalendarFacts.{CalendarFacts}
use Rattle.aid_filings.specs.declared.filing.EnrollFacts.{EnrollFacts}
use Rattle.aid_filings.specs.declared.filing.OriginateFacts.{OriginateFacts}
use Rattle.aid_filings.specs.declared.filing.PriorFacts.{PriorFacts}
use Rattle.aid_filings.specs.declared.filing.SchoolFacts.{SchoolFacts}
use Rattle.aid_filings.specs.declared.filing.SentFacts.{SentFacts}
use Rattle.aid_filings.specs.declared.filing.What.TheVariants.{School, Calendar, Prior, Enroll, Originate, Withdraw, Sent, Amend}
use Rattle.aid_filings.specs.declared.filing.WithdrawFacts.{WithdrawFacts}
use Rattle.format_table.specs.Columns.{one}
use Rattle.format_kinds.specs.Kinds.{apply_slots}
use Rattle.format_table.specs.Layout.{AreNumbers}
use Rattle.format_table.specs.Parts.{Slot}
use Rattle.format_table.specs.declared.field.Form.TheVariants.{Cents, Flag}
use Rattle.format_bytes.specs.Numbers.{application_numbers, filed_as}

-- numbers of these fields behind some numbers
abbrev pub FitSomewhere : List Slot → List ℤ → Type 0
FitSomewhere slots zs = (earlier : List ℤ) × AreNumbers slots earlier zs

-- numbers of these fields behind any numbers
abbrev pub FitAnywhere : List Slot → List ℤ → Type 0
FitAnywhere slots zs = (earlier : List ℤ) → AreNumbers slots earlier zs

-- the fields of an application before those of the student's household, and those between the households
abbrev pub applicant_slots : List Slot
applicant_slots = take 6 apply_slots

abbrev pub standing_slots : List Slot
standing_slots = take 5 (drop 6 apply_slots)

abbrev pub upbringing_slots : List Slot
upbringing_slots = take 6 (drop 11 apply_slots)

abbrev pub parents_slots : List Slot
parents_slots = take 3 (drop 33 apply_slots)

-- so many fields of a yes or a no, and of cents; no name of theirs is told
abbrev pub flag_slots : ℕ → List Slot
flag_slots n = replicate n (one [] Flag (pos 0) (pos 1))

abbrev pub cents_slots : ℕ → List Slot
cents_slots n = replicate n (one [] Cents (pos 0) (pos 99999999))

-- the numbers of an application before those of the student's household, and those between the households
abbrev pub applicant_numbers : Application → List ℤ
applicant_numbers x = take 6 (application_numbers x)

abbrev pub standing_numbers : Application → List ℤ
standing_numbers x = take 5 (drop 6 (application_numbers x))

abbrev pub upbringing_numbers : Application → List ℤ
upbringing_numbers x = take 6 (drop 11 (application_numbers x))

abbrev pub parents_numbers : Application → List ℤ
parents_numbers x = take 3 (drop 33 (application_numbers x))

-- the numbers of some kinds, behind those of the key
abbrev pub school_numbers : SchoolFacts → List ℤ
school_numbers x = (filed_as (School x)).1

abbrev pub calendar_numbers : CalendarFacts → List ℤ
calendar_numbers x = (filed_as (Calendar x)).1

abbrev pub prior_numbers : PriorFacts → List ℤ
prior_numbers x = (filed_as (Prior x)).1

abbrev pub enroll_numbers : EnrollFacts → List ℤ
enroll_numbers x = (filed_as (Enroll x)).1

abbrev pub originate_numbers : OriginateFacts → List ℤ
originate_numbers x = (filed_as (Originate x)).1

abbrev pub withdraw_numbers : WithdrawFacts → List ℤ
withdraw_numbers x = (filed_as (Withdraw x)).1

abbrev pub sent_numbers : SentFacts → List ℤ
sent_numbers x = (filed_as (Sent x)).1

abbrev pub amend_numbers : AmendFacts → List ℤ
amend_numbers x = (filed_as (Amend x)).1

-- the numbers of a withdrawal before the cents of the programs, and these
abbrev pub withdrawal_numbers : WithdrawFacts → List ℤ
withdrawal_numbers x = take 6 (withdraw_numbers x)

abbrev pub could_numbers : List ℕ → List ℤ
could_numbers could = map (λ cents. pos cents) could

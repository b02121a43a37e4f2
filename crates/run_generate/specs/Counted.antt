-- What the verdicts of a generated year come to, and the lines that tell it. Own.
use Rattle.std.specs.Prelude.{ℕ, ◌+◌, ◌-◌, ◌/◌, ◌^◌, min, List, ◌++◌, codes, decimal}
use Rattle.aid_types.specs.Cents.{cents_text}
use Rattle.aid_filings.specs.declared.reply.Outcome.TheVariants.{Returned}
use Rattle.aid_filings.specs.declared.reply.Response.{Response}
use Rattle.aid_filings.specs.declared.reply.Response.TheVariants.{Again, Refused, Admit}
use Rattle.run_generate.specs.declared.operation.YearResponse.{YearResponse}
use Rattle.run_generate.specs.declared.operation.YearResponse.TheVariants.{Filed, Paid}
use Rattle.run_generate.specs.declared.tally.YearTally.{YearTally}

-- a filing that stands is accepted, also where it stood already
abbrev pub accepts : Response → ℕ
accepts (Admit outcome) = 1
accepts (Again position outcome) = 1
accepts _ = 0

abbrev pub refuses : Response → ℕ
refuses (Refused refusal) = 1
refuses _ = 0

-- what a verdict adds to the count of those accepted, and of those refused
abbrev pub accepted_by : YearResponse → ℕ
accepted_by (Filed response) = accepts response
accepted_by (Paid cents response) = accepts response
accepted_by _ = 0

abbrev pub refused_by : YearResponse → ℕ
refused_by (Filed response) = refuses response
refused_by (Paid cents response) = refuses response
refused_by _ = 0

-- the cents of a payment that was accepted in this run
abbrev pub paid_by : YearResponse → ℕ
paid_by (Paid cents (Admit outcome)) = cents
paid_by _ = 0

-- the cents that a school returns by a withdrawal that was accepted in this run
abbrev pub returned_by : YearResponse → ℕ
returned_by (Filed (Admit (Returned percent school owed post))) = school
returned_by _ = 0

-- the tally with a verdict more
abbrev pub year_counted : YearTally → YearResponse → YearTally
year_counted t v = record {
  accepted = t.accepted + accepted_by v;
  refused = t.refused + refused_by v;
  paid = t.paid + paid_by v;
  returned = t.returned + returned_by v;
}

-- a line of a count, and one of a sum in cents
abbrev pub count_line : List ℕ → ℕ → List ℕ
count_line name count = name ++ (decimal count ++ codes "\n")

abbrev pub sum_line : List ℕ → ℕ → List ℕ
sum_line name cents = name ++ (cents_text cents ++ codes "\n")

-- the four lines that tell of it
abbrev pub year_ending : YearTally → List ℕ
year_ending t =
    count_line (codes "accepted ") t.accepted ++ (count_line (codes "refused ") t.refused ++ (sum_line (codes "pell ") t.paid ++ sum_line (codes "returned ") t.returned))

-- so many more verdicts may be counted, whatever they are
abbrev pub year_room : YearTally → ℕ
year_room t = min (2 ^ 32 - 1 - t.accepted) (min (2 ^ 32 - 1 - t.refused) (min ((2 ^ 128 - 1 - t.paid) / 2 ^ 64) ((2 ^ 128 - 1 - t.returned) / 2 ^ 64)))

-- The lines that answer asks. Own format.
use Rattle.std.specs.Prelude.{ℕ, ◌/◌, List, [], ◌++◌, ◌+◌, codes, decimal}
use Rattle.aid_types.specs.Cents.{cents_text}
use Rattle.aid_types.specs.Percents.{percent_text}
use Rattle.aid_types.specs.Whole.{whole_text}
use Rattle.format_rows.specs.Lines.{refused_text}
use Rattle.aid_types.specs.Words.{formula_text, way_text}
use Rattle.aid_filings.specs.declared.reply.Outcome.{Outcome}
use Rattle.aid_filings.specs.declared.reply.Outcome.TheVariants.{Noted, Indexed, Paid, Returned}
use Rattle.aid_filings.specs.declared.reply.Response.{Response}
use Rattle.aid_filings.specs.declared.reply.Response.TheVariants.{Again, Refused, Admit, Quoted, Standing}

-- how an outcome is written: `noted`, `index FORMULA SAI WAY AWARD`, `paid NET USED`, `returned PERCENT SCHOOL OWED POST`
abbrev pub outcome_text : Outcome → List ℕ
outcome_text Noted = codes "noted"
outcome_text (Indexed formula sai way scheduled) =
    codes "index " ++ formula_text formula ++ codes " " ++ whole_text sai ++ codes " " ++ way_text way ++ codes " " ++ decimal scheduled
outcome_text (Paid paid used) = codes "paid " ++ cents_text paid ++ codes " " ++ decimal used
outcome_text (Returned percent school owed post) =
    codes "returned " ++ percent_text percent ++ codes " " ++ cents_text school ++ codes " " ++ cents_text owed ++ codes " " ++ cents_text post

-- ROW FRONT ANSWER POSITION OUTCOME, the answer with the spaces around it
abbrev pub standing_text : ℕ → ℕ → List ℕ → ℕ → Outcome → List ℕ
standing_text row front answer position outcome =
    decimal row ++ codes " " ++ decimal front ++ answer ++ decimal position ++ codes " " ++ outcome_text outcome ++ codes "\n"

-- the line that answers a filing, where so many filings stood before it; the other answers have none
abbrev pub line_of : ℕ → ℕ → Response → List ℕ
line_of row front (Admit outcome) = standing_text row front (codes " accepted ") (front + 1) outcome
line_of row front (Again position outcome) = standing_text row front (codes " again ") position outcome
line_of row front (Refused refusal) = refused_text row front refusal
line_of row front (Quoted cents) = []
line_of row front (Standing place) = []

-- quote DOLLARS, of cents that are whole dollars
abbrev pub quote_line : ℕ → List ℕ
quote_line cents = codes "quote " ++ decimal (cents / 100) ++ codes "\n"

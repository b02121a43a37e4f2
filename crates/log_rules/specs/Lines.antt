-- What the rows of a table say to a list of filings by rules, and the lines that answer them. Own format.
use Rattle.std.specs.Prelude.{ℕ, ◌+◌, ◌++◌, ℤ, List, Result, codes, decimal}
use Rattle.format_rows.specs.Lines.{error_line, refused_text}
use Rattle.format_rows.specs.Meanings.{said_of}
use Rattle.format_rows.specs.TableRowFormat.{said_by}
use Rattle.format_rows.specs.declared.error.RowError.{RowError}
use Rattle.log_machine.specs.Texts.{Texts}
use Rattle.log_rules.specs.declared.response.RuleResponse.{RuleResponse}
use Rattle.log_rules.specs.declared.response.RuleResponse.TheVariants.{Again, Refused, Admit}

-- ROW FRONT ANSWER POSITION OUTCOME, the answer with the spaces around it
abbrev pub standing_text : ℕ → ℕ → List ℕ → ℕ → List ℕ → List ℕ
standing_text row front answer position outcome =
    decimal row ++ codes " " ++ decimal front ++ answer ++ decimal position ++ codes " " ++ outcome ++ codes "\n"

-- the line that answers a filing, where so many filings stood before it
abbrev pub line_of : {Outcome : Type 0} → (Outcome → List ℕ) → ℕ → ℕ → RuleResponse Outcome → List ℕ
line_of text row front (Admit outcome) = standing_text row front (codes " accepted ") (front + 1) (text outcome)
line_of text row front (Again position outcome) = standing_text row front (codes " again ") position (text outcome)
line_of text row front (Refused refusal) = refused_text row front refusal

-- a row says a kind's code and its numbers, or why it is none
abbrev pub table_texts : {Entry Outcome : Type 0} → (Entry → ℕ) → (Entry → List ℤ) → (Outcome → List ℕ) → Texts Entry (RuleResponse Outcome) RowError
table_texts code_of numbers_of text = record {
  Meaning = Result (ℕ × List ℤ) RowError;
  said = said_of (said_by code_of numbers_of);
  answer_line = line_of text;
  error_line = error_line;
}

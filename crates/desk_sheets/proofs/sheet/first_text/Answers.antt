use Rattle.std.proofs.Common.{◌≡◌, List, subst, ℕ}
use Rattle.std.specs.Prelude.{IfOk}
use Rattle.log_rules.specs.Ruled.{scheme_of}
use Rattle.desk_sheets.proofs.Fronts.{text-first}
use Rattle.desk_sheets.proofs.sheet.first_text.Goals as goal

pub returns-then-last-filings : goal.returns-then-last-filings
returns-then-last-filings g c =
    subst (λ (bytes : List ℕ). IfOk c.text_on.result (λ text. text.items ≡ bytes))
    (text-first (scheme_of g.R.OfficeRules.ruling) c.args.filings.now c.args.last c.args.sheet c.if-last-filings.true) c.text_on.ensures

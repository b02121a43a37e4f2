use Rattle.std.proofs.Common.{ap, ◌∙◌}
use Rattle.std.specs.Prelude.{option_and_then}
use Rattle.aid_filings.specs.declared.filing.Filing.{Filing}
use Rattle.office_history.specs.Past.{book_in}
use Rattle.office_history.specs.Rows.{filing_in}
use Rattle.office_plain.proofs.Earliest.{told_there}
use Rattle.office_plain.proofs.plain.PlainHistory.book_of.Goals as goal

pub returns-in-Some : goal.returns-in-Some
returns-in-Some c =
    c.book_in.ensures
    ∙ ap (option_and_then (λ f. book_in c.args.year f.what)) (c.in-Some.ensures ∙ ap (filing_in c.args.self.now) c.book_place.ensures)
    ∙ told_there (λ f. book_in c.args.year f.what) c.args.self.now

pub returns-in-None : goal.returns-in-None
returns-in-None c =
    ap (option_and_then (λ (f : Filing). book_in c.args.year f.what)) (c.in-None.ensures ∙ ap (filing_in c.args.self.now) c.book_place.ensures)
    ∙ told_there (λ f. book_in c.args.year f.what) c.args.self.now

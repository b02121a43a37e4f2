use Rattle.std.proofs.Common.{Option, Bor, ap, sym, ◌∙◌}
use Rattle.std.specs.Option.{option_copied}
use Rattle.aid_filings.specs.declared.filing.Filing.{Filing}
use Rattle.office_index.proofs.Found.{book_here, filed_at}
use Rattle.office_index.proofs.indexed.IndexedHistoryView.book.Goals as goal

pub returns-in_err-filing-clause-value : goal.returns-in_err-filing-clause-value
returns-in_err-filing-clause-value g c =
    ap option_copied c.from_residual.ensures
    ∙ sym (book_here c.args.self.now.history c.args.year c.book_at.result c.filing.result c.book_at.ensures.value c.filing.ensures
    ∙ ap (λ (o : Option (Bor Filing)). filed_at (option_copied o)) c.in_err-filing.was)

pub returns-clause-value : goal.returns-clause-value
returns-clause-value g c =
    c.book_in.ensures
    ∙ sym (book_here c.args.self.now.history c.args.year c.book_at.result c.filing.result c.book_at.ensures.value c.filing.ensures
    ∙ ap (λ (o : Option (Bor Filing)). filed_at (option_copied o)) c.in_ok-filing.was)

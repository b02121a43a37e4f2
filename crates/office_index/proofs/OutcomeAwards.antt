-- An application's outcome tells its Scheduled Award.
use Rattle.std.proofs.Common.{◌≡◌, ap, refl, sym, ◌∙◌, List, ◌∷◌, Option, Some, None}
use Rattle.aid_books.specs.declared.book.Book.{Book}
use Rattle.aid_filings.specs.declared.filing.Filing.{Filing}
use Rattle.aid_filings.specs.declared.filing.What.{What}
use Rattle.aid_filings.specs.declared.filing.What.TheVariants.{Apply}
use Rattle.aid_types.specs.declared.application.Application.{Application}
use Rattle.office_history.specs.Answer.{breaks, indexed, outcome_in, outcome_of}
use Rattle.office_history.specs.Award.{award_under, scheduled_of}
use Rattle.office_history.specs.Past.{application, the_book}
use Rattle.office_history.specs.declared.rows.YearRow.{YearRow}
use Rattle.office_updates.proofs.YearFilings.{applied_row}
use Rattle.office_answers.specs.Brought.{awarded}

of_indexed : (b : Option Book) (a : Option Application) → awarded (indexed b a) ≡ award_under b a
unfolding scheduled_of
of_indexed None a = refl
of_indexed (Some b) None = refl
of_indexed (Some b) (Some a) = refl

pub award_told : (past : List Filing) (f : Filing) (a : Application) → f.what ≡ Apply a → breaks past f ≡ None →
    awarded (outcome_of past f) ≡ award_under (the_book past a.year) (Some a)
award_told past f a is sound =
    ap (λ (what : What). awarded (outcome_in past f what)) is
    ∙ of_indexed (the_book (f ∷ past) a.year) (application (f ∷ past) a.student a.year)
    ∙ sym (ap (λ (row : YearRow). row.scheduled) (applied_row past f a is sound))

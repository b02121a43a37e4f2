use Rattle.aid_books.proofs.SameBook.{book_parts, book_whole}
use Rattle.office_sheets.proofs.copies.copy_book.Goals as goal

pub returns : goal.returns
unfolding book_parts
returns c =
    let b = c.args.book.now in
    book_whole _ b
    (λ i. (
      b.year,
      (
        b.pell,
        (
          b.percent,
          (
            b.poverty,
            (
              b.payroll,
              (
                b.protection,
                (
                  b.employment,
                  (
                    b.assets,
                    (c.copy_brackets.ensures i, (c.copy_ages.ensures i, (b.schedule, (c.copy_brackets-2.ensures i, b.ceiling)))),
                  ),
                ),
              ),
            ),
          ),
        ),
      ),
    ))

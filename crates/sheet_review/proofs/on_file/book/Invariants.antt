use Rattle.sheet_review.proofs.on_file.book.Given as goal

abbrev pub ghosts-book_in : goal.ghosts-book_in
ghosts-book_in a = record { name = a.blank.name; parts = a.blank.parts }

use Rattle.std.proofs.Common.{◌≡◌, pos, ap, ◌∙◌, arith}
use Rattle.std.proofs.lemmas.Int.{ints}
use Rattle.aid_books.specs.declared.book.Book.{Book}
use Rattle.sheet_need.proofs.household.age.Goals as goal

pub returns : goal.returns
returns c =
    let year : c.from.result ≡ pos c.args.book.now.year = c.from.ensures ∙ ap (λ (b : Book). pos b.year) c.book.view_is in
    let birth_year : c.from-2.result ≡ pos c.args.a.now.birth_year = c.from-2.ensures in
    omega (arith, ints)

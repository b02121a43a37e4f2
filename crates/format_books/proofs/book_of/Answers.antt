use Rattle.std.proofs.Common.{◌≡◌, Ok, Err, IfOk, IfErr, rules}
use Rattle.std.specs.Prelude.{◌≢◌}
use Rattle.format_kinds.specs.Book.{numbers_of}
use Rattle.format_books.specs.Text.{numbers_of_text}
use Rattle.format_books.specs.declared.error.BookError.TheVariants.{Missing, NoMemory, NotRising, OutOfRange, Unknown, WrongKind}
use Rattle.format_books.proofs.CauseLemmas.{error_of, only_one, text_missing, text_not_rising, text_outside, text_unknown, text_wrong}
use Rattle.format_books.proofs.book_of.Goals as goal

pub returns-clause-only : goal.returns-clause-only
returns-clause-only c =
    let book : IfOk c.book_of_table.result (λ b. numbers_of_text c.args.text.now ≡ Ok (numbers_of b)) = search rules in
    only_one c.book_of_table.result c.args.text.now book

pub returns-clause-missing : goal.returns-clause-missing
returns-clause-missing c field is =
    let first : IfErr c.book_of_table.result (λ e. e ≢ NoMemory → numbers_of_text c.args.text.now ≡ Err e) = search rules in
    text_missing c.args.text.now field (error_of c.book_of_table.result c.args.text.now (Missing field) first (λ q. cc) is)

pub returns-clause-wrong_kind : goal.returns-clause-wrong_kind
returns-clause-wrong_kind c field is =
    let first : IfErr c.book_of_table.result (λ e. e ≢ NoMemory → numbers_of_text c.args.text.now ≡ Err e) = search rules in
    text_wrong c.args.text.now field (error_of c.book_of_table.result c.args.text.now (WrongKind field) first (λ q. cc) is)

pub returns-clause-out_of_range : goal.returns-clause-out_of_range
returns-clause-out_of_range c field is =
    let first : IfErr c.book_of_table.result (λ e. e ≢ NoMemory → numbers_of_text c.args.text.now ≡ Err e) = search rules in
    text_outside c.args.text.now field (error_of c.book_of_table.result c.args.text.now (OutOfRange field) first (λ q. cc) is)

pub returns-clause-not_rising : goal.returns-clause-not_rising
returns-clause-not_rising c table row is =
    let first : IfErr c.book_of_table.result (λ e. e ≢ NoMemory → numbers_of_text c.args.text.now ≡ Err e) = search rules in
    text_not_rising c.args.text.now table row (error_of c.book_of_table.result c.args.text.now (NotRising table row) first (λ q. cc) is)

pub returns-clause-unknown : goal.returns-clause-unknown
returns-clause-unknown c name is =
    let first : IfErr c.book_of_table.result (λ e. e ≢ NoMemory → numbers_of_text c.args.text.now ≡ Err e) = search rules in
    text_unknown c.args.text.now name (error_of c.book_of_table.result c.args.text.now (Unknown name) first (λ q. cc) is)

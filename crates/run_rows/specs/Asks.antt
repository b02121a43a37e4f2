-- What the desks ask of the office by a row, a book or a quote's words, and the lines that answer. Own.
use Rattle.std.specs.Prelude.{ℕ, ℤ, List, [], ◌∷◌, map, Option, Some, None, Result, Ok, Err}
use Rattle.aid_filings.specs.declared.reply.Operation.{Operation}
use Rattle.aid_filings.specs.declared.reply.Operation.TheVariants.{File, Quote, Standing}
use Rattle.aid_filings.specs.declared.reply.Response.{Response}
use Rattle.aid_filings.specs.declared.reply.Response.TheVariants as responses
use Rattle.aid_filings.specs.declared.filing.Filing.{Filing}
use Rattle.format_filings.specs.BookLines.{book_error_line}
use Rattle.format_filings.specs.BookRows.{book_meaning, book_said}
use Rattle.format_filings.specs.Lines.{error_line}
use Rattle.format_filings.specs.Rows.{meanings}
use Rattle.format_rows.specs.declared.error.RowError.{RowError}
use Rattle.format_kinds.specs.declared.kind.Kind.{Kind}
use Rattle.format_bytes.specs.Numbers.{kind_of, numbers_of}
use Rattle.log_machine.specs.Texts.{Texts}
use Rattle.run_words.specs.declared.command.QuoteRequest.{QuoteRequest}
use Rattle.format_filings.specs.Replies.{line_of, quote_line}
use Rattle.format_books.specs.declared.error.BookError.{BookError}

-- what an ask files, by its kind and its numbers, if it files anything
abbrev pub filed_by : Operation → Option (Kind × List ℤ)
filed_by (File filing) = Some (kind_of filing.what, numbers_of filing)
filed_by (Quote school student year term) = None
filed_by (Standing student year) = None

-- what a row says that is an ask, or why it is none
abbrev pub said_by : {E : Type 0} → Result Operation E → Result (Option (Kind × List ℤ)) E
said_by (Ok operation) = Ok (filed_by operation)
said_by (Err e) = Err e

-- a text that means a filing says that it is filed
abbrev pub asked : {E : Type 0} → Result (Kind × List ℤ) E → Result (Option (Kind × List ℤ)) E
asked (Ok meaning) = Ok (Some meaning)
asked (Err e) = Err e

-- ---- rows of all kinds but books
abbrev pub desk_texts : Texts Operation Response RowError
desk_texts = record {
  Meaning = Result (Option (Kind × List ℤ)) RowError;
  said = said_by;
  answer_line = line_of;
  error_line = error_line;
}

abbrev pub desk_rows : List ℕ → List (Result (Option (Kind × List ℤ)) RowError)
desk_rows text = map asked (meanings text)

-- ---- a text that is one book
abbrev pub book_texts : Texts Operation Response BookError
book_texts = record {
  Meaning = Result (Option (Kind × List ℤ)) BookError;
  said = said_by;
  answer_line = line_of;
  error_line = book_error_line;
}

-- the book of a text, filed by the office's own desk under a number
abbrev pub book_rows : ℕ → List ℕ → List (Result (Option (Kind × List ℤ)) BookError)
book_rows number text = asked (book_meaning number text) ∷ []

-- ---- a quote
-- the line of a verdict on a quote; there is no other
abbrev pub quote_answer : Response → List ℕ
quote_answer (responses.Quoted cents) = quote_line cents
quote_answer _ = []

abbrev pub quote_texts : Texts Operation Response RowError
quote_texts = record {
  Meaning = Result Operation RowError;
  said = λ row. row;
  answer_line = λ number front response. quote_answer response;
  error_line = error_line;
}

abbrev pub quote_ask : QuoteRequest → Operation
quote_ask quote = Quote quote.school quote.student quote.year quote.term

abbrev pub quote_rows : QuoteRequest → List (Result Operation RowError)
quote_rows quote = Ok (quote_ask quote) ∷ []

-- ---- what is left to be taken
-- of a book, where it wasn't taken
abbrev pub book_left : Option (Result Filing BookError) → List (Result (Option (Kind × List ℤ)) BookError)
book_left None = []
book_left (Some book) = asked (book_said book) ∷ []

-- of a quote, where it wasn't
abbrev pub quote_left : Option QuoteRequest → List (Result Operation RowError)
quote_left None = []
quote_left (Some quote) = quote_rows quote
